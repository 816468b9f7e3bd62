-- Seats that are handed in when a run is finished, and why it is not.
use Rattle.std.specs.Prelude.{◌≡◌, ℕ, ◌<◌, ◌==◌, Bool, true, false, List, Some, Result, Ok, Err, All, slice_get}
use Rattle.std.specs.List.{list_any}
use Rattle.lc_outline.specs.Development.{Development}
use Rattle.lc_sound.specs.Instrumented.{Label}
use Rattle.lc_run.specs.Labels.{labels_by}
use Rattle.lc_run.specs.Locked.{development_held, clients_held, labels_held, client_in, labels_made}
use Rattle.lc_run.specs.declared.finishing.Why.{Why}
use Rattle.lc_run.specs.declared.finishing.Why.TheVariants.{SeatMissing, RunMismatch, SeatMismatch, OutOfMemory}
use Rattle.lc_run.specs.declared.held.Shared.{Shared}
use Rattle.lc_run.specs.declared.held.Seat.{Seat}

module _ {J : Type 0} where
  -- the client's seat is among them
  abbrev pub has_seat : ℕ → List (Seat J) → Bool
  has_seat c seats = list_any (λ s. client_in s == c) seats

  -- so are the seats of n clients
  abbrev pub AreAllThere : ℕ → List (Seat J) → Type 0
  AreAllThere n seats = (c : ℕ) → c < n → has_seat c seats ≡ true

  -- the client's seat is missing, and that of no lesser one
  pub record IsLeastMissing (n : ℕ) (seats : List (Seat J)) (c : ℕ) : Type 0 where
    pub below : c < n
    pub missing : has_seat c seats ≡ false
    pub least : (d : ℕ) → d < c → has_seat d seats ≡ true

  -- the seat has its client's labels, each once and in order
  abbrev pub HasOwn : List Label → Seat J → Type 0
  HasOwn labels s = labels_by (client_in s) labels ≡ labels_made s

  -- the first of these seats that has others is this client's
  pub record IsFirstStrange (labels : List Label) (seats : List (Seat J)) (c : ℕ) : Type 0 where
    pub place : ℕ
    pub seat : Seat J
    pub there : slice_get seats place ≡ Some seat
    pub client : client_in seat ≡ c
    pub strange : HasOwn labels seat → ⊥
    pub first : (k : ℕ) (s : Seat J) → k < place → slice_get seats k ≡ Some s → HasOwn labels s

  -- what is held is of this development and for n clients
  abbrev pub IsOf : Shared J → Development → ℕ → Type 0
  IsOf s D n = (development_held s ≡ D) × (clients_held s ≡ n)

  -- the seats are those of the run that is held
  pub record IsWhole (s : Shared J) (D : Development) (n : ℕ) (seats : List (Seat J)) : Type 0 where
    pub there : AreAllThere n seats
    pub same : IsOf s D n
    pub own : All (HasOwn (labels_held s)) seats

  -- why they are not: the first of these that applies
  abbrev pub IsWhyNot : Shared J → Development → ℕ → List (Seat J) → Why → Type 0
  IsWhyNot s D n seats (SeatMissing c) = IsLeastMissing n seats c
  IsWhyNot s D n seats RunMismatch = AreAllThere n seats × (IsOf s D n → ⊥)
  IsWhyNot s D n seats (SeatMismatch c) = AreAllThere n seats × IsOf s D n × IsFirstStrange (labels_held s) seats c
  IsWhyNot s D n seats OutOfMemory = ⊥

  -- why a run is not finished: they are not, or there is only no memory
  abbrev pub IsWhy : Shared J → Development → ℕ → List (Seat J) → Why → Type 0
  IsWhy s D n seats (SeatMissing c) = IsWhyNot s D n seats (SeatMissing c)
  IsWhy s D n seats RunMismatch = IsWhyNot s D n seats RunMismatch
  IsWhy s D n seats (SeatMismatch c) = IsWhyNot s D n seats (SeatMismatch c)
  IsWhy s D n seats OutOfMemory = IsWhole s D n seats
