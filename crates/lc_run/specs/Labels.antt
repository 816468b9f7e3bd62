-- What a list of labels says of clients, and how it grows.
use Rattle.std.specs.Prelude.{◌≡◌, ℕ, ◌-◌, ◌==◌, Bool, true, false, List, [], ◌∷◌, ◌++◌, Option, length, slice_get, filter}
use Rattle.std.specs.Option.{option_map_or}
use Rattle.lc_term.specs.Lists.{Every}
use Rattle.lc_object.specs.declared.instr.EdgeKind.{EdgeKind}
use Rattle.lc_machine.specs.Step.{Event, Invoked, Moved, Returned}
use Rattle.lc_sound.specs.Instrumented.{Label}

-- a call is unfinished after this event of it
abbrev pub goes_on : Event → Bool
goes_on (Invoked op numbers) = true
goes_on (Moved point edge) = true
goes_on (Returned numbers) = false

-- the last label, if there is one
abbrev pub last_of : List Label → Option Label
last_of ls = slice_get ls (length ls - 1)

-- a call is unfinished after these labels of its client
abbrev pub is_unfinished : List Label → Bool
is_unfinished ls = option_map_or (λ l. goes_on l.what) (last_of ls) false

-- a client's labels, in order
abbrev pub labels_by : ℕ → List Label → List Label
labels_by c ls = filter (λ l. l.client == c) ls

-- one label more, which is the client's and of this kind
pub record HasMade (Is : Event → Type 0) (c : ℕ) (before after : List Label) : Type 0 where
  pub label : Label
  pub client : label.client ≡ c
  pub what : Is label.what
  pub grown : after ≡ before ++ label ∷ []

-- a move, and no call or return
abbrev pub IsMove : Event → Type 0
IsMove what = (point : ℕ) × (edge : EdgeKind) × (what ≡ Moved point edge)

abbrev pub IsMoveBy : ℕ → Label → Type 0
IsMoveBy c l = (l.client ≡ c) × IsMove l.what

-- n more moves of the client
pub record HasMoved (c n : ℕ) (before after : List Label) : Type 0 where
  pub moves : List Label
  pub count : length moves ≡ n
  pub each : Every (IsMoveBy c) moves
  pub grown : after ≡ before ++ moves
