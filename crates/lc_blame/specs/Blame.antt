-- Which condition fails where a client takes a step, with numbers that clients have there for its variables.
use Rattle.std.specs.Prelude.{◌≡◌, ℕ, ◌<◌, ℤ, pos, List, ◌∷◌, ◌++◌, Option, Some, None, length, slice_get}
use Rattle.lc_term.specs.Lists.{Every}
use Rattle.lc_term.specs.Meaning.{State}
use Rattle.lc_term.specs.Updates.{variable}
use Rattle.lc_look.specs.Looking.{look}
use Rattle.lc_look.specs.declared.seen.Seen.TheVariants.{Yes}
use Rattle.lc_object.specs.Syntax.{Operation}
use Rattle.lc_machine.specs.Step.{Event, Invoked, IsClient}
use Rattle.lc_machine.specs.World.{World, Client, Idle, In}
use Rattle.lc_outline.specs.Development.{Development}
use Rattle.lc_cond.specs.Conditions.{Condition, Passage, NoPassage, ByEdge, ByAction, conditions}
use Rattle.lc_sound.specs.Claims.{own}
use Rattle.lc_sound.specs.Valid.{IsValid}
use Rattle.lc_stages.specs.Stages.{numbers_at}
use Rattle.lc_watch.specs.Watched.{Fails}
use Rattle.lc_acting.specs.Acting.{IsActing}

-- the first of some things of which this is so, by its number; or of none it is
abbrev pub IsFirst : {A : Type 0} → (A → Type 0) → List A → Option ℕ → Type 0
IsFirst Is xs None = Every (λ x. Is x → ⊥) xs
IsFirst {A} Is xs (Some n) = ((x : A) × (slice_get xs n ≡ Some x) × Is x) × ((j : ℕ) (y : A) → j < n → slice_get xs j ≡ Some y → Is y → ⊥)

-- a condition fails in a state, with these numbers of its variables: its goal is seen not to hold, and no hypothesis is
abbrev pub FailsWith : List ℤ → State → List ℤ → Condition → Type 0
FailsWith tried m vs k = Fails tried m vs k.goal × Every (λ h. Fails tried m vs h → ⊥) k.hypotheses

-- so it does with some of these numbers
abbrev pub FailsAmong : List ℤ → State → (List ℤ → Type 0) → Condition → Type 0
FailsAmong tried m Have k = (vs : List ℤ) × Have vs × FailsWith tried m vs k

-- the point where a client is, if it is in a call
abbrev pub point_of : Client → Option ℕ
point_of Idle = None
point_of (In p vs) = Some p

-- client c is to take a step from world w: this, if it is known
module _ (D : Development) (w : World) (c : ℕ) (what : Option Event) where
  -- the step begins a call of the operation with this first point, with these numbers
  abbrev pub Begins : ℕ → List ℤ → Type 0
  Begins p ns = (o : ℕ) × (x : Operation) × (what ≡ Some (Invoked o ns)) × (slice_get D.object.operations o ≡ Some x) × (x.entry ≡ p)

  -- another client at this point, or in no call, has these numbers, followed by client c and what its action is given
  abbrev pub HasBeside : Option ℕ → List ℤ → List ℤ → Type 0
  HasBeside point args vs =
      (u : ℕ) × (client : Client) × (u ≡ c → ⊥) × IsClient w u client × (point_of client ≡ point) × (vs ≡ numbers_at D w u client ++ pos c ∷ args)

  -- clients have these numbers for the variables of a condition there: at the start any client; where a call begins or an edge is passed client
  -- c; where another client acts that one, beside client c
  abbrev pub HaveNumbers : Passage → Option ℕ → List ℤ → Type 0
  HaveNumbers NoPassage None vs = (u : ℕ) × (u < length w.clients) × (vs ≡ own (length w.clients) u)
  HaveNumbers NoPassage (Some p) vs = (ns : List ℤ) × Begins p ns × (vs ≡ own (length w.clients) c ++ ns)
  HaveNumbers (ByEdge e) None vs = ⊥
  HaveNumbers (ByEdge e) (Some p) vs = IsClient w c (In p vs)
  HaveNumbers (ByAction i) point vs = (args : List ℤ) × IsActing D w c what what i args × HasBeside point args vs

  -- a condition fails there, with numbers that clients have
  abbrev pub FailsThere : List ℤ → Condition → Type 0
  FailsThere tried k = FailsAmong tried w.columns (HaveNumbers (k.place.passage) (k.place.point)) k

  -- the first condition that does, by its number; or none does
  abbrev pub IsBlamed : List ℤ → Option ℕ → Type 0
  IsBlamed tried found = IsFirst (FailsThere tried) (conditions D) found

-- a condition that fails with numbers for which each hypothesis is seen to hold is not valid
abbrev pub BlamedIsNotValid : Type 0
BlamedIsNotValid =
    (tried : List ℤ) (m : State) (vs : List ℤ) (k : Condition) → FailsWith tried m vs k → Every (λ h. look tried m (variable vs) h ≡ Yes) k.hypotheses → IsValid k → ⊥
