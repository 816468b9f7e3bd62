-- Sequential objects: their calls, how a branch is chosen for them, and the steps that they take.
use Rattle.std.specs.Prelude.{◌≡◌, ℕ, List, [], ℤ, Option, Some, map}

-- an operation, by its number, with the numbers that it is given
pub record Call : Type 0 where
  pub op : ℕ
  pub numbers : List ℤ

-- How a branch is chosen: none is, and the first is taken whose guard holds; or the branch of a name is, with something
-- for each of its parameters.
pub data Chosen (A : Type 0) : Type 0 where
  InOrder : Chosen A
  ByName : (name : List ℕ) (given : List A) → Chosen A

abbrev pub given_in : {A : Type 0} → Chosen A → List A
given_in InOrder = []
given_in (ByName name xs) = xs

-- the same choice, with other things for the parameters
abbrev pub choose_map : {A B : Type 0} → (A → B) → Chosen A → Chosen B
choose_map f InOrder = InOrder
choose_map f (ByName name xs) = ByName name (map f xs)

-- the choice at a call: its parameters have numbers
abbrev pub Choice : Type 0
Choice = Chosen ℤ

-- the step of a client's call under a choice: none, or a new state and a reply
abbrev pub Sequential : Type 0 → Type 0
Sequential A = A → ℕ → Call → Choice → Option (A × List ℤ)

-- under a choice a client's call leads from a state to another and gives a reply
abbrev pub Step : {A : Type 0} → Sequential A → A → ℕ → Call → Choice → A → List ℤ → Type 0
Step step s client call choice t reply = step s client call choice ≡ Some (t, reply)
