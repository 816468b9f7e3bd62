-- The number of a term that is there is its value.
use Rattle.std.proofs.Common.{◌≡◌, Bool, true, false, ap, ap₂, ◌∙◌}
use Rattle.std.specs.Prelude.{ℤ, ◌+ℤ◌, ◌-ℤ◌, ◌*ℤ◌, Option, Some, None, if◌then◌else◌}
use Rattle.std.specs.Ordering.{int_eq}
use Rattle.std.proofs.lemmas.Option.{same_Some}
use Rattle.lc_term.specs.Meaning.{State, Env, value, column}
use Rattle.lc_term.specs.Syntax.{Term, Number, Variable, Bound, Add, Subtract, Multiply, Read, Column, Base, Store, Affine}
use Rattle.lc_look.specs.Computing.{both_in_64, number, cell}
use Rattle.lc_look.proofs.Fitting.{in_64-some, and_then-some, both_in_64-some}

-- what is there of one of two is the number of that one
of_two : (b : Bool) (m n : Option ℤ) (x y z : ℤ) → (if b then m else n) ≡ Some x → (m ≡ Some x → y ≡ x) → (n ≡ Some x → z ≡ x) → (if b then y else z) ≡ x
of_two true m n x y z h f g = f h
of_two false m n x y z h f g = g h

mutual
  pub number_right : (s : State) (e b : Env) (t : Term) (x : ℤ) → number s e b t ≡ Some x → value s e b t ≡ x
  number_right s e b (Number n) x h = same_Some n x h
  number_right s e b (Variable k) x h = same_Some (e k) x h
  number_right s e b (Bound k) x h = same_Some (b k) x h
  number_right s e b (Add t u) x h =
      let i = both_in_64-some ◌+ℤ◌ (number s e b t) (number s e b u) x h in
      ap₂ ◌+ℤ◌ (number_right s e b t i.0 i.2) (number_right s e b u i.1 i.3) ∙ i.4
  number_right s e b (Subtract t u) x h =
      let i = both_in_64-some ◌-ℤ◌ (number s e b t) (number s e b u) x h in
      ap₂ ◌-ℤ◌ (number_right s e b t i.0 i.2) (number_right s e b u i.1 i.3) ∙ i.4
  number_right s e b (Multiply n t) x h =
      let i = both_in_64-some ◌*ℤ◌ (Some n) (number s e b t) x h in
      ap₂ ◌*ℤ◌ (same_Some n i.0 i.2) (number_right s e b t i.1 i.3) ∙ i.4
  number_right s e b (Read c t) x h =
      let i = and_then-some (cell s e b c) (number s e b t) x h in
      ap (column s e b c) (number_right s e b t i.0 i.1) ∙ cell_right s e b c i.0 x i.2

  cell_right : (s : State) (e b : Env) (c : Column) (j x : ℤ) → cell s e b c j ≡ Some x → column s e b c j ≡ x
  cell_right s e b (Base c) j x h = in_64-some (s c j) x h
  cell_right s e b (Store c t u) j x h =
      let i = and_then-some (λ k. if int_eq k j then number s e b u else cell s e b c j) (number s e b t) x h in
      ap (λ m. if int_eq m j then value s e b u else column s e b c j) (number_right s e b t i.0 i.1) ∙
      of_two (int_eq i.0 j) (number s e b u) (cell s e b c j) x (value s e b u) (column s e b c j) i.2 (number_right s e b u x) (cell_right s e b c j x)
  cell_right s e b (Affine m n) j x h =
      let i = both_in_64-some ◌+ℤ◌ (both_in_64 ◌*ℤ◌ (Some m) (Some j)) (Some n) x h in
      let k = both_in_64-some ◌*ℤ◌ (Some m) (Some j) i.0 i.2 in
      ap₂ ◌+ℤ◌ (ap₂ ◌*ℤ◌ (same_Some m k.0 k.2) (same_Some j k.1 k.3) ∙ k.4) (same_Some n i.1 i.3) ∙ i.4
