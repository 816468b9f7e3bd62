-- The columns of a development at first.
use Rattle.std.proofs.Common.{◌≡◌, ℕ, zero, suc, ◌+◌, List, [], ◌∷◌, ◌++◌, ℤ, pos, ◌+ℤ◌, map, length, replicate, refl, ap, ap₂, ◌∙◌, arith, append_assoc}
use Rattle.std.proofs.Math.IntN.{zero-*ℤ}
use Rattle.std.proofs.lemmas.List.{length-append, length-replicate}
use mathlib.Core.Path.{fun_ext}
use Rattle.std.specs.Prelude.{IfOk, Result, Ok, Err}
use Rattle.lc_base.specs.declared.memory.OutOfMemory.{OutOfMemory}
use Rattle.lc_term.specs.State.{column_at, initial_columns, initial_state, state_of}
use Rattle.lc_term.specs.declared.state.State.{State}
use Rattle.lc_term.specs.SystemColumns.{column_count}
use Rattle.lc_seq.specs.Specification as Q
use Rattle.lc_object.specs.Syntax as O
use Rattle.lc_outline.specs.Development.{Development, first_system, start_numbers}
use Rattle.lc_sound.proofs.Ordered.{start_count}

at_zero : (k c : ℕ) (i : ℤ) → column_at (initial_columns (replicate k (pos 0, pos 0))) c i ≡ pos 0
at_zero zero c i = refl
at_zero (suc k) zero i = ap (λ x. x +ℤ pos 0) (zero-*ℤ i)
at_zero (suc k) (suc c) i = at_zero k c i

-- columns that are 0 are as no columns
behind : (ns : List (ℤ × ℤ)) (k c : ℕ) (i : ℤ) → column_at (initial_columns (ns ++ replicate k (pos 0, pos 0))) c i ≡ column_at (initial_columns ns) c i
behind [] k c i = at_zero k c i
behind (n ∷ ns) k zero i = refl
behind (n ∷ ns) k (suc c) i = behind ns k c i

-- the numbers of all columns, as they are put together
numbers-are : (D : Development) (items : List (ℤ × ℤ)) →
    items ≡ ((map (λ (c : Q.Column). (c.slope, c.start)) D.specification.columns ++ map (λ (c : O.Column). (c.slope, c.start)) D.object.concretes) ++ map (λ (c : Q.Column). (c.slope, c.start)) D.auxiliaries) ++ replicate 12 (pos 0, pos 0) →
    items ≡ start_numbers D ++ replicate 12 (pos 0, pos 0)
numbers-are D items is =
    is ∙ ap (λ xs. xs ++ replicate 12 (pos 0, pos 0))
    (append_assoc (map (λ (c : Q.Column). (c.slope, c.start)) D.specification.columns) (map (λ (c : O.Column). (c.slope, c.start)) D.object.concretes) (map (λ (c : Q.Column). (c.slope, c.start)) D.auxiliaries))

pub initial_state_of_items : (D : Development) (items : List (ℤ × ℤ)) →
    items ≡ ((map (λ (c : Q.Column). (c.slope, c.start)) D.specification.columns ++ map (λ (c : O.Column). (c.slope, c.start)) D.object.concretes) ++ map (λ (c : Q.Column). (c.slope, c.start)) D.auxiliaries) ++ replicate 12 (pos 0, pos 0) →
    (initial_state items ≡ initial_state (start_numbers D)) × (length items ≡ column_count (first_system D))
initial_state_of_items D items is =
    let none : ℤ × ℤ = (pos 0, pos 0) in
    let all = numbers-are D items is in (
      ap initial_state all ∙ fun_ext (λ c. fun_ext (λ i. behind (start_numbers D) 12 c i)),
      ap length all ∙ (length-append (start_numbers D) (replicate 12 none) ∙ (ap₂ (λ a b. a + b) (start_count D) (length-replicate 12 none) ∙ omega arith)),
    )

pub started-as : (D : Development) (items : List (ℤ × ℤ)) (r : Result State OutOfMemory) →
    items ≡ ((map (λ (c : Q.Column). (c.slope, c.start)) D.specification.columns ++ map (λ (c : O.Column). (c.slope, c.start)) D.object.concretes) ++ map (λ (c : Q.Column). (c.slope, c.start)) D.auxiliaries) ++ replicate 12 (pos 0, pos 0) →
    IfOk r (λ state. state_of state ≡ initial_state items) → IfOk r (λ state. state_of state ≡ initial_state (start_numbers D))
started-as D items (Ok state) is h = h ∙ (initial_state_of_items D items is).0
started-as D items (Err fault) is h = tt
