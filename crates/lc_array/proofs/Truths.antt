-- Each axiom is true, by whether the two indexes are the same.
use Rattle.std.specs.Prelude.{◌≡◌, Bool, true, false, ℤ}
use Rattle.std.proofs.Common.{refl, sym, ap, ◌∙◌}
use Rattle.std.specs.Ordering.{int_eq}
use Rattle.std.proofs.lemmas.Bool.Decides.{Decides-int_eq}
use Rattle.lc_term.specs.Meaning.{State, Env, stored, value, column, Holds}
use Rattle.lc_term.specs.Syntax.{Term, Column}
use Rattle.lc_array.specs.Axioms.{written, same_index, affine_cell}

-- equal, or not, by the test of them
equal : (i j : ℤ) → int_eq i j ≡ true → i ≡ j
equal i j h = (Decides-int_eq i j).0 h

unequal : (i j : ℤ) → int_eq i j ≡ false → i ≡ j → ⊥
unequal i j h same = let yes' = (Decides-int_eq i j).1 same in cc

stored_there : (cells : ℤ → ℤ) (i v j : ℤ) → int_eq i j ≡ true → stored cells i v j ≡ v
stored_there cells i v j h = rw h refl

stored_elsewhere : (cells : ℤ → ℤ) (i v j : ℤ) → int_eq i j ≡ false → stored cells i v j ≡ cells j
stored_elsewhere cells i v j h = rw h refl

written_by : (s : State) (e b : Env) (c : Column) (i v j : Term) (same : Bool) → int_eq (value s e b i) (value s e b j) ≡ same → Holds s e b (written c i v j)
written_by s e b c i v j true h =
    λ none. none.0 (equal (value s e b i) (value s e b j) h, (stored_there (column s e b c) (value s e b i) (value s e b v) (value s e b j) h, tt))
written_by s e b c i v j false h =
    λ none. none.1.0 (unequal (value s e b i) (value s e b j) h, (stored_elsewhere (column s e b c) (value s e b i) (value s e b v) (value s e b j) h, tt))

pub written_is_true : (s : State) (e b : Env) (c : Column) (i v j : Term) → Holds s e b (written c i v j)
written_is_true s e b c i v j = written_by s e b c i v j (int_eq (value s e b i) (value s e b j)) refl

pub same_index_is_true : (s : State) (e b : Env) (c : Column) (i j : Term) → Holds s e b (same_index c i j)
same_index_is_true s e b c i j = λ none. none.0 (λ same. none.1.0 (ap (column s e b c) same))

pub affine_cell_is_true : (s : State) (e b : Env) (m n : ℤ) (i : Term) → Holds s e b (affine_cell m n i)
affine_cell_is_true s e b m n i = refl
