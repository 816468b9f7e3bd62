-- The names of lists, one after another.
use Rattle.std.proofs.Common.{◌≡◌, ℕ, zero, suc, ◌<◌, List, [], ◌∷◌, ◌++◌, Ok, Err, map, length, get_or, ap, sym, ◌∙◌, arith, append_assoc, append-nil}
use Rattle.std.specs.Prelude.{Result, Vec, IfOk}
use Rattle.std.specs.Borrow.{Bor}
use Rattle.std.specs.declared.alloc.Global.{Global}
use Rattle.lc_base.specs.declared.memory.OutOfMemory.{OutOfMemory}
use Rattle.lc_reading.specs.Words.{names_in}
use Rattle.lc_outline.specs.ColumnNames.{name_at}

module _ {B C : Type 0} (name : B → List ℕ) (view : C → B) where
  -- one of the first
  pub named_first : (xs : List C) (rest : List (List ℕ)) (k : ℕ) (x : C) → k < length xs → x ≡ get_or xs k x → name (view x) ≡ name_at (map name (map view xs) ++ rest) k
  named_first [] rest k x below is = absurd (omega arith)
  named_first (y ∷ xs) rest zero x below is = ap (λ z. name (view z)) is
  named_first (y ∷ xs) rest (suc k) x below is = named_first xs rest k x (omega arith) is

  pub named_alone : (xs : List C) (k : ℕ) (x : C) → k < length xs → x ≡ get_or xs k x → name (view x) ≡ name_at (map name (map view xs)) k
  named_alone xs k x below is = named_first xs [] k x below is ∙ ap (λ l. name_at l k) (append-nil (map name (map view xs)))

-- the names of four lists, one list after another
pub names_joined : (r : Result (Vec (Bor (List ℕ)) Global) OutOfMemory) (x y z w new a b c : List (List ℕ)) → new ≡ [] → a ≡ new ++ x → b ≡ a ++ y → c ≡ b ++ z
    → IfOk r (λ all. names_in all.items ≡ c ++ w) → IfOk r (λ all. names_in all.items ≡ x ++ (y ++ (z ++ w)))
names_joined (Ok all) x y z w new a b c empty first second third h =
    h ∙ ap (λ l. l ++ w) (third ∙ ap (λ l. l ++ z) (second ∙ ap (λ l. l ++ y) (first ∙ ap (λ l. l ++ x) empty)))
    ∙ append_assoc (x ++ y) z w ∙ append_assoc x y (z ++ w)
names_joined (Err e) x y z w new a b c empty first second third h = tt
