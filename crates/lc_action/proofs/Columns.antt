-- Columns after stores, one entry or one update after another.
use Rattle.std.proofs.Common.{◌≡◌, ℕ, Bool, true, false, ◌==◌, if◌then◌else◌, List, [], ◌∷◌, ◌++◌, refl, sym, ap, ◌∙◌, inl, inr}
use Rattle.std.proofs.lemmas.Bool.Decides.{eqb_tells}
use Rattle.std.proofs.lemmas.Bool.{eqb-true}
use mathlib.Core.Path.{fun_ext}
use Rattle.lc_term.specs.Syntax.{Term, Column, Base, Store}
use Rattle.lc_term.specs.Said.{put}
use Rattle.lc_action.specs.Telling.{column_at}
pub use Rattle.lc_term.proofs.Entries.{IsAbsent, column_at_entry, column_at_absent, absent-more}

-- another entry for a column in place of one, or in place of none
put_at : (c : ℕ) (ps qs : List (ℕ × Column)) (x : Column) (i v : Term) (d : ℕ) → IsAbsent c ps →
    column_at (ps ++ (c, Store x i v) ∷ qs) d ≡ put (column_at (ps ++ (c, x) ∷ qs)) (record { column = c; index = i; value = v }) d
put_at c ps qs x i v d h = by (c == d) refl
  where
    other : (b : Bool) → (rs : List (ℕ × Column)) → (c == d) ≡ false → column_at (rs ++ (c, Store x i v) ∷ qs) d ≡ column_at (rs ++ (c, x) ∷ qs) d
    other b [] e = ap (λ z. if z then Store x i v else column_at qs d) e ∙ sym (ap (λ z. if z then x else column_at qs d) e)
    other b (r ∷ rs) e = ap (λ y. if r.0 == d then r.1 else y) (other b rs e)

    by : (b : Bool) → (c == d) ≡ b → column_at (ps ++ (c, Store x i v) ∷ qs) d ≡ (if c == d then Store (column_at (ps ++ (c, x) ∷ qs) d) i v else column_at (ps ++ (c, x) ∷ qs) d)
    by true e =
        let is : c ≡ d = eqb-true c d e in
        ap (column_at (ps ++ (c, Store x i v) ∷ qs)) (sym is) ∙ column_at_entry c ps qs (Store x i v) h
        ∙ sym (ap (λ b. if b then Store (column_at (ps ++ (c, x) ∷ qs) d) i v else column_at (ps ++ (c, x) ∷ qs) d) e
        ∙ ap (λ y. Store y i v) (ap (column_at (ps ++ (c, x) ∷ qs)) (sym is) ∙ column_at_entry c ps qs x h))
    by false e = other false ps e ∙ sym (ap (λ b. if b then Store (column_at (ps ++ (c, x) ∷ qs) d) i v else column_at (ps ++ (c, x) ∷ qs) d) e)

pub put_in_place : (c : ℕ) (ps qs : List (ℕ × Column)) (x : Column) (i v : Term) → IsAbsent c ps →
    column_at (ps ++ (c, Store x i v) ∷ qs) ≡ put (column_at (ps ++ (c, x) ∷ qs)) (record { column = c; index = i; value = v })
put_in_place c ps qs x i v h = fun_ext (λ d. put_at c ps qs x i v d h)

-- an entry for the column itself says nothing
base_said : (c : ℕ) (ps : List (ℕ × Column)) (d : ℕ) → IsAbsent c ps → column_at (ps ++ (c, Base c) ∷ []) d ≡ column_at ps d
base_said c [] d h = elim (eqb_tells c d) [
  | inl t ↦ ap (λ b. if b then Base c else Base d) t.0 ∙ ap Base t.1
  | inr f ↦ ap (λ b. if b then Base c else Base d) f.0
]
base_said c (p ∷ ps) d h = ap (λ y. if p.0 == d then p.1 else y) (base_said c ps d h.1)

pub put_behind : (c : ℕ) (ps : List (ℕ × Column)) (i v : Term) → IsAbsent c ps →
    column_at (ps ++ (c, Store (Base c) i v) ∷ []) ≡ put (column_at ps) (record { column = c; index = i; value = v })
put_behind c ps i v h =
    put_in_place c ps [] (Base c) i v h
    ∙ ap (λ (σ : ℕ → Column). put σ (record { column = c; index = i; value = v })) (fun_ext (λ d. base_said c ps d h))
