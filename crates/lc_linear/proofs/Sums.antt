-- Sums of entries, one entry after another.
use Rattle.std.proofs.Common.{◌≡◌, ℕ, zero, suc, ◌+◌, ◌<◌, List, [], ◌∷◌, ◌++◌, length, take, drop, get_or, refl, sym, ap, ap₂, subst, ◌∙◌, Bool, false, Some, None, arith}
use Rattle.std.specs.Prelude.{ℤ, pos, ◌+ℤ◌, ◌*ℤ◌, ◌<ℤ◌, FitsSigned, IsTrue, ◌↔◌}
use Rattle.std.specs.Int.{w128}
use Rattle.std.proofs.lemmas.Bool.{false≢true}
use Rattle.std.proofs.lemmas.Int.{ints}
use lib.Signed.{lt_z}
use Rattle.std.proofs.lemmas.List.{map_more, map-append, take-append-drop}
use Rattle.lc_term.specs.Syntax as S
use Rattle.lc_term.specs.Syntax.{Add, Multiply}
use Rattle.lc_table.specs.NodeTables.{Table}
use Rattle.lc_table.specs.Tables.{formula_in}
use Rattle.lc_table.specs.declared.node.FormulaId.{FormulaId}
use Rattle.lc_linear.specs.Arithmetic.{CanAddScaled, added_scaled}
use Rattle.lc_linear.specs.Closing.{Entry, gap, combined_from, combined, entries_in, are_allowed, Closes}
use Rattle.lc_linear.specs.Form.{Place, Form, form_of, HasForm}

combined_from-append : (t : S.Term) (xs ys : List Entry) → combined_from t (xs ++ ys) ≡ combined_from (combined_from t xs) ys
combined_from-append t [] ys = refl
combined_from-append t (x ∷ xs) ys = combined_from-append (Add t (Multiply x.1 (gap x.0))) xs ys

-- one more entry
pub combined-more : (ts : Table) (es : List (FormulaId × ℤ)) (i : ℕ) (e : FormulaId × ℤ) → i < length es → e ≡ get_or es i e →
    combined (entries_in ts (take (i + 1) es)) ≡ Add (combined (entries_in ts (take i es))) (Multiply e.1 (gap (formula_in ts e.0)))
combined-more ts es i e h is =
    ap combined (map_more (λ (x : FormulaId × ℤ). (formula_in ts x.0, x.1)) es i e h) ∙
    combined_from-append _ (entries_in ts (take i es)) ((formula_in ts (get_or es i e).0, (get_or es i e).1) ∷ []) ∙
    ap (λ (x : FormulaId × ℤ). Add (combined (entries_in ts (take i es))) (Multiply x.1 (gap (formula_in ts x.0)))) (sym is)

-- if the form of a whole sum can be made, so can that of each sum on the way
HasForm-start : (t : S.Term) (es : List Entry) → HasForm (combined_from t es) → HasForm t
HasForm-start t [] h = h
HasForm-start t (e ∷ es) h = (HasForm-start (Add t (Multiply e.1 (gap e.0))) es h).0

pub HasForm-prefix : (ts : Table) (es : List (FormulaId × ℤ)) (i : ℕ) → HasForm (combined (entries_in ts es)) → HasForm (combined (entries_in ts (take i es)))
HasForm-prefix ts es i h =
    let parts : entries_in ts es ≡ entries_in ts (take i es) ++ entries_in ts (drop i es) =
    ap (entries_in ts) (sym (take-append-drop i es)) ∙ map-append (λ (x : FormulaId × ℤ). (formula_in ts x.0, x.1)) (take i es) (drop i es) in
    HasForm-start _ (entries_in ts (drop i es)) (subst HasForm (ap combined parts ∙ combined_from-append _ (entries_in ts (take i es)) (entries_in ts (drop i es))) h)

-- one turn of a loop over the entries: `whole` is the sum with this entry, `so_far` that without it
module _ (whole so_far g : S.Term) (k k' : ℤ) (is : whole ≡ Add so_far (Multiply k g)) (is_k : k' ≡ k) (f h : Form) (sum : (p : Place) → f p ≡ form_of so_far p) (form : (p : Place) → h p ≡ form_of g p) where
  pub turn_sum : (p : Place) → added_scaled f k' h p ≡ form_of whole p
  turn_sum p = ap₂ ◌+ℤ◌ (sum p) (ap₂ ◌*ℤ◌ is_k (form p)) ∙ sym (ap (λ t. form_of t p) is)

  pub turn_fits : HasForm so_far → HasForm g → CanAddScaled f k' h → HasForm whole
  turn_fits before gap_fits can =
      let product : (p : Place) → k' *ℤ h p ≡ k *ℤ form_of g p = λ p. ap₂ ◌*ℤ◌ is_k (form p) in
      subst HasForm (sym is) (
        before,
        (gap_fits, λ p. subst (FitsSigned w128) (product p) (can p).0),
        λ p. subst (FitsSigned w128) (ap₂ ◌+ℤ◌ (sum p) (product p)) (can p).1,
      )

  pub turn_can : HasForm whole → CanAddScaled f k' h
  turn_can fits p =
      let all = subst HasForm is fits in
      let product : k' *ℤ h p ≡ k *ℤ form_of g p = ap₂ ◌*ℤ◌ is_k (form p) in
      (subst (FitsSigned w128) (sym product) (all.1.1 p), subst (FitsSigned w128) (sym (ap₂ ◌+ℤ◌ (sum p) product)) (all.2 p))

pub turn_gap : (whole so_far g : S.Term) (k : ℤ) → whole ≡ Add so_far (Multiply k g) → HasForm whole → HasForm g
turn_gap whole so_far g k is fits = (subst HasForm is fits).1.0

-- what the code finds of a sum
module _ (es : List Entry) (sum : Form) (is : (p : Place) → sum p ≡ form_of (combined es) p) (closed : Bool) where
  pub closes_answer : IsTrue (are_allowed es) → HasForm (combined es) → ((a : S.Term) → sum (Some a) ≡ pos 0) → closed ≡ lt_z (pos 0) (sum None) → IsTrue closed ↔ Closes es
  closes_answer allowed fits vanishes test = (
    λ h.
        let above : pos 0 <ℤ sum None = grind (arith, ints) in
        record { allowed = allowed; fits = fits; vanishes = λ a. sym (is (Some a)) ∙ vanishes a; positive = subst (λ n. pos 0 <ℤ n) (is None) above },
    λ h.
        let above = subst (λ n. pos 0 <ℤ n) (sym (is None)) h.positive in
        grind (arith, ints),
  )

  pub open_answer : closed ≡ false → (((a : S.Term) → sum (Some a) ≡ pos 0) → ⊥) → IsTrue closed ↔ Closes es
  open_answer shut some = (λ h. absurd (false≢true (sym shut ∙ h)), λ h. absurd (some (λ a. is (Some a) ∙ h.vanishes a)))

-- an item that is there, whatever else would be answered
pub get_or-any : {T : Type 0} (es : List T) (i : ℕ) (d e : T) → i < length es → get_or es i d ≡ get_or es i e
get_or-any [] i d e h = absurd (omega arith)
get_or-any (x ∷ es) zero d e h = refl
get_or-any (x ∷ es) (suc i) d e h = get_or-any es i d e (omega arith)
