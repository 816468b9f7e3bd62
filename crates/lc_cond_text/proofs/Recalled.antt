-- What is recalled stays so, and is added to.
use Rattle.std.proofs.Common.{◌≡◌, ℕ, zero, suc, ◌+◌, ◌-◌, ◌≤◌, ◌⊎◌, inl, inr, List, [], ◌∷◌, ◌++◌, length, take, drop, set, Option, Some, None, slice_get, refl, sym, ap, ◌∙◌, subst, arith}
use Rattle.std.proofs.lemmas.List.{length-append, length-drop, drop-append-le, take-append-le, drop_at, take_all}
use Rattle.lc_table.specs.declared.node.FormulaId.{FormulaId}
use Rattle.lc_table.specs.NodeTables.{Table}
use Rattle.lc_table.specs.Tables.{formula_in, IsFormula, Keeps}
use Rattle.lc_table.proofs.Later.{formula_still, is_formula_still}
use Rattle.lc_text.specs.Spelling.{Spelled}
use Rattle.lc_text.specs.Spelled.{spelled_formula}
use Rattle.lc_cond_text.specs.declared.texts.FormulaTexts.{FormulaTexts}
use Rattle.lc_cond_text.specs.declared.texts.Place.{Place}
use Rattle.lc_cond_text.specs.Recalled.{LiesAt, AreRecalled, Recalls}

-- one number more has no place
pub found_before : (ps : List (Option Place)) (k : ℕ) (p : Place) → slice_get (ps ++ None ∷ []) k ≡ Some (Some p) → slice_get ps k ≡ Some (Some p)
found_before [] zero p e = absurd (cc)
found_before [] (suc k) p e = absurd (cc)
found_before (x ∷ ps) zero p e = e
found_before (x ∷ ps) (suc k) p e = found_before ps k p e

-- what is found once a place is noted is that place, or was there before
pub found_noted : (ps : List (Option Place)) (j k : ℕ) (p q : Place) → slice_get (set ps j (Some q)) k ≡ Some (Some p) → ((k ≡ j) × (q ≡ p)) ⊎ (slice_get ps k ≡ Some (Some p))
found_noted [] j k p q e = inr e
found_noted (x ∷ ps) zero zero p q e = let same : q ≡ p = cc in inl (refl, same)
found_noted (x ∷ ps) zero (suc k) p q e = inr e
found_noted (x ∷ ps) (suc j) zero p q e = inr e
found_noted (x ∷ ps) (suc j) (suc k) p q e = elim (found_noted ps j k p q e) [ inl h ↦ inl (ap suc h.0, h.1) | inr h ↦ inr h ]

-- a text stays where it was when more is appended
pub lies_still : (text bytes more : List ℕ) (p : Place) → LiesAt text bytes p → LiesAt text (bytes ++ more) p
lies_still text bytes more p h =
    let ordered : p.start ≤ p.end = h.ordered in
    let within : p.end ≤ length bytes = h.within in
    record {
      ordered = ordered;
      within = omega (arith, length-append bytes more);
      is = ap (take (p.end - p.start)) (drop-append-le p.start bytes more (omega arith)) ∙ take-append-le (p.end - p.start) (drop p.start bytes) more (omega (arith, length-drop p.start bytes)) ∙ h.is;
    }

-- a text that is appended to others is there
pub lies_behind : (text bytes new : List ℕ) (p : Place) → new ≡ bytes ++ text → p.start ≡ length bytes → p.end ≡ length new → LiesAt text new p
lies_behind text bytes new p is start end =
    let long : length new ≡ length bytes + length text = ap length is ∙ length-append bytes text in
    record {
      ordered = omega arith;
      within = omega arith;
      is = ap (λ l. take (p.end - p.start) (drop p.start l)) is ∙ ap (take (p.end - p.start)) (drop_at bytes text p.start (sym start)) ∙ take_all (p.end - p.start) text (omega arith);
    }

same_number : (k j : FormulaId) → k.0 ≡ j.0 → k ≡ j
same_number k j e = λ i. record { 0 = e i }

module _ (There : FormulaId → Type 0) (text : FormulaId → List ℕ) where
  -- one more text is remembered, which is appended to the others; what is found was there before
  pub recalls_more : (bytes new : List ℕ) (old places after : List (Option Place)) (k : FormulaId) (p : Place) → AreRecalled There text bytes old
      → ((j : ℕ) (q : Place) → slice_get places j ≡ Some (Some q) → slice_get old j ≡ Some (Some q)) → There k → new ≡ bytes ++ text k → LiesAt (text k) new p → after ≡ set places k.0 (Some p)
      → AreRecalled There text new after
  recalls_more bytes new old places after k p recalled before there is lies noted = λ j q found.
      elim (found_noted places k.0 j.0 q p (sym (ap (λ l. slice_get l j.0) noted) ∙ found)) [
        | inl h ↦
            let same : k ≡ j = sym (same_number j k h.0) in
            (subst There same there, subst (λ n. LiesAt (text n) new q) same (subst (LiesAt (text k) new) h.1 lies))
        | inr h ↦
            let known = recalled j q (before j.0 q h) in
            (known.0, subst (λ l. LiesAt (text j) l q) (sym is) (lies_still (text j) bytes (text k) q known.1))
      ]

recalls_later : (There After : FormulaId → Type 0) (text later : FormulaId → List ℕ) (bytes : List ℕ) (places : List (Option Place)) → AreRecalled There text bytes places
    → ((k : FormulaId) → There k → After k × (later k ≡ text k)) → AreRecalled After later bytes places
recalls_later There After text later bytes places recalled still = λ k p found.
    let known = recalled k p found in
    let now = still k known.0 in
    (now.0, subst (λ t. LiesAt t bytes p) (sym now.1) known.1)

-- what is recalled is so in later tables
pub recalls_kept : (by : Spelled) (old new : Table) (texts : FormulaTexts) → Recalls by old texts → Keeps old new → Recalls by new texts
recalls_kept by old new texts recalls kept =
    recalls_later (IsFormula old) (IsFormula new) (λ k. spelled_formula by 0 (formula_in old k)) (λ k. spelled_formula by 0 (formula_in new k)) texts.bytes.items texts.places.items recalls
    (λ k there. (is_formula_still old new k there kept, ap (spelled_formula by 0) (formula_still old new k there kept)))
