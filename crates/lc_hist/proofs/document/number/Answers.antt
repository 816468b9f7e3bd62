use Rattle.std.proofs.Common.{◌≡◌, suc, ◌-◌, ◌==◌, ℕ, List, [], ◌∷◌, length, true, false, take, drop, slice_index, refl, ap, ◌∙◌, sym, arith, ne_eqb, eqb-true}
use Rattle.std.proofs.lemmas.List.{take_all, length-drop}
use Rattle.fast_float.specs.Text.{scan}
use Rattle.serde_json.specs.Read.{number_from, number_of}
use Rattle.lc_hist.proofs.document.number.Goals.{else-not-is_empty-via-then-not-is_empty+else-bytes-eq45, else-not-is_empty-via-else-not-is_empty}
use Rattle.lc_hist.proofs.document.number.Goals as goal

signed : (s : List ℕ) → slice_index s 0 ≡ 45 → number_of s ≡ number_from true (scan (drop 1 s))
unfolding number_of
signed s e = rw e refl

plain : (s : List ℕ) → (slice_index s 0 ≡ 45 → ⊥) → number_of s ≡ number_from false (scan s)
unfolding number_of
plain s e = rw (ne_eqb (slice_index s 0) 45 e) refl

empty : (s : List ℕ) → true ≡ (length s == 0) → slice_index s 0 ≡ 45 → ⊥
empty [] none e = omega arith
empty (x ∷ s) none e = let none_left : suc (length s) ≡ 0 = eqb-true _ _ (sym none) in omega arith

pub returns-then-bytes-eq45 : goal.returns-then-bytes-eq45
returns-then-bytes-eq45 c =
    let s = c.as_bytes-bytes.result.now in
    let all : take (length s - 1) (drop 1 s) ≡ drop 1 s = take_all (length s - 1) (drop 1 s) (omega (arith, length-drop 1 s)) in
    c.negative.ensures ∙ ap (number_from true) (c.scan.ensures.parts ∙ ap scan all) ∙ sym (signed s c.if-bytes-eq45.true) ∙ ap number_of c.as_bytes-bytes.ensures.value

pub returns-else-not-is_empty : goal.returns-else-not-is_empty
returns-else-not-is_empty c =
    let s = c.as_bytes-bytes.result.now in
    let other : slice_index s 0 ≡ 45 → ⊥ = elim c.else-not-is_empty.branch [
      | else-not-is_empty-via-then-not-is_empty+else-bytes-eq45 w ↦ w.if-bytes-eq45.false
      | else-not-is_empty-via-else-not-is_empty w ↦ empty s (sym w.if-not-is_empty.false ∙ c.is_empty.ensures)
    ] in
    c.unsigned.ensures ∙ ap (number_from false) c.scan-else-not-is_empty.ensures.parts ∙ sym (plain s other) ∙ ap number_of c.as_bytes-bytes.ensures.value
