-- The names that are printed of quantifiers.
use Rattle.std.proofs.Common.{◌≡◌, ℕ, zero, suc, ◌+◌, ◌-◌, ◌<◌, ◌≤◌, ◌^◌, true, false, ◌&&◌, List, [], ◌∷◌, length, Some, refl, ap, ◌∙◌, arith}
use Rattle.std.proofs.lemmas.Bool.{and_parts, and_from, or_left, or_right, ltb-true, cond-true, cond-false, false_from_ne_true}
use Rattle.std.proofs.lemmas.Fmt.{digits_decimal, decimal_injective, length-decimal-le}
use Rattle.std.specs.Prelude.{option_map, nat_le}
use Rattle.std.specs.List.{list_all}
use Rattle.std.specs.Fmt.{decimal}
use Rattle.lc_base.specs.NameText.{is_name, begins_name, continues_name, is_letter}
use Rattle.lc_base.specs.Limits.{name_limit}
use Rattle.lc_sexp.specs.Numerals.{are_digits}
use Rattle.lc_reading.specs.Reserved.{is_reserved, is_client_name, is_call_column, is_reply_column, is_note_column, is_action_name}
use Rattle.lc_reading.specs.Words.{is, is_long}
use Rattle.lc_reading.proofs.Words.{is-true}
use Rattle.lc_text.proofs.Binders.{bound_index-behind}
use Rattle.lc_text.proofs.Numerals.{decimal_numeral_model}
use Rattle.lc_text.specs.Spelled.{binder}
use Rattle.lc_text.specs.SpelledTree.{binders}
use Rattle.lc_text.specs.Terms.{bound_index}

continued : (ds : List ℕ) → are_digits ds ≡ true → list_all continues_name ds ≡ true
unfolding continues_name
continued [] h = refl
continued (b ∷ w) h =
    let p = and_parts (nat_le 48 b && nat_le b 57) _ h in
    and_from _ _ (or_left _ _ (or_left _ _ (or_left _ _ (or_right (is_letter b) _ p.0)))) (continued w p.1)

pub binder_is_name : (d : ℕ) → d < 2 ^ 64 → is_name (binder d) ≡ true
unfolding begins_name
binder_is_name d h = continued (decimal d) (digits_decimal decimal_numeral_model d h)

pub same_refl : (w : List ℕ) → is w w ≡ true
same_refl [] = refl
same_refl (b ∷ w) = and_from _ _ (Rattle.std.proofs.lemmas.Bool.eq-eqb b b refl) (same_refl w)

-- other quantifiers bind other names
other_binder : (j d : ℕ) → j < d → d < 2 ^ 64 → is (binder j) (binder d) ≡ false
other_binder j d lt h =
    false_from_ne_true _ (λ e. let same : decimal j ≡ decimal d = (let f = is-true (binder j) (binder d) e in cc) in
    let equal = decimal_injective j d (omega arith) h same in omega arith)

pub index_back : (d k : ℕ) → k < d → d ≤ 4294967296 → bound_index (binders d) (binder (d - 1 - k)) ≡ Some k
index_back zero k lt h = absurd (omega arith)
index_back (suc d) zero lt h =
    let e : suc d - 1 - 0 ≡ d = omega arith in
    ap (λ j. bound_index (binders (suc d)) (binder j)) e ∙ bound_index-behind (binders d) (binder d) (binder d) ∙ cond-true _ _ _ (same_refl (binder d))
index_back (suc d) (suc k) lt h =
    let e : suc d - 1 - suc k ≡ d - 1 - k = omega arith in
    ap (λ j. bound_index (binders (suc d)) (binder j)) e ∙ bound_index-behind (binders d) (binder d) (binder (d - 1 - k))
    ∙ cond-false _ _ _ (other_binder (d - 1 - k) d (omega arith) (omega arith))
    ∙ ap (option_map (λ k. k + 1)) (index_back d k (omega arith) (omega arith))
    ∙ ap Some (omega arith)

-- no such name is reserved
pub binder_is_free : (d : ℕ) → is_reserved (binder d) ≡ false
unfolding is_client_name is_call_column is_reply_column is_note_column is_action_name
binder_is_free d = refl

-- nor too long
pub binder_is_short : (d : ℕ) → d < 2 ^ 64 → is_long (binder d) ≡ false
binder_is_short d h =
    let most = length-decimal-le 20 d (omega arith) (omega arith) h in
    false_from_ne_true _ (λ e. let more = ltb-true name_limit (length (binder d)) e in omega arith)
