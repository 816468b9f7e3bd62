-- Whether a return's numbers are justified, as a test and as a fact.
use Rattle.std.proofs.Common.{◌≡◌, ℕ, zero, suc, ◌≤◌, Bool, true, false, ◌&&◌, ◌||◌, List, [], ◌∷◌, ℤ, pos, take, length, refl, sym, ap, subst, ◌∙◌, inl, inr, arith, Result, Ok, Err}
use Rattle.std.specs.Prelude.{◌⊎◌, FitsSigned, OkIff, IsErrAnd}
use Rattle.std.specs.Int.{w64}
use Rattle.std.specs.Ordering.{int_eq}
use Rattle.std.specs.Cmp.Rules.{signed_items}
use Rattle.std.specs.Cmp.Lexicographic.{pointwise}
use Rattle.std.proofs.lemmas.Bool.{false≢true, and_from, or_left, or_right}
use Rattle.std.proofs.lemmas.Bool.Decides.{Decides-int_eq}
use Rattle.std.proofs.lemmas.List.{take-map}
use Rattle.lc_lemmas.proofs.Booleans.{left_true, right_true, or_cases}
use Rattle.lc_base.specs.declared.ids.ColId.{ColId}
use Rattle.lc_term.specs.Meaning.{State}
use Rattle.lc_term.specs.SystemColumns.{pend, rep_columns, noted, note_columns, column_count}
use Rattle.lc_term.specs.Updates.{row}
use Rattle.lc_term.specs.declared.state.EvalFault.{EvalFault}
use Rattle.lc_object.specs.View.{columns_of}
use Rattle.lc_machine.specs.Below.{AreBelow}
use Rattle.lc_machine.specs.Fits.{ComparisonFits}
use Rattle.lc_machine.specs.declared.fault.StepFault.{StepFault}
use Rattle.lc_machine.specs.declared.fault.StepFault.TheVariants.{Overflow}
use Rattle.lc_rider.specs.Rider.{IsJustified}
use Rattle.lc_steps.specs.StepParts.{step_says, IsReturned}
use Rattle.lc_steps.specs.Replies.{stand_in, StandFits, is_noted, NoteFits, is_justified, ReplyFits}

module _ (first : ℕ) (m : State) (c : ℕ) (ns : List ℤ) where
  stands-to : (cs : List ℕ) → stand_in first m c ns cs ≡ true → take (length ns) (row m cs (pos c)) ≡ ns
  stands-to cs e = take-map (λ x. m x (pos c)) (length ns) cs ∙ (signed_items (row m (take (length ns) cs) (pos c)) ns).0 e

  stands-from : (cs : List ℕ) → take (length ns) (row m cs (pos c)) ≡ ns → stand_in first m c ns cs ≡ true
  stands-from cs e = (signed_items (row m (take (length ns) cs) (pos c)) ns).1 (sym (take-map (λ x. m x (pos c)) (length ns) cs) ∙ e)

  pub justified-to : is_justified first m c ns ≡ true → IsJustified first m c ns
  justified-to e =
      by-kind (or_cases (int_eq (m (pend first) (pos c)) (pos 2) && stand_in first m c ns (rep_columns first)) (int_eq (m (pend first) (pos c)) (pos 1) && is_noted first m c ns) e)
    where
      by-kind : (((int_eq (m (pend first) (pos c)) (pos 2) && stand_in first m c ns (rep_columns first)) ≡ true) ⊎ ((int_eq (m (pend first) (pos c)) (pos 1) && is_noted first m c ns) ≡ true)) → IsJustified first m c ns
      by-kind (inl h) = inl (
        (Decides-int_eq (m (pend first) (pos c)) (pos 2)).0 (left_true _ (stand_in first m c ns (rep_columns first)) h),
        stands-to (rep_columns first) (right_true (int_eq (m (pend first) (pos c)) (pos 2)) _ h),
      )
      by-kind (inr h) =
          let note = right_true (int_eq (m (pend first) (pos c)) (pos 1)) (is_noted first m c ns) h in
          inr (
            (Decides-int_eq (m (pend first) (pos c)) (pos 1)).0 (left_true _ (is_noted first m c ns) h),
            (Decides-int_eq (m (noted first) (pos c)) (pos 1)).0 (left_true _ (stand_in first m c ns (note_columns first)) note),
            stands-to (note_columns first) (right_true (int_eq (m (noted first) (pos c)) (pos 1)) _ note),
          )

  pub justified-from : IsJustified first m c ns → is_justified first m c ns ≡ true
  justified-from (inl (two, stand)) =
      or_left (int_eq (m (pend first) (pos c)) (pos 2) && stand_in first m c ns (rep_columns first)) _
      (and_from _ _ ((Decides-int_eq (m (pend first) (pos c)) (pos 2)).1 two) (stands-from (rep_columns first) stand))
  justified-from (inr (one, noted-one, stand)) =
      or_right (int_eq (m (pend first) (pos c)) (pos 2) && stand_in first m c ns (rep_columns first)) (int_eq (m (pend first) (pos c)) (pos 1) && is_noted first m c ns)
      (and_from _ _ ((Decides-int_eq (m (pend first) (pos c)) (pos 1)).1 one)
      (and_from _ _ ((Decides-int_eq (m (noted first) (pos c)) (pos 1)).1 noted-one) (stands-from (note_columns first) stand)))

  -- ---- as it is computed

  number-false : (x n : ℤ) → (x ≡ n → ⊥) → int_eq x n ≡ false
  number-false x n differs = at (int_eq x n) refl
    where
      at : (b : Bool) → int_eq x n ≡ b → b ≡ false
      at true e = absurd (differs ((Decides-int_eq x n).0 e))
      at false e = refl

  -- nothing is noted
  pub none-noted : FitsSigned w64 (m (noted first) (pos c)) → (m (noted first) (pos c) ≡ pos 1 → ⊥) → NoteFits first m c ns × (false ≡ is_noted first m c ns)
  none-noted fits differs =
      ((fits, λ e. absurd (differs e)), sym (ap (λ x. x && stand_in first m c ns (note_columns first)) (number-false (m (noted first) (pos c)) (pos 1) differs)))

  -- something is: these numbers or others
  pub is-noted : (b : Bool) → FitsSigned w64 (m (noted first) (pos c)) → m (noted first) (pos c) ≡ pos 1 → StandFits first m c ns (note_columns first) →
      b ≡ stand_in first m c ns (note_columns first) → NoteFits first m c ns × (b ≡ is_noted first m c ns)
  is-noted b fits one rest is =
      ((fits, λ e. rest), is ∙ sym (ap (λ x. x && stand_in first m c ns (note_columns first)) ((Decides-int_eq (m (noted first) (pos c)) (pos 1)).1 one)))

  -- the call is settled
  pub by-mark : (b : Bool) → FitsSigned w64 (m (pend first) (pos c)) → m (pend first) (pos c) ≡ pos 2 → StandFits first m c ns (rep_columns first) →
      b ≡ stand_in first m c ns (rep_columns first) → ReplyFits first m c ns × (b ≡ is_justified first m c ns)
  by-mark b fits two rest is = (
    (fits, (λ e. rest), λ e. absurd (two≢one (sym two ∙ e))),
    is ∙ sym (ap (λ x. (x && stand_in first m c ns (rep_columns first)) || (int_eq (m (pend first) (pos c)) (pos 1) && is_noted first m c ns)) ((Decides-int_eq (m (pend first) (pos c)) (pos 2)).1 two) ∙
        (ap (λ x. stand_in first m c ns (rep_columns first) || (x && is_noted first m c ns)) (number-false (m (pend first) (pos c)) (pos 1) (λ e. two≢one (sym two ∙ e))) ∙ or-false (stand_in first m c ns (rep_columns first)))),
  )
    where
      two≢one : pos 2 ≡ pos 1 → ⊥
      two≢one e = false≢true ((Decides-int_eq (pos 2) (pos 1)).1 e)

      or-false : (x : Bool) → (x || false) ≡ x
      or-false true = refl
      or-false false = refl

  -- it is not, and may be noted
  pub by-note : (b : Bool) → FitsSigned w64 (m (pend first) (pos c)) → m (pend first) (pos c) ≡ pos 1 → NoteFits first m c ns → b ≡ is_noted first m c ns →
      ReplyFits first m c ns × (b ≡ is_justified first m c ns)
  by-note b fits one rest is = (
    (fits, (λ e. absurd (one≢two (sym one ∙ e))), λ e. rest),
    is ∙ sym (ap (λ x. (x && stand_in first m c ns (rep_columns first)) || (int_eq (m (pend first) (pos c)) (pos 1) && is_noted first m c ns)) (number-false (m (pend first) (pos c)) (pos 2) (λ e. one≢two (sym one ∙ e))) ∙
        ap (λ x. x && is_noted first m c ns) ((Decides-int_eq (m (pend first) (pos c)) (pos 1)).1 one)),
  )
    where
      one≢two : pos 1 ≡ pos 2 → ⊥
      one≢two e = false≢true ((Decides-int_eq (pos 1) (pos 2)).1 e)

  -- there is no call
  pub no-call : FitsSigned w64 (m (pend first) (pos c)) → (m (pend first) (pos c) ≡ pos 2 → ⊥) → (m (pend first) (pos c) ≡ pos 1 → ⊥) →
      ReplyFits first m c ns × (false ≡ is_justified first m c ns)
  no-call fits two one = (
    (fits, (λ e. absurd (two e)), λ e. absurd (one e)),
    sym (ap (λ x. (x && stand_in first m c ns (rep_columns first)) || (int_eq (m (pend first) (pos c)) (pos 1) && is_noted first m c ns)) (number-false (m (pend first) (pos c)) (pos 2) two) ∙
        ap (λ x. x && is_noted first m c ns) (number-false (m (pend first) (pos c)) (pos 1) one)),
  )

-- ---- what is returned

not-in : {P : Type 0} (r : Result Bool EvalFault) (fault : EvalFault) (v : Bool) → IsErrAnd r (λ y. y ≡ fault) → (P → ⊥) → OkIff r P v
not-in (Ok x) fault v e never = absurd e
not-in (Err y) fault v e never = never

module _ (first : ℕ) (m : State) (c : ℕ) (ns : List ℤ) where
  -- the first cell that is read does not fit
  pub note-unread : (r : Result Bool EvalFault) (fault : EvalFault) → IsErrAnd r (λ y. y ≡ fault) → (FitsSigned w64 (m (noted first) (pos c)) → ⊥) → OkIff r (NoteFits first m c ns) (is_noted first m c ns)
  note-unread r fault e never = not-in r fault (is_noted first m c ns) e (λ h. never h.0)

  pub reply-unread : (r : Result Bool EvalFault) (fault : EvalFault) → IsErrAnd r (λ y. y ≡ fault) → (FitsSigned w64 (m (pend first) (pos c)) → ⊥) → OkIff r (ReplyFits first m c ns) (is_justified first m c ns)
  reply-unread r fault e never = not-in r fault (is_justified first m c ns) e (λ h. never h.0)

  pub noted-as : (r : Result Bool EvalFault) → FitsSigned w64 (m (noted first) (pos c)) → m (noted first) (pos c) ≡ pos 1 →
      OkIff r (StandFits first m c ns (note_columns first)) (stand_in first m c ns (note_columns first)) → OkIff r (NoteFits first m c ns) (is_noted first m c ns)
  noted-as (Ok b) fits one h = is-noted first m c ns b fits one h.0 h.1
  noted-as (Err y) fits one h = λ n. h (n.1 one)

  pub marked-as : (r : Result Bool EvalFault) → FitsSigned w64 (m (pend first) (pos c)) → m (pend first) (pos c) ≡ pos 2 →
      OkIff r (StandFits first m c ns (rep_columns first)) (stand_in first m c ns (rep_columns first)) → OkIff r (ReplyFits first m c ns) (is_justified first m c ns)
  marked-as (Ok b) fits two h = by-mark first m c ns b fits two h.0 h.1
  marked-as (Err y) fits two h = λ n. h (n.1 two)

  pub open-as : (r : Result Bool EvalFault) → FitsSigned w64 (m (pend first) (pos c)) → m (pend first) (pos c) ≡ pos 1 → OkIff r (NoteFits first m c ns) (is_noted first m c ns) →
      OkIff r (ReplyFits first m c ns) (is_justified first m c ns)
  open-as (Ok b) fits one h = by-note first m c ns b fits one h.0 h.1
  open-as (Err y) fits one h = λ n. h (n.2 one)

-- ---- the columns of replies and notes

take-numbers : (k : ℕ) (cs : List ColId) → columns_of (take k cs) ≡ take k (columns_of cs)
take-numbers k cs = sym (take-map (λ (x : ColId). x.0) k cs)

take-below : (n k : ℕ) (xs : List ℕ) → AreBelow n xs → AreBelow n (take k xs)
take-below n zero xs h = tt
take-below n (suc k) [] h = tt
take-below n (suc k) (x ∷ xs) h = (h.0, take-below n k xs h.1)

pub replies-there : (first n k : ℕ) (cs : List ColId) → columns_of cs ≡ rep_columns first → column_count first ≤ n → AreBelow n (columns_of (take k cs))
replies-there first n k cs e h =
    let all : AreBelow n (rep_columns first) = (omega (arith, h), (omega (arith, h), (omega (arith, h), tt))) in
    subst (AreBelow n) (sym (take-numbers k cs ∙ ap (take k) e)) (take-below n k (rep_columns first) all)

pub notes-there : (first n k : ℕ) (cs : List ColId) → columns_of cs ≡ note_columns first → column_count first ≤ n → AreBelow n (columns_of (take k cs))
notes-there first n k cs e h =
    let all : AreBelow n (note_columns first) = (omega (arith, h), (omega (arith, h), (omega (arith, h), tt))) in
    subst (AreBelow n) (sym (take-numbers k cs ∙ ap (take k) e)) (take-below n k (note_columns first) all)

-- a row of the first columns, as many as the numbers
pub stand_in_row : (first : ℕ) (m : State) (c : ℕ) (ns : List ℤ) (cs : List ℕ) (all : List ColId) (r : Result Bool EvalFault) → columns_of all ≡ cs →
    OkIff r (ComparisonFits m (columns_of (take (length ns) all)) (pos c) ns) (pointwise int_eq (row m (columns_of (take (length ns) all)) (pos c)) ns) →
    OkIff r (StandFits first m c ns cs) (stand_in first m c ns cs)
stand_in_row first m c ns cs all r e h =
    subst (λ xs. OkIff r (ComparisonFits m xs (pos c) ns) (pointwise int_eq (row m xs (pos c)) ns)) (take-numbers (length ns) all ∙ ap (take (length ns)) e) h

-- a number that is read does not fit
pub end-fault : (first : ℕ) (m : State) (c : ℕ) (ns : List ℤ) (columns : State) (r : Result Bool StepFault) → IsErrAnd r (λ y. y ≡ Overflow) → (ReplyFits first m c ns → ⊥) → IsReturned first m c ns columns r
end-fault first m c ns columns (Ok x) e never = absurd e
end-fault first m c ns columns (Err y) e never = subst (λ z. step_says z (ReplyFits first m c ns)) (sym e) never
