-- The first refusal of proofs that come one after another.
use Rattle.std.proofs.Common.{◌≡◌, ℕ, ◌+◌, ◌≤◌, inl, inr, true, false, List, [], ◌∷◌, ◌++◌, length, append_assoc, append-nil, Option, Some, None, refl, sym, ap, ◌∙◌, subst, arith}
use Rattle.std.specs.Option.{is_some}
use Rattle.std.specs.Prelude.{Result, Ok, Err, ◌==◌, OnOk}
use Rattle.lc_base.specs.declared.refusal.Refusal.{Refusal}
use Rattle.lc_base.specs.declared.refusal.Refusal.TheVariants.{Missing, Extra}
use Rattle.lc_base.specs.Limits.{file_limit}
use Rattle.lc_term.proofs.Stores.{Every_right}
use Rattle.lc_kernel.specs.Answers.{Proves}
use Rattle.lc_kernel.specs.Proofs.{Proof, size}
use Rattle.lc_kernel.specs.declared.fault.ProofFault.{ProofFault}
use Rattle.lc_kernel.specs.declared.fault.ProofFault.TheVariants.{Bad as NotHolding, Large as TooLarge, OutOfMemory as NoMore}
use Rattle.lc_kernel.specs.declared.reason.Flaw.TheVariants.{Bad, Large}
use Rattle.lc_outline.specs.Development.{Development}
use Rattle.lc_cert.specs.Certificates.{Entry, is_rising, proof_at, HaveFewSteps}
use Rattle.lc_cond.specs.Conditions as S
use Rattle.lc_cond.specs.Conditions.{conditions}
use Rattle.lc_cond.specs.ConditionView.{condition_in}
use Rattle.lc_check.proofs.InTurn.{proved_behind, unproved_behind, extra_behind, extra_from, rises_behind, left_out}
use Rattle.lc_check.proofs.LeastExtra.{at_first, not_below}
use Rattle.lc_check.proofs.Walking.{conditions_done_due, some_left, due_behind, next_due}
use Rattle.lc_check.specs.Answers.{fault_of, ProvesOne, CountsAll}
use Rattle.lc_check.specs.Progress.{IsCertain, IsProgressTelling, IsProgress}
use Rattle.lc_check.specs.Verdicts.{IsUnproved, AreProved, IsFirstUnproved, IsExtra, IsProofRefusal}
use Rattle.lc_check.specs.Walking.{conditions_due, HasNext, IsInTurn}
use Rattle.lc_check.specs.declared.progress.Progress.{Progress}
use Rattle.lc_check.specs.declared.walk.Walk.{Walk}

-- ---- one proof

-- it was not found to hold
pub not_proved : (k : ℕ) (c : S.Condition) (p : Proof) (fault : ProofFault) → Proves c.variables c.hypotheses c.goal p (Err fault) → ProvesOne k c p (Err (fault_of k fault))
not_proved k c p (NotHolding step reason) h = (step, Bad reason, h, refl)
not_proved k c p (TooLarge step) h = (step, Large, h, refl)
not_proved k c p NoMore h = tt

-- ---- a refusal, whatever comes after

risen : (d : Development) (taken : List Entry) (p : Walk) (e : Entry) (more : List Entry) (h : IsInTurn d taken p) → is_rising None (taken ++ e ∷ more) ≡ true → (0 + length h.done ≤ e.number) × (is_rising (Some e.number) more ≡ true)
risen d taken p e more h rises = rises_behind 0 None taken e more h.done h.proved (λ n above. omega arith) rises

unproved_certain : (d : Development) (taken : List Entry) (p : Walk) (c : S.Condition) (cs : List S.Condition) (e : Entry) (r : Refusal) → IsInTurn d taken p → conditions_due d p ≡ c ∷ cs
    → ((more : List Entry) → is_rising None (taken ++ e ∷ more) ≡ true → IsUnproved p.next c (proof_at (e ∷ more) p.next) r) → IsCertain d (taken ++ e ∷ []) r
unproved_certain d taken p c cs e r h due f more rises =
    let joined : (taken ++ e ∷ []) ++ more ≡ taken ++ e ∷ more = append_assoc taken (e ∷ []) more in
    let before = h.count in
    let is : p.next ≡ 0 + length h.done = omega (arith, before) in
    let u = f more (subst (λ l. is_rising None l ≡ true) joined rises) in
    let first : IsFirstUnproved (e ∷ more) (0 + length h.done) (c ∷ cs) r = inl (subst (λ n. IsUnproved n c (proof_at (e ∷ more) n) r) is u) in
    let all : IsFirstUnproved (taken ++ e ∷ more) 0 (conditions d) r =
    subst (λ l. IsFirstUnproved (taken ++ e ∷ more) 0 l r) (sym (conditions_done_due d taken p (c ∷ cs) h due)) (unproved_behind 0 taken (e ∷ more) h.done (c ∷ cs) r h.proved first) in
    subst (λ l. IsProofRefusal l (conditions d) r) (sym joined) (inl all)

pub refused_certain : (d : Development) (taken : List Entry) (p : Walk) (c : S.Condition) (cs : List S.Condition) (e : Entry) (r : Refusal) → IsInTurn d taken p → conditions_due d p ≡ c ∷ cs → e.number ≡ p.next
    → IsUnproved p.next c (Some e.proof) r → IsCertain d (taken ++ e ∷ []) r
refused_certain d taken p c cs e r h due at u = unproved_certain d taken p c cs e r h due (λ more rises. subst (λ o. IsUnproved p.next c o r) (sym (at_first e more p.next at)) u)

pub missing_certain : (d : Development) (taken : List Entry) (p : Walk) (c : S.Condition) (cs : List S.Condition) (e : Entry) → IsInTurn d taken p → conditions_due d p ≡ c ∷ cs → (e.number ≡ p.next → ⊥)
    → IsCertain d (taken ++ e ∷ []) (Missing p.next)
missing_certain d taken p c cs e h due other =
    unproved_certain d taken p c cs e (Missing p.next) h due (λ more rises. (
    let (le, later) = risen d taken p e more h rises in
    let before = h.count in
    let none = left_out e more p.next other (omega (arith, le, before)) later in
    subst (λ o. IsUnproved p.next c o (Missing p.next)) (sym none) refl
    ))

pub extra_certain : (d : Development) (taken : List Entry) (p : Walk) (e : Entry) → IsInTurn d taken p → conditions_due d p ≡ [] → IsCertain d (taken ++ e ∷ []) (Extra e.number)
extra_certain d taken p e h due more rises =
    let joined : (taken ++ e ∷ []) ++ more ≡ taken ++ e ∷ more = append_assoc taken (e ∷ []) more in
    let (le, later) = risen d taken p e more h (subst (λ l. is_rising None l ≡ true) joined rises) in
    let n = length (conditions d) in
    let all = conditions_done_due d taken p [] h due in
    let size = ap length all ∙ ap length (append-nil h.done) in
    let is : n ≡ 0 + length h.done = omega (arith, size) in
    let proved : AreProved (taken ++ e ∷ more) 0 (conditions d) = subst (AreProved (taken ++ e ∷ more) 0) (sym all) (proved_behind 0 taken (e ∷ more) h.done [] h.proved tt) in
    let here : IsExtra n (e ∷ more) e.number = record { proof = e.proof; stands = at_first e more e.number refl; behind = omega (arith, le, is) } in
    subst (λ l. IsProofRefusal l (conditions d) (Extra e.number)) (sym joined)
    (inr (
      proved,
      (
        e.number,
        extra_from 0 n taken (e ∷ more) h.done e.number h.proved is here,
        λ j x. (let there = extra_behind 0 n taken (e ∷ more) h.done j h.proved is x in not_below n e more j later there (e.number == j) refl there.stands),
        refl,
      ),
    ))

pub certain_on : (d : Development) (taken es : List Entry) (r : Refusal) → IsCertain d taken r → IsCertain d (taken ++ es) r
certain_on d taken es r h more rises =
    let joined = append_assoc taken es more in
    subst (λ l. IsProofRefusal l (conditions d) r) (sym joined) (h (es ++ more) (subst (λ l. is_rising None l ≡ true) joined rises))

-- ---- nothing comes after

pub certain_last : (d : Development) (taken : List Entry) (r : Refusal) → IsCertain d taken r → is_rising None taken ≡ true → IsProofRefusal taken (conditions d) r
certain_last d taken r h rises =
    let all = append-nil taken in
    subst (λ l. IsProofRefusal l (conditions d) r) all (h [] (subst (λ l. is_rising None l ≡ true) (sym all) rises))

pub missing_last : (d : Development) (taken : List Entry) (p : Walk) (c : S.Condition) (cs : List S.Condition) → IsInTurn d taken p → conditions_due d p ≡ c ∷ cs → IsProofRefusal taken (conditions d) (Missing p.next)
missing_last d taken p c cs h due =
    let before = h.count in
    let is : p.next ≡ 0 + length h.done = omega (arith, before) in
    let first : IsFirstUnproved [] (0 + length h.done) (c ∷ cs) (Missing p.next) = inl (ap Missing is) in
    let all = unproved_behind 0 taken [] h.done (c ∷ cs) (Missing p.next) h.proved first in
    inl (subst (λ l. IsFirstUnproved taken 0 l (Missing p.next)) (sym (conditions_done_due d taken p (c ∷ cs) h due)) (subst (λ l. IsFirstUnproved l 0 (h.done ++ c ∷ cs) (Missing p.next)) (append-nil taken) all))

pub nothing_extra : (n j : ℕ) → IsExtra n [] j → ⊥
nothing_extra n j x = let f : None ≡ Some x.proof = x.stands in cc

pub all_in_turn : (d : Development) (taken : List Entry) (p : Walk) → IsInTurn d taken p → conditions_due d p ≡ [] → CountsAll taken (conditions d) (Ok p.next)
all_in_turn d taken p h due =
    let all = conditions_done_due d taken p [] h due in
    let before = h.count in
    let size = ap length all ∙ ap length (append-nil h.done) in
    let is : length (conditions d) ≡ 0 + length h.done = omega (arith, size) in
    let proved = proved_behind 0 taken [] h.done [] h.proved tt in (
      omega (arith, before, size),
      (
        subst (AreProved taken 0) (sym all) (subst (λ l. AreProved l 0 (h.done ++ [])) (append-nil taken) proved),
        λ j x. nothing_extra (length (conditions d)) j (extra_behind 0 (length (conditions d)) taken [] h.done j h.proved is (subst (λ l. IsExtra (length (conditions d)) l j) (sym (append-nil taken)) x)),
      ),
    )

-- ---- what is reported so far

pub none_of : (o : Option Refusal) → false ≡ is_some o → o ≡ None
none_of None h = refl
none_of (Some r) h = absurd (let f : false ≡ true = h in cc)

pub none_if : (o : Option Refusal) → ((r : Refusal) → o ≡ Some r → ⊥) → o ≡ None
none_if None h = refl
none_if (Some r) h = absurd (h r refl)

pub untold_in_turn : (d : Development) (taken : List Entry) (p : Progress) → p.told ≡ None → IsProgress d taken p → IsInTurn d taken p.walk
untold_in_turn d taken p is h = subst (IsProgressTelling d taken p.walk) is h

pub told_so : (d : Development) (taken : List Entry) (p : Progress) (r : Refusal) → p.told ≡ Some r → IsProgress d taken p → IsCertain d taken r
told_so d taken p r is h = subst (IsProgressTelling d taken p.walk) is h

still_told : (d : Development) (taken es : List Entry) (w : Walk) (o : Option Refusal) → true ≡ is_some o → IsProgressTelling d taken w o → IsProgressTelling d (taken ++ es) w o
still_told d taken es w None h told = absurd (let f : true ≡ false = h in cc)
still_told d taken es w (Some r) h told = certain_on d taken es r told

pub told_on : (d : Development) (taken es : List Entry) (p : Progress) → true ≡ is_some p.told → IsProgress d taken p → IsProgress d (taken ++ es) p
told_on d taken es p h told = still_told d taken es p.walk p.told h told

-- ---- if a condition is expected

pub missing_at : (d : Development) (taken : List Entry) (p : Walk) (e : Entry) → HasNext p → IsInTurn d taken p → (e.number ≡ p.next → ⊥) → IsCertain d (taken ++ e ∷ []) (Missing p.next)
missing_at d taken p e lt h other =
    let (x, rest, is) = some_left p.part.items p.place lt in
    missing_certain d taken p (condition_in p.terms x) (due_behind d p.terms rest p) e h (next_due d p x rest is) other

pub missing_at_last : (d : Development) (taken : List Entry) (p : Walk) → HasNext p → IsInTurn d taken p → IsProofRefusal taken (conditions d) (Missing p.next)
missing_at_last d taken p lt h =
    let (x, rest, is) = some_left p.part.items p.place lt in
    missing_last d taken p (condition_in p.terms x) (due_behind d p.terms rest p) h (next_due d p x rest is)

-- ---- where it went on

pub on_ok : {A E : Type 0} (result : Result A E) (P Q : Type 0) → (P → Q) → OnOk result P → OnOk result Q
on_ok (Ok x) P Q f h = f h
on_ok (Err e) P Q f h = tt

-- the last of proofs that have few steps
pub last_few : (taken : List Entry) (e : Entry) → HaveFewSteps (taken ++ e ∷ []) → size e.proof ≤ file_limit
last_few taken e h = (Every_right (λ (x : Entry). size x.proof ≤ file_limit) taken (e ∷ []) h).0
