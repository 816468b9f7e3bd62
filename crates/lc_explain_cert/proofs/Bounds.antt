-- Conditions of a part: each is in the table, uses the variables that it counts, and they are few.
use Rattle.std.proofs.Common.{◌≡◌, ℕ, zero, suc, ◌+◌, ◌<◌, ◌≤◌, ◌==◌, cond, Bool, true, false, List, [], ◌∷◌, map, length, get_or, slice_get, Option, Some, None, IfSome, option_map, refl, sym, ap, ◌∙◌, subst, arith}
use Rattle.std.specs.Borrow.{Bor}
use Rattle.lc_base.specs.Limits.{file_limit}
use Rattle.lc_cert.specs.Certificates.{Entry, HaveFewSteps, proof_at}
use Rattle.lc_check.proofs.Walking.{all_bounded}
use Rattle.lc_check.specs.Answers.{IsBounded}
use Rattle.lc_cond.specs.Conditions as S
use Rattle.lc_cond.specs.Conditions.{conditions}
use Rattle.lc_cond.specs.ConditionView.{condition_in, AreConditions, IsCondition}
use Rattle.lc_cond.specs.Numbering.{StandFrom}
use Rattle.lc_cond.specs.Uses.{UsesItsVariables}
use Rattle.lc_cond.specs.VariableCounts.{HasFewVariables}
use Rattle.lc_cond.specs.declared.condition.Condition.{Condition}
use Rattle.lc_kernel.specs.Proofs as P
use Rattle.lc_kernel.specs.Proofs.{size}
use Rattle.lc_kernel.specs.View.{proof_of}
use Rattle.lc_kernel.specs.declared.proof.Proof.{Proof}
use Rattle.lc_outline.specs.Development.{Development}
use Rattle.lc_table.specs.NodeTables.{Table}
use Rattle.lc_table.specs.Tables.{Keeps}
use Rattle.lc_term.specs.Lists.{Every}
use Rattle.lc_cond.proofs.Adding.{are_later, condition_still}
use Rattle.lc_cond.proofs.Sized.{every_at}

-- ---- what holds of each holds of the one at a place

at_place : {X : Type 0} (P : X → Type 0) (xs : List X) (i : ℕ) (x : X) → Every P xs → i < length xs → x ≡ get_or xs i x → P x
at_place P [] i x all lt is = absurd (omega (arith, lt))
at_place P (y ∷ xs) zero x all lt is = subst P (sym is) all.0
at_place P (y ∷ xs) (suc i) x all lt is = at_place P xs i x all.1 (omega (arith, lt)) is

seen_at : (ts : Table) (cs : List Condition) (i : ℕ) (c : Condition) → Every IsBounded (map (condition_in ts) cs) → i < length cs → c ≡ get_or cs i c → IsBounded (condition_in ts c)
seen_at ts [] i c all lt is = absurd (omega (arith, lt))
seen_at ts (d ∷ cs) zero c all lt is = subst (λ x. IsBounded (condition_in ts x)) (sym is) all.0
seen_at ts (d ∷ cs) (suc i) c all lt is = seen_at ts cs i c all.1 (omega (arith, lt)) is

-- ---- those of a part

from_place : (n : ℕ) (xs all : List S.Condition) → Every IsBounded all → StandFrom n xs all → Every IsBounded xs
from_place n [] all bounded stand = tt
from_place n (x ∷ xs) all bounded stand = (
  every_at IsBounded all (n + 0) x bounded (stand 0 x refl),
  from_place (suc n) xs all bounded (λ j y is. ap (slice_get all) (omega arith) ∙ stand (suc j) y is),
)

pub part_bounded : (D : Development) (n : ℕ) (xs : List S.Condition) → Every UsesItsVariables (conditions D) → Every HasFewVariables (conditions D) → StandFrom n xs (conditions D) → Every IsBounded xs
part_bounded D n xs uses few stand = from_place n xs (conditions D) (all_bounded (conditions D) uses few) stand

pub one_known : (old new : Table) (cs : List Condition) (i : ℕ) (c : Condition) → AreConditions old cs → Keeps old new → i < length cs → c ≡ get_or cs i c → IsCondition new c
one_known old new cs i c are kept lt is = at_place (IsCondition new) cs i c (are_later old new cs are kept) lt is

pub one_bounded : (old new : Table) (cs : List Condition) (i : ℕ) (c : Condition) → AreConditions old cs → Keeps old new → Every IsBounded (map (condition_in old) cs) → i < length cs → c ≡ get_or cs i c
    → IsBounded (condition_in new c)
one_bounded old new cs i c are kept all lt is =
    subst IsBounded (sym (condition_still old new c (at_place (IsCondition old) cs i c are lt is) kept)) (seen_at old cs i c all lt is)

-- ---- proofs of a certificate

few_first : (e : Entry) (es : List Entry) (k : ℕ) (p : P.Proof) → size e.proof ≤ file_limit → (proof_at es k ≡ Some p → size p ≤ file_limit) → (b : Bool) → cond b (Some e.proof) (proof_at es k) ≡ Some p → size p ≤ file_limit
few_first e es k p h later true at =
    let found : Some e.proof ≡ Some p = at in
    let same : e.proof ≡ p = cc in
    subst (λ q. size q ≤ file_limit) same h
few_first e es k p h later false at = later at

few_at : (es : List Entry) (k : ℕ) (p : P.Proof) → HaveFewSteps es → proof_at es k ≡ Some p → size p ≤ file_limit
few_at [] k p h at = cc
few_at (e ∷ es) k p h at = few_first e es k p h.0 (few_at es k p h.1) (e.number == k) at

pub few_found : (es : List Entry) (k : ℕ) (found : Option (Bor Proof)) → HaveFewSteps es → option_map (λ p. proof_of p.now) found ≡ proof_at es k → IfSome found (λ p. size (proof_of p.now) ≤ file_limit)
few_found es k None few is = tt
few_found es k (Some p) few is = few_at es k (proof_of p.now) few (sym is)
