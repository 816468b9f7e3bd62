-- A formula file has one answer, and what is accepted is true.
use Rattle.std.proofs.Common.{◌≡◌, ℕ, ◌⊎◌, inl, inr, List, Ok, Err, sym, ap, ap₂, ◌∙◌, subst}
use Rattle.lc_base.specs.Line.{refusal_line_of}
use Rattle.lc_base.specs.declared.refusal.Fault.TheVariants.{Refused, OutOfMemory}
use Rattle.lc_base.specs.declared.refusal.Refusal.{Refusal}
use Rattle.lc_kernel.proofs.First.{fails_not_derives, fails_once}
use Rattle.lc_kernel.proofs.Sound.{derived_is_valid}
use Rattle.lc_proof_text.proofs.Founded.{IsFounded, fine_claim_founded, founded_hypotheses}
use Rattle.lc_proof_text.specs.Files.{Claim, file_reading}
use Rattle.lc_reading.proofs.Files.{says_not_refused, says_one, refused_once}
use Rattle.lc_reading.specs.Files.{Says, IsFirstRefusal}
use Rattle.lc_sexp.specs.Trees.{item_count_of_all}
use Rattle.lc_term.specs.Syntax.{parts}
use Rattle.lincheck.specs.Formula.{IsProved, IsTrueClaim, FailsAt, IsProofRefusal, refusal_at, AnswersFormula}

one_flaw : (file : List ℕ) (r s : Refusal) → IsProofRefusal file r → IsProofRefusal file s → r ≡ s
one_flaw file r s (claim, step, flaw, says, fails, is) (claim', step', flaw', says', fails', is') =
    let same : claim' ≡ claim = says_one file_reading file claim' claim says' says in
    let once = fails_once fails (subst (λ (c : Claim). FailsAt c step' flaw') same fails') in
    is ∙ ap₂ refusal_at once.0 once.1 ∙ sym is'

one_told : (file : List ℕ) (r s : Refusal) → IsFirstRefusal file_reading file r ⊎ IsProofRefusal file r → IsFirstRefusal file_reading file s ⊎ IsProofRefusal file s → r ≡ s
one_told file r s (inl h) (inl g) = refused_once file_reading file r s h g
one_told file r s (inl h) (inr (claim, step, flaw, says, fails, is)) = absurd (says_not_refused file_reading file claim r says h)
one_told file r s (inr (claim, step, flaw, says, fails, is)) (inl g) = absurd (says_not_refused file_reading file claim s says g)
one_told file r s (inr h) (inr g) = one_flaw file r s h g

proved_or_refused : (file : List ℕ) (refusal : Refusal) (claim : Claim) → Says file_reading file claim → IsProved claim → IsFirstRefusal file_reading file refusal ⊎ IsProofRefusal file refusal → ⊥
proved_or_refused file refusal claim says proves (inl h) = says_not_refused file_reading file claim refusal says h
proved_or_refused file refusal claim says proves (inr (claim', step, flaw, says', fails, is)) =
    fails_not_derives (subst (λ (c : Claim). FailsAt c step flaw) (says_one file_reading file claim' claim says' says) fails) proves

pub one_answer : (file text text' : List ℕ) (status status' : ℕ) → AnswersFormula file text status → AnswersFormula file text' status' → (text ≡ text') × (status ≡ status')
one_answer file text text' status status' (Ok u, verdict, told) (Ok v, verdict', told') = (told.0 ∙ sym told'.0, told.1 ∙ sym told'.1)
one_answer file text text' status status' (Ok u, verdict, told) (Err (Refused r), verdict', told') = absurd (proved_or_refused file r verdict.0 verdict.1 verdict.2 verdict')
one_answer file text text' status status' (Ok u, verdict, told) (Err OutOfMemory, verdict', told') = absurd told'
one_answer file text text' status status' (Err (Refused r), verdict, told) (Ok v, verdict', told') = absurd (proved_or_refused file r verdict'.0 verdict'.1 verdict'.2 verdict)
one_answer file text text' status status' (Err (Refused r), verdict, told) (Err (Refused s), verdict', told') =
    let same : r ≡ s = one_told file r s verdict verdict' in
    (told.0 ∙ ap refusal_line_of same ∙ sym told'.0, told.1 ∙ sym told'.1)
one_answer file text text' status status' (Err (Refused r), verdict, told) (Err OutOfMemory, verdict', told') = absurd told'
one_answer file text text' status status' (Err OutOfMemory, verdict, told) (verdict', is, told') = absurd told

-- a claim that is read, and whose proof derives it, is true
proved_is_true : (file : List ℕ) (claim : Claim) → Says file_reading file claim → IsProved claim → IsTrueClaim claim
proved_is_true file claim (ts, reads, says) proves =
    let has : IsFounded claim (item_count_of_all ts) = fine_claim_founded ts claim says in
    derived_is_valid claim.variables (parts claim.hypotheses) claim.goal claim.proof proves
    (founded_hypotheses claim (item_count_of_all ts) has)
    (has.goal 0)

pub accepted_is_true : (file text : List ℕ) → AnswersFormula file text 0 → (claim : Claim) × Says file_reading file claim × IsTrueClaim claim
accepted_is_true file text (Ok u, (claim, says, proves), told) = (claim, says, proved_is_true file claim says proves)
accepted_is_true file text (Err (Refused r), verdict, told) = absurd (let e : 0 ≡ 1 = told.1 in cc)
accepted_is_true file text (Err OutOfMemory, verdict, told) = absurd told
