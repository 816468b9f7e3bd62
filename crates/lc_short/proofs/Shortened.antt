-- A file says one short development or has one first refusal, and never both.
use Rattle.std.proofs.Common.{◌≡◌, ℕ, ◌⊎◌, inl, inr, List, [], Ok, Err, refl, sym, ap, ◌∙◌, subst}
use Rattle.std.specs.Prelude.{Result}
use Rattle.lc_base.specs.declared.refusal.Fault.{Fault}
use Rattle.lc_base.specs.declared.refusal.Fault.TheVariants.{Refused, OutOfMemory}
use Rattle.lc_base.specs.declared.refusal.Refusal.{Refusal}
use Rattle.std.specs.Result.{IsErrAnd}
use Rattle.lc_base.specs.declared.refusal.Refusal.TheVariants as R
use Rattle.lc_sexp.specs.Answers.{IsTextFault}
use Rattle.lc_sexp.specs.Reads.{IsFirstFault}
use Rattle.lc_sexp.proofs.Faults.{no_fault_lem}
use Rattle.lc_sexp.proofs.Unique.{one_reading_lem}
use Rattle.lc_sexp.specs.Reads.{ReadsAs}
use Rattle.lc_sexp.specs.Trees.{Trees}
use Rattle.lc_reading.specs.Files.{Says, IsFirstRefusal}
use Rattle.lc_reading.proofs.Files.{says_or_refused, says_not_refused, says_one, refused_once}
use Rattle.lc_outline.specs.Development.{Development}
use Rattle.lc_outline_text.specs.Developments.{file_reading}
use Rattle.lc_fill.specs.Files.{file_filled}
use Rattle.lc_fill.specs.Plan.{no_plan}
use Rattle.lc_short.specs.Answers.{IsShortAnswer, IsFilledAnswer}
use Rattle.lc_fill.specs.Plan.{Plan}
use Rattle.lc_outline.specs.DevelopmentView.{development_view}
use Rattle.lc_reading.specs.Files.{IsAnswerTo}
use Rattle.lc_short.specs.Completing.{IsCompleted}
use Rattle.lc_short.specs.Shorts.{Short, SaysShort, IsShortRefusal, planned_text, whole_text, at_meant}
use Rattle.lc_short.specs.declared.short.Short as C

-- ---- a development is a short one

pub left_as_it_is : (bytes : List ℕ) (d : Development) → Says file_reading bytes d → SaysShort bytes (record { whole = d; lacking = [] })
left_as_it_is bytes d says = inl (says, refl)

pub and_no_other : (bytes : List ℕ) (d : Development) (s : Short) → Says file_reading bytes d → SaysShort bytes s → (s.whole ≡ d) × (s.lacking ≡ [])
and_no_other bytes d s says (inl (other, lacks)) = (says_one file_reading bytes s.whole d other says, lacks)
and_no_other bytes d s says (inr (r, refused, filled)) = absurd (says_not_refused file_reading bytes d r says refused)

-- ---- one of both

filled_or : (bytes : List ℕ) (ts : Trees) (p : Refusal) → ReadsAs bytes ts → IsFirstRefusal file_reading bytes p
    → ((d : Development) × Says file_reading (whole_text ts) d) ⊎ ((q : Refusal) × IsFirstRefusal file_reading (whole_text ts) q)
    → ((s : Short) × SaysShort bytes s) ⊎ ((r : Refusal) × IsShortRefusal bytes r)
filled_or bytes ts p reads refused (inl (d, says)) = inl (record { whole = d; lacking = (file_filled no_plan ts).lacking }, inr (p, refused, (ts, reads, says, refl)))
filled_or bytes ts p reads refused (inr (q, bad)) = inr (at_meant (file_filled no_plan ts).gaps q, inr (p, refused, (ts, q, reads, bad, refl)))

refused_or : (bytes : List ℕ) (p : Refusal) → IsFirstRefusal file_reading bytes p → ((s : Short) × SaysShort bytes s) ⊎ ((r : Refusal) × IsShortRefusal bytes r)
refused_or bytes p (inl text) = inr (p, inl text)
refused_or bytes p (inr (ts, f, reads, flaw, e)) = filled_or bytes ts p reads (inr (ts, f, reads, flaw, e)) (says_or_refused file_reading (whole_text ts))

said_or : (bytes : List ℕ) → ((d : Development) × Says file_reading bytes d) ⊎ ((p : Refusal) × IsFirstRefusal file_reading bytes p)
    → ((s : Short) × SaysShort bytes s) ⊎ ((r : Refusal) × IsShortRefusal bytes r)
said_or bytes (inl (d, says)) = inl (record { whole = d; lacking = [] }, inl (says, refl))
said_or bytes (inr (p, refused)) = refused_or bytes p refused

pub one_of_both : (bytes : List ℕ) → ((s : Short) × SaysShort bytes s) ⊎ ((r : Refusal) × IsShortRefusal bytes r)
one_of_both bytes = said_or bytes (says_or_refused file_reading bytes)

pub never_both : (bytes : List ℕ) (s : Short) (r : Refusal) → SaysShort bytes s → IsShortRefusal bytes r → ⊥
never_both bytes s r (inl (says, lacks)) (inl text) = says_not_refused file_reading bytes s.whole r says (inl text)
never_both bytes s r (inl (says, lacks)) (inr (p, refused, filled)) = says_not_refused file_reading bytes s.whole p says refused
never_both bytes s r (inr (p, refused, (ts, reads, says, lacks))) (inl (offset, e, fault)) = no_fault_lem bytes ts offset reads fault
never_both bytes s r (inr (p, refused, (ts, reads, says, lacks))) (inr (q, refused', (us, v, other, bad, e))) =
    says_not_refused file_reading (whole_text ts) s.whole v says (subst (λ xs. IsFirstRefusal file_reading (whole_text xs) v) (one_reading_lem bytes us ts other reads) bad)

same_filled : (bytes : List ℕ) (ts us : Trees) (p q r s : Refusal) → us ≡ ts → IsFirstRefusal file_reading (whole_text ts) p → IsFirstRefusal file_reading (whole_text us) q
    → r ≡ at_meant (file_filled no_plan ts).gaps p → s ≡ at_meant (file_filled no_plan us).gaps q → r ≡ s
same_filled bytes ts us p q r s same bad bad' e e' =
    let one = refused_once file_reading (whole_text ts) p q bad (subst (λ xs. IsFirstRefusal file_reading (whole_text xs) q) same bad') in
    e ∙ ap (at_meant (file_filled no_plan ts).gaps) one ∙ ap (λ xs. at_meant (file_filled no_plan xs).gaps q) (sym same) ∙ sym e'

pub one_refusal : (bytes : List ℕ) (r s : Refusal) → IsShortRefusal bytes r → IsShortRefusal bytes s → r ≡ s
one_refusal bytes r s (inl text) (inl other) = refused_once file_reading bytes r s (inl text) (inl other)
one_refusal bytes r s (inl (offset, e, fault)) (inr (q, refused, (us, v, other, bad, e'))) = absurd (no_fault_lem bytes us offset other fault)
one_refusal bytes r s (inr (p, refused, (ts, v, reads, bad, e))) (inl (offset, e', fault)) = absurd (no_fault_lem bytes ts offset reads fault)
one_refusal bytes r s (inr (p, refused, (ts, v, reads, bad, e))) (inr (q, refused', (us, w, other, bad', e'))) =
    same_filled bytes ts us v w r s (one_reading_lem bytes us ts other reads) bad bad' e e'

-- ---- the answers

pub filled_answer : (bytes : List ℕ) (ts : Trees) (p : Refusal) (result : Result C.Short Fault) → ReadsAs bytes ts → IsFirstRefusal file_reading bytes p → IsFilledAnswer ts result → IsShortAnswer bytes result
filled_answer bytes ts p (Ok short) reads refused (says, lacks) = inr (p, refused, (ts, reads, says, lacks))
filled_answer bytes ts p (Err (Refused r)) reads refused (q, bad, e) = inr (p, refused, (ts, q, reads, bad, e))
filled_answer bytes ts p (Err OutOfMemory) reads refused h = tt

-- a fault of the text
text_told : (bytes : List ℕ) (fault : Fault) → IsTextFault fault (IsFirstFault bytes) → IsShortAnswer bytes (Err fault)
text_told bytes OutOfMemory h = tt
text_told bytes (Refused (R.Text offset)) h = inl (offset, refl, h)
text_told bytes (Refused _) h = absurd h

pub text_answer : (bytes : List ℕ) (fault : Fault) (result : Result C.Short Fault) → IsTextFault fault (IsFirstFault bytes) → IsErrAnd result (λ f. f ≡ fault) → IsShortAnswer bytes result
text_answer bytes fault (Ok short) h told = absurd told
text_answer bytes fault (Err f) h told = let same : f ≡ fault = told in rw same (text_told bytes fault h)

-- no development is read of what is planned
pub not_completed : (bytes : List ℕ) (plan : Plan) (ts : Trees) (text : List ℕ) (fault : Fault) → text ≡ planned_text plan ts → IsAnswerTo development_view file_reading text (Err fault)
    → IsCompleted bytes plan ts (Err fault)
not_completed bytes plan ts text (Refused r) e h = subst (λ s. IsFirstRefusal file_reading s r) e h
not_completed bytes plan ts text OutOfMemory e h = tt
