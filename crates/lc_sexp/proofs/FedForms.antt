-- A reader of forms that is fed bytes.
use Rattle.std.proofs.Common.{◌≡◌, ℕ, false, List, [], ◌++◌, Option, Some, None, Result, Ok, Err, sym, ap, ◌∙◌, append-nil, IfOk, IfErr, OnOk, vec_len}
use Rattle.lc_base.specs.declared.refusal.Fault.{Fault}
use Rattle.lc_sexp.specs.Trees.{Trees, tokens_of_all}
use Rattle.lc_sexp.specs.Text.{uncommented, lexed}
use Rattle.lc_sexp.specs.Reads.{IsFirstFault}
use Rattle.lc_sexp.specs.Progress.{told, fault_from}
use Rattle.lc_sexp.specs.Answers.{IsTextFault, IsAnswerTo}
use Rattle.lc_sexp.specs.Pieces.{HasTaken}
use Rattle.lc_sexp.specs.declared.machine.Machine.{Machine}
use Rattle.lc_sexp.proofs.Answered.{IsFresh, fresh_tokens, fresh_fault, IsTextFault-weaker}
use Rattle.lc_sexp.proofs.Faults.{found_fault, found_trees}

-- nothing was taken
pub taken_none : (m : Machine) → IsFresh m → HasTaken None m []
taken_none m h = (λ rest. fresh_tokens m rest h, λ rest. fresh_fault m rest h)

whole : (fed : List ℕ) → fault_from 0 0 (uncommented false (fed ++ [])) ≡ fault_from 0 0 (uncommented false fed)
whole fed = ap (λ x. fault_from 0 0 (uncommented false x)) (append-nil fed)

-- the fault that was found is the first
pub fault_answer : (fed : List ℕ) (m : Machine) (fault : Option ℕ) (offset : ℕ) → fault ≡ Some offset → HasTaken fault m fed → IsFirstFault fed offset
fault_answer fed m None offset e h = absurd (cc)
fault_answer fed m (Some o) offset e h = let same : o ≡ offset = cc in found_fault fed offset (sym (whole fed) ∙ h [] ∙ ap Some same)

-- what the machine answers at the end
end_answer : (fed : List ℕ) (m : Machine) (x : Result Trees Fault) → HasTaken None m fed
    → IfOk x (λ v. tokens_of_all v ≡ told m.text.items m.start m.nodes.items [])
    → OnOk x (fault_from m.offset (vec_len m.holes) [] ≡ None)
    → IfErr x (λ z. IsTextFault z (λ o. fault_from m.offset (vec_len m.holes) [] ≡ Some o))
    → IsAnswerTo fed x
end_answer fed m (Ok v) (tokens, fault) t f z =
    found_trees fed v (t ∙ tokens [] ∙ ap (λ x. lexed (uncommented false x)) (append-nil fed)) (sym (whole fed) ∙ sym (fault []) ∙ f)
end_answer fed m (Err e) (tokens, fault) t f z =
    IsTextFault-weaker _ (IsFirstFault fed) (λ o g. found_fault fed o (sym (whole fed) ∙ sym (fault []) ∙ g)) e z

pub forms_answer : (fed : List ℕ) (m : Machine) (fault : Option ℕ) (x : Result Trees Fault) → fault ≡ None → HasTaken fault m fed
    → IfOk x (λ v. tokens_of_all v ≡ told m.text.items m.start m.nodes.items [])
    → OnOk x (fault_from m.offset (vec_len m.holes) [] ≡ None)
    → IfErr x (λ z. IsTextFault z (λ o. fault_from m.offset (vec_len m.holes) [] ≡ Some o))
    → IsAnswerTo fed x
forms_answer fed m None x e h t f z = end_answer fed m x h t f z
forms_answer fed m (Some o) x e h t f z = absurd (cc)
