-- Proofs that are carried have few steps.
use Rattle.std.proofs.Common.{◌≡◌, ℕ, suc, ◌≤◌, Bool, true, false, cond, List, [], ◌∷◌, Option, Some, None, option_map, sym, ap, ◌∙◌, subst}
use Rattle.std.specs.Prelude.{◌==◌}
use Rattle.lc_base.specs.Limits.{file_limit}
use Rattle.lc_carry.specs.Carried.{renamed_at, carried_proof, column_between, least_number, entry_for, carried_from, carried}
use Rattle.lc_cert.specs.Certificates.{Entry, proof_at, HaveFewSteps}
use Rattle.lc_cond.specs.Conditions.{Condition, conditions}
use Rattle.lc_cond_text.specs.ConditionText.{statement_text}
use Rattle.lc_kernel.specs.Proofs.{Proof, size}
use Rattle.lc_outline.specs.Development.{Development}
use Rattle.lc_carry.proofs.Branches.{same_size}
use Rattle.lc_carry.specs.RenamedProofs.{renamed}
use Rattle.lc_term.proofs.Stores.{Every-append}

pub few_first : (e : Entry) (es : List Entry) (k : ℕ) (p : Proof) → size e.proof ≤ file_limit → (proof_at es k ≡ Some p → size p ≤ file_limit) → (b : Bool) → cond b (Some e.proof) (proof_at es k) ≡ Some p → size p ≤ file_limit
few_first e es k p h later true at =
    let found : Some e.proof ≡ Some p = at in
    let proof : e.proof ≡ p = cc in
    subst (λ q. size q ≤ file_limit) proof h
few_first e es k p h later false at = later at

pub few_at : (es : List Entry) (k : ℕ) (p : Proof) → HaveFewSteps es → proof_at es k ≡ Some p → size p ≤ file_limit
few_at [] k p h at = absurd (let none : None ≡ Some p = at in cc)
few_at (e ∷ es) k p h at = few_first e es k p h.0 (few_at es k p h.1) (e.number == k) at

few_mapped : (to : ℕ → Option ℕ) (o : Option Proof) (p : Proof) → ((q : Proof) → o ≡ Some q → size q ≤ file_limit) → option_map (renamed to) o ≡ Some p → size p ≤ file_limit
few_mapped to None p h at = absurd (let none : None ≡ Some p = at in cc)
few_mapped to (Some q) p h at =
    let found : Some (renamed to q) ≡ Some p = at in
    let same : renamed to q ≡ p = cc in
    subst (λ n. n ≤ file_limit) (sym (same_size to q) ∙ ap size same) (h q (λ i. Some q))

few_renamed : (to : ℕ → Option ℕ) (es : List Entry) (number : Option ℕ) (p : Proof) → HaveFewSteps es → renamed_at to es number ≡ Some p → size p ≤ file_limit
few_renamed to es None p h at = absurd (let none : None ≡ Some p = at in cc)
few_renamed to es (Some j) p h at = few_mapped to (proof_at es j) p (λ q. few_at es j q h) at

few_one : (k : ℕ) (o : Option Proof) → ((p : Proof) → o ≡ Some p → size p ≤ file_limit) → HaveFewSteps (entry_for k o)
few_one k None h = tt
few_one k (Some p) h = (h p (λ i. Some p), tt)

few_from : (E : Development) (f : List ℕ → Option Proof) (k : ℕ) (cs : List Condition) → ((t : List ℕ) (p : Proof) → f t ≡ Some p → size p ≤ file_limit) → HaveFewSteps (carried_from E f k cs)
few_from E f k [] h = tt
few_from E f k (c ∷ cs) h =
    Every-append (λ (e : Entry). size e.proof ≤ file_limit) (entry_for k (f (statement_text E c))) (carried_from E f (suc k) cs) (few_one k (f (statement_text E c)) (h (statement_text E c))) (few_from E f (suc k) cs h)

pub few_carried : (D : Development) (es : List Entry) (E : Development) → HaveFewSteps es → HaveFewSteps (carried D es E)
few_carried D es E h =
    few_from E (carried_proof D es E) 0 (conditions E) (λ t p at. few_renamed (column_between D E) es (least_number D es (column_between D E) t 0 (conditions D)) p h at)
