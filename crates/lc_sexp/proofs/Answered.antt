-- What reading answers, from the tokens and the fault.
use Rattle.std.proofs.Common.{◌≡◌, ◌≤◌, ℕ, false, List, [], ◌++◌, length, Some, None, Result, Ok, Err, sym, ap, ◌∙◌, subst, arith, append-nil, IfOk, IfErr, OnOk, vec_len}
use Rattle.lc_base.specs.declared.refusal.Refusal.TheVariants.{Text}
use Rattle.lc_base.specs.declared.refusal.Fault.{Fault}
use Rattle.lc_base.specs.declared.refusal.Fault.TheVariants.{Refused, OutOfMemory}
use Rattle.lc_sexp.specs.Trees.{Trees, tokens_of_all, item_count_of_all}
use Rattle.lc_sexp.specs.Text.{lexed, uncommented}
use Rattle.lc_sexp.specs.Reads.{ReadsAs, IsFirstFault}
use Rattle.lc_sexp.specs.Progress.{told, fault_from}
use Rattle.lc_sexp.specs.Answers.{IsTextFault, IsAnswerTo, IsAnswerWithout}
use Rattle.lc_sexp.specs.declared.machine.Machine.{Machine}
use Rattle.lc_sexp.proofs.Faults.{found_fault, found_trees}
use Rattle.lc_sexp.proofs.Items.{items_fit_lem}
use Rattle.lc_sexp.proofs.Takings.{without_none}

pub IsTextFault-weaker : (P Q : ℕ → Type 0) → ((o : ℕ) → P o → Q o) → (e : Fault) → IsTextFault e P → IsTextFault e Q
IsTextFault-weaker P Q f OutOfMemory h = tt
IsTextFault-weaker P Q f (Refused (Text o)) h = f o h
IsTextFault-weaker P Q f (Refused _) h = h

-- A machine that has taken nothing.
pub record IsFresh (m : Machine) : Type 0 where
  pub offset : m.offset ≡ 0
  pub outside : m.in_comment ≡ false
  pub holes : m.holes.items ≡ []
  pub nodes : m.nodes.items ≡ []
  pub text : m.text.items ≡ []
  pub start : m.start ≡ 0

pub fresh_tokens : (m : Machine) (bytes : List ℕ) → IsFresh m → told m.text.items m.start m.nodes.items (uncommented m.in_comment bytes) ≡ lexed (uncommented false bytes)
fresh_tokens m bytes h =
    ap (λ t. told t m.start m.nodes.items (uncommented m.in_comment bytes)) h.text
    ∙ ap (λ n. told [] n m.nodes.items (uncommented m.in_comment bytes)) h.start
    ∙ ap (λ ns. told [] 0 ns (uncommented m.in_comment bytes)) h.nodes
    ∙ ap (λ b. lexed (uncommented b bytes)) h.outside

pub fresh_fault : (m : Machine) (bytes : List ℕ) → IsFresh m → fault_from m.offset (vec_len m.holes) (uncommented m.in_comment bytes) ≡ fault_from 0 0 (uncommented false bytes)
fresh_fault m bytes h =
    let none : vec_len m.holes ≡ 0 = omega (arith, m.holes.ok.0, ap length h.holes) in
    ap (λ n. fault_from n (vec_len m.holes) (uncommented m.in_comment bytes)) h.offset
    ∙ ap (λ n. fault_from 0 n (uncommented m.in_comment bytes)) none
    ∙ ap (λ b. fault_from 0 0 (uncommented b bytes)) h.outside

-- a whole text that is misplaced from an offset on
pub whole_wrong : (bytes : List ℕ) (m : Machine) (o : ℕ) → IsFresh m → ((rest : List ℕ) → fault_from m.offset (vec_len m.holes) (uncommented m.in_comment (bytes ++ rest)) ≡ Some o) → IsFirstFault bytes o
whole_wrong bytes m o h wrong =
    found_fault bytes o (ap (λ x. fault_from 0 0 (uncommented false x)) (sym (append-nil bytes)) ∙ sym (fresh_fault m (bytes ++ []) h) ∙ wrong [])

-- a whole text that was taken
pub whole_answer : (bytes : List ℕ) (m m' : Machine) (x : Result Trees Fault) → IsFresh m
    → ((rest : List ℕ) → told m'.text.items m'.start m'.nodes.items (uncommented m'.in_comment rest) ≡ told m.text.items m.start m.nodes.items (uncommented m.in_comment (bytes ++ rest)))
    → ((rest : List ℕ) → fault_from m'.offset (vec_len m'.holes) (uncommented m'.in_comment rest) ≡ fault_from m.offset (vec_len m.holes) (uncommented m.in_comment (bytes ++ rest)))
    → IfOk x (λ v. tokens_of_all v ≡ told m'.text.items m'.start m'.nodes.items [])
    → OnOk x (fault_from m'.offset (vec_len m'.holes) [] ≡ None)
    → IfErr x (λ z. IsTextFault z (λ o. fault_from m'.offset (vec_len m'.holes) [] ≡ Some o))
    → IsAnswerTo bytes x
whole_answer bytes m m' (Ok v) h tells faults t f z =
    found_trees bytes v (t ∙ tells [] ∙ fresh_tokens m (bytes ++ []) h ∙ ap (λ x. lexed (uncommented false x)) (append-nil bytes))
    (ap (λ x. fault_from 0 0 (uncommented false x)) (sym (append-nil bytes)) ∙ sym (fresh_fault m (bytes ++ []) h) ∙ sym (faults []) ∙ f)
whole_answer bytes m m' (Err e) h tells faults t f z =
    IsTextFault-weaker _ (IsFirstFault bytes)
    (λ o g. found_fault bytes o (ap (λ x. fault_from 0 0 (uncommented false x)) (sym (append-nil bytes)) ∙ sym (fresh_fault m (bytes ++ []) h) ∙ sym (faults []) ∙ g)) e z

pub answer_counted : (bytes : List ℕ) (x : Result Trees Fault) → IsAnswerTo bytes x → IfOk x (λ v. item_count_of_all v ≤ length bytes)
answer_counted bytes (Ok v) h = items_fit_lem bytes v h
answer_counted bytes (Err e) h = tt

-- if nothing was taken, the trees are the whole
pub answer_whole : (bytes : List ℕ) (x : Result Trees Fault) → IsAnswerWithout bytes [] x → IsAnswerTo bytes x
answer_whole bytes (Ok v) h = subst (ReadsAs bytes) (sym (h.3 ∙ without_none h.0)) h.1
answer_whole bytes (Err e) h = h
