-- A line that is laid out.
use Rattle.std.proofs.Common.{◌≡◌, ℕ, List, Result, Ok, Err, IfOk, Vec, ap, subst, ◌∙◌, inl}
use Rattle.std.specs.declared.alloc.Global.{Global}
use Rattle.lc_base.specs.declared.memory.OutOfMemory.{OutOfMemory}
use Rattle.lc_base.specs.declared.refusal.Fault.TheVariants.{Refused}
use Rattle.lc_base.specs.declared.refusal.Refusal.{Refusal}
use Rattle.lc_base.specs.declared.refusal.Refusal.TheVariants as R
use Rattle.lc_layout.specs.Layout.{laid_out}
use Rattle.lc_sexp.proofs.Faults.{no_fault_lem}
use Rattle.lc_sexp.specs.Answers.{IsTextFault}
use Rattle.lc_sexp.specs.Reads.{ReadsAs, IsFirstFault}
use Rattle.lc_sexp.specs.Trees.{Trees}
use Rattle.lc_cond_text.specs.Shown.{IsLaidLine}

-- its forms are
pub laid_forms : (line seen : List ℕ) (forms rest : Trees) (r : Result (Vec ℕ Global) OutOfMemory) → ReadsAs seen forms → seen ≡ line → rest ≡ forms
    → IfOk r (λ text. text.items ≡ laid_out rest) → IfOk r (λ text. IsLaidLine line text.items)
laid_forms line seen forms rest (Err memory) reads same all is = tt
laid_forms line seen forms rest (Ok text) reads same all is = inl (forms, subst (λ b. ReadsAs b forms) same reads, is ∙ ap laid_out all)

-- if its text is wrong, it has none
pub no_forms : (line seen : List ℕ) (refusal : Refusal) → IsTextFault (Refused refusal) (IsFirstFault seen) → seen ≡ line → (forms : Trees) → ReadsAs line forms → ⊥
no_forms line seen (R.Text offset) fault same = λ forms reads. no_fault_lem line forms offset reads (subst (λ b. IsFirstFault b offset) same fault)
no_forms line seen _ fault same = absurd fault
