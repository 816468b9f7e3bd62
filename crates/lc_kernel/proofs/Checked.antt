-- What is said of a proof, by what is said of its step and of the proofs of its branches.
use Rattle.std.specs.Prelude.{◌≡◌, ℕ, suc, ◌+◌, List, [], ◌∷◌, ◌++◌, length, Result, Ok, Err, Vec}
use Rattle.std.proofs.Common.{refl, sym, ap, subst, ◌∙◌, arith, rules}
use Rattle.lc_term.specs.Syntax as S
use Rattle.lc_table.specs.NodeTables.{Table}
use Rattle.lc_table.specs.Tables.{formulas_in, AreFormulas, Keeps}
use Rattle.lc_table.specs.declared.node.FormulaId.{FormulaId}
use Rattle.lc_table.proofs.Later.{formulas_still}
use Rattle.lc_kernel.specs.Answers.{Meets, Checks, ChecksEach, Proves, fault_at}
use Rattle.lc_kernel.specs.Derivation.{derives, Fails, fails_here, fails_below}
use Rattle.lc_kernel.specs.Proofs as P
use Rattle.lc_kernel.specs.Proofs.{Step, Proofs, proof, proofs, proof_count}
use Rattle.lc_kernel.specs.Table.{opens, Gives}
use Rattle.lc_kernel.specs.View.{step_of, proof_of, proofs_of}
use Rattle.std.specs.declared.alloc.Global.{Global}
use Rattle.lc_kernel.specs.declared.proof.Step.{Step as CodeStep}
use Rattle.lc_kernel.specs.declared.proof.Proof.{Proof, out-Proof, roll-Proof, the_lemmas}
use Rattle.lc_kernel.specs.declared.fault.ProofFault.{ProofFault}
use Rattle.lc_kernel.specs.declared.fault.ProofFault.TheVariants.{Bad as NotHolding, Large as TooLarge, OutOfMemory as NoMore}
use Rattle.lc_kernel.specs.declared.fault.StepFault.{StepFault}
use Rattle.lc_kernel.specs.declared.fault.StepFault.TheVariants.{Flawed, OutOfMemory}
use Rattle.lc_kernel.specs.declared.reason.Flaw.TheVariants.{Bad, Large}

pub proof_of-proof : (p : Proof) → proof_of p ≡ proof (step_of (out-Proof p).step) (proofs (proofs_of (out-Proof p).branches.items))
proof_of-proof p = search (rules, the_lemmas)

-- a step and branches, put together
pub proof_of-made : (s : CodeStep) (bs : Vec Proof Global) → proof_of (roll-Proof (record { step = s; branches = bs })) ≡ proof (step_of s) (proofs (proofs_of bs.items))
proof_of-made s bs = search (rules, the_lemmas)

flawed : (new : Table) (v : ℕ) (H : List S.Formula) (s : Step) (ps : Proofs) (first : ℕ) (fault : StepFault) → Meets new (Gives v H (proof_count ps) s) (Err fault) → Checks v H (proof s ps) first (Err (fault_at first fault))
flawed new v H s ps first (Flawed (Bad reason)) h = (0, omega arith, fails_here h)
flawed new v H s ps first (Flawed Large) h = (0, omega arith, fails_here h)
flawed new v H s ps first OutOfMemory h = tt

pub child_count : (ps : List Proof) → proof_count (proofs (proofs_of ps)) ≡ length ps
child_count [] = refl
child_count (p ∷ ps) = ap suc (child_count ps)

opened : (v w : ℕ) (H : List S.Formula) (s : Step) (bs : List (List S.Formula)) (ps : Proofs) (first : ℕ) (r : Result ℕ ProofFault) →
    Gives v H (proof_count ps) s (opens w bs) → ChecksEach w H bs ps (first + 1) r → Checks v H (proof s ps) first r
opened v w H s bs ps first (Ok next) gives h = (let e = h.0 in omega arith, derives gives h.1)
opened v w H s bs ps first (Err (NotHolding step reason)) gives h = (suc h.0, let e = h.1 in omega arith, fails_below gives h.2)
opened v w H s bs ps first (Err (TooLarge step)) gives h = (suc h.0, let e = h.1 in omega arith, fails_below gives h.2)
opened v w H s bs ps first (Err NoMore) gives h = tt

-- a proof under hypotheses some of which are appended, by what its step comes to: it is flawed
pub root_flawed : (p : Proof) (old new : Table) (v n first : ℕ) (given own xs : List FormulaId) (fault : StepFault) (at : ProofFault) → xs ≡ own → n ≡ length (out-Proof p).branches.items → at ≡ fault_at first fault →
    Meets new (Gives v (formulas_in old (given ++ xs)) n (step_of (out-Proof p).step)) (Err fault) → Checks v (formulas_in old (given ++ own)) (proof_of p) first (Err at)
root_flawed p old new v n first given own xs fault at same count is h =
    let s = step_of (out-Proof p).step in
    let H = formulas_in old (given ++ own) in
    let here = subst (λ m. Meets new (Gives v H m s) (Err fault)) (count ∙ sym (child_count (out-Proof p).branches.items)) (subst (λ ks. Meets new (Gives v (formulas_in old (given ++ ks)) n s) (Err fault)) same h) in
    subst (λ q. Checks v H q first (Err at)) (sym (proof_of-proof p))
    (subst (λ e. Checks v H (proof s (proofs (proofs_of (out-Proof p).branches.items))) first (Err e)) (sym is) (flawed new v H s (proofs (proofs_of (out-Proof p).branches.items)) first fault here))

-- or it opens branches, under hypotheses that a later table keeps
pub root_checks : (p : Proof) (old new : Table) (v w n first : ℕ) (given own xs : List FormulaId) (bs : List (List S.Formula)) (children : List Proof) (r : Result ℕ ProofFault) →
    xs ≡ own → n ≡ length (out-Proof p).branches.items → children ≡ (out-Proof p).branches.items → AreFormulas old (given ++ own) → Keeps old new →
    Gives v (formulas_in old (given ++ xs)) n (step_of (out-Proof p).step) (opens w bs) → ChecksEach w (formulas_in new (given ++ own)) bs (proofs (proofs_of children)) (first + 1) r →
    Checks v (formulas_in old (given ++ own)) (proof_of p) first r
root_checks p old new v w n first given own xs bs children r same count all are kept gives each =
    let s = step_of (out-Proof p).step in
    let ps = proofs (proofs_of (out-Proof p).branches.items) in
    let H = formulas_in old (given ++ own) in
    let here = subst (λ m. Gives v H m s (opens w bs)) (count ∙ sym (child_count (out-Proof p).branches.items)) (subst (λ ks. Gives v (formulas_in old (given ++ ks)) n s (opens w bs)) same gives) in
    let below = subst (λ G. ChecksEach w G bs ps (first + 1) r) (formulas_still old new (given ++ own) are kept) (subst (λ qs. ChecksEach w (formulas_in new (given ++ own)) bs (proofs (proofs_of qs)) (first + 1) r) all each) in
    subst (λ q. Checks v H q first r) (sym (proof_of-proof p)) (opened v w H s bs ps first r here below)

-- what a flaw in a proof of a contradiction from hypotheses and a negated goal says of a proof of the goal
pub proves_fault : (v : ℕ) (G H : List S.Formula) (g : S.Formula) (p : P.Proof) (fault : ProofFault) → G ≡ H ++ S.Not g ∷ [] → Checks v G p 0 (Err fault) → Proves v H g p (Err fault)
proves_fault v G H g p (NotHolding step reason) same h =
    let here = h.1 in
    let first : h.0 ≡ step = omega arith in
    subst (λ n. Fails v (H ++ S.Not g ∷ []) p n (Bad reason)) first (subst (λ F. Fails v F p h.0 (Bad reason)) same h.2)
proves_fault v G H g p (TooLarge step) same h =
    let here = h.1 in
    let first : h.0 ≡ step = omega arith in
    subst (λ n. Fails v (H ++ S.Not g ∷ []) p n Large) first (subst (λ F. Fails v F p h.0 Large) same h.2)
proves_fault v G H g p NoMore same h = tt
