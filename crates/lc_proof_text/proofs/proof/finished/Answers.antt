use Rattle.std.proofs.Common.{◌≡◌, rules}
use Rattle.std.specs.Prelude.{Result, Vec}
use Rattle.std.specs.declared.alloc.Global.{Global}
use Rattle.lc_kernel.specs.Proofs as S
use Rattle.lc_kernel.specs.View.{step_of, proof_of}
use Rattle.lc_kernel.specs.declared.proof.Proof.{Proof as SeenProof, the_lemmas}
use Rattle.lc_kernel.specs.declared.proof.Step.{Step}
use Rattle.lc_reading.proofs.Combined.{both_read, ok_arm, err_arm}
use Rattle.lc_reading.specs.Readings.{Reading, both}
use Rattle.lc_reading.specs.Results.{IsReading, both_results}
use Rattle.lc_reading.specs.declared.flaw.ReadFault.{ReadFault}
use Rattle.lc_proof_text.specs.Own.{branches_of}
use Rattle.lc_proof_text.proofs.proof.finished.Goals as goal

together : (r : Reading S.Step) (s : Reading S.Proofs) (a : Result Step ReadFault) (b : Result (Vec SeenProof Global) ReadFault) (c : Result (Step × Vec SeenProof Global) ReadFault)
    → IsReading step_of r a → IsReading branches_of s b → c ≡ both_results a b → IsReading (λ (p : Step × Vec SeenProof Global). S.proof (step_of p.0) (branches_of p.1)) (both S.proof r s) c
together r s a b c own proofs e = rw e (both_read step_of branches_of S.proof r s a b own proofs)

pub returns-in_err-step : goal.returns-in_err-step
returns-in_err-step c = λ r s own proofs. err_arm _ proof_of _ _ _ _ (together r s c.args.step c.args.branches c.both.result own proofs c.both.ensures) c.in_err-step.was c.from_residual.ensures.1

pub returns : goal.returns
returns c = λ r s own proofs. let h = ok_arm _ _ _ _ (together r s c.args.step c.args.branches c.both.result own proofs c.both.ensures) c.in_ok-step.was in search (rules, the_lemmas, h)
