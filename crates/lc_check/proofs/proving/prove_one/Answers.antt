use Rattle.std.proofs.Common.{Err, sym, subst}
use Rattle.lc_kernel.specs.View.{proof_of}
use Rattle.lc_cond.specs.ConditionView.{condition_in}
use Rattle.lc_check.proofs.Stepping.{not_proved}
use Rattle.lc_check.specs.Answers.{ProvesOne}
use Rattle.lc_check.proofs.proving.prove_one.Goals as goal

pub returns-in-Err-clause-exactly : goal.returns-in-Err-clause-exactly
returns-in-Err-clause-exactly c =
    let seen = condition_in c.args.terms.now c.args.condition.now in
    let proof = proof_of c.args.proof.now in
    subst (λ f. ProvesOne c.args.number seen proof (Err f)) (sym c.fault_of.ensures) (not_proved c.args.number seen proof c.in-Err.fault c.in-Err.ensures.exactly)
