use Rattle.std.proofs.Common.{◌++◌}
use Rattle.std.proofs.lemmas.Result.{IfOk-weaker}
use Rattle.lc_carry.specs.Carried.{carried}
use Rattle.lc_cert.specs.CertificateView.{entries_in}
use Rattle.lc_check.specs.VerdictView.{development_in}
use Rattle.lc_hints.specs.HintView.{proofs_in}
use Rattle.lc_outline.specs.DevelopmentView.{development_view}
use Rattle.lincheck.proofs.Carrying.{sought_answered}
use Rattle.lincheck.specs.Carry.{AnswersSought}
use Rattle.lincheck.specs.Prove.{ToldFound}
use Rattle.lincheck.specs.declared.answer.Answer.{Answer}
use Rattle.lincheck.proofs.carry.answer_carried.Goals as goal

pub returns : goal.returns
returns g c =
    let E = development_view c.args.development.now in
    let old = c.args.old.now in
    let given = carried (development_in old.accepted) (entries_in old.certificate) E ++ proofs_in c.args.hints.now in
    IfOk-weaker c.told_found-answered.result (λ (answer : Answer). ToldFound E c.carry_with-found.result answer.text.items answer.status) (λ (answer : Answer). AnswersSought E given answer.text.items answer.status)
    (λ answer told. sought_answered E given c.carry_with-found.result answer.text.items answer.status c.carry_with-found.ensures.finds.accepted c.carry_with-found.ensures.finds.range c.carry_with-found.ensures.finds.first told)
    c.told_found-answered.ensures
