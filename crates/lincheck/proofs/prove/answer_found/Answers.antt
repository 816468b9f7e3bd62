use Rattle.lc_hints.specs.HintView.{proofs_in}
use Rattle.lc_outline.specs.DevelopmentView.{development_view}
use Rattle.lincheck.proofs.Proving.{found_answered}
use Rattle.lincheck.specs.Prove.{ToldFound, AnswersFound}
use Rattle.lincheck.specs.declared.answer.Answer.{Answer}
use Rattle.std.proofs.lemmas.Result.{IfOk-weaker}
use Rattle.lincheck.proofs.prove.answer_found.Goals as goal

pub returns : goal.returns
returns g c =
    let D = development_view c.args.development.now in
    let hs = proofs_in c.args.hints.now in
    IfOk-weaker c.told_found-answered.result (λ (answer : Answer). ToldFound D c.find_with-found.result answer.text.items answer.status) (λ (answer : Answer). AnswersFound D hs answer.text.items answer.status)
    (λ answer told. found_answered D hs c.find_with-found.result answer.text.items answer.status c.find_with-found.ensures.accepted c.find_with-found.ensures.range c.find_with-found.ensures.by c.find_with-found.ensures.first c.requires told)
    c.told_found-answered.ensures
