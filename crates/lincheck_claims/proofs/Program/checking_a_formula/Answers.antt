use Rattle.std.proofs.Common.{codes, Some}
use Rattle.lc_words.specs.Tasks.{CheckFormula}
use Rattle.lincheck.specs.Formula.{AnswersFormula}
use Rattle.lincheck_claims.proofs.AnyFile.{ends_known}
use Rattle.lincheck_claims.proofs.Program.checking_a_formula.Goals as goal

pub returns : goal.returns
returns g c = λ ask.
    let files = c.args.self.now.files in
    let task = CheckFormula (codes "a") in
    ends_known task files.0.now AnswersFormula (Some c.args.answer.now.items) (Some c.execute.new.text.items) c.execute.result (c.execute.ensures task ask)
