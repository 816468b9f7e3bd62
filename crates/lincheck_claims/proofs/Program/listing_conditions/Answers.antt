use Rattle.std.proofs.Common.{codes, Some}
use Rattle.lc_words.specs.Tasks.{ListConditions}
use Rattle.lc_cond_text.specs.ConditionText.{conditions_text}
use Rattle.lincheck.specs.Check.{AnswersDevelopment}
use Rattle.lincheck_claims.proofs.AnyFile.{ends_known}
use Rattle.lincheck_claims.proofs.Program.listing_conditions.Goals as goal

pub returns : goal.returns
returns g c = λ ask.
    let files = c.args.self.now.files in
    let task = ListConditions (codes "a") in
    ends_known task files.0.now (AnswersDevelopment conditions_text) (Some c.args.lines.now.items) (Some c.execute.new.text.items) c.execute.result (c.execute.ensures task ask)
