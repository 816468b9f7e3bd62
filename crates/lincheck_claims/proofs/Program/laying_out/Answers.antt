use Rattle.std.proofs.Common.{codes, Some}
use Rattle.lc_words.specs.Tasks.{ShowLines}
use Rattle.lincheck.specs.Lines.{AnswersLines}
use Rattle.lincheck_claims.proofs.AnyFile.{ends_known}
use Rattle.lincheck_claims.proofs.Program.laying_out.Goals as goal

pub returns : goal.returns
returns g c = λ ask.
    let files = c.args.self.now.files in
    let task = ShowLines (codes "a") in
    ends_known task files.0.now AnswersLines (Some c.args.layout.now.items) (Some c.execute.new.text.items) c.execute.result (c.execute.ensures task ask)
