use Rattle.std.proofs.Common.{codes, Some}
use Rattle.lc_words.specs.Tasks.{DrawHistory}
use Rattle.lincheck.specs.Draw.{AnswersDraw}
use Rattle.lincheck_claims.proofs.AnyFile.{ends_known}
use Rattle.lincheck_claims.proofs.Program.drawing.Goals as goal

pub returns : goal.returns
returns g c = λ shown ask.
    let files = c.args.self.now.files in
    let task = DrawHistory (codes "a") (codes "b") shown in
    ends_known task files.0.now (λ f. AnswersDraw shown f (Some files.1.now)) (Some c.args.picture.now.items) (Some c.execute.new.text.items) c.execute.result (c.execute.ensures task ask)
