use Rattle.std.proofs.Common.{codes, Some, None}
use Rattle.lc_words.specs.Tasks.{MakeWhole}
use Rattle.lincheck.specs.Complete.{AnswersComplete}
use Rattle.lincheck_claims.proofs.AnyFile.{ends_known}
use Rattle.lincheck_claims.proofs.Program.making_whole.Goals as goal

pub returns : goal.returns
returns g c = λ ask.
    let files = c.args.self.now.files in
    let task = MakeWhole (codes "a") None in
    ends_known task files.0.now (λ f. AnswersComplete f) (Some c.args.whole.now.items) (Some c.execute.new.text.items) c.execute.result (c.execute.ensures task ask)
