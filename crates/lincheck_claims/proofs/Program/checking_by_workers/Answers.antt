use Rattle.std.proofs.Common.{codes, Some}
use Rattle.lc_words.specs.Tasks.{CheckByWorkers}
use Rattle.lincheck.specs.Check.{AnswersCheck}
use Rattle.lincheck_claims.proofs.AnyFile.{ends_known}
use Rattle.lincheck_claims.proofs.Program.checking_by_workers.Goals as goal

pub returns : goal.returns
returns g c = λ workers ask.
    let files = c.args.self.now.files in
    let task = CheckByWorkers (codes "a") (codes "b") workers in
    ends_known task files.0.now (λ f. AnswersCheck f (Some files.1.now)) (Some c.args.common_verdict.now.items) (Some c.execute.new.text.items) c.execute.result (c.execute.ensures task ask)
