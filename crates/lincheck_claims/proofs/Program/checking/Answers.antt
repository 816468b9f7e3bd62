use Rattle.std.proofs.Common.{codes, Some}
use Rattle.lc_words.specs.Tasks.{CheckCertificate}
use Rattle.lincheck.specs.Check.{AnswersCheck}
use Rattle.lincheck_claims.proofs.AnyFile.{ends_known}
use Rattle.lincheck_claims.proofs.Program.checking.Goals as goal

pub returns : goal.returns
returns g c = λ ask.
    let files = c.args.self.now.files in
    let task = CheckCertificate (codes "a") (codes "b") in
    ends_known task files.0.now (λ f. AnswersCheck f (Some files.1.now)) (Some c.args.verdict.now.items) (Some c.execute.new.text.items) c.execute.result (c.execute.ensures task ask)
