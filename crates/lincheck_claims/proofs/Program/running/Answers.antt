use Rattle.std.proofs.Common.{codes, Some}
use Rattle.lc_words.specs.Tasks.{RunPlan}
use Rattle.lincheck.specs.Run.{AnswersRun}
use Rattle.lincheck_claims.proofs.AnyFile.{ends_known}
use Rattle.lincheck_claims.proofs.Program.running.Goals as goal

pub returns : goal.returns
returns g c = λ turns ask.
    let files = c.args.self.now.files in
    let task = RunPlan (codes "a") (codes "b") (codes "c") turns in
    ends_known task files.0.now (λ f. AnswersRun turns f (Some files.1.now) (Some files.2.now)) (Some c.args.deeds.now.items) (Some c.execute.new.text.items) c.execute.result (c.execute.ensures task ask)
