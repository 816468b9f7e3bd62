use Rattle.std.proofs.Common.{codes, Some, None}
use Rattle.lc_words.specs.Tasks.{ByPlan, ExploreRuns}
use Rattle.lincheck.specs.Explore.{AnswersExplore}
use Rattle.lincheck_claims.proofs.AnyFile.{ends_known}
use Rattle.lincheck_claims.specs.Folders.{file_at}
use Rattle.lincheck_claims.proofs.Program.exploring.Goals as goal

pub returns : goal.returns
returns g c = λ bare ask.
    let files = c.args.self.now.files in
    let task = ExploreRuns (codes "a") (ByPlan (codes "b")) bare None in
    ends_known task files.0.now (λ f. AnswersExplore (file_at files.0.now files.1.now files.2.now files.3.now) bare None (ByPlan (codes "b")) f) (Some c.args.found.now.items) (Some c.execute.new.text.items)
    c.execute.result (c.execute.ensures task ask)
