use Rattle.std.proofs.Common.{false, codes, Some, None}
use Rattle.lc_words.specs.Tasks.{FindOrder}
use Rattle.lincheck.specs.Order.{AnswersOrder}
use Rattle.lincheck_claims.proofs.AnyFile.{ends_known}
use Rattle.lincheck_claims.proofs.Program.ordering_a_history.Goals as goal

pub returns : goal.returns
returns g c = λ ask.
    let files = c.args.self.now.files in
    let task = FindOrder (codes "a") (codes "b") false None in
    ends_known task files.0.now (λ f. AnswersOrder false f (Some files.1.now)) (Some c.args.decision.now.items) (Some c.execute.new.text.items) c.execute.result (c.execute.ensures task ask)
