use Rattle.std.proofs.Common.{codes, Some}
use Rattle.lc_words.specs.Tasks.{CarryWithHints}
use Rattle.lincheck.specs.Carry.{AnswersCarry, AnswersWith}
use Rattle.lincheck_claims.proofs.AnyFile.{ends_known}
use Rattle.lincheck_claims.proofs.Program.carrying.Goals as goal

pub returns : goal.returns
returns g c = λ ask.
    let files = c.args.self.now.files in
    let task = CarryWithHints (codes "a") (codes "b") (codes "c") (codes "d") in
    ends_known task files.0.now (λ f. AnswersCarry (AnswersWith (Some (Some files.3.now))) f (Some files.1.now) (Some files.2.now)) (Some c.args.carried.now.items) (Some c.execute.new.text.items) c.execute.result (c.execute.ensures task ask)
