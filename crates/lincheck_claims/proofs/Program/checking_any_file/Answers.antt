use Rattle.std.proofs.Common.{ℕ, List, Some}
use Rattle.lc_words.specs.Tasks.{CheckFormula}
use Rattle.lincheck.specs.Execution.{AnswersTask}
use Rattle.lincheck.specs.Formula.{AnswersFormula}
use Rattle.lincheck_claims.proofs.AnyFile.{ends_as, some_file}
use Rattle.lincheck_claims.proofs.Program.checking_any_file.Goals as goal

pub returns : goal.returns
returns g c = λ path ask.
    let bytes_at = g.F.Files.bytes_at c.args.files.now in
    ends_as (CheckFormula path) (AnswersTask bytes_at (CheckFormula path)) (λ text status. (file : List ℕ) × AnswersFormula file text status) (Some c.args.reply.now.items) (Some c.execute.new.out.items) c.execute.result
    (λ text said h. some_file (bytes_at path) (λ file. AnswersFormula file text said) h) (c.execute.ensures.answers (CheckFormula path) ask)
