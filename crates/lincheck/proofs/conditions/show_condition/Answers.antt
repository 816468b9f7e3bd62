use Rattle.lc_words.specs.Tasks.{ShowCondition}
use Rattle.lincheck.specs.Execution.{AnswersTask}
use Rattle.lincheck.proofs.Endings.{leaves_printed}
use Rattle.lincheck.proofs.conditions.show_condition.Goals as goal

pub returns-clause-leaves : goal.returns-clause-leaves
returns-clause-leaves g c =
    let task = ShowCondition c.args.path.now c.args.number in
    let answer = c.in_ok-answer.answer in
    leaves_printed task (AnswersTask (g.F.Files.bytes_at c.args.files.now) task) (g.O.Write.contents c.args.out.now) (g.O.Write.contents c.print_told.new.out) answer.text.items answer.status c.print_told.result
    c.in_ok-answer.ensures.answers c.print_told.ensures.prints c.print_told.ensures.fails
