use Rattle.lc_words.specs.Tasks.{listing, path_in}
use Rattle.lincheck.specs.Execution.{AnswersTask}
use Rattle.lincheck.proofs.Endings.{leaves_printed}
use Rattle.lincheck.proofs.OneCondition.{chosen_answered}
use Rattle.lincheck.proofs.conditions.list_chosen.Goals as goal

pub returns-clause-leaves : goal.returns-clause-leaves
returns-clause-leaves g c =
    let bytes_at = g.F.Files.bytes_at c.args.files.now in
    let task = listing c.args.path.now (path_in c.args.point) (path_in c.args.kind) in
    let answer = c.in_ok-answer.answer in
    leaves_printed task (AnswersTask bytes_at task) (g.O.Write.contents c.args.out.now) (g.O.Write.contents c.print_told.new.out) answer.text.items answer.status c.print_told.result
    (chosen_answered bytes_at c.args.path.now (path_in c.args.point) (path_in c.args.kind) answer.text.items answer.status c.in_ok-answer.ensures.answers)
    c.print_told.ensures.prints c.print_told.ensures.fails
