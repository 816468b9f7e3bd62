use Rattle.std.proofs.Common.{sym, subst}
use Rattle.lc_words.specs.Tasks.{chosen_task}
use Rattle.lc_words.specs.declared.request.Chosen.{Chosen}
use Rattle.lincheck.specs.Execution.{AnswersTask}
use Rattle.lincheck.specs.Printing.{Leaves}
use Rattle.lincheck.proofs.conditions.answer_conditions.Goals as goal

pub returns-in-Number-clause-leaves : goal.returns-in-Number-clause-leaves
returns-in-Number-clause-leaves g c =
    subst
    (λ (x : Chosen). Leaves (chosen_task c.args.path.now x) (AnswersTask (g.F.Files.bytes_at c.args.files.now) (chosen_task c.args.path.now x)) (g.O.Write.contents c.args.out.now)
    (g.O.Write.contents c.show_condition.new.out) c.show_condition.result)
    (sym c.in-Number.is) c.show_condition.ensures.leaves

pub returns-in-Those-None-None-clause-leaves : goal.returns-in-Those-None-None-clause-leaves
returns-in-Those-None-None-clause-leaves g c =
    let point = rw c.in-Those-None-None.is at c.in-Those-None-None.point-is in
    let kind = rw c.in-Those-None-None.is at c.in-Those-None-None.kind-is in
    subst
    (λ (x : Chosen). Leaves (chosen_task c.args.path.now x) (AnswersTask (g.F.Files.bytes_at c.args.files.now) (chosen_task c.args.path.now x)) (g.O.Write.contents c.args.out.now)
    (g.O.Write.contents c.list_conditions.new.out) c.list_conditions.result)
    (sym c.in-Those-None-None.is) (rw point (rw kind c.list_conditions.ensures.leaves))

pub returns-in-Those-clause-leaves : goal.returns-in-Those-clause-leaves
returns-in-Those-clause-leaves g c =
    subst
    (λ (x : Chosen). Leaves (chosen_task c.args.path.now x) (AnswersTask (g.F.Files.bytes_at c.args.files.now) (chosen_task c.args.path.now x)) (g.O.Write.contents c.args.out.now)
    (g.O.Write.contents c.list_chosen.new.out) c.list_chosen.result)
    (sym c.in-Those.is) (rw c.in-Those.is at c.list_chosen.ensures.leaves)
