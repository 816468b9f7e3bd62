use Rattle.std.proofs.Common.{◌≡◌, true, false, true≢false, sym, subst}
use Rattle.lc_words.specs.Tasks.{task_of}
use Rattle.lincheck.specs.Execution.{AnswersTask, IsUnread}
use Rattle.lc_words.specs.declared.request.Request.{Request}
use Rattle.lincheck.specs.Printing.{Leaves}
use Rattle.lincheck.proofs.Endings.{leaves_printed}
use Rattle.lincheck.proofs.Sharing.{answers_by, unread_by}
use Rattle.lincheck.proofs.program.carry_out.Goals as goal

pub returns-in_ok-answer_formula-in-Formula-clause-leaves : goal.returns-in_ok-answer_formula-in-Formula-clause-leaves
returns-in_ok-answer_formula-in-Formula-clause-leaves g c =
    let answer = c.in_ok-answer_formula-in-Formula.field-0 in
    leaves_printed (task_of c.args.request) (AnswersTask (g.F.Files.bytes_at c.args.files.now) (task_of c.args.request)) (g.O.Write.contents c.args.out.now)
    (g.O.Write.contents c.print_told.new.out) answer.text.items answer.status c.print_told.result
    (subst (λ (r : Request). AnswersTask (g.F.Files.bytes_at c.args.files.now) (task_of r) answer.text.items answer.status) (sym c.in-Formula.is) c.in_ok-answer_formula-in-Formula.ensures.answers)
    c.print_told.ensures.prints c.print_told.ensures.fails

pub returns-in_ok-answer-in-Judge-clause-leaves : goal.returns-in_ok-answer-in-Judge-clause-leaves
returns-in_ok-answer-in-Judge-clause-leaves g c =
    let answer = c.in_ok-answer-in-Judge.answer in
    leaves_printed (task_of c.args.request) (AnswersTask (g.F.Files.bytes_at c.args.files.now) (task_of c.args.request)) (g.O.Write.contents c.args.out.now)
    (g.O.Write.contents c.print_told-in-Judge.new.out) answer.text.items answer.status c.print_told-in-Judge.result
    (subst (λ (r : Request). AnswersTask (g.F.Files.bytes_at c.args.files.now) (task_of r) answer.text.items answer.status) (sym c.in-Judge.is) c.in_ok-answer-in-Judge.ensures.answers)
    c.print_told-in-Judge.ensures.prints c.print_told-in-Judge.ensures.fails

pub returns-in_ok-answer-in-Show-clause-leaves : goal.returns-in_ok-answer-in-Show-clause-leaves
returns-in_ok-answer-in-Show-clause-leaves g c =
    let answer = c.in_ok-answer-in-Show.answer in
    leaves_printed (task_of c.args.request) (AnswersTask (g.F.Files.bytes_at c.args.files.now) (task_of c.args.request)) (g.O.Write.contents c.args.out.now)
    (g.O.Write.contents c.print_told-in-Show.new.out) answer.text.items answer.status c.print_told-in-Show.result
    (subst (λ (r : Request). AnswersTask (g.F.Files.bytes_at c.args.files.now) (task_of r) answer.text.items answer.status) (sym c.in-Show.is) c.in_ok-answer-in-Show.ensures.answers)
    c.print_told-in-Show.ensures.prints c.print_told-in-Show.ensures.fails

pub returns-in_ok-answer-in-Check-clause-leaves : goal.returns-in_ok-answer-in-Check-clause-leaves
returns-in_ok-answer-in-Check-clause-leaves g c =
    let answer = c.in_ok-answer-in-Check.answer in
    leaves_printed (task_of c.args.request) (AnswersTask (g.F.Files.bytes_at c.args.files.now) (task_of c.args.request)) (g.O.Write.contents c.args.out.now)
    (g.O.Write.contents c.print_told-in-Check.new.out) answer.text.items answer.status c.print_told-in-Check.result
    (subst (λ (r : Request). AnswersTask (g.F.Files.bytes_at c.args.files.now) (task_of r) answer.text.items answer.status) (sym c.in-Check.is)
    (answers_by (g.F.Files.bytes_at c.args.files.now) c.in-Check.development.now c.in-Check.certificate.now c.in-Check.workers answer.text.items answer.status c.in_ok-answer-in-Check.ensures.answers))
    c.print_told-in-Check.ensures.prints c.print_told-in-Check.ensures.fails

pub returns-in_ok-answer-in-Check-clause-unread : goal.returns-in_ok-answer-in-Check-clause-unread
returns-in_ok-answer-in-Check-clause-unread g c = λ unread.
    let no : false ≡ true =
    c.in_ok-answer-in-Check.ensures.unread
    (unread_by (g.F.Files.CannotOpen c.args.files.now) (g.F.Files.bytes_at c.args.files.now) c.in-Check.development.now c.in-Check.certificate.now c.in-Check.workers
    (subst (λ (r : Request). IsUnread (g.F.Files.CannotOpen c.args.files.now) (g.F.Files.bytes_at c.args.files.now) (task_of r)) c.in-Check.is unread)) in
    absurd (true≢false (sym no))

pub returns-in_ok-answer-in-Prove-clause-leaves : goal.returns-in_ok-answer-in-Prove-clause-leaves
returns-in_ok-answer-in-Prove-clause-leaves g c =
    let answer = c.in_ok-answer-in-Prove.answer in
    leaves_printed (task_of c.args.request) (AnswersTask (g.F.Files.bytes_at c.args.files.now) (task_of c.args.request)) (g.O.Write.contents c.args.out.now)
    (g.O.Write.contents c.print_told-in-Prove.new.out) answer.text.items answer.status c.print_told-in-Prove.result
    (subst (λ (r : Request). AnswersTask (g.F.Files.bytes_at c.args.files.now) (task_of r) answer.text.items answer.status) (sym c.in-Prove.is) c.in_ok-answer-in-Prove.ensures.answers)
    c.print_told-in-Prove.ensures.prints c.print_told-in-Prove.ensures.fails

pub returns-in_ok-answer-in-Carry-clause-leaves : goal.returns-in_ok-answer-in-Carry-clause-leaves
returns-in_ok-answer-in-Carry-clause-leaves g c =
    let answer = c.in_ok-answer-in-Carry.answer in
    leaves_printed (task_of c.args.request) (AnswersTask (g.F.Files.bytes_at c.args.files.now) (task_of c.args.request)) (g.O.Write.contents c.args.out.now)
    (g.O.Write.contents c.print_told-in-Carry.new.out) answer.text.items answer.status c.print_told-in-Carry.result
    (subst (λ (r : Request). AnswersTask (g.F.Files.bytes_at c.args.files.now) (task_of r) answer.text.items answer.status) (sym c.in-Carry.is) c.in_ok-answer-in-Carry.ensures.answers)
    c.print_told-in-Carry.ensures.prints c.print_told-in-Carry.ensures.fails

pub returns-in_ok-answer-in-Run-clause-leaves : goal.returns-in_ok-answer-in-Run-clause-leaves
returns-in_ok-answer-in-Run-clause-leaves g c =
    let answer = c.in_ok-answer-in-Run.answer in
    leaves_printed (task_of c.args.request) (AnswersTask (g.F.Files.bytes_at c.args.files.now) (task_of c.args.request)) (g.O.Write.contents c.args.out.now)
    (g.O.Write.contents c.print_told-in-Run.new.out) answer.text.items answer.status c.print_told-in-Run.result
    (subst (λ (r : Request). AnswersTask (g.F.Files.bytes_at c.args.files.now) (task_of r) answer.text.items answer.status) (sym c.in-Run.is) c.in_ok-answer-in-Run.ensures.answers)
    c.print_told-in-Run.ensures.prints c.print_told-in-Run.ensures.fails

pub returns-in_ok-answer-in-Run-clause-unread : goal.returns-in_ok-answer-in-Run-clause-unread
returns-in_ok-answer-in-Run-clause-unread g c = λ unread.
    let no : false ≡ true =
    c.in_ok-answer-in-Run.ensures.unread
    (subst (λ (r : Request). IsUnread (g.F.Files.CannotOpen c.args.files.now) (g.F.Files.bytes_at c.args.files.now) (task_of r)) c.in-Run.is unread) in
    absurd (true≢false (sym no))

pub returns-in_ok-answer-in-Draw-clause-leaves : goal.returns-in_ok-answer-in-Draw-clause-leaves
returns-in_ok-answer-in-Draw-clause-leaves g c =
    let answer = c.in_ok-answer-in-Draw.answer in
    leaves_printed (task_of c.args.request) (AnswersTask (g.F.Files.bytes_at c.args.files.now) (task_of c.args.request)) (g.O.Write.contents c.args.out.now)
    (g.O.Write.contents c.print_told-in-Draw.new.out) answer.text.items answer.status c.print_told-in-Draw.result
    (subst (λ (r : Request). AnswersTask (g.F.Files.bytes_at c.args.files.now) (task_of r) answer.text.items answer.status) (sym c.in-Draw.is) c.in_ok-answer-in-Draw.ensures.answers)
    c.print_told-in-Draw.ensures.prints c.print_told-in-Draw.ensures.fails

pub returns-in_ok-answer-in-Order-clause-leaves : goal.returns-in_ok-answer-in-Order-clause-leaves
returns-in_ok-answer-in-Order-clause-leaves g c =
    let answer = c.in_ok-answer-in-Order.answer in
    leaves_printed (task_of c.args.request) (AnswersTask (g.F.Files.bytes_at c.args.files.now) (task_of c.args.request)) (g.O.Write.contents c.args.out.now)
    (g.O.Write.contents c.print_told-in-Order.new.out) answer.text.items answer.status c.print_told-in-Order.result
    (subst (λ (r : Request). AnswersTask (g.F.Files.bytes_at c.args.files.now) (task_of r) answer.text.items answer.status) (sym c.in-Order.is) c.in_ok-answer-in-Order.ensures.answers)
    c.print_told-in-Order.ensures.prints c.print_told-in-Order.ensures.fails

pub returns-in_ok-answer-in-Complete-clause-leaves : goal.returns-in_ok-answer-in-Complete-clause-leaves
returns-in_ok-answer-in-Complete-clause-leaves g c =
    let answer = c.in_ok-answer-in-Complete.answer in
    leaves_printed (task_of c.args.request) (AnswersTask (g.F.Files.bytes_at c.args.files.now) (task_of c.args.request)) (g.O.Write.contents c.args.out.now)
    (g.O.Write.contents c.print_told-in-Complete.new.out) answer.text.items answer.status c.print_told-in-Complete.result
    (subst (λ (r : Request). AnswersTask (g.F.Files.bytes_at c.args.files.now) (task_of r) answer.text.items answer.status) (sym c.in-Complete.is) c.in_ok-answer-in-Complete.ensures.answers)
    c.print_told-in-Complete.ensures.prints c.print_told-in-Complete.ensures.fails

pub returns-in_ok-answer-in-Explore-clause-leaves : goal.returns-in_ok-answer-in-Explore-clause-leaves
returns-in_ok-answer-in-Explore-clause-leaves g c =
    let answer = c.in_ok-answer-in-Explore.answer in
    leaves_printed (task_of c.args.request) (AnswersTask (g.F.Files.bytes_at c.args.files.now) (task_of c.args.request)) (g.O.Write.contents c.args.out.now)
    (g.O.Write.contents c.print_told-in-Explore.new.out) answer.text.items answer.status c.print_told-in-Explore.result
    (subst (λ (r : Request). AnswersTask (g.F.Files.bytes_at c.args.files.now) (task_of r) answer.text.items answer.status) (sym c.in-Explore.is) c.in_ok-answer-in-Explore.ensures.answers)
    c.print_told-in-Explore.ensures.prints c.print_told-in-Explore.ensures.fails

pub returns-in_ok-answer_new-in-New-clause-leaves : goal.returns-in_ok-answer_new-in-New-clause-leaves
returns-in_ok-answer_new-in-New-clause-leaves g c =
    let answer = c.in_ok-answer_new-in-New.field-0 in
    leaves_printed (task_of c.args.request) (AnswersTask (g.F.Files.bytes_at c.args.files.now) (task_of c.args.request)) (g.O.Write.contents c.args.out.now)
    (g.O.Write.contents c.print_told-in-New.new.out) answer.text.items answer.status c.print_told-in-New.result
    (subst (λ (r : Request). AnswersTask (g.F.Files.bytes_at c.args.files.now) (task_of r) answer.text.items answer.status) (sym c.in-New.is) c.in_ok-answer_new-in-New.ensures)
    c.print_told-in-New.ensures.prints c.print_told-in-New.ensures.fails

pub returns-in_ok-answer_library-in-Library-clause-leaves : goal.returns-in_ok-answer_library-in-Library-clause-leaves
returns-in_ok-answer_library-in-Library-clause-leaves g c =
    let answer = c.in_ok-answer_library-in-Library.field-0 in
    leaves_printed (task_of c.args.request) (AnswersTask (g.F.Files.bytes_at c.args.files.now) (task_of c.args.request)) (g.O.Write.contents c.args.out.now)
    (g.O.Write.contents c.print_told-in-Library.new.out) answer.text.items answer.status c.print_told-in-Library.result
    (subst (λ (r : Request). AnswersTask (g.F.Files.bytes_at c.args.files.now) (task_of r) answer.text.items answer.status) (sym c.in-Library.is) c.in_ok-answer_library-in-Library.ensures)
    c.print_told-in-Library.ensures.prints c.print_told-in-Library.ensures.fails

pub returns-in-Conditions-clause-leaves : goal.returns-in-Conditions-clause-leaves
returns-in-Conditions-clause-leaves g c =
    subst
    (λ (r : Request). Leaves (task_of r) (AnswersTask (g.F.Files.bytes_at c.args.files.now) (task_of r)) (g.O.Write.contents c.args.out.now) (g.O.Write.contents c.answer_conditions.new.out)
    c.answer_conditions.result)
    (sym c.in-Conditions.is) c.answer_conditions.ensures.leaves
