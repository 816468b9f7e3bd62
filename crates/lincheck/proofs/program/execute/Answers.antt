use Rattle.std.proofs.Common.{◌≡◌, true, false, inr, ap, refl, sym, subst}
use Rattle.lincheck.proofs.Endings.{ends_unread, ends_ok, ends_failed, failed_status}
use Rattle.lc_words.proofs.Faults.{request_is}
use Rattle.lc_words.specs.Tasks.{Task, task_of, texts_of}
use Rattle.lincheck.specs.Execution.{AnswersTask, IsUnread}
use Rattle.lincheck.proofs.program.execute.Goals as goal

pub returns-in-Err-clause-answers : goal.returns-in-Err-clause-answers
returns-in-Err-clause-answers g c = λ task ask.
    let told = c.tell_usage.ensures.memory (c.in-Err.ensures.taken task ask) in
    ends_unread task (AnswersTask (g.F.Files.bytes_at c.args.files.now) task) (g.O.Write.contents c.args.out.now) (g.O.Write.contents c.tell_usage.new.out) c.tell_usage.result
    (told.0, ap g.O.Write.contents told.1)

pub returns-in-Err-clause-unread : goal.returns-in-Err-clause-unread
returns-in-Err-clause-unread g c = λ task ask unread.
    let told = c.tell_usage.ensures.memory (c.in-Err.ensures.taken task ask) in
    (inr told.0, told.1)

pub returns-in-Ok-carry_out-clause-answers : goal.returns-in-Ok-carry_out-clause-answers
returns-in-Ok-carry_out-clause-answers g c = λ task ask.
    ends_ok (g.F.Files.bytes_at c.args.files.now) (task_of c.in-Ok.asked.request) task (g.O.Write.contents c.args.out.now) (g.O.Write.contents c.carry_out.new.out) c.in-Ok-carry_out.status
    (request_is (texts_of c.args.words.now) c.in-Ok.asked.request task c.in-Ok.ensures.reads ask) c.in-Ok-carry_out.ensures.leaves

pub returns-clause-answers : goal.returns-clause-answers
returns-clause-answers g c = λ task ask.
    ends_failed (g.F.Files.bytes_at c.args.files.now) (task_of c.in-Ok.asked.request) task (g.O.Write.contents c.args.out.now) (g.O.Write.contents c.carry_out.new.out) c.in-Err-carry_out.failure
    c.complain.result (request_is (texts_of c.args.words.now) c.in-Ok.asked.request task c.in-Ok.ensures.reads ask) c.complain.ensures c.in-Err-carry_out.ensures.leaves

pub returns-in-Err-clause-wrong : goal.returns-in-Err-clause-wrong
returns-in-Err-clause-wrong g c = λ wrong.
    let told = c.tell_usage.ensures.fault (c.in-Err.ensures.wrong wrong) in
    (told.0, told.1, refl)

pub returns-in-Ok-carry_out-clause-unread : goal.returns-in-Ok-carry_out-clause-unread
returns-in-Ok-carry_out-clause-unread g c = λ task ask unread.
    let same : task_of c.in-Ok.asked.request ≡ task = request_is (texts_of c.args.words.now) c.in-Ok.asked.request task c.in-Ok.ensures.reads ask in
    let none = c.in-Ok-carry_out.ensures.unread (subst (λ (t : Task). IsUnread (g.F.Files.CannotOpen c.args.files.now) (g.F.Files.bytes_at c.args.files.now) t) (sym same) unread) in
    let no : false ≡ true = none.0 in cc

pub returns-clause-unread : goal.returns-clause-unread
returns-clause-unread g c = λ task ask unread.
    let same : task_of c.in-Ok.asked.request ≡ task = request_is (texts_of c.args.words.now) c.in-Ok.asked.request task c.in-Ok.ensures.reads ask in
    let none = c.in-Err-carry_out.ensures.unread (subst (λ (t : Task). IsUnread (g.F.Files.CannotOpen c.args.files.now) (g.F.Files.bytes_at c.args.files.now) t) (sym same) unread) in
    (failed_status c.in-Err-carry_out.failure c.complain.result c.complain.ensures, none.1)

pub returns-in-Ok-carry_out-clause-wrong : goal.returns-in-Ok-carry_out-clause-wrong
returns-in-Ok-carry_out-clause-wrong g c = λ wrong. absurd (c.in-Ok.ensures.wrong wrong)

pub returns-clause-wrong : goal.returns-clause-wrong
returns-clause-wrong g c = λ wrong. absurd (c.in-Ok.ensures.wrong wrong)
