use Rattle.std.proofs.Common.{◌≡◌, true, false, Result, IfOk, subst}
use Rattle.lincheck.proofs.Carrying.{all_answered, all_refused, later_unread, none_behind, same_hints, task_answered, task_answered_ok, task_unread, unread_behind}
use Rattle.lincheck.specs.Carry.{IsCertified, OpensOld, hints_at}
use Rattle.lincheck.specs.Reading.{OfFile}
use Rattle.lc_words.specs.Tasks.{path_in}
use Rattle.lincheck.specs.declared.answer.Answer.{Answer}
use Rattle.lincheck.specs.declared.carry.Old.{Old}
use Rattle.lincheck.proofs.carry.answer_carry.Goals as goal

pub answer_new-requires : goal.answer_new-requires
answer_new-requires g c = subst (λ (o : Result Old Answer). IfOk o IsCertified) c.in-Ok.is c.in_ok-old.ensures.certified

pub returns-in-Ok-clause-answers : goal.returns-in-Ok-clause-answers
returns-in-Ok-clause-answers g c =
    let before = g.F.Files.bytes_at c.args.files.now in
    let after = g.F.Files.bytes_at c.open_old.new.files in
    let path = path_in c.args.hints in
    let opens = subst (λ (o : Result Old Answer). OfFile (before c.args.old.now) (λ file. OpensOld file (before c.args.certificate.now) o)) c.in-Ok.is c.in_ok-old.ensures.opens in
    task_answered_ok before c.args.old.now c.args.certificate.now c.args.new.now path c.answer_new.result
    (all_answered (hints_at before path) (hints_at after path) (before c.args.old.now) (before c.args.certificate.now) (before c.args.new.now) (after c.args.new.now) c.in-Ok.old c.answer_new.result
    (c.in_ok-old.ensures.keeps c.args.new.now) (same_hints before after path c.in_ok-old.ensures.keeps) opens c.answer_new.ensures.answers)

pub returns-in-Err-clause-answers : goal.returns-in-Err-clause-answers
returns-in-Err-clause-answers g c =
    let before = g.F.Files.bytes_at c.args.files.now in
    let path = path_in c.args.hints in
    let opens = subst (λ (o : Result Old Answer). OfFile (before c.args.old.now) (λ file. OpensOld file (before c.args.certificate.now) o)) c.in-Err.is c.in_ok-old.ensures.opens in
    task_answered before c.args.old.now c.args.certificate.now c.args.new.now path c.in-Err.answer.text.items c.in-Err.answer.status
    (all_refused (hints_at before path) (before c.args.old.now) (before c.args.certificate.now) (before c.args.new.now) c.in-Err.answer opens)

pub returns-in-Ok-clause-unread : goal.returns-in-Ok-clause-unread
returns-in-Ok-clause-unread g c = λ unread.
    let before = g.F.Files.bytes_at c.args.files.now in
    let path = path_in c.args.hints in
    let behind = unread_behind (g.F.Files.CannotOpen c.args.files.now) before c.args.old.now c.args.certificate.now c.args.new.now path
    (λ closed. let no : false ≡ true = c.in_ok-old.ensures.unread closed in cc)
    (task_unread (g.F.Files.CannotOpen c.args.files.now) before c.args.old.now c.args.certificate.now c.args.new.now path unread) in
    c.answer_new.ensures.unread
    (later_unread (g.F.Files.CannotOpen c.args.files.now) (g.F.Files.CannotOpen c.open_old.new.files) before (g.F.Files.bytes_at c.open_old.new.files) c.args.new.now path c.in_ok-old.ensures.keeps c.in_ok-old.ensures.closed
    behind)

pub returns-in-Err-clause-unread : goal.returns-in-Err-clause-unread
returns-in-Err-clause-unread g c = λ unread.
    let before = g.F.Files.bytes_at c.args.files.now in
    let path = path_in c.args.hints in
    let opens = subst (λ (o : Result Old Answer). OfFile (before c.args.old.now) (λ file. OpensOld file (before c.args.certificate.now) o)) c.in-Err.is c.in_ok-old.ensures.opens in
    absurd (none_behind (g.F.Files.CannotOpen c.args.files.now) before c.args.old.now c.args.certificate.now c.args.new.now path c.in-Err.answer
    (λ closed. let no : false ≡ true = c.in_ok-old.ensures.unread closed in cc) opens
    (task_unread (g.F.Files.CannotOpen c.args.files.now) before c.args.old.now c.args.certificate.now c.args.new.now path unread))
