use Rattle.std.proofs.Common.{◌≡◌, true, false, refl}
use Rattle.std.specs.Prelude.{Ok}
use Rattle.lc_seq.specs.TextView.{specification_of}
use Rattle.lincheck.specs.declared.answer.Failure.{Failure}
use Rattle.lincheck.specs.Draw.{AnswersShown}
use Rattle.lincheck.proofs.Judgements.{read_answered_if, refused_answered, read_unread, refused_unread}
use Rattle.lincheck.proofs.draw.answer_draw.Goals as goal

pub returns-in-Ok-clause-answers : goal.returns-in-Ok-clause-answers
returns-in-Ok-clause-answers g c =
    let fed = c.in_ok-reader.ensures.fed in
    read_answered_if (AnswersShown c.args.shown) (g.F.Files.bytes_at c.args.files.now c.args.development.now) (g.F.Files.bytes_at c.args.files.now c.args.history.now)
    (g.F.Files.bytes_at c.feed_forms.new.files c.args.history.now) fed.0 fed.0 (specification_of c.in-Ok.spec) c.answer_drawn.result
    fed.2 refl (c.in-Ok.ensures fed.0 fed.1) (c.in_ok-reader.ensures.keeps c.args.history.now) c.answer_drawn.ensures.answers

pub returns-in_ok-told_fault-in-Err-clause-answers : goal.returns-in_ok-told_fault-in-Err-clause-answers
returns-in_ok-told_fault-in-Err-clause-answers g c =
    let fed = c.in_ok-reader.ensures.fed in
    refused_answered (AnswersShown c.args.shown) (g.F.Files.bytes_at c.args.files.now c.args.development.now) (g.F.Files.bytes_at c.args.files.now c.args.history.now)
    fed.0 fed.0 c.in-Err.fault c.in_ok-told_fault-in-Err.field-0.text.items c.in_ok-told_fault-in-Err.field-0.status
    fed.2 refl (c.in-Err.ensures fed.0 fed.1) c.in_ok-told_fault-in-Err.ensures

pub returns-in-Ok-clause-unread : goal.returns-in-Ok-clause-unread
returns-in-Ok-clause-unread g c =
    read_unread (g.F.Files.CannotOpen c.args.files.now) (g.F.Files.bytes_at c.args.files.now) c.args.development.now c.args.history.now c.answer_drawn.result
    (λ closed. let no : false ≡ true = c.in_ok-reader.ensures.unread closed in cc) (λ closed. c.answer_drawn.ensures.unread (c.in_ok-reader.ensures.closed c.args.history.now closed))

pub returns-in_ok-told_fault-in-Err-clause-unread : goal.returns-in_ok-told_fault-in-Err-clause-unread
returns-in_ok-told_fault-in-Err-clause-unread g c =
    let fed = c.in_ok-reader.ensures.fed in
    refused_unread {E = Failure} (g.F.Files.CannotOpen c.args.files.now) (g.F.Files.bytes_at c.args.files.now) c.args.development.now c.args.history.now (Ok c.in_ok-told_fault-in-Err.field-0)
    fed.0 fed.0 c.in-Err.fault c.in_ok-told_fault-in-Err.field-0.text.items c.in_ok-told_fault-in-Err.field-0.status
    (λ closed. let no : false ≡ true = c.in_ok-reader.ensures.unread closed in cc) fed.2 refl (c.in-Err.ensures fed.0 fed.1) c.in_ok-told_fault-in-Err.ensures
