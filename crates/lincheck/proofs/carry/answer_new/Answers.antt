use Rattle.std.proofs.Common.{◌≡◌, true, false, Result, subst}
use Rattle.lc_cert.specs.CertificateView.{entries_in}
use Rattle.lc_check.specs.VerdictView.{development_in}
use Rattle.lc_outline.specs.DevelopmentView.{development_view}
use Rattle.lc_outline.specs.declared.development.Development.{Development}
use Rattle.lincheck.proofs.Carrying.{new_answered, new_refused, refused_new, same_hints, unread_hints}
use Rattle.lincheck.specs.Carry.{hints_at}
use Rattle.lincheck.specs.Check.{OpensAs}
use Rattle.lincheck.specs.Reading.{OfFile}
use Rattle.lc_words.specs.Tasks.{path_in}
use Rattle.lincheck.specs.declared.answer.Answer.{Answer}
use Rattle.lincheck.proofs.carry.answer_new.Goals as goal

pub returns-in-Ok-clause-answers : goal.returns-in-Ok-clause-answers
returns-in-Ok-clause-answers g c =
    let known = g.F.Files.bytes_at c.args.files.now c.args.new.now in
    let old = c.args.old.now in
    let path = path_in c.args.hints in
    let says = subst (λ (o : Result Development Answer). OfFile known (λ file. OpensAs file o)) c.in-Ok.is c.in_ok-development.ensures.opens in
    new_answered (development_in old.accepted) (entries_in old.certificate) known (hints_at (g.F.Files.bytes_at c.args.files.now) path) (hints_at (g.F.Files.bytes_at c.open_development.new.files) path)
    (development_view c.in-Ok.development) c.answer_development-answered.result says
    (same_hints (g.F.Files.bytes_at c.args.files.now) (g.F.Files.bytes_at c.open_development.new.files) path c.in_ok-development.ensures.keeps) c.answer_development-answered.ensures.answers

pub returns-in-Err-clause-answers : goal.returns-in-Err-clause-answers
returns-in-Err-clause-answers g c =
    let known = g.F.Files.bytes_at c.args.files.now c.args.new.now in
    let old = c.args.old.now in
    let tells = subst (λ (o : Result Development Answer). OfFile known (λ file. OpensAs file o)) c.in-Err.is c.in_ok-development.ensures.opens in
    new_refused (development_in old.accepted) (entries_in old.certificate) known (hints_at (g.F.Files.bytes_at c.args.files.now) (path_in c.args.hints)) c.in-Err.answer tells

pub returns-in-Ok-clause-unread : goal.returns-in-Ok-clause-unread
returns-in-Ok-clause-unread g c =
    unread_hints (g.F.Files.CannotOpen c.args.files.now) (g.F.Files.CannotOpen c.open_development.new.files) (g.F.Files.bytes_at c.args.files.now) c.args.new.now (path_in c.args.hints) c.answer_development-answered.result
    (λ closed. let no : false ≡ true = c.in_ok-development.ensures.unread closed in cc) c.in_ok-development.ensures.closed c.answer_development-answered.ensures.unread

pub returns-in-Err-clause-unread : goal.returns-in-Err-clause-unread
returns-in-Err-clause-unread g c = λ unread.
    let known = g.F.Files.bytes_at c.args.files.now c.args.new.now in
    let tells = subst (λ (o : Result Development Answer). OfFile known (λ file. OpensAs file o)) c.in-Err.is c.in_ok-development.ensures.opens in
    absurd (refused_new (g.F.Files.CannotOpen c.args.files.now) (g.F.Files.bytes_at c.args.files.now) c.args.new.now (path_in c.args.hints) c.in-Err.answer
    (λ closed. let no : false ≡ true = c.in_ok-development.ensures.unread closed in cc) tells unread)
