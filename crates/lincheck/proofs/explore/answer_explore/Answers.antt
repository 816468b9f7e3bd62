use Rattle.std.proofs.Common.{◌≡◌, true, false, Result, subst}
use Rattle.lc_outline.specs.DevelopmentView.{development_view}
use Rattle.lc_outline.specs.declared.development.Development.{Development}
use Rattle.lc_words.specs.Tasks.{setting_of}
use Rattle.lincheck.specs.Check.{OpensAs}
use Rattle.lincheck.specs.Reading.{OfFile}
use Rattle.lincheck.specs.declared.answer.Answer.{Answer}
use Rattle.lincheck.proofs.Exploring.{explore_answered, explore_refused, none_after_refused, unread_setting}
use Rattle.lincheck.proofs.explore.answer_explore.Goals as goal

pub returns-in-Ok-clause-answers : goal.returns-in-Ok-clause-answers
returns-in-Ok-clause-answers g c =
    let before = g.F.Files.bytes_at c.args.files.now in
    let after = g.F.Files.bytes_at c.open_development.new.files in
    let known = before c.args.development.now in
    let says = subst (λ (o : Result Development Answer). OfFile known (λ file. OpensAs file o)) c.in-Ok.is c.in_ok-development.ensures.opens in
    explore_answered before after c.args.search.bare c.args.search.budget (setting_of c.args.scope) known (development_view c.in-Ok.development) c.answer_in.result says c.in_ok-development.ensures.keeps c.answer_in.ensures.answers

pub returns-in-Err-clause-answers : goal.returns-in-Err-clause-answers
returns-in-Err-clause-answers g c =
    let before = g.F.Files.bytes_at c.args.files.now in
    let known = before c.args.development.now in
    let tells = subst (λ (o : Result Development Answer). OfFile known (λ file. OpensAs file o)) c.in-Err.is c.in_ok-development.ensures.opens in
    explore_refused before c.args.search.bare c.args.search.budget (setting_of c.args.scope) known c.in-Err.answer tells

pub returns-in-Ok-clause-unread : goal.returns-in-Ok-clause-unread
returns-in-Ok-clause-unread g c = λ unread.
    c.answer_in.ensures.unread
    (unread_setting (g.F.Files.CannotOpen c.args.files.now) (g.F.Files.CannotOpen c.open_development.new.files) (g.F.Files.bytes_at c.args.files.now) c.args.development.now (setting_of c.args.scope)
    (λ closed. let no : false ≡ true = c.in_ok-development.ensures.unread closed in cc) c.in_ok-development.ensures.closed unread)

pub returns-in-Err-clause-unread : goal.returns-in-Err-clause-unread
returns-in-Err-clause-unread g c = λ unread.
    let before = g.F.Files.bytes_at c.args.files.now in
    let known = before c.args.development.now in
    let tells = subst (λ (o : Result Development Answer). OfFile known (λ file. OpensAs file o)) c.in-Err.is c.in_ok-development.ensures.opens in
    absurd (none_after_refused (g.F.Files.CannotOpen c.args.files.now) before c.args.development.now (setting_of c.args.scope) c.in-Err.answer
    (λ closed. let no : false ≡ true = c.in_ok-development.ensures.unread closed in cc) tells unread)
