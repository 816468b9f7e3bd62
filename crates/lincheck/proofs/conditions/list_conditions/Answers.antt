use Rattle.std.proofs.Common.{Result, refl, subst}
use Rattle.std.proofs.lemmas.Result.{err_from_is_err_and}
use Rattle.lc_cond_text.specs.ConditionText.{conditions_text}
use Rattle.lc_outline.specs.DevelopmentView.{development_view}
use Rattle.lc_outline.specs.declared.development.Development.{Development}
use Rattle.lincheck.specs.Check.{OpensAs}
use Rattle.lc_words.specs.Tasks.{ListConditions}
use Rattle.lincheck.specs.Execution.{AnswersTask}
use Rattle.lincheck.specs.Reading.{OfFile}
use Rattle.lincheck.specs.declared.answer.Answer.{Answer}
use Rattle.lincheck.proofs.Endings.{leaves_broken, leaves_printed}
use Rattle.lincheck.proofs.Opened.{text_answers_development, told_refused}
use Rattle.lincheck.proofs.conditions.list_conditions.Goals as goal

pub returns-in_err-print_conditions-in-Ok-clause-leaves : goal.returns-in_err-print_conditions-in-Ok-clause-leaves
returns-in_err-print_conditions-in-Ok-clause-leaves g c =
    let known = g.F.Files.bytes_at c.args.files.now c.args.path.now in
    let says = subst (λ (o : Result Development Answer). OfFile known (λ file. OpensAs file o)) c.in-Ok.is c.in_ok-development.ensures.opens in
    let p = err_from_is_err_and c.from_residual-in_err-print_conditions-in-Ok.result c.from_residual-in_err-print_conditions-in-Ok.ensures.1 in
    rw (p.1, p.2)
    (leaves_broken (ListConditions c.args.path.now) (AnswersTask (g.F.Files.bytes_at c.args.files.now) (ListConditions c.args.path.now)) (g.O.Write.contents c.args.out.now)
    (g.O.Write.contents c.print_conditions.new.out) (conditions_text (development_view c.in-Ok.development)) 0 c.in_err-print_conditions-in-Ok.field-0.0 tt
    (text_answers_development conditions_text known (development_view c.in-Ok.development) (conditions_text (development_view c.in-Ok.development)) says refl) c.in_err-print_conditions-in-Ok.ensures)

pub returns-in-Err-clause-leaves : goal.returns-in-Err-clause-leaves
returns-in-Err-clause-leaves g c =
    let known = g.F.Files.bytes_at c.args.files.now c.args.path.now in
    let tells = subst (λ (o : Result Development Answer). OfFile known (λ file. OpensAs file o)) c.in-Err.is c.in_ok-development.ensures.opens in
    leaves_printed (ListConditions c.args.path.now) (AnswersTask (g.F.Files.bytes_at c.args.files.now) (ListConditions c.args.path.now)) (g.O.Write.contents c.args.out.now)
    (g.O.Write.contents c.print_told.new.out) c.in-Err.answer.text.items c.in-Err.answer.status c.print_told.result
    (told_refused conditions_text known c.in-Err.answer.text.items c.in-Err.answer.status tells) c.print_told.ensures.prints c.print_told.ensures.fails

pub returns-in_ok-print_conditions-in-Ok-clause-leaves : goal.returns-in_ok-print_conditions-in-Ok-clause-leaves
returns-in_ok-print_conditions-in-Ok-clause-leaves g c =
    let known = g.F.Files.bytes_at c.args.files.now c.args.path.now in
    let says = subst (λ (o : Result Development Answer). OfFile known (λ file. OpensAs file o)) c.in-Ok.is c.in_ok-development.ensures.opens in
    let text = conditions_text (development_view c.in-Ok.development) in
    (text, text_answers_development conditions_text known (development_view c.in-Ok.development) text says refl, c.in_ok-print_conditions-in-Ok.ensures)
