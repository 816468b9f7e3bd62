use Rattle.std.proofs.Common.{◌∙◌, ap}
use Rattle.lc_layout.specs.Layout.{laid_out}
use Rattle.lc_outline.specs.DevelopmentView.{development_view}
use Rattle.lincheck.proofs.LaidOut.{forms_lay, memory_lays, refusal_lays, text_lays}
use Rattle.lincheck.proofs.lines.laid_out_fed.Goals as goal

pub returns-in_err-forms : goal.returns-in_err-forms
returns-in_err-forms c = λ bytes fed.
    text_lays (λ text. text.items) bytes _ c.from_residual.result (c.in_err-forms.ensures.answer bytes fed) c.from_residual.ensures.1

pub returns-in_err-development_in : goal.returns-in_err-development_in
returns-in_err-development_in c = λ bytes fed.
    refusal_lays development_view (λ text. text.items) bytes _ c.from_residual-in_err-development_in.result
    (c.in_err-development_in.ensures bytes (c.in_ok-forms.ensures.answer bytes fed)) c.from_residual-in_err-development_in.ensures.1

pub returns-in_err-lay_out : goal.returns-in_err-lay_out
returns-in_err-lay_out c = λ bytes fed.
    memory_lays (λ text. text.items) bytes c.from_residual-in_err-lay_out.result c.from_residual-in_err-lay_out.ensures.1

pub returns : goal.returns
returns c = λ bytes fed.
    let reads = c.in_ok-forms.ensures.answer bytes fed in
    forms_lay bytes c.in_ok-forms.forms (development_view c.in_ok-development_in.field-0) c.in_ok-lay_out.field-0.items reads (c.in_ok-development_in.ensures bytes reads)
    (c.in_ok-lay_out.ensures ∙ ap laid_out c.cursor.ensures.rest)
