use Rattle.std.proofs.Common.{◌++◌, sym, ap, ◌∙◌}
use Rattle.std.proofs.lemmas.Result.{on_ok_weaker}
use Rattle.lc_carry.proofs.Least.{none_here, one_here}
use Rattle.lc_carry.specs.TextNumbers.{number_of}
use Rattle.lc_cert.specs.CertificateView.{entries_in}
use Rattle.lc_cond.specs.ConditionView.{condition_in}
use Rattle.lc_cond_text.specs.ConditionText.{statement_text}
use Rattle.lc_outline.specs.DevelopmentView.{development_view}
use Rattle.lc_carry.specs.Renaming.{column_for}
use Rattle.lc_carry.proofs.numbers.note_condition.Goals as goal

pub returns-then-not-has_carried-clause-noted : goal.returns-then-not-has_carried-clause-noted
returns-then-not-has_carried-clause-noted c = λ t.
    none_here (development_view c.args.old.now.development.now) (entries_in c.args.old.now.certificate.now) (column_for c.args.old.now.columns.now) t c.args.number
    (condition_in c.args.terms.now c.args.condition.now) (number_of c.args.numbers.now t) (sym c.has_carried.ensures ∙ c.if-not-has_carried.true)

pub returns-clause-noted : goal.returns-clause-noted
returns-clause-noted c =
    let d = development_view c.args.old.now.development.now in
    let x = condition_in c.args.terms.now c.args.condition.now in
    let says = c.deref.ensures.value ∙ c.in_ok-push_statement.ensures.text ∙ ap (λ l. l ++ statement_text d x) c.new-text.ensures.items in
    on_ok_weaker c.note.result
    (λ noted t. one_here d (entries_in c.args.old.now.certificate.now) (column_for c.args.old.now.columns.now) t c.args.number x (number_of c.args.numbers.now t)
    (number_of c.note.new.self t) c.deref.result.now (sym c.has_carried.ensures ∙ c.if-not-has_carried.false) says (noted t)) c.note.ensures
