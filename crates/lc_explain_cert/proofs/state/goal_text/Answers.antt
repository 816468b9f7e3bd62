use Rattle.std.proofs.Common.{◌++◌, [], ap, sym, ◌∙◌}
use Rattle.std.proofs.lemmas.List.{length-map}
use Rattle.lc_explain_cert.proofs.Parted.{with_negated}
use Rattle.lc_explain_cert.specs.Names.{spelled}
use Rattle.lc_explain_cert.specs.State.{shown_state}
use Rattle.lc_table.specs.Tables.{formula_in, formulas_in}
use Rattle.lc_term.specs.Syntax as S
use Rattle.lc_term.specs.View.{formulas_of}
use Rattle.lc_explain_cert.proofs.state.goal_text.Goals as goal

pub returns : goal.returns
returns c =
    let ts = c.args.terms.now in
    let H = formulas_in ts c.args.goal.now.hypotheses in
    let claim = S.Not (formula_in ts c.args.goal.now.goal) in
    let hypotheses = c.in_ok-all.ensures ∙ ap (formulas_in ts) c.as_slice.ensures in
    let all = ap formulas_of c.deref.ensures.value
    ∙ with_negated c.in_ok-all.all.items c.push.new.self.items c.in_ok-negated.field-0 H claim c.in_ok-push.ensures.items hypotheses c.in_ok-negated.ensures in
    c.in_ok-push_state.ensures H claim [] all (length-map c.args.goal.now.hypotheses _ ∙ sym c.count_of.ensures)
    ∙ ap (λ l. l ++ shown_state (spelled c.args.names.now) H claim []) c.new-text.ensures.bytes
