use Rattle.std.proofs.Common.{codes}
use Rattle.std.specs.Fmt.{decimal}
use Rattle.std.proofs.lemmas.Result.{on_ok_weaker}
use Rattle.lc_text.specs.Spelled.{spaced, spelled_formula}
use Rattle.lc_outline.specs.DevelopmentView.{development_view}
use Rattle.lc_cond.specs.ConditionView.{condition_in}
use Rattle.lc_outline.specs.ColumnNames.{name_at}
use Rattle.lc_cond_text.specs.ConditionText.{kind_word, or_hyphen, point_names, passage_text, which_text, spelled, formulas_text}
use Rattle.lc_cond_text.proofs.Joined.{line_joined}
use Rattle.lc_cond_text.proofs.text.push_condition.Goals as goal

pub returns-clause-text : goal.returns-clause-text
returns-clause-text c =
    let d = development_view c.args.development.now in
    let x = condition_in c.args.terms.now c.args.condition.now in
    on_ok_weaker c.push_claim.result
    (λ last. line_joined (codes "(condition ") (decimal c.args.number) (spaced (kind_word x.kind)) (spaced (or_hyphen (name_at (point_names d)) x.place.point)) (spaced (passage_text d x.place.passage))
    (spaced (or_hyphen decimal x.place.path)) (spaced (which_text d x.place.which)) (codes " (vars ") (decimal x.variables) (codes ") (hyps") (formulas_text (spelled d) x.hypotheses) (codes ") (goal")
    (spaced (spelled_formula (spelled d) 0 x.goal)) (codes "))") c.args.out.now.items c.push_head.new.out.items c.push_known.new.out.items c.push_claim.new.out.items
    c.in_ok-push_head.ensures c.in_ok-push_known.ensures.text last) c.push_claim.ensures.text
