use Rattle.std.proofs.Common.{◌∙◌, ap}
use Rattle.lc_object.specs.Syntax.{Object}
use Rattle.lc_outline.specs.PartsView.{parts_view}
use Rattle.lc_outline_print.specs.Developments.{table_trees, conditions_and_bodies}
use Rattle.lc_outline_print.proofs.Forms.{object_text}
use Rattle.lc_outline_print.proofs.development.write_object.Goals as goal

pub returns : goal.returns
returns c =
    let D = parts_view c.args.parts.now in
    object_text c.as_str.result.now D.object.name (table_trees D) (conditions_and_bodies D) _ _ _ _ _ _ (c.as_str.ensures.text ∙ ap (λ (o : Object). o.name) c.parts.ensures.shown)
    c.in_ok-push_str.ensures.bytes c.in_ok-push_str-2.ensures.bytes c.in_ok-write_tables.ensures c.in_ok-write_conditions_and_bodies.ensures c.in_ok-push_str-3.ensures.bytes
