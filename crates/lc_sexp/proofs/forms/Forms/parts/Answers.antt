use Rattle.lc_sexp.specs.Shown.{rest_of, item_tree}
use Rattle.lc_sexp.proofs.Walks.{gave_item, gave_none, handed_over, all_handed_over}
use Rattle.lc_sexp.proofs.forms.Forms.parts.Goals as goal

pub loop-item-preserved : goal.loop-item-preserved
loop-item-preserved c =
    handed_over c.loop-item.parts.items _ (item_tree c.in-Ok.item) c.in_ok-to_sexp.field-0 (rest_of c.loop-item.rest) (rest_of c.item.new.self) c.args.self.now
    c.loop-item.invariant (gave_item c.item.result c.loop-item.rest c.item.new.self c.in-Ok.item c.in-Ok.is c.item.ensures) c.in_ok-to_sexp.ensures c.in_ok-push.ensures.items

pub returns : goal.returns
returns c =
    all_handed_over c.loop-item.parts.items (rest_of c.loop-item.rest) c.args.self.now c.loop-item.invariant
    (gave_none c.item.result c.loop-item.rest c.item.new.self c.in_default.field-0 c.in_default.is c.item.ensures)
