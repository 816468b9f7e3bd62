use Rattle.std.proofs.Common.{◌++◌, [], ◌∷◌, ap, ◌∙◌}
use Rattle.lc_reading.specs.Parts.{tree_of}
use Rattle.lc_fill.proofs.Rows.{made_kept}
use Rattle.lc_fill.proofs.row.Row.keep.Goals as goal

pub returns : goal.returns
returns c = λ r.
    let row = c.args.self.now in
    made_kept row.items.items c.push.new.self.items row.gaps.items row.lacking.items (tree_of c.args.part) r
    (c.in_ok-push.ensures.items ∙ ap (λ t. row.items.items ++ t ∷ []) (c.in_ok-copy.ensures ∙ c.item.ensures.tree))
