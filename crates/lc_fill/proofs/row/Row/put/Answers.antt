use Rattle.std.proofs.Common.{◌++◌, [], ◌∷◌, ap, ◌∙◌}
use Rattle.lc_fill.proofs.Rows.{made_put}
use Rattle.lc_fill.proofs.row.Row.put.Goals as goal

pub returns : goal.returns
returns c = λ r.
    let row = c.args.self.now in
    made_put row.items.items c.push-2.new.self.items row.gaps.items c.push.new.self.items row.lacking.items c.args.place c.args.item r c.in_ok-push-2.ensures.items
    (c.in_ok-push.ensures.items ∙ ap (λ n. row.gaps.items ++ record { place = c.args.place; size = n } ∷ []) c.item_count-size.ensures)
