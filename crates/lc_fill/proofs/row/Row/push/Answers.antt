use Rattle.std.proofs.Common.{◌++◌, ap, ◌∙◌}
use Rattle.lc_fill.specs.Seen.{tree_view}
use Rattle.lc_fill.proofs.Rows.{made_followed}
use Rattle.lc_fill.proofs.row.Row.push.Goals as goal

pub returns : goal.returns
returns c = λ r.
    let row = c.args.self.now in
    let f = c.args.item in
    made_followed row.items.items c.push.new.self.items row.gaps.items c.extend_from_slice.new.self.items row.lacking.items c.extend_from_slice-2.new.self.items (tree_view f) r
    c.in_ok-push.ensures.items
    (c.in_ok-extend_from_slice.ensures.items ∙ ap (λ g. row.gaps.items ++ g) c.deref.ensures.value)
    (c.in_ok-extend_from_slice-2.ensures.items ∙ ap (λ l. row.lacking.items ++ l) c.deref-2.ensures.value)
