use Rattle.std.proofs.Common.{◌++◌, ap, ◌∙◌}
use Rattle.lc_fill.proofs.Rows.{made_appended}
use Rattle.lc_fill.proofs.row.Row.append.Goals as goal

pub returns : goal.returns
returns c = λ r.
    let row = c.args.self.now in
    let f = c.args.other in
    made_appended row.items.items f.items.items c.append.new.self.items row.gaps.items f.gaps.items c.extend_from_slice.new.self.items row.lacking.items f.lacking.items c.extend_from_slice-2.new.self.items r
    c.in_ok-append.ensures.items
    (c.in_ok-extend_from_slice.ensures.items ∙ ap (λ g. row.gaps.items ++ g) c.deref.ensures.value)
    (c.in_ok-extend_from_slice-2.ensures.items ∙ ap (λ l. row.lacking.items ++ l) c.deref-2.ensures.value)
