use Rattle.std.proofs.Common.{sym, ap, ◌∙◌}
use Rattle.lc_sexp.specs.Shown.{rest_of}
use Rattle.lc_reading.specs.Parts.{tree_of}
use Rattle.lc_fill.specs.Filled.{put, put_all}
use Rattle.lc_fill.specs.Seen.{onto}
use Rattle.lc_fill.proofs.row.Row.put_all.Goals as goal

pub returns-in_default : goal.returns-in_default
returns-in_default c = λ r. ap (λ ts. onto c.items.self (put_all c.args.place ts r)) (sym c.in_default.ensures.1) ∙ c.items.invariant r

pub items-preserved : goal.items-preserved
items-preserved c = λ r.
    let (at, behind) = c.in-Ok.ensures in
    let others = put_all c.args.place (rest_of c.next_part.new.list) r in
    c.in_ok-put.ensures others
    ∙ ap (λ t. onto c.items.self (put c.args.place t others)) (c.in_ok-copy.ensures ∙ c.item.ensures.tree)
    ∙ ap (λ ts. onto c.items.self (put_all c.args.place ts r)) (sym behind.rest) ∙ c.items.invariant r
