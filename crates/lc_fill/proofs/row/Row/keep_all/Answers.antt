use Rattle.std.proofs.Common.{sym, ap, ◌∙◌}
use Rattle.lc_sexp.specs.Shown.{rest_of}
use Rattle.lc_fill.specs.Filled.{as_is}
use Rattle.lc_fill.specs.Seen.{onto}
use Rattle.lc_fill.proofs.row.Row.keep_all.Goals as goal

pub returns-in_default : goal.returns-in_default
returns-in_default c = ap (λ ts. onto c.items.self (as_is ts)) (sym c.in_default.ensures.1) ∙ c.items.invariant

pub items-preserved : goal.items-preserved
items-preserved c =
    let (at, behind) = c.in-Ok.ensures in
    c.in_ok-keep.ensures (as_is (rest_of c.next_part.new.list)) ∙ ap (λ ts. onto c.items.self (as_is ts)) (sym behind.rest) ∙ c.items.invariant
