use Rattle.std.proofs.Common.{sym, ap, ap₂, ◌∙◌}
use Rattle.lc_sexp.specs.Shown.{rest_of, number_of}
use Rattle.lc_reading.specs.Parts.{tree_of}
use Rattle.lc_fill.specs.Filled.{as_is, kept, put_all, ending}
use Rattle.lc_sexp.specs.Trees.{none}
use Rattle.lc_fill.specs.Seen.{onto}
use Rattle.lc_fill.proofs.row.Row.keep_and_put.Goals as goal

pub returns-in_default : goal.returns-in_default
returns-in_default c =
    let more = rest_of c.args.more in
    c.in_ok-put_all.ensures (as_is none)
    ∙ ap (λ n. onto c.items.self (put_all n more (as_is none))) c.number-place.ensures
    ∙ ap (λ ts. onto c.items.self (ending more (number_of c.items.rest) ts)) (sym c.in_default.ensures.1) ∙ c.items.invariant

pub items-preserved : goal.items-preserved
items-preserved c =
    let (at, behind) = c.in-Ok.ensures in
    let more = rest_of c.args.more in
    let d = c.next_part.new.list in
    c.in_ok-keep.ensures (ending more (number_of d) (rest_of d))
    ∙ ap (λ n. onto c.items.self (kept (tree_of c.in-Ok.part) (ending more n (rest_of d)))) behind.number
    ∙ ap (λ ts. onto c.items.self (ending more (number_of c.items.rest) ts)) (sym behind.rest) ∙ c.items.invariant
