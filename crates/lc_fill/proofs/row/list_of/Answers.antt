use Rattle.std.proofs.Common.{ap, ◌∙◌}
use Rattle.lc_sexp.specs.Shown.{rest_of}
use Rattle.lc_sexp.specs.Trees.{list}
use Rattle.lc_fill.specs.Filled.{as_is, inside}
use Rattle.lc_fill.proofs.row.list_of.Goals as goal

pub returns : goal.returns
returns c = ap (λ f. f.whole) (c.in_ok-list.ensures ∙ ap (inside list) (c.in_ok-keep_all.ensures ∙ c.new-row.ensures (as_is (rest_of c.args.items))))
