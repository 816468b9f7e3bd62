use Rattle.std.proofs.Common.{ap, ◌∙◌, w64}
use Rattle.std.specs.Ordering.{int_cmp}
use Rattle.std.specs.BTreeMap.{get}
use Rattle.std.proofs.lemmas.Int.{to_z-of_z}
use Rattle.lc_term.proofs.state.Cells.written.Goals as goal

pub returns : goal.returns
returns c = c.copied.ensures ∙ c.get.ensures.value ∙ ap (get int_cmp c.args.self.now.written) (to_z-of_z w64 c.args.index c.ranges.index)
