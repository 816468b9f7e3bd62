use Rattle.std.proofs.lemmas.List.Sorted.{All-permutation}
use Rattle.lc_table.specs.Tables.{IsTerm}
use Rattle.lc_linear.proofs.shared.summands_of.Goals as goal

pub returns : goal.returns
returns c = All-permutation (IsTerm c.args.terms.now) c.loop-place.nodes.items c.sort_by_key.new.self.items c.sort_by_key.ensures.permutation c.loop-place.invariant
