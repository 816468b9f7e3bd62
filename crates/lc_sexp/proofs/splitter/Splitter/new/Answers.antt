use Rattle.std.proofs.Common.{refl}
use Rattle.lc_sexp.proofs.Splits.{fresh_splits}
use Rattle.lc_sexp.proofs.splitter.Splitter.new.Goals as goal

pub returns-clause-splits : goal.returns-clause-splits
returns-clause-splits c =
    let n = c.new.ensures in
    fresh_splits _ (record { offset = n.offset; outside = n.outside; holes = n.holes; nodes = n.nodes; text = n.text; start = n.start }) refl c.new-3.ensures.items c.new-2.ensures refl refl
