use Rattle.std.proofs.Common.{◌≡◌, ◌++◌, true, drop, length}
use Rattle.std.specs.List.{list_all}
use Rattle.lc_sexp.specs.Flat.{entries, is_within}
use Rattle.lc_sexp.specs.Built.{entries_in}
use Rattle.lc_sexp.proofs.builder.Builder.push_row.Given as goal

abbrev pub invariant-loop-node : goal.invariant-loop-node
invariant-loop-node l = record {
  put : entries_in l.self ++ entries l.text (drop l.node-index l.nodes) ≡ entries_in l.fn.self ++ entries l.text l.nodes;
  within : list_all (is_within (length l.text)) (drop l.node-index l.nodes) ≡ true;
}
