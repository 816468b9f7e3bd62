use Rattle.std.proofs.Common.{◌≡◌, ◌++◌, true, drop, vec_len}
use Rattle.std.specs.List.{list_all}
use Rattle.lc_sexp.specs.Entries.{entries_of_all}
use Rattle.lc_sexp.specs.Flat.{entries, is_within}
use Rattle.lc_sexp.specs.Built.{entries_in}
use Rattle.lc_sexp.specs.Filling.{filled}
use Rattle.lc_sexp.proofs.filling.fill.Given as goal

abbrev pub invariant-loop-node : goal.invariant-loop-node
invariant-loop-node l = record {
  put : entries_in l.built ++ entries_of_all (filled l.form (entries l.ended.text.items (drop l.node-index l.ended.nodes.items)) l.ready.items)
      ≡ entries_of_all (filled 0 (entries_in l.ended) l.fn.ready.items);
  within : list_all (is_within (vec_len l.ended.text)) (drop l.node-index l.ended.nodes.items) ≡ true;
  form : l.form ≡ l.node-index;
}
