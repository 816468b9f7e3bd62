use Rattle.lc_put.proofs.node_replacement.filled.Goals as goal

pub replaced_formula-requires-clause-done : goal.replaced_formula-requires-clause-done
replaced_formula-requires-clause-done g c = record { filled = c.requires.put; remembers = c.nothing_replaced-done.ensures g.R.Filled.replacement c.args.table.now }
