use Rattle.std.proofs.Common.{refl}
use Rattle.lc_put.specs.PutNumbers.{replacement_at}
use Rattle.lc_put.proofs.put_numbers.put_in_term.Goals as goal

pub replaced_term-requires-clause-done : goal.replaced_term-requires-clause-done
replaced_term-requires-clause-done c = record {
  filled = (c.requires.columns, c.requires.variables, refl);
  remembers = c.nothing_replaced-done.ensures (replacement_at c.args.table.now c.args.put.columns.now c.args.put.variables.now) c.args.table.now;
}
