use Rattle.std.proofs.Common.{◌≡◌, ◌++◌, drop, map}
use Rattle.lc_base.specs.Name.{bytes_of}
use Rattle.lc_reading.specs.Words.{names_in}
use Rattle.lc_outline_print.proofs.naming.with_names.Given as goal

abbrev pub invariant-loop-name : goal.invariant-loop-name
invariant-loop-name l = names_in l.all.items ++ map bytes_of (drop l.name-index l.names) ≡ names_in l.fn.before.items ++ map bytes_of l.names
