use Rattle.std.proofs.Common.{◌≡◌, ◌++◌, drop}
use Rattle.lc_reading.specs.TableView.{listed}
use Rattle.lc_reading.specs.Words.{names_in}
use Rattle.lc_cert.proofs.naming.table_of.Given as goal

abbrev pub invariant-loop-name : goal.invariant-loop-name
invariant-loop-name l = listed l.table ++ names_in (drop l.name-index l.names) ≡ names_in l.names
