use Rattle.std.proofs.Common.{◌≡◌, map, take}
use Rattle.lc_carry.proofs.Between.{number_in}
use Rattle.lc_reading.specs.Listed.{place_of}
use Rattle.lc_reading.specs.TableView.{listed}
use Rattle.lc_reading.specs.Words.{names_in}
use Rattle.lc_carry.proofs.columns.columns_between.Given as goal

-- the columns of the names so far
abbrev pub invariant-loop-name : goal.invariant-loop-name
invariant-loop-name l = map number_in l.columns.items ≡ map (place_of (listed l.table)) (names_in (take l.name-index l.name-items))
