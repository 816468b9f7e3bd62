-- What clauses see of the names that a file declares.
use Rattle.std.specs.Borrow.{Bor}
use Rattle.std.specs.Prelude.{ℕ, List, map, Option, Some, None}
use Rattle.lc_reading.specs.TableView.{listed}
use Rattle.lc_text.specs.Names.{Names}
use Rattle.lc_rider_text.specs.Known as K
use Rattle.lc_rider_text.specs.Scopes.{beside_names}
use Rattle.lc_rider_text.specs.Tables.{listed_there}
use Rattle.lc_rider_text.specs.declared.columns.Columns.{Columns}
use Rattle.lc_rider_text.specs.declared.variables.Variables.{Variables}
use Rattle.lc_rider_text.specs.declared.known.Known.{Known}
use Rattle.lc_rider_text.specs.declared.known.Ways.{Ways}
use Rattle.lc_rider_text.specs.declared.scope.Beside.{Beside}

-- the columns that are declared
abbrev pub columns_listed : Columns → List (List ℕ)
columns_listed columns = listed columns.names.now

-- the variables after the client, if there is one
abbrev pub others_listed : Variables → Option (List (List ℕ))
others_listed variables = listed_there variables.first variables.second

-- how an operation goes
abbrev pub ways_view : Ways → K.Ways
ways_view ways = record { count = ways.count; choices = listed ways.choices; parameters = ways.parameters.items }

-- how one goes that is referred to, if it is known
abbrev pub ways_there : Option (Bor Ways) → Option K.Ways
ways_there None = None
ways_there (Some ways) = Some (ways_view ways.now)

abbrev pub known_view : Known → K.Known
known_view known = record {
  columns = columns_listed known.columns;
  auxiliaries = known.columns.auxiliaries;
  operations = listed known.operations.now;
  ways = map ways_view known.ways.now;
  actions = listed known.actions.now;
  parameters = known.parameters.now;
}

-- how names are read beside the code
abbrev pub names_beside : Beside → Names
names_beside scope = beside_names (columns_listed scope.columns) (others_listed scope.variables)
