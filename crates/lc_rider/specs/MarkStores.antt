-- What marks store in columns that are kept by their numbers.
use Rattle.std.specs.Prelude.{◌≡◌, List, map}
use Rattle.lc_base.specs.declared.ids.ColId.{ColId}
use Rattle.lc_table.specs.NodeTables.{Table}
use Rattle.lc_put.specs.PutNumbers.{columns_at, AreColumns, terms_in, AreTerms}
use Rattle.lc_table.specs.declared.node.ColExprId.{ColExprId}
use Rattle.lc_put.specs.declared.put_numbers.PutNumbers.{PutNumbers}
use Rattle.lc_term.specs.Said.{puts, said}
use Rattle.lc_term.specs.Updates.{Update}

-- what is put in and the columns that are stored in are of the table
pub record CanStore (ts : Table) (put : PutNumbers) (stored : List (ColId × ColExprId)) : Type 0 where
  pub before : AreColumns ts put.columns.now
  pub variables : AreTerms ts put.variables.now
  pub columns : AreColumns ts stored

-- these columns, followed by the others, in which the updates are stored, said with what is put in
abbrev pub AreStored : Table → PutNumbers → List (ColId × ColExprId) → List Update → Table → List (ColId × ColExprId) → Type 0
AreStored old put before us new after =
    columns_at new after ≡ puts (columns_at old before) (map (said (columns_at old put.columns.now) (terms_in old put.variables.now)) us)
