-- What clauses see of the columns that a file declares.
use Rattle.lc_reading.specs.TableView.{listed}
use Rattle.lc_spec_text.specs.Scopes as S
use Rattle.lc_spec_text.specs.declared.scope.Columns.{Columns}

abbrev pub columns_view : Columns → S.Columns
columns_view c = record { own = listed c.own.now; others = listed c.others.now }
