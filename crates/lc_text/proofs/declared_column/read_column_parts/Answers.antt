use Rattle.std.proofs.Common.{None, refl}
use Rattle.lc_base.specs.Name.{bytes_of}
use Rattle.lc_sexp.specs.Shown.{owner_of}
use Rattle.lc_reading.proofs.Combined.{three_parts}
use Rattle.lc_reading.specs.Naming.{name_reading}
use Rattle.lc_reading.specs.TableView.{listed}
use Rattle.lc_text.specs.DeclaredColumn.{column_parts_reading}
use Rattle.lc_text.specs.Terms.{triple, number_reading}
use Rattle.lc_text.proofs.declared_column.read_column_parts.Goals as goal

pub returns : goal.returns
returns c =
    let before = listed c.args.before.now in
    three_parts bytes_of (λ z. z) (λ z. z) triple (name_reading None before) number_reading number_reading (column_parts_reading before (owner_of c.args.list)) c.args.list c.in_ok-first.rest
    c.in_ok-first.first c.in_ok-first.second c.in_ok-first.third _ _ _ _ _ _
    c.in_ok-first.ensures c.read_name-name.ensures c.read_number-slope.ensures c.read_number-start.ensures c.both.ensures c.both-2.ensures c.ended.ensures (λ m t u v ts. refl)
