use Rattle.std.proofs.Common.{[], refl}
use Rattle.lc_sexp.specs.Shown.{owner_of}
use Rattle.lc_term.specs.View.{term_of}
use Rattle.lc_reading.proofs.Combined.{three_parts}
use Rattle.lc_text.specs.Terms.{triple, term_reading}
use Rattle.lc_spec_text.specs.Branches.{written_reading, update_parts_reading}
use Rattle.lc_spec_text.specs.ScopeView.{columns_view}
use Rattle.lc_spec_text.proofs.update.read_update_parts.Goals as goal

pub returns : goal.returns
returns g c =
    let columns = columns_view c.args.columns in
    let names = g.S.Scope.names c.args.scope.now in
    three_parts (λ column. column.0) term_of term_of triple (written_reading columns) (term_reading names []) (term_reading names []) (update_parts_reading columns names (owner_of c.args.list)) c.args.list
    c.in_ok-first.rest c.in_ok-first.first c.in_ok-first.second c.in_ok-first.third _ _ _ _ _ _
    c.in_ok-first.ensures c.read_written-column.ensures c.read_term-index.ensures c.read_term-value.ensures c.both.ensures c.both-2.ensures c.ended.ensures (λ m t u v ts. refl)
