use Rattle.std.proofs.Common.{[], refl}
use Rattle.lc_sexp.specs.Shown.{owner_of}
use Rattle.lc_term.specs.View.{term_of}
use Rattle.lc_reading.proofs.Combined.{two_parts}
use Rattle.lc_reading.specs.TableView.{listed}
use Rattle.lc_text.specs.Terms.{pair, term_reading}
use Rattle.lc_object_text.specs.Cells.{target_reading, assignment_parts}
use Rattle.lc_object_text.proofs.cells.read_assignment_parts.Goals as goal

pub returns : goal.returns
returns g c =
    let names = g.S.Scope.names c.args.scope.now in
    let code = g.S.CodeScope.code c.args.scope.now in
    let before = listed c.args.before.now in
    two_parts (λ local. local.0) term_of pair (target_reading code before) (term_reading names []) (assignment_parts names code before (owner_of c.args.list)) c.args.list c.in_ok-first.rest c.in_ok-first.first c.in_ok-first.second _ _ _ _
    c.in_ok-first.ensures c.read_target-target.ensures c.read_term-value.ensures c.both.ensures c.ended.ensures (λ m ts. refl)
