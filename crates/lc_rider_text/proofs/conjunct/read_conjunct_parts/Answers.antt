use Rattle.std.proofs.Common.{[], None, refl}
use Rattle.lc_base.specs.Name.{bytes_of}
use Rattle.lc_sexp.specs.Shown.{owner_of}
use Rattle.lc_term.specs.View.{formula_of}
use Rattle.lc_reading.proofs.Combined.{two_parts}
use Rattle.lc_reading.specs.Naming.{name_reading}
use Rattle.lc_text.specs.Formulas.{formula_reading}
use Rattle.lc_text.specs.Terms.{pair}
use Rattle.lc_rider_text.specs.Conjuncts.{conjunct_parts_reading}
use Rattle.lc_rider_text.proofs.conjunct.read_conjunct_parts.Goals as goal

pub returns : goal.returns
returns g c =
    let names = g.S.Scope.names c.args.scope.now in
    two_parts bytes_of formula_of pair (name_reading None []) (formula_reading names []) (conjunct_parts_reading names (owner_of c.args.list)) c.args.list
    c.in_ok-first.rest c.in_ok-first.first c.in_ok-first.second _ _ _ _
    c.in_ok-first.ensures (rw c.new.ensures at c.read_name-name.ensures) c.read_formula-formula.ensures c.both.ensures c.ended.ensures (λ m ts. refl)
