use Rattle.std.proofs.Common.{map, sym, subst}
use Rattle.std.specs.Prelude.{Vec}
use Rattle.std.specs.declared.alloc.Global.{Global}
use Rattle.lc_reading.proofs.Combined.{both_read}
use Rattle.lc_reading.specs.Results.{IsReading}
use Rattle.lc_sexp.specs.Shown.{rest_of, number_of}
use Rattle.lc_reading.specs.Parts.{tree_of, place_of}
use Rattle.lc_term.specs.View.{formula_of}
use Rattle.lc_term.specs.declared.formula.Formula.{Formula}
use Rattle.lc_text.specs.Terms.{pair}
use Rattle.lc_tie.specs.TieView.{conjunct_of}
use Rattle.lc_tie.specs.declared.tie.Conjunct.{Conjunct}
use Rattle.lc_outline_text.proofs.PlacedReads.{conditions_at}
use Rattle.lc_outline_text.specs.DeclarationsView.{declarations_view}
use Rattle.lc_outline_text.specs.Views.{conditions_view}
use Rattle.lc_outline_text.proofs.sides.read_conditions.Goals as goal

pub returns : goal.returns
returns c =
    let parts = c.in-Ok.ensures in
    let d = declarations_view c.args.declarations.now in
    let at = conditions_at d c.args.object (number_of c.args.list) (place_of c.in-Ok.invariant) (place_of c.in-Ok.idle) (tree_of c.in-Ok.invariant) (tree_of c.in-Ok.idle) _ (rest_of c.args.list) parts.0 parts.1 parts.2 in
    subst (λ r. IsReading conditions_view r c.both.result) (sym at)
    (subst (IsReading conditions_view _) (sym c.both.ensures)
    (both_read (λ (xs : Vec Conjunct Global). map conjunct_of xs.items) (λ (fs : Vec Formula Global). map formula_of fs.items) pair _ _ c.read_invariant-conjuncts.result c.read_idle-idle.result c.read_invariant-conjuncts.ensures c.read_idle-idle.ensures))
