use Rattle.std.proofs.Common.{◌≡◌, List, [], ◌∷◌, Option, Some, Bor, sym, ap, ◌∙◌, subst}
use Rattle.std.specs.Prelude.{option_map}
use Rattle.lc_put.specs.PutNumbers.{terms_in}
use Rattle.lc_term.specs.Said.{told}
use Rattle.lc_term.specs.Syntax.{Term, Formula, Not}
use Rattle.lc_table.specs.Tables.{HasFormula}
use Rattle.lc_term.specs.View.{formula_of}
use Rattle.lc_put.proofs.ByNumber.{are_terms_later, terms_still}
use Rattle.lc_table.proofs.Later.{kept_on, formula_later, formula_is, is_formula_later}
use Rattle.lc_seq.specs.TextView.{specification_of}
use Rattle.lc_action.specs.ActionView.{first_of}
use Rattle.lc_rider.specs.Paths.{Path, with_fact, deed_paths, deed_paths_where}
use Rattle.lc_rider.specs.PathView.{path_in, HasPath}
use Rattle.lc_rider.specs.PathsAdded.{AddsPaths}
use Rattle.lc_rider.specs.RiderView.{rider_of, formula_in}
use Rattle.lc_rider.specs.declared.rider.When.{When}
use Rattle.lc_rider.proofs.PathsAdded.{is_later, adds_on, adds_one, adds_same}
use Rattle.lc_rider.proofs.edge_paths.rider_paths.Goals as goal

pub deed_paths-requires-2 : goal.deed_paths-requires-2
deed_paths-requires-2 c =
    let t0 = c.args.terms.now in
    let t1 = c.told_before.new.terms in
    let p = path_in t0 c.args.path in
    let kept = c.in_ok-condition.ensures.kept in
    record {
      path = (c.in_ok-holds.ensures t1 p _ (c.in_ok-copy.ensures t1 p (is_later t0 t1 c.args.path c.requires.path kept)) c.in_ok-condition.ensures.id).is;
      variables = are_terms_later t0 t1 c.args.turn.riding.variables.now c.requires.variables kept;
    }

pub not-requires : goal.not-requires
not-requires c = is_formula_later c.told_before.new.terms c.deed_paths-2.new.terms c.in_ok-condition.condition _ c.in_ok-condition.ensures.id c.in_ok-deed_paths.ensures.kept

pub returns-clause-paths : goal.returns-clause-paths
returns-clause-paths c =
    let operations = (specification_of c.args.turn.riding.specification.now).operations in
    let first = first_of c.args.turn.riding.system in
    let o = c.args.turn.riding.operation.0 in
    let t0 = c.args.terms.now in
    let t1 = c.told_before.new.terms in
    let t2 = c.deed_paths-2.new.terms in
    let t3 = c.not.new.self in
    let p = path_in t0 c.args.path in
    let τ = terms_in t0 c.args.turn.riding.variables.now in
    let r = rider_of c.args.turn.rider.now in
    let k = c.in_ok-condition.condition in
    let kept01 = c.in_ok-condition.ensures.kept in
    let kept12 = c.in_ok-deed_paths.ensures.kept in
    let kept23 = c.in_ok-negated.ensures.kept in
    let kept03 = kept_on t0 t1 t3 kept01 (kept_on t1 t2 t3 kept12 kept23) in
    let before = c.args.paths.now.items in
    let mid = c.deed_paths-2.new.paths.items in
    let now = c.push.new.self.items in
    let g : Formula = told p.columns τ (formula_of c.formula.result.now) in
    let copy : HasPath t1 c.in_ok-copy.copy p = c.in_ok-copy.ensures t1 p (is_later t0 t1 c.args.path c.requires.path kept01) in
    let holds : HasPath t1 c.in_ok-holds.holds (with_fact p g) = c.in_ok-holds.ensures t1 p g copy c.in_ok-condition.ensures.id in
    let deed : List Term → Path → List Path = λ υ q. deed_paths operations first c.args.turn.number o υ r.deed q in
    let done : AddsPaths before t2 mid (deed τ (with_fact p g)) =
    adds_same before mid t2 _ _ c.in_ok-deed_paths.ensures.paths (λ i. deed (terms_still t0 t1 c.args.turn.riding.variables.now c.requires.variables kept01 i) (holds.path i)) in
    let negated : HasFormula t3 c.in_ok-negated.negated (Not g) =
    subst (λ (f : Formula). HasFormula t3 c.in_ok-negated.negated (Not f)) (formula_is t2 k g (formula_later t1 t2 k g c.in_ok-condition.ensures.id kept12)) c.in_ok-negated.ensures.id in
    let fails : HasPath t3 c.in_ok-fails.fails (with_fact p (Not g)) = c.in_ok-fails.ensures t3 p (Not g) (is_later t0 t3 c.args.path c.requires.path kept03) negated in
    let both = adds_on before mid now t2 t3 (deed τ (with_fact p g)) (with_fact p (Not g) ∷ []) done kept23 (adds_one mid now t3 c.in_ok-fails.fails (with_fact p (Not g)) c.in_ok-push.ensures.items fails) in
    let some : Some (formula_of c.formula.result.now) ≡ r.condition =
    ap Some c.formula.ensures.formula ∙ (ap (option_map (λ (w : Bor When). formula_in w.now)) (sym c.in-Some.is) ∙ c.condition.ensures) in
    adds_same before now t3 _ _ both (ap (λ (f : Option Formula). deed_paths_where operations first f c.args.turn.number o τ r.deed p) some)
