use Rattle.std.proofs.Common.{◌≡◌, [], ◌∷◌, ◌++◌, List, map, arith, sym, ap, ◌∙◌, subst, append_assoc, append-nil}
use Rattle.lc_term.specs.Lists.{concat_map}
use Rattle.lc_put.specs.PutNumbers.{terms_in}
use Rattle.lc_term.specs.Syntax.{Term}
use Rattle.lc_put.proofs.ByNumber.{are_terms_later, terms_still}
use Rattle.lc_table.proofs.Later.{kept_on, keeps_itself}
use Rattle.lc_seq.specs.TextView.{specification_of}
use Rattle.lc_action.specs.ActionView.{first_of}
use Rattle.lc_rider.specs.Paths.{Path, rider_paths}
use Rattle.lc_rider.specs.PathView.{path_in, ArePaths}
use Rattle.lc_rider.specs.PathsAdded.{AddsPaths}
use Rattle.lc_rider.specs.declared.path.Path as P
use Rattle.lc_rider.specs.RiderView.{rider_of}
use Rattle.lc_rider.proofs.PathsAdded.{adds_none, adds_on, adds_same, adds_to_none, no_paths}
use Rattle.lc_rider.proofs.PathLater.{is_path_later, path_still}
use Rattle.lc_rider.proofs.edge_paths.each_ridden.Goals as goal

pub loop-path-init : goal.loop-path-init
loop-path-init c =
    let operations = (specification_of c.args.turn.riding.specification.now).operations in
    let first = first_of c.args.turn.riding.system in
    let t = c.args.terms.now in
    let each : Path → List Path = λ q. rider_paths operations first c.args.turn.number c.args.turn.riding.operation.0 (terms_in t c.args.turn.riding.variables.now) (rider_of c.args.turn.rider.now) q in
    let all = c.into_iter-path-iterator.ensures.into_iter_gives.0 in
    record {
      kept = keeps_itself t;
      left = subst (ArePaths t) (sym all) c.requires.paths;
      paths = (
        [],
        subst (λ (ps : List P.Path). AddsPaths [] t ps []) (sym c.new-ridden.ensures.items) (adds_none [] t),
        ap (λ (ps : List P.Path). concat_map each (map (path_in t) ps)) all,
      );
    }

pub returns-in_err-rider_paths-clause-kept : goal.returns-in_err-rider_paths-clause-kept
returns-in_err-rider_paths-clause-kept c = kept_on c.args.terms.now c.loop-path.terms c.rider_paths.new.terms c.loop-path.invariant.kept c.in_err-rider_paths.ensures.kept

pub rider_paths-requires : goal.rider_paths-requires
rider_paths-requires c =
    let t = c.args.terms.now in
    let inv = c.loop-path.invariant in
    let these : ArePaths t (c.in-Some.path ∷ c.next.new.self.rest.items) = subst (ArePaths t) c.in-Some.ensures.steps.0 inv.left in
    record {
      path = is_path_later t c.loop-path.terms c.in-Some.path these.0 inv.kept;
      variables = are_terms_later t c.loop-path.terms c.args.turn.riding.variables.now c.requires.variables inv.kept;
    }

pub loop-path-preserved : goal.loop-path-preserved
loop-path-preserved c =
    let operations = (specification_of c.args.turn.riding.specification.now).operations in
    let first = first_of c.args.turn.riding.system in
    let o = c.args.turn.riding.operation.0 in
    let t = c.args.terms.now in
    let t0 = c.loop-path.terms in
    let t1 = c.rider_paths.new.terms in
    let inv = c.loop-path.invariant in
    let p = c.in-Some.path in
    let kept = c.in_ok-rider_paths.ensures.kept in
    let here = c.in-Some.ensures.steps.0 in
    let these : ArePaths t (p ∷ c.next.new.self.rest.items) = subst (ArePaths t) here inv.left in
    let of : List Term → Path → List Path = λ τ q. rider_paths operations first c.args.turn.number o τ (rider_of c.args.turn.rider.now) q in
    let each = of (terms_in t c.args.turn.riding.variables.now) in
    let x = path_in t p in
    let done = inv.paths.0 in
    let added = adds_same c.loop-path.ridden.items c.rider_paths.new.paths.items t1 _ _ c.in_ok-rider_paths.ensures.paths
    (λ i. of (terms_still t t0 c.args.turn.riding.variables.now c.requires.variables inv.kept i) (path_still t t0 p these.0 inv.kept i)) in
    record {
      kept = kept_on t t0 t1 inv.kept kept;
      left = these.1;
      paths = (
        done ++ each x,
        adds_on [] c.loop-path.ridden.items c.rider_paths.new.paths.items t0 t1 done (each x) inv.paths.1 kept added,
        append_assoc done (each x) (concat_map each (map (path_in t) c.next.new.self.rest.items))
            ∙ (ap (λ ps. done ++ concat_map each (map (path_in t) ps)) (sym here) ∙ inv.paths.2),
      );
    }

pub returns-clause-paths : goal.returns-clause-paths
returns-clause-paths c =
    let operations = (specification_of c.args.turn.riding.specification.now).operations in
    let first = first_of c.args.turn.riding.system in
    let o = c.args.turn.riding.operation.0 in
    let t = c.args.terms.now in
    let t0 = c.loop-path.terms in
    let inv = c.loop-path.invariant in
    let each : Path → List Path = λ q. rider_paths operations first c.args.turn.number o (terms_in t c.args.turn.riding.variables.now) (rider_of c.args.turn.rider.now) q in
    let kept = c.loop-path.path-iterator.rest.ok in
    let ended = c.in-None.ensures.steps in
    let none : c.loop-path.path-iterator.rest.items ≡ [] = no_paths c.loop-path.path-iterator.rest.items (omega arith) in
    let done = inv.paths.0 in
    let all = sym (append-nil done) ∙ (ap (λ ps. done ++ concat_map each (map (path_in t) ps)) (sym none) ∙ inv.paths.2) in
    adds_to_none t0 c.loop-path.ridden.items _ (adds_same [] c.loop-path.ridden.items t0 _ _ inv.paths.1 all)
