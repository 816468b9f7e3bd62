use Rattle.std.proofs.Common.{refl, sym, subst}
use Rattle.lc_table.specs.Tables.{formulas_in}
use Rattle.lc_table.proofs.Later.{kept_on, formulas_still}
use Rattle.lc_rider.specs.PathView.{path_in}
use Rattle.lc_rider.proofs.PathLater.{is_path_later, has_path_later}
use Rattle.lc_cond.specs.Adding.{Adds}
use Rattle.lc_cond.specs.Scenes.{path_conditions_in}
use Rattle.lc_cond.proofs.Adding.{adds_on}
use Rattle.lc_cond.proofs.Scening.{scene_later, path_is}
use Rattle.lc_cond.proofs.Ridden.{places_more}
use Rattle.lc_cond.proofs.paths.push_paths.Goals as goal

pub push_path-requires-clause-scene : goal.push_path-requires-clause-scene
push_path-requires-clause-scene c = scene_later c.args.terms.now c.loop-number.terms c.args.scene.now c.requires.scene c.loop-number.invariant.0

pub push_path-requires-clause-path : goal.push_path-requires-clause-path
push_path-requires-clause-path c =
    let p = c.index-paths-number.result in
    is_path_later c.args.terms.now c.loop-number.terms p (path_is c.args.terms.now c.args.paths.now c.loop-number.number p c.loop-number-test.true c.index-paths-number.is c.requires.paths) c.loop-number.invariant.0

pub returns-in_err-push_path-clause-kept : goal.returns-in_err-push_path-clause-kept
returns-in_err-push_path-clause-kept c = kept_on c.args.terms.now c.loop-number.terms c.push_path.new.terms c.loop-number.invariant.0 c.in_err-push_path.ensures.kept

pub loop-number-preserved : goal.loop-number-preserved
loop-number-preserved c =
    let s = c.args.scene.now in
    let t0 = c.args.terms.now in
    let t1 = c.loop-number.terms in
    let t2 = c.push_path.new.terms in
    let i = c.loop-number.number in
    let p = c.index-paths-number.result in
    let hs = formulas_in t0 s.hypotheses.items in
    let kept01 = c.loop-number.invariant.0 in
    let still = formulas_still t0 t1 s.hypotheses.items c.requires.scene.hypotheses kept01 in
    let is = path_is t0 c.args.paths.now i p c.loop-number-test.true c.index-paths-number.is c.requires.paths in
    let along = has_path_later t0 t1 p (path_in t0 p) (record { is = is; path = refl }) kept01 in
    let kept = c.in_ok-push_path.ensures.kept in (
      kept_on t0 t1 t2 kept01 kept,
      subst (Adds c.args.conditions.now.items t2 c.push_path.new.conditions.items)
          (sym (places_more (λ j q. path_conditions_in s j hs q) (path_in t0) c.args.paths.now i p c.loop-number-test.true c.index-paths-number.is))
          (adds_on c.args.conditions.now.items c.loop-number.conditions.items c.push_path.new.conditions.items t1 t2 _ _ c.loop-number.invariant.1 kept
          (subst (λ fs. Adds c.loop-number.conditions.items t2 c.push_path.new.conditions.items (path_conditions_in s i fs (path_in t0 p))) still (c.in_ok-push_path.ensures.list (path_in t0 p) along))),
    )
