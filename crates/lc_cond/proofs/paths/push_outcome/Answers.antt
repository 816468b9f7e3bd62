use Rattle.std.proofs.Common.{◌++◌, refl, subst, sym}
use Rattle.std.proofs.lemmas.Result.{on_ok_weaker}
use Rattle.lc_put.specs.PutNumbers.{AreColumns, columns_at}
use Rattle.lc_term.specs.Syntax.{Column}
use Rattle.lc_term.specs.SystemColumns.{pend}
use Rattle.lc_put.proofs.ByNumber.{are_columns_later}
use Rattle.lc_table.proofs.Later.{kept_on}
use Rattle.lc_action.specs.ActionView.{first_of}
use Rattle.lc_outline.specs.Development.{first_system}
use Rattle.lc_cond.specs.Adding.{Adds}
use Rattle.lc_cond.specs.Scenes.{development_in, next_conditions, on_conditions_in}
use Rattle.lc_cond.proofs.Adding.{formulas_later, columns_later, columns_are, columns_listed, adds_on}
use Rattle.lc_cond.proofs.Scening.{scene_later, columns_along, at_end-some, at_end-none}
use Rattle.lc_cond.proofs.paths.push_outcome.Goals as goal

pub push_reply-requires : goal.push_reply-requires
push_reply-requires c = record { scene = c.requires.scene; columns = c.columns-columns.ensures.are c.args.terms.now c.requires.path }

pub push_behind-requires : goal.push_behind-requires
push_behind-requires c = record {
  scene = scene_later c.args.terms.now c.push_reply.new.terms c.args.scene.now c.requires.scene c.in_ok-push_reply.ensures.kept;
  columns = are_columns_later c.args.terms.now c.push_reply.new.terms c.columns-columns.result.now (c.columns-columns.ensures.are c.args.terms.now c.requires.path) c.in_ok-push_reply.ensures.kept;
}

pub at_return-requires : goal.at_return-requires
at_return-requires c =
    are_columns_later c.args.terms.now c.push_reply.new.terms c.columns-columns.result.now (c.columns-columns.ensures.are c.args.terms.now c.requires.path) c.in_ok-push_reply.ensures.kept

pub push_behind-requires-in-None : goal.push_behind-requires-in-None
push_behind-requires-in-None c =
    let t0 = c.args.terms.now in
    let t1 = c.push_reply.new.terms in
    let t2 = c.at_return.new.terms in
    let ps = c.columns-columns.result.now in
    let kept = c.in_ok-push_reply.ensures.kept in
    let are = are_columns_later t0 t1 ps (c.columns-columns.ensures.are t0 c.requires.path) kept in
    record {
      scene = scene_later t0 t2 c.args.scene.now c.requires.scene (kept_on t0 t1 t2 kept c.in_ok-left-in-None.ensures.kept);
      columns = subst (AreColumns t2) (sym c.deref.ensures.value) (c.in_ok-left-in-None.ensures.list (columns_at t1 ps) (columns_are t1 ps are)).are;
    }

pub returns-in-Some-clause-list : goal.returns-in-Some-clause-list
returns-in-Some-clause-list c =
    let s = c.args.scene.now in
    let j = c.args.number in
    let t0 = c.args.terms.now in
    let t1 = c.push_reply.new.terms in
    let t2 = c.push_behind.new.terms in
    let ps = c.columns-columns.result.now in
    let kept = c.in_ok-push_reply.ensures.kept in
    on_ok_weaker c.push_behind.result
    (λ list hs has p along.
    (let columns = columns_along t0 c.args.path.now p ps along (c.columns-columns.ensures.trees t0) (c.columns-columns.ensures.are t0) in
    let end = at_end-some (first_system (development_in s)) s.code.now.next c.in-Some.field-0 p.columns p.columns c.in-Some.is refl in
    adds_on c.args.conditions.now.items c.push_reply.new.conditions.items c.push_behind.new.conditions.items t1 t2 _ _
    (c.in_ok-push_reply.ensures.list hs has p.columns columns) c.push_behind.ensures.kept
    (subst (λ (σ : _ → Column). Adds c.push_reply.new.conditions.items t2 c.push_behind.new.conditions.items (next_conditions s j hs σ ++ on_conditions_in s j hs σ)) end
    (list hs (formulas_later t0 t1 c.args.known.now hs has kept) p.columns (columns_later t0 t1 ps p.columns columns kept))))) c.push_behind.ensures.list

pub returns-in_ok-left-in-None-clause-list : goal.returns-in_ok-left-in-None-clause-list
returns-in_ok-left-in-None-clause-list c =
    let s = c.args.scene.now in
    let j = c.args.number in
    let t0 = c.args.terms.now in
    let t1 = c.push_reply.new.terms in
    let t2 = c.at_return.new.terms in
    let t3 = c.push_behind-in-None.new.terms in
    let ps = c.columns-columns.result.now in
    let kept01 = c.in_ok-push_reply.ensures.kept in
    let kept12 = c.in_ok-left-in-None.ensures.kept in
    let kept13 = kept_on t1 t2 t3 kept12 c.push_behind-in-None.ensures.kept in
    on_ok_weaker c.push_behind-in-None.result
    (λ list hs has p along.
    (let columns = columns_along t0 c.args.path.now p ps along (c.columns-columns.ensures.trees t0) (c.columns-columns.ensures.are t0) in
    let left = c.in_ok-left-in-None.ensures.list p.columns (columns_later t0 t1 ps p.columns columns kept01) in
    let end = at_end-none (first_system (development_in s)) (pend (first_of s.system)) s.code.now.next p.columns p.columns _ c.in-None.is refl c.requires.scene.system refl in
    adds_on c.args.conditions.now.items c.push_reply.new.conditions.items c.push_behind-in-None.new.conditions.items t1 t3 _ _
    (c.in_ok-push_reply.ensures.list hs has p.columns columns) kept13
    (subst (λ (σ : _ → Column). Adds c.push_reply.new.conditions.items t3 c.push_behind-in-None.new.conditions.items (next_conditions s j hs σ ++ on_conditions_in s j hs σ)) end
    (list hs (formulas_later t0 t2 c.args.known.now hs has (kept_on t0 t1 t2 kept01 kept12)) _ (columns_listed t2 c.in_ok-left-in-None.left.items c.deref.result.now _ left c.deref.ensures.value))))) c.push_behind-in-None.ensures.list
