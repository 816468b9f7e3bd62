use Rattle.std.proofs.Common.{◌≡◌, ◌<◌, ◌+◌, List, ◌∷◌, length, drop, sym, ap, ◌∙◌, rules, to_z, of_z, w64}
use Rattle.std.specs.Prelude.{ℤ, pos, slice_index_or, slice_set}
use Rattle.lc_term.proofs.Views.{formula_of-Forall, formula_of-Exists}
use Rattle.lc_term.specs.Meaning.{push}
use Rattle.lc_term.specs.State.{state_of, env_of}
use Rattle.lc_term.specs.Syntax as S
use Rattle.lc_term.specs.View.{formula_of}
use Rattle.lc_look.specs.Computing.{bounds_of}
use Rattle.lc_look.specs.Looking.{look_in, look_each, opposite}
use Rattle.lc_look.specs.Ranges.{numbers_of}
use Rattle.lc_look.specs.declared.seen.Seen.{Seen}
use Rattle.lc_look.proofs.Trying.{below-push, each-next, seen-no, forall-told, exists-told}
use Rattle.lc_look.proofs.looking.+look_in.Goals as goal

pub look_in-returns-in_ok-seen-in-Forall : goal.look_in-returns-in_ok-seen-in-Forall
look_in-returns-in_ok-seen-in-Forall t c =
    let whole = ap formula_of c.in-Forall.is ∙ formula_of-Forall c.in-Forall.body ∙ ap (λ x. S.Forall (formula_of x)) (sym c.deref-body.ensures) in
    forall-told c.args.numbers.now c.tried-these.result.now (state_of c.args.state.now) (env_of c.args.env.now) (bounds_of c.args.bounds.now) (formula_of c.deref-body.result.now)
    c.premise_range.result (numbers_of c.in_ok-range-in-Forall.range) c.in_ok-seen-in-Forall.seen c.among.result
    c.premise_range.ensures c.in_ok-range-in-Forall.ensures c.tried-these.ensures c.in_ok-seen-in-Forall.ensures c.among.ensures ∙
    sym (ap (look_in c.args.numbers.now (state_of c.args.state.now) (env_of c.args.env.now) (bounds_of c.args.bounds.now)) whole)

pub look_in-returns-in_ok-seen-in-Exists : goal.look_in-returns-in_ok-seen-in-Exists
look_in-returns-in_ok-seen-in-Exists t c =
    let whole = ap formula_of c.in-Exists.is ∙ formula_of-Exists c.in-Exists.body ∙ ap (λ x. S.Exists (formula_of x)) (sym c.deref-body-in-Exists.ensures) in
    c.opposite-in-Exists.ensures ∙
    exists-told c.args.numbers.now c.tried-these-in-Exists.result.now (state_of c.args.state.now) (env_of c.args.env.now) (bounds_of c.args.bounds.now) (formula_of c.deref-body-in-Exists.result.now)
    c.range_of.result (numbers_of c.in_ok-range-in-Exists.range) c.in_ok-seen-in-Exists.seen c.among-in-Exists.result
    c.range_of.ensures c.in_ok-range-in-Exists.ensures c.tried-these-in-Exists.ensures c.in_ok-seen-in-Exists.ensures c.among-in-Exists.ensures ∙
    sym (ap (look_in c.args.numbers.now (state_of c.args.state.now) (env_of c.args.env.now) (bounds_of c.args.bounds.now)) whole)

pub look_each-returns-in-No : goal.look_each-returns-in-No
look_each-returns-in-No t c =
    let ns = c.args.numbers.now in
    let ts = c.args.these.now in
    let s = state_of c.args.state.now in
    let e = env_of c.args.env.now in
    let bounds = c.args.bounds.now in
    let f = formula_of c.args.body.now in
    let i = c.loop-number.number-index in
    let v = slice_index_or ts i (pos 0) in
    let same : to_z w64 (of_z w64 v) ≡ v = search rules in
    let lt : i < length ts = search rules in
    let below : c.deref.result.now ≡ to_z w64 (of_z w64 v) ∷ bounds = c.deref.ensures.value ∙ ap (λ (l : List ℤ). slice_set l 0 (to_z w64 (of_z w64 v))) c.loop-number.invariant.0.1 in
    let here = below-push ns s e f (to_z w64 (of_z w64 v)) c.deref.result.now bounds c.in_ok-here.here below c.in_ok-here.ensures in
    let p : ℤ → Seen = λ x. look_in ns s e (push x (bounds_of bounds)) f in
    let more = each-next p ts i (to_z w64 (of_z w64 v)) (look_each p ts) c.loop-number.seen c.in_ok-here.here c.and-seen.result lt same here c.and-seen.ensures c.loop-number.invariant.1 in
    seen-no (look_each p ts) c.and-seen.result (look_each p (drop (i + 1) ts)) c.in-No.is more

pub look_each-loop-number-preserved : goal.look_each-loop-number-preserved
look_each-loop-number-preserved t c =
    let ns = c.args.numbers.now in
    let ts = c.args.these.now in
    let s = state_of c.args.state.now in
    let e = env_of c.args.env.now in
    let bounds = c.args.bounds.now in
    let f = formula_of c.args.body.now in
    let i = c.loop-number.number-index in
    let v = slice_index_or ts i (pos 0) in
    let same : to_z w64 (of_z w64 v) ≡ v = search rules in
    let lt : i < length ts = search rules in
    let set = ap (λ (l : List ℤ). slice_set l 0 (to_z w64 (of_z w64 v))) c.loop-number.invariant.0.1 in
    let below : c.deref.result.now ≡ to_z w64 (of_z w64 v) ∷ bounds = c.deref.ensures.value ∙ set in
    let here = below-push ns s e f (to_z w64 (of_z w64 v)) c.deref.result.now bounds c.in_ok-here.here below c.in_ok-here.ensures in
    let p : ℤ → Seen = λ x. look_in ns s e (push x (bounds_of bounds)) f in
    ((to_z w64 (of_z w64 v), set), each-next p ts i (to_z w64 (of_z w64 v)) (look_each p ts) c.loop-number.seen c.in_ok-here.here c.and-seen.result lt same here c.and-seen.ensures c.loop-number.invariant.1)

pub look_each_not-returns-in-No : goal.look_each_not-returns-in-No
look_each_not-returns-in-No t c =
    let ns = c.args.numbers.now in
    let ts = c.args.these.now in
    let s = state_of c.args.state.now in
    let e = env_of c.args.env.now in
    let bounds = c.args.bounds.now in
    let f = formula_of c.args.body.now in
    let i = c.loop-number.number-index in
    let v = slice_index_or ts i (pos 0) in
    let same : to_z w64 (of_z w64 v) ≡ v = search rules in
    let lt : i < length ts = search rules in
    let below : c.deref.result.now ≡ to_z w64 (of_z w64 v) ∷ bounds = c.deref.ensures.value ∙ ap (λ (l : List ℤ). slice_set l 0 (to_z w64 (of_z w64 v))) c.loop-number.invariant.0.1 in
    let here = below-push ns s e f (to_z w64 (of_z w64 v)) c.deref.result.now bounds c.in_ok-here.here below c.in_ok-here.ensures in
    let p : ℤ → Seen = λ x. opposite (look_in ns s e (push x (bounds_of bounds)) f) in
    let more = each-next p ts i (to_z w64 (of_z w64 v)) (look_each p ts) c.loop-number.seen c.opposite.result c.and-seen.result lt same (c.opposite.ensures ∙ ap opposite here) c.and-seen.ensures c.loop-number.invariant.1 in
    seen-no (look_each p ts) c.and-seen.result (look_each p (drop (i + 1) ts)) c.in-No.is more

pub look_each_not-loop-number-preserved : goal.look_each_not-loop-number-preserved
look_each_not-loop-number-preserved t c =
    let ns = c.args.numbers.now in
    let ts = c.args.these.now in
    let s = state_of c.args.state.now in
    let e = env_of c.args.env.now in
    let bounds = c.args.bounds.now in
    let f = formula_of c.args.body.now in
    let i = c.loop-number.number-index in
    let v = slice_index_or ts i (pos 0) in
    let same : to_z w64 (of_z w64 v) ≡ v = search rules in
    let lt : i < length ts = search rules in
    let set = ap (λ (l : List ℤ). slice_set l 0 (to_z w64 (of_z w64 v))) c.loop-number.invariant.0.1 in
    let below : c.deref.result.now ≡ to_z w64 (of_z w64 v) ∷ bounds = c.deref.ensures.value ∙ set in
    let here = below-push ns s e f (to_z w64 (of_z w64 v)) c.deref.result.now bounds c.in_ok-here.here below c.in_ok-here.ensures in
    let p : ℤ → Seen = λ x. opposite (look_in ns s e (push x (bounds_of bounds)) f) in
    ((to_z w64 (of_z w64 v), set), each-next p ts i (to_z w64 (of_z w64 v)) (look_each p ts) c.loop-number.seen c.opposite.result c.and-seen.result lt same (c.opposite.ensures ∙ ap opposite here) c.and-seen.ensures c.loop-number.invariant.1)
