use Rattle.std.proofs.Common.{refl, length}
use Rattle.std.proofs.lemmas.Option.{slice_get_read}
use Rattle.lc_cond.proofs.Sized.{every_at}
use Rattle.lc_cond.specs.ConditionView.{condition_in, IsCondition}
use Rattle.lc_acting.specs.Attempts.{development_of, world_of, event_of}
use Rattle.lc_blame.specs.Blame.{FailsThere}
use Rattle.lc_acting.proofs.Deciding.{so_if, not_if}
use Rattle.lc_blame.proofs.Firsts.{found_at, none_more, none_all}
use Rattle.lc_blame.proofs.blaming.first_failing.Goals as goal

pub fails_there-requires-clause-asked : goal.fails_there-requires-clause-asked
fails_there-requires-clause-asked c =
    let cs = c.args.conditions.now in
    let x = c.index-conditions-i.result in
    every_at (IsCondition c.args.terms.now) cs c.loop-i.i x c.requires.conditions (slice_get_read cs (length cs) c.loop-i.i x refl c.loop-i-test.true c.index-conditions-i.is)

pub returns-then-failed : goal.returns-then-failed
returns-then-failed c =
    let a = c.args.attempt.now in
    let ts = c.args.terms.now in
    let x = c.index-conditions-i.result in
    let Is = FailsThere (development_of a) (world_of a) a.client (event_of a) a.tried.now in
    found_at Is (condition_in ts) c.args.conditions.now c.loop-i.i x c.loop-i-test.true c.index-conditions-i.is (so_if (Is (condition_in ts x)) c.in_ok-failed.failed c.in_ok-failed.ensures c.if-failed.true) c.loop-i.invariant

pub loop-i-preserved : goal.loop-i-preserved
loop-i-preserved c =
    let a = c.args.attempt.now in
    let ts = c.args.terms.now in
    let x = c.index-conditions-i.result in
    let Is = FailsThere (development_of a) (world_of a) a.client (event_of a) a.tried.now in
    none_more Is (condition_in ts) c.args.conditions.now c.loop-i.i x c.loop-i-test.true c.index-conditions-i.is (not_if (Is (condition_in ts x)) c.in_ok-failed.failed c.in_ok-failed.ensures c.if-failed.false) c.loop-i.invariant

pub returns : goal.returns
returns c =
    let a = c.args.attempt.now in
    none_all (FailsThere (development_of a) (world_of a) a.client (event_of a) a.tried.now) (condition_in c.args.terms.now) c.args.conditions.now c.loop-i.i c.loop-i-test.false c.loop-i.invariant
