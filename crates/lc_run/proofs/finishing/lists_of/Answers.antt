use Rattle.std.proofs.Common.{◌<◌, ◌≤◌, ◌++◌, [], ◌∷◌, length, set, sym, subst, arith}
use Rattle.lc_run.specs.LabelView.{labels_of}
use Rattle.lc_run.specs.Locked.{client_in}
use Rattle.lc_run.proofs.SeatLists.{AreListed, put-list, skip-list}
use Rattle.lc_run.proofs.finishing.lists_of.Goals as goal

pub loop-seat-preserved-then-place-len : goal.loop-seat-preserved-then-place-len
loop-seat-preserved-then-place-len g c =
    let labels = labels_of c.args._labels.now in
    let lists = c.loop-seat.lists in
    let seat = c.in-Some.seat in
    let there : client_in seat < length lists.items = omega (arith, c.client-place.ensures.client, c.if-place-len.true, c.len.ensures, lists.ok.0) in (
      c.loop-seat.invariant.0,
      subst (λ p. AreListed labels (set lists.items p c.into_labels.result) (c.loop-seat.yielded ++ seat ∷ [])) (sym c.client-place.ensures.client)
          (put-list labels lists.items c.loop-seat.yielded seat c.into_labels.result there c.into_labels.ensures c.loop-seat.invariant.1),
    )

pub loop-seat-preserved : goal.loop-seat-preserved
loop-seat-preserved g c =
    let lists = c.loop-seat.lists in
    let past : length lists.items ≤ client_in c.in-Some.seat = omega (arith, c.client-place.ensures.client, c.if-place-len.false, c.len.ensures, lists.ok.0) in
    (c.loop-seat.invariant.0, skip-list (labels_of c.args._labels.now) lists.items c.loop-seat.yielded c.in-Some.seat past c.loop-seat.invariant.1)
