use Rattle.std.proofs.Common.{◌≡◌, length, ◌∙◌, arith}
use Rattle.lc_run.proofs.Happened.{client-at}
use Rattle.lc_run.proofs.ordering.happenings.Goals as goal

pub push_event-requires : goal.push_event-requires
push_event-requires c =
    let below = client-at c.args.clients c.loop-label.label-index c.args.labels.now c.label-item.result c.requires (omega arith) c.label-item.is in
    let size : length c.deref_mut.result.now ≡ c.args.clients = c.deref_mut.ensures.len ∙ c.loop-label.invariant.0 in
    omega (arith, below, size)
