use Rattle.std.proofs.Common.{◌≡◌, true, ap, sym, subst, ◌∙◌}
use Rattle.std.specs.List.{list_all}
use Rattle.lc_history.specs.WellFormed.{IsWellFormed}
use Rattle.lc_sound.specs.Instrumented.{history}
use Rattle.lc_sound.specs.Order.{order}
use Rattle.lc_run.specs.LabelView.{labels_of}
use Rattle.lc_run.specs.Locked.{clients_held}
use Rattle.lc_run.specs.Ordering.{has_client, is_small}
use Rattle.lc_run.proofs.Ending.{in-turn, clients-are, small-are}
use Rattle.lc_run.proofs.finishing.summary_of.Goals as goal

pub of_well_formed-history-requires : goal.of_well_formed-history-requires
of_well_formed-history-requires g c = subst IsWellFormed (sym (c.in_ok-history_events.ensures ∙ ap history c.labels-labels.ensures)) (in-turn c.args.shared.now)

pub order_of-requires-clause-clients : goal.order_of-requires-clause-clients
order_of-requires-clause-clients g c =
    let s = c.args.shared.now in
    subst (λ n. list_all (has_client n) (labels_of c.labels-labels.result.now) ≡ true) (sym c.clients-clients.ensures)
    (subst (λ ls. list_all (has_client (clients_held s)) ls ≡ true) (sym c.labels-labels.ensures) (clients-are s))

pub order_of-requires-clause-small : goal.order_of-requires-clause-small
order_of-requires-clause-small g c = ap (λ ls. list_all is_small (order ls)) c.labels-labels.ensures ∙ small-are c.args.shared.now c.orders_linearize.ensures
