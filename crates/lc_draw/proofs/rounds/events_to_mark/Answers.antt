use Rattle.std.proofs.Common.{◌∙◌, Some, ap, arith, length}
use Rattle.std.proofs.lemmas.List.{length-map}
use Rattle.lc_history.specs.History.{is_of}
use Rattle.lc_history.specs.View.{entries_view, entry_view, event_of, events_of}
use Rattle.lc_draw.proofs.Stretching.{mark-some, with-entry}
use Rattle.lc_draw.proofs.Turning.{few-turns}
use Rattle.lc_draw.proofs.rounds.events_to_mark.Goals as goal

pub next_turn-requires : goal.next_turn-requires
next_turn-requires c =
    let client = c.args.done.now.client in
    omega (arith, c.requires, c.in_ok-entries.ensures client, few-turns (is_of client) (entries_view c.args.before.now), length-map c.args.before.now entry_view)

pub returns : goal.returns
returns c =
    let before = entries_view c.args.before.now in
    let e = entry_view c.args.done.now in
    let client = c.args.done.now.client in
    let first = c.next_turn.new.turns.entries in
    ap Some c.min.ensures
    ∙ mark-some (events_of c.args.events.now) before e first c.turns_of.result c.in_ok-turn.turn c.in_ok-begun.begun c.open_until-open.result (length c.args.events.now) (c.in_ok-turn.ensures.turn ∙ c.in_ok-entries.ensures client)
    (c.turns_of.ensures ∙ c.in_ok-calls.ensures client) (omega (arith, c.if-turns_of-turn.false)) (with-entry c.in_ok-entries.entries.entries first before e c.in_ok-turn.ensures.more c.in_ok-entries.ensures)
    (length-map c.args.events.now event_of) c.in_ok-begun.ensures c.open_until-open.ensures
