use Rattle.std.proofs.Common.{◌≡◌, ◌∙◌, ℕ, Option}
use Rattle.lc_history.specs.View.{entries_view, entry_view, events_of}
use Rattle.lc_lemmas.proofs.Options.{if_ok}
use Rattle.lc_draw.specs.Stretches.{events_to_mark, mark_at}
use Rattle.lc_draw.proofs.Stretching.{mark-at}
use Rattle.lc_draw.proofs.rounds.mark_at.Goals as goal

pub returns : goal.returns
returns c =
    let events = events_of c.args.events.now in
    let order = c.args.order.now in
    let before = c.split_at.result.0.now in
    let done = c.in-Some.done.now in
    if_ok c.events_to_mark.result (λ (at : Option ℕ). at ≡ events_to_mark events (entries_view before) (entry_view done)) (λ (at : Option ℕ). at ≡ mark_at events (entries_view order) c.args.place)
    (λ at is. is ∙ mark-at entry_view events order c.args.place done before c.in-Some.ensures.lookup.3.0 c.in-Some.ensures.lookup.1 c.split_at.ensures.front) c.events_to_mark.ensures
