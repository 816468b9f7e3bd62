use Rattle.std.proofs.Common.{◌∙◌, ap, string_bytes, sym, take}
use Rattle.lc_history.specs.Histories.{events_in}
use Rattle.lc_history.specs.View.{entries_view, event_of}
use Rattle.lc_draw.specs.Stretches.{mark_at}
use Rattle.lc_draw.proofs.Parts.{some-round}
use Rattle.lc_draw.proofs.picture.drawing_round.Goals as goal

pub returns : goal.returns
returns c =
    let events = events_in c.args.history.now in
    let order = entries_view c.args.order.now in
    let stretch = c.in_ok-stretch.stretch in
    let mark = sym c.in-Some.is ∙ (c.in_ok-at.ensures ∙ ap (λ es. mark_at es order c.args.place) c.events.ensures) in
    some-round event_of c.events-2.result.now events order c.args.width c.in-Some.at stretch.from stretch.until (string_bytes c.in_ok-text.text) (mark_at events order c.args.place) c.events-2.ensures mark
    (c.in_ok-stretch.ensures.from ∙ c.saturating_sub-from.ensures) (ap (λ k. take k c.events-2.result.now) c.in_ok-stretch.ensures.until ∙ c.end_of-until.ensures) c.in_ok-text.ensures
