use Rattle.std.proofs.Common.{◌≡◌, ◌∙◌, ap, arith, length, string_bytes, sym}
use Rattle.std.proofs.lemmas.List.{length-map}
use Rattle.lc_history.specs.Histories.{events_in}
use Rattle.lc_history.specs.View.{entries_view, event_of}
use Rattle.lc_draw.proofs.Parts.{all-drawn}
use Rattle.lc_draw.proofs.picture.drawing.Goals as goal

pub returns : goal.returns
returns c =
    let events = events_in c.args.history.now in
    let all = c.in_ok-all.all in
    let long : length c.events-count.result.now ≡ length events = sym (length-map c.events-count.result.now event_of) ∙ ap length c.events-count.ensures in
    let end : all.until ≡ length events = omega (arith, c.in_ok-all.ensures.until, long) in
    all-drawn events (entries_view c.args.order.now) c.args.event (string_bytes c.in_ok-text.text) all.from all.until c.in_ok-all.ensures.from end c.in_ok-text.ensures
