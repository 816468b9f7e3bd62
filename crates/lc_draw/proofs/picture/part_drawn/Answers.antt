use Rattle.std.proofs.Common.{[], map, option_map, string_bytes}
use Rattle.lc_history.specs.Histories.{events_in}
use Rattle.lc_history.specs.History.{count}
use Rattle.lc_history.specs.View.{entries_view}
use Rattle.lc_draw.specs.Drawings.{event_in, marked}
use Rattle.lc_draw.specs.Stretches.{count_such, is_within}
use Rattle.lc_draw.specs.declared.places.Cut.{Cut}
use Rattle.lc_draw.specs.declared.places.Mark.{Mark}
use Rattle.lc_draw.proofs.Drawn.{draws_so}
use Rattle.lc_draw.proofs.picture.part_drawn.Goals as goal

pub returns : goal.returns
returns c =
    let laid = c.in_ok-laid.laid in
    let events = events_in c.args.history.now in
    let within = is_within c.args.stretch.now.from c.args.stretch.now.until events in
    draws_so (count (λ is. is) laid.held.items) (count_such within events) (map (λ (m : Mark). m.place) laid.marks.items) (marked within [] 0 (entries_view c.args.order.now)) (option_map (λ (k : Cut). k.number) laid.cut)
    (event_in events c.args.event) (string_bytes c.in_ok-text.text) c.in_ok-laid.ensures.bars c.in_ok-laid.ensures.marks c.in_ok-laid.ensures.cut c.in_ok-text.ensures
