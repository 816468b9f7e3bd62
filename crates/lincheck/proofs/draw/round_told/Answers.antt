use Rattle.std.proofs.Common.{ℕ, Vec, ap}
use Rattle.std.specs.declared.alloc.Global.{Global}
use Rattle.lc_history.specs.Histories.{events_in}
use Rattle.lc_history.specs.View.{entries_view}
use Rattle.lincheck.proofs.Drawn.{round_drawn, round_missing}
use Rattle.lincheck.proofs.draw.round_told.Goals as goal

pub returns-in-Some : goal.returns-in-Some
returns-in-Some c =
    round_drawn (events_in c.args.history.now) (entries_view c.args.order.now) c.args.place c.args.width c.in_ok-found.found c.in-Some.text c.into_bytes.result.items c.in-Some.is
    (ap (λ (v : Vec ℕ Global). v.items) c.into_bytes.ensures.value) c.in_ok-found.ensures

pub returns-in_ok-write_line-in-None : goal.returns-in_ok-write_line-in-None
returns-in_ok-write_line-in-None c =
    round_missing (events_in c.args.history.now) (entries_view c.args.order.now) c.args.place c.args.width c.in_ok-found.found c.in_ok-write_line-in-None.field-0.items c.in-None.is c.in_ok-write_line-in-None.ensures c.in_ok-found.ensures
