use Rattle.lc_outline.specs.DevelopmentView.{development_view}
use Rattle.lc_worlds.specs.Seats.{scripts_view}
use Rattle.lincheck.proofs.Exploring.{bare_told, found_told}
use Rattle.lincheck.proofs.explore.found_by.Goals as goal

pub returns-then-search : goal.returns-then-search
returns-then-search c =
    let found = c.in_ok-found.found in
    bare_told c.args.search.bare c.args.search.budget (development_view c.args.development.now) (scripts_view c.args.scripts.now) found.text.items found.is_right c.allowed-budget.result
    c.if-search.true c.in_ok-found.ensures c.allowed-budget.ensures

pub returns : goal.returns
returns c =
    let found = c.in_ok-found-2.found in
    found_told c.args.search.bare c.args.search.budget (development_view c.args.development.now) (scripts_view c.args.scripts.now) _ found.text.items found.is_right found.condition c.allowed-budget.result
    c.if-search.false c.in_ok-found-2.ensures c.allowed-budget.ensures
