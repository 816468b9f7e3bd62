use Rattle.std.proofs.Common.{ℕ, subst, sym}
use Rattle.lc_outline.specs.DevelopmentView.{development_view}
use Rattle.lc_worlds.specs.Seats.{scripts_view}
use Rattle.lincheck.specs.Explore.{ExploresSo}
use Rattle.lincheck.proofs.explore.explore_by.Goals as goal

pub returns : goal.returns
returns c =
    subst
    (λ (n : ℕ). ExploresSo c.args.search.bare c.args.search.budget (development_view c.args.development.now) (scripts_view c.args.scripts.now) c.in_ok-found.found.text.items n)
    (sym c.status_for-status.ensures) c.in_ok-found.ensures
