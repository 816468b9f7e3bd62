use Rattle.std.proofs.Common.{◌++◌, ℕ, List, subst}
use Rattle.lc_outline.specs.Development.{Development}
use Rattle.lc_check.proofs.Stepping.{on_ok}
use Rattle.lc_check.specs.Sessions.{IsStateFed, IsFed}
use Rattle.lc_check.specs.Stages.{IsFedOn}
use Rattle.lc_check.specs.declared.session.State.TheVariants.{UnderWay}
use Rattle.lc_check.proofs.session.Session.feed.Goals as goal

pub returns-in-UnderWay-clause-fed : goal.returns-in-UnderWay-clause-fed
returns-in-UnderWay-clause-fed c =
    let piece = c.args.piece.now in
    let old = c.in-UnderWay.session in
    let new = c.feed.new.self in
    on_ok c.feed.result ((D : Development) → (fed : List ℕ) → IsFedOn D fed old → IsFedOn D (fed ++ piece) new)
    ((dev : List ℕ) → (fed : List ℕ) → IsFed dev fed c.args.self.now → IsStateFed dev (fed ++ piece) (UnderWay new))
    (λ f dev fed h. (
    let under : IsStateFed dev fed (UnderWay old) = subst (IsStateFed dev fed) c.in-UnderWay.is h in
    (under.0, under.1, f under.0 fed under.2)
    ))
    c.feed.ensures.fed
