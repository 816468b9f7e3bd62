use Rattle.lc_outline.specs.DevelopmentView.{development_view}
use Rattle.lc_check.proofs.Answered.{count_derived}
use Rattle.lc_check.proofs.verdict.Accepted.proven.Goals as goal

pub derived_is_linearizable-requires : goal.derived_is_linearizable-requires
derived_is_linearizable-requires c =
    let (cert, counts) = c.requires in
    count_derived (development_view c.args.development) cert c.args.count c.conditions_use_their_variables.ensures counts

pub new-requires-clause-derived : goal.new-requires-clause-derived
new-requires-clause-derived c =
    let (cert, counts) = c.requires in
    ∣ count_derived (development_view c.args.development) cert c.args.count c.conditions_use_their_variables.ensures counts ∣₁

pub new-requires-clause-counted : goal.new-requires-clause-counted
new-requires-clause-counted c = c.requires.1.0
