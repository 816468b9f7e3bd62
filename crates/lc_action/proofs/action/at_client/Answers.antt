use Rattle.std.proofs.Common.{◌≤◌, length, map, arith}
use Rattle.std.proofs.lemmas.Bool.Decides.{nat_tests}
use Rattle.lc_term.specs.Said.{at_client}
use Rattle.lc_term.specs.View.{term_of}
use Rattle.lc_term.specs.UpdateView.{updates_of}
use Rattle.lc_action.proofs.OwnUpdates.{numbers_of, updates_end}
use Rattle.lc_action.proofs.action.at_client.Goals as goal

pub returns-in_default : goal.returns-in_default
returns-in_default c =
    let test = c.in_default.ensures.lookup.0 in
    let past : length c.args.values.now ≤ c.loop-i.i = grind (arith, nat_tests) in
    updates_end c.args.columns.now c.args.values.now c.loop-i.i (updates_of c.loop-i.updates.items)
    (at_client (numbers_of c.args.columns.now) (map term_of c.args.values.now)) past c.loop-i.invariant
