use Rattle.std.proofs.Common.{◌≡◌, take}
use Rattle.lc_table.specs.Tables.{formulas_in, AreFormulas, Keeps}
use Rattle.lc_rider.specs.MarkView.{branches_at}
use Rattle.lc_rider.proofs.Guarding.{guards_in}
use Rattle.lc_rider.proofs.marking.guards.Given as goal

-- the guards so far
abbrev pub invariant-loop-branch : goal.invariant-loop-branch
invariant-loop-branch l = record {
  kept : Keeps l.fn.terms l.terms;
  are : AreFormulas l.terms l.guards.items;
  trees : formulas_in l.terms l.guards.items ≡ guards_in l.fn.terms l.path l.variables (branches_at (take l.branch-index l.branches));
}
