use Rattle.std.proofs.Common.{◌≡◌, ◌≤◌, ◌-◌, length}
use Rattle.lc_outline.specs.DevelopmentView.{development_view}
use Rattle.lc_cond.specs.Conditions.{parts}
use Rattle.lc_cond.specs.Numbering.{count_before, AreFirsts}
use Rattle.lc_cond.proofs.numbering.Numbering.new.Given as goal

-- the parts so far have their numbers, and the next one has this
abbrev pub invariant-parts : goal.invariant-parts
invariant-parts l = record {
  firsts : AreFirsts (development_view l.development) 0 l.firsts.items;
  number : l.number ≡ count_before (development_view l.development) (length l.firsts.items);
  few : length l.firsts.items ≤ length (parts (development_view l.development));
}

abbrev pub decreases-parts : goal.decreases-parts
decreases-parts l = length (parts (development_view l.development)) - length l.firsts.items
