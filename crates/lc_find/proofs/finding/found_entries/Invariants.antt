use Rattle.std.proofs.Common.{◌≡◌, length}
use Rattle.lc_term.specs.Lists.{Every}
use Rattle.lc_outline.specs.DevelopmentView.{development_view}
use Rattle.lc_cert.specs.EntryView.{entries_of}
use Rattle.lc_check.specs.Walking.{conditions_due, IsInTurn}
use Rattle.lc_find.specs.FirstView.{all_of}
use Rattle.lc_find.specs.Hinted.{IsFirstHint, IsFirstTaken}
use Rattle.lc_find.proofs.finding.found_entries.Given as goal

-- the entries prove the first conditions, each the first hint if that holds
abbrev pub invariant-conditions : goal.invariant-conditions
invariant-conditions g l = record {
  in_turn : IsInTurn (development_view l.development) (entries_of l.entries.items) l.walk;
  first : Every (IsFirstTaken (development_view l.development) (all_of l.first)) (entries_of l.entries.items);
  hinted : l.budget ≡ 0 → Every (IsFirstHint (all_of l.first)) (entries_of l.entries.items);
}

abbrev pub decreases-conditions : goal.decreases-conditions
decreases-conditions g l = length (conditions_due (development_view l.development) l.walk)
