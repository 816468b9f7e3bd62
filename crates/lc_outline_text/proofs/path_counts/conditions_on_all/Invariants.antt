use Rattle.std.proofs.Common.{◌≡◌, []}
use Rattle.lc_object.specs.View.{columns_of}
use Rattle.lc_outline_text.specs.StoredView.{IsSet, ways_of_riders}
use Rattle.lc_outline_text.specs.Views.{capped}
use Rattle.lc_outline_text.proofs.Paths.{sum_below, on_path}
use Rattle.lc_outline_text.proofs.path_counts.conditions_on_all.Given as goal

-- the conditions of the paths so far
abbrev pub invariant-loop-number : goal.invariant-loop-number
invariant-loop-number l = record {
  set : IsSet l.set;
  count : l.count ≡ capped (sum_below (on_path [] (ways_of_riders l.riders) l.asked (columns_of l.columns)) l.number);
}
