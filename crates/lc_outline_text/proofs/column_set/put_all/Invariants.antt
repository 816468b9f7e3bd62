use Rattle.std.proofs.Common.{◌≡◌, ◌++◌, take}
use Rattle.lc_object.specs.View.{columns_of}
use Rattle.lc_outline_text.specs.Paths.{stands}
use Rattle.lc_outline_text.specs.StoredView.{IsSet, listed_in}
use Rattle.lc_outline_text.proofs.column_set.put_all.Given as goal

-- what was in it, with the columns so far
abbrev pub invariant-loop-column : goal.invariant-loop-column
invariant-loop-column l = record {
  set : IsSet l.set;
  more : stands (listed_in l.set) ≡ stands (listed_in l.fn.set ++ columns_of (take l.column-index l.columns));
}
