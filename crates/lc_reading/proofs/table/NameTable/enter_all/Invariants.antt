use Rattle.std.proofs.Common.{◌≡◌, ◌++◌, List, ℕ, true}
use Rattle.std.specs.Map.{lookup}
use Rattle.lc_sexp.specs.Shown.{rest_of}
use Rattle.lc_sexp.specs.Trees.{item_count_of_all}
use Rattle.lc_reading.specs.Words.{is}
use Rattle.lc_reading.specs.Entries.{names_at, are_within}
use Rattle.lc_reading.specs.Listed.{place_of, names_among}
use Rattle.lc_reading.specs.TableView.{listed}
use Rattle.lc_reading.proofs.table.NameTable.enter_all.Given as goal

-- the parts are those of a table; its names, and those that the items declare which are left, are all that will be there
abbrev pub invariant-items : goal.invariant-items
invariant-items l = record {
  within : are_within l.places.entries l.numbers.items ≡ true;
  placed : (w : List ℕ) → lookup (λ name. is w name.now) l.places.entries ≡ place_of (names_at l.places.entries l.numbers.items) w;
  names : names_at l.places.entries l.numbers.items ++ names_among (rest_of l.rest) ≡ listed l.fn.self ++ names_among (rest_of l.fn.list);
}

abbrev pub decreases-items : goal.decreases-items
decreases-items l = item_count_of_all (rest_of l.rest)
