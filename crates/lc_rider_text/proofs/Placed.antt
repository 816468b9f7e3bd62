-- The places of names that are in two tables, one after the other.
use Rattle.std.proofs.Common.{◌≡◌, ℕ, ◌+◌, ◌<◌, ◌≤◌, ◌^◌, List, length, length-append, Option, Some, None, sym, ap, subst, ◌∙◌, arith}
use Rattle.std.specs.Borrow.{Bor}
use Rattle.std.specs.Option.{option_or}
use Rattle.std.specs.Prelude.{option_map}
use Rattle.lc_reading.proofs.Places.{place_below, place_behind}
use Rattle.lc_reading.specs.Listed.{place_of}
use Rattle.lc_reading.specs.TableView.{listed}
use Rattle.lc_reading.specs.declared.table.NameTable.{NameTable}
use Rattle.lc_rider_text.specs.Tables.{listed_before, count_there}

-- a name of the first has its place there
pub placed_first : (vs : List (List ℕ)) (second : Option (Bor NameTable)) (w : List ℕ) (k : ℕ) → place_of vs w ≡ Some k → Some k ≡ place_of (listed_before vs second) w
placed_first vs None w k e = sym e
placed_first vs (Some table) w k e =
    sym (place_behind vs (listed table.now) w ∙ ap (λ o. option_or o (option_map (λ j. length vs + j) (place_of (listed table.now) w))) e)

-- and another name has its place in the second, counted after the first
pub placed_second : (vs : List (List ℕ)) (second : Option (Bor NameTable)) (table : Bor NameTable) (w : List ℕ) (o : Option ℕ) → second ≡ Some table → place_of vs w ≡ None → place_of (listed table.now) w ≡ o
    → option_map (λ k. length vs + k) o ≡ place_of (listed_before vs second) w
placed_second vs second table w o there e g =
    let ws = listed table.now in (
    ap (option_map (λ k. length vs + k)) (sym g)
    ∙ ap (λ p. option_or p (option_map (λ k. length vs + k) (place_of ws w))) (sym e)
    ∙ sym (place_behind vs ws w)
    ∙ ap (λ t. place_of (listed_before vs t) w) (sym there)
    )

-- how many names there are, of two tables
count_both : (vs : List (List ℕ)) (second : Option (Bor NameTable)) → length (listed_before vs second) ≡ length vs + count_there second
count_both vs None = let same : length vs ≡ length vs + 0 = omega arith in same
count_both vs (Some table) = length-append vs (listed table.now)

-- a place among these has a number of 32 bits after two others, if the lists are short enough
pub placed_short : (o second : Option (Bor NameTable)) (first : Bor NameTable) (w : List ℕ) (k : ℕ) → count_there o + count_there second + 2 ≤ 2 ^ 32 → o ≡ Some first
    → place_of (listed_before (listed first.now) second) w ≡ Some k → 2 + k < 2 ^ 32
placed_short o second first w k few there e =
    let names = listed first.now in
    let least : length names + count_there second + 2 ≤ 2 ^ 32 = subst (λ p. count_there p + count_there second + 2 ≤ 2 ^ 32) there few in
    omega (arith, least, count_both names second, place_below (listed_before names second) w k e)
