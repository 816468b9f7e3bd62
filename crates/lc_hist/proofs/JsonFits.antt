-- Whether a value's numbers are those of floats and it nests at most so deep, by its parts.
use Rattle.std.proofs.Common.{◌≡◌, ℕ, List, suc, ◌-◌, ◌<◌, max, Bool, true, false, ◌&&◌, nat_le, is_some, Option, Some, None, option_map, option_and_then, refl, ap, ap₂, ◌∙◌, arith, tests}
use Rattle.json.specs.Json as json
use Rattle.json.specs.Find as find
use Rattle.json.specs.Tree.{depth, items_depth, members_depth}
use Rattle.serde_json.specs.Data.{Data, number, array, object, Items, item, Members, no_members, put}
use Rattle.serde_json.specs.Read.{number_of, of_json, of_items, of_members}

abbrev pub fits_json : json.Json → ℕ → Bool
fits_json j n = is_some (of_json j) && nat_le (depth j) n

abbrev pub fits_items : json.Items → ℕ → Bool
fits_items js n = is_some (of_items js) && nat_le (items_depth js) n

abbrev pub fits_members : json.Members → ℕ → Bool
fits_members ms n = is_some (of_members ms no_members) && nat_le (members_depth ms) n

pub some_mapped : {A B : Type 0} (f : A → B) (o : Option A) → is_some (option_map f o) ≡ is_some o
some_mapped f None = refl
some_mapped f (Some a) = refl

not_both : (b : Bool) → b && false ≡ false
not_both true = refl
not_both false = refl

one_level : (d n : ℕ) → 0 < n → nat_le (suc d) n ≡ nat_le d (n - 1)
one_level d n some = grind (arith, tests)

no_level : (d n : ℕ) → n ≡ 0 → nat_le (suc d) n ≡ false
no_level d n none = grind (arith, tests)

either_depth : (d e n : ℕ) → nat_le (max d e) n ≡ nat_le d n && nat_le e n
either_depth d e n = grind (arith, tests)

pub array_fits : (js : json.Items) (n : ℕ) → 0 < n → fits_json (json.array js) n ≡ fits_items js (n - 1)
array_fits js n some = ap₂ (λ a b. a && b) (some_mapped array (of_items js)) (one_level (items_depth js) n some)

pub object_fits : (ms : json.Members) (n : ℕ) → 0 < n → fits_json (json.object ms) n ≡ fits_members ms (n - 1)
object_fits ms n some = ap₂ (λ a b. a && b) (some_mapped object (of_members ms no_members)) (one_level (members_depth ms) n some)

pub array_too_deep : (js : json.Items) (n : ℕ) → n ≡ 0 → fits_json (json.array js) n ≡ false
array_too_deep js n none = ap (λ b. is_some (of_json (json.array js)) && b) (no_level (items_depth js) n none) ∙ not_both _

pub object_too_deep : (ms : json.Members) (n : ℕ) → n ≡ 0 → fits_json (json.object ms) n ≡ false
object_too_deep ms n none = ap (λ b. is_some (of_json (json.object ms)) && b) (no_level (members_depth ms) n none) ∙ not_both _

in_pairs : (a b c d : Bool) → (a && b) && (c && d) ≡ (a && c) && (b && d)
in_pairs true true c d = refl
in_pairs true false true d = refl
in_pairs true false false d = refl
in_pairs false b c d = refl

some_item : (o : Option Data) (p : Option Items) → is_some (option_and_then (λ d. option_map (item d) p) o) ≡ is_some o && is_some p
some_item None p = refl
some_item (Some d) p = some_mapped (item d) p

-- the first item fits, and those after it do
pub item_fits : (j : json.Json) (js : json.Items) (n : ℕ) → fits_items (json.item j js) n ≡ fits_json j n && fits_items js n
item_fits j js n = ap₂ (λ a b. a && b) (some_item (of_json j) (of_items js)) (either_depth (depth j) (items_depth js) n) ∙ in_pairs (is_some (of_json j)) (is_some (of_items js)) _ _

any_found : (ms : json.Members) (found other : Members) → is_some (of_members ms found) ≡ is_some (of_members ms other)
any_found json.no_members found other = refl
any_found (json.member k j ms) found other = go (λ d. any_found ms (put k d found) (put k d other)) (of_json j)
  where
    go : ((d : Data) → is_some (of_members ms (put k d found)) ≡ is_some (of_members ms (put k d other)))
        → (o : Option Data) → is_some (option_and_then (λ d. of_members ms (put k d found)) o) ≡ is_some (option_and_then (λ d. of_members ms (put k d other)) o)
    go rest None = refl
    go rest (Some d) = rest d

some_member : (k : List ℕ) (ms : json.Members) (o : Option Data) → is_some (option_and_then (λ d. of_members ms (put k d no_members)) o) ≡ is_some o && is_some (of_members ms no_members)
some_member k ms None = refl
some_member k ms (Some d) = any_found ms (put k d no_members) no_members

-- the first member fits, and those after it do
pub member_fits : (k : List ℕ) (j : json.Json) (ms : json.Members) (n : ℕ) → fits_members (json.member k j ms) n ≡ fits_json j n && fits_members ms n
member_fits k j ms n = ap₂ (λ a b. a && b) (some_member k ms (of_json j)) (either_depth (depth j) (members_depth ms) n) ∙ in_pairs (is_some (of_json j)) (is_some (of_members ms no_members)) _ _

level_zero : (n : ℕ) → nat_le 0 n ≡ true
level_zero n = grind (arith, tests)

pub no_items_fit : (n : ℕ) → fits_items json.no_items n ≡ true
no_items_fit n = level_zero n

pub no_members_fit : (n : ℕ) → fits_members json.no_members n ≡ true
no_members_fit n = level_zero n

both_true : (b : Bool) → b && true ≡ b
both_true true = refl
both_true false = refl

-- a number fits if a float holds it
pub number_fits : (j : json.Json) (n : ℕ) (s : List ℕ) → Some s ≡ find.as_number j → fits_json j n ≡ is_some (number_of s)
number_fits json.null n s is = absurd cc
number_fits (json.boolean b) n s is = absurd cc
number_fits (json.number t) n s is = let same : s ≡ t = cc in rw (same, level_zero n) (both_true _ ∙ some_mapped number (number_of t))
number_fits (json.string t) n s is = absurd cc
number_fits (json.array js) n s is = absurd cc
number_fits (json.object ms) n s is = absurd cc

-- and so does whatever is neither a number nor an array nor an object
pub other_fits : (j : json.Json) (n : ℕ) → None ≡ find.as_number j → find.as_array j ≡ None → find.as_object j ≡ None → fits_json j n ≡ true
other_fits json.null n a b c = level_zero n
other_fits (json.boolean x) n a b c = level_zero n
other_fits (json.number s) n a b c = absurd cc
other_fits (json.string s) n a b c = level_zero n
other_fits (json.array js) n a b c = absurd cc
other_fits (json.object ms) n a b c = absurd cc
