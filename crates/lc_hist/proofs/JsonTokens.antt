-- How values occur in the tokens of a text.
use Rattle.std.proofs.Common.{◌≡◌, ℕ, suc, ◌-◌, ◌<◌, ◌≤◌, List, [], ◌∷◌, ◌++◌, length, Option, Some, None, option_map, option_and_then, refl, sym, ap, subst, ◌∙◌, arith, ℤ, IfSome}
use Rattle.std.proofs.lemmas.List.{append-nil, append_assoc}
use Rattle.json.specs.Token.{Token}
use Rattle.json.specs.Lex.{tokens}
use Rattle.json.specs.Json as json
use Rattle.json.specs.Json.{parse_map, after_end_array, items, value}
use Rattle.json.proofs.Grammar.{value_is, value-begin_array, items_end, items_more, skip_value-shorter}
use Rattle.serde_json.specs.Data.{Num, negative, Data, number, string, array, Items, no_items, item}
use Rattle.serde_json.specs.Find.{as_i64, as_u64}
use Rattle.serde_json.specs.Read.{number_of, of_json, of_items, converted}
use Rattle.serde_json.specs.View.{items_of}
use Rattle.lc_hist.specs.JsonTokens.{Begins, BeginAll, Says}
use Rattle.lc_hist.specs.JsonValues.{all_in, number_in, numbers_in, client_in, client_within}
use Rattle.lc_hist.proofs.JsonLists.{values_in-items_of}

-- ---- one value

abbrev pick : {A : Type 0} → A → Option A → A
pick d None = d
pick d (Some a) = a

found : {A B : Type 0} (a : A) (r s : List Token) (x : Option B) (b : B) → option_map {U = B × List Token} (λ y. (y, r)) x ≡ Some (b, s) → (r ≡ s) × (x ≡ Some b)
found a r s None b e = absurd cc
found a r s (Some y) b e = let same = ap (pick (y, r)) e in (ap (λ p. p.1) same, ap (λ p. Some p.0) same)

pub converted_some : {A B : Type 0} (f : A → Option B) (o : Option (A × List Token)) (b : B) (r : List Token) → converted f o ≡ Some (b, r) → (a : A) × (o ≡ Some (a, r)) × (f a ≡ Some b)
converted_some f None b r e = absurd cc
converted_some f (Some p) b r e = let both = found p.0 p.1 r (f p.0) b e in (p.0, ap (λ s. Some (p.0, s)) both.0, both.1)

pub begins_string : (tokens : List Token) (s : List ℕ) (rest : List Token) → tokens ≡ Token.string s ∷ rest → Begins 0 tokens (string s) rest
begins_string tokens s rest is = record { reads = λ depth le. ap (converted of_json) (ap (value depth) is ∙ value_is depth (Token.string s ∷ rest)) }

begins_number : (tokens : List Token) (s : List ℕ) (n : Num) (rest : List Token) → tokens ≡ Token.number s ∷ rest → number_of s ≡ Some n → Begins 0 tokens (number n) rest
begins_number tokens s n rest is of = record {
  reads = λ depth le. ap (converted of_json) (ap (value depth) is ∙ value_is depth (Token.number s ∷ rest)) ∙ ap (λ o. option_map (λ (b : Data). (b, rest)) (option_map number o)) of;
}

-- a numeral that is a number
pub says_number : (tokens : List Token) (s : List ℕ) (n : Num) (rest : List Token) (found : Option ℤ) → tokens ≡ Token.number s ∷ rest → number_of s ≡ Some n → IfSome found (λ z. as_i64 n ≡ Some z)
    → IfSome found (λ z. Says 0 number_in tokens z rest)
says_number tokens s n rest None is of said = tt
says_number tokens s n rest (Some z) is of said = (number n, said, begins_number tokens s n rest is of)

pub says_negative : (tokens rest : List Token) (found : Option ℤ) → IfSome found (λ z. (s : List ℕ) × (tokens ≡ Token.number s ∷ rest) × (number_of s ≡ Some (negative z))) → IfSome found (λ z. Says 0 number_in tokens z rest)
says_negative tokens rest None said = tt
says_negative tokens rest (Some z) said = (number (negative z), refl, begins_number tokens said.0 (negative z) rest said.1 said.2)

-- a numeral that is a client
pub says_client : (tokens : List Token) (s : List ℕ) (n : Num) (rest : List Token) (found : Option ℕ) → tokens ≡ Token.number s ∷ rest → number_of s ≡ Some n
    → IfSome found (λ c. option_and_then client_within (as_u64 n) ≡ Some c) → IfSome found (λ c. Says 0 client_in tokens c rest)
says_client tokens s n rest None is of said = tt
says_client tokens s n rest (Some c) is of said = (number n, said, begins_number tokens s n rest is of)

-- more lists may nest
pub begins_more_levels : (levels more : ℕ) (tokens : List Token) (d : Data) (rest : List Token) → levels ≤ more → Begins levels tokens d rest → Begins more tokens d rest
begins_more_levels levels more tokens d rest le begins = record { reads = λ depth enough. begins.reads depth (omega arith) }

-- a value takes a token
pub begins-shorter : (levels : ℕ) (tokens : List Token) (d : Data) (rest : List Token) → Begins levels tokens d rest → length rest < length tokens
begins-shorter levels tokens d rest begins =
    let j = converted_some of_json (value levels tokens) d rest (begins.reads levels (omega arith)) in
    skip_value-shorter levels tokens rest (ap (option_map (λ p. p.1)) j.1)

-- ---- values in a row

abbrev items_before : List Data → Items → Items
items_before [] rest = rest
items_before (d ∷ ds) rest = item d (items_before ds rest)

-- the row that the tokens begin with has these values, and these tokens after them in it
pub record BeginsRow (levels : ℕ) (tokens : List Token) (ds : List Data) (rest : List Token) : Type 0 where
  pub reads : (depth : ℕ) → levels ≤ depth
      → (n : ℕ) × (length rest ≤ n) × (converted of_items (items (value depth) (length tokens) tokens) ≡ parse_map (items_before ds) (converted of_items (items (value depth) n rest)))

none_before : (r : Option (Items × List Token)) → r ≡ parse_map (λ a. a) r
none_before None = refl
none_before (Some p) = refl

pub row_begins : (levels : ℕ) (tokens : List Token) → BeginsRow levels tokens [] tokens
row_begins levels tokens = record { reads = λ depth le. (length tokens, omega arith, none_before (converted of_items (items (value depth) (length tokens) tokens))) }

no_end : (depth : ℕ) (tokens : List Token) (j : json.Json) (rest : List Token) → value depth tokens ≡ Some (j, rest) → after_end_array tokens ≡ None
no_end depth [] j rest is = refl
no_end depth (Token.begin_object ∷ ts) j rest is = refl
no_end depth (Token.end_object ∷ ts) j rest is = refl
no_end depth (Token.begin_array ∷ ts) j rest is = refl
no_end depth (Token.end_array ∷ ts) j rest is = let none = value_is depth (Token.end_array ∷ ts) in absurd (cc (none, is))
no_end depth (Token.key s ∷ ts) j rest is = refl
no_end depth (Token.string s ∷ ts) j rest is = refl
no_end depth (Token.number s ∷ ts) j rest is = refl
no_end depth (Token.boolean b ∷ ts) j rest is = refl
no_end depth (Token.null ∷ ts) j rest is = refl
no_end depth (Token.bad ∷ ts) j rest is = refl

twice : {A B : Type 0} (g : A → B) (r : List Token) (x : Option A) → option_map {U = B × List Token} (λ b. (b, r)) (option_map g x) ≡ parse_map g (option_map (λ a. (a, r)) x)
twice g r None = refl
twice g r (Some a) = refl

with_item : (j : json.Json) (d : Data) → of_json j ≡ Some d → (o : Option (json.Items × List Token)) → converted of_items (parse_map (json.item j) o) ≡ parse_map (item d) (converted of_items o)
with_item j d e None = refl
with_item j d e (Some p) = rw e (twice (item d) p.1 (of_items p.0))

items_push : (ds : List Data) (d : Data) (rest : Items) → items_before ds (item d rest) ≡ items_before (ds ++ d ∷ []) rest
items_push [] d rest = refl
items_push (e ∷ ds) d rest = ap (item e) (items_push ds d rest)

one_more_item : (ds : List Data) (d : Data) (r : Option (Items × List Token)) → parse_map (items_before ds) (parse_map (item d) r) ≡ parse_map (items_before (ds ++ d ∷ [])) r
one_more_item ds d None = refl
one_more_item ds d (Some p) = ap (λ es. Some (es, p.1)) (items_push ds d p.0)

pub row_next : (levels : ℕ) (tokens : List Token) (ds : List Data) (between : List Token) (d : Data) (rest : List Token) → BeginsRow levels tokens ds between → Begins levels between d rest
    → BeginsRow levels tokens (ds ++ d ∷ []) rest
row_next levels tokens ds between d rest row next = record {
  reads = λ depth le.
      let before = row.reads depth le in
      let n = before.0 in
      let j = converted_some of_json (value depth between) d rest (next.reads depth le) in
      let less = skip_value-shorter depth between rest (ap (option_map (λ p. p.1)) j.1) in
      let enough = before.1 in
      let some : 0 < n = omega (arith, less, enough) in
      let turn = ap (converted of_items) (items_more (value depth) n between rest j.0 some (no_end depth between j.0 rest j.1) j.1) ∙ with_item j.0 d j.2 (items (value depth) (n - 1) rest) in (
        n - 1,
        omega (arith, less, enough),
        before.2 ∙ ap (parse_map (items_before ds)) turn ∙ one_more_item ds d (converted of_items (items (value depth) (n - 1) rest)),
      );
}

pub row_all : (levels : ℕ) (tokens : List Token) (ds : List Data) (between : List Token) (es : List Data) (rest : List Token) → BeginsRow levels tokens ds between → BeginAll levels between es rest
    → BeginsRow levels tokens (ds ++ es) rest
row_all levels tokens ds between [] rest row all = subst (λ r. BeginsRow levels tokens (ds ++ []) r) all (subst (λ l. BeginsRow levels tokens l between) (sym (append-nil ds)) row)
row_all levels tokens ds between (e ∷ es) rest row all =
    subst (λ l. BeginsRow levels tokens l rest) (append_assoc ds (e ∷ []) es) (row_all levels tokens (ds ++ e ∷ []) all.0 es rest (row_next levels tokens ds between e all.0 row all.1) all.2)

items_before-no_items : (ds : List Data) → items_before ds no_items ≡ items_of ds
items_before-no_items [] = refl
items_before-no_items (d ∷ ds) = ap (item d) (items_before-no_items ds)

array_read : (o : Option (json.Items × List Token)) (ds : Items) (rest : List Token) → converted of_items o ≡ Some (ds, rest) → converted of_json (parse_map json.array o) ≡ Some (array ds, rest)
array_read None ds rest e = absurd cc
array_read (Some p) ds rest e = let both = converted_some of_items (Some p) ds rest e in twice array p.1 (of_items p.0) ∙ ap (parse_map array) e

-- a row that ends is an array
pub row_ends : (levels : ℕ) (tokens inner : List Token) (ds : List Data) (between rest : List Token) → tokens ≡ Token.begin_array ∷ inner → BeginsRow levels inner ds between → after_end_array between ≡ Some rest
    → Begins (suc levels) tokens (array (items_of ds)) rest
row_ends levels tokens inner ds between rest opens row ends = record {
  reads = λ depth le.
      let below : levels ≤ depth - 1 = omega arith in
      let some : 0 < depth = omega arith in
      let before = row.reads (depth - 1) below in
      let over = before.2 ∙ ap (λ o. parse_map (items_before ds) (converted of_items o)) (items_end (value (depth - 1)) before.0 between rest before.1 ends) ∙ ap (λ es. Some (es, rest)) (items_before-no_items ds) in
      ap (converted of_json) (ap (value depth) opens ∙ value-begin_array depth inner some) ∙ array_read (items (value (depth - 1)) (length inner) inner) (items_of ds) rest over;
}

-- ---- numbers and calls

-- an array of numbers
pub says_numbers : (tokens inner : List Token) (ds : List Data) (zs : List ℤ) (between rest : List Token) → tokens ≡ Token.begin_array ∷ inner → BeginsRow 0 inner ds between → all_in number_in ds ≡ Some zs
    → after_end_array between ≡ Some rest → Says 1 numbers_in tokens zs rest
says_numbers tokens inner ds zs between rest opens row say ends =
    (array (items_of ds), ap (all_in number_in) (values_in-items_of ds) ∙ say, row_ends 0 tokens inner ds between rest opens row ends)
