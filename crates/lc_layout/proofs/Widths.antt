-- How many columns items take.
use Rattle.std.proofs.Common.{◌≡◌, ℕ, ◌+◌, ◌-◌, ◌≤◌, ◌<◌, Bool, true, false, cond, nat_le, [], ◌∷◌, ◌++◌, length, Option, Some, None, refl, sym, ap, ◌∙◌, arith, length-append, SomeIff, subst, inl, inr}
use Rattle.std.proofs.lemmas.Bool.{cases_lt}
use Rattle.std.proofs.lemmas.Bool.Decides.{nat_tests}
use Rattle.lc_sexp.specs.Trees.{Tree, Trees, atom, list, none, ◌▸◌}
use Rattle.lc_sexp.specs.Printed.{printed_items, printed_others}
use Rattle.lc_sexp.specs.Shown.{item_tree, item_parts}
use Rattle.lc_sexp.specs.declared.cursor.Item.{Item}
use Rattle.lc_sexp.specs.declared.cursor.Item.TheVariants.{Atom as AtomItem, List as ListItem}
use Rattle.lc_layout.specs.Layout.{width_of, own_width, room_left, fits}

-- the trees in a tree
abbrev pub parts_of : Tree → Trees
parts_of (atom w) = none
parts_of (list ts) = ts

pub width_parts : (t : Tree) → width_of t ≡ own_width t + length (printed_items (parts_of t))
width_parts (atom w) = omega arith
width_parts (list ts) = let e : length (printed_items ts ++ (41 ∷ [])) ≡ length (printed_items ts) + 1 = length-append (printed_items ts) (41 ∷ []) in omega (arith, e)

-- the columns of a row that is left, with a gap before its first item or none
abbrev pub taken : ℕ → Trees → ℕ
taken gap none = 0
taken gap (t ▸ ts) = gap + (width_of t + length (printed_others ts))

-- what room_left tells
room_tells : (room need : ℕ) (t : Bool) (left : ℕ) → nat_le need room ≡ t → Some left ≡ cond t (Some (room - need)) None → left + need ≡ room
room_tells room need true left e h = let k : left ≡ room - need = cc in let le : need ≤ room = grind (arith, nat_tests) in omega (arith, k, le)
room_tells room need false left e h = absurd (cc)

pub room_is : (room need left : ℕ) → Some left ≡ room_left room need → left + need ≡ room
room_is room need left h = room_tells room need (nat_le need room) left refl h

short_tells : (room need : ℕ) (t : Bool) → nat_le need room ≡ t → None ≡ cond t (Some (room - need)) None → room < need
short_tells room need true e h = absurd (cc)
short_tells room need false e h = grind (arith, nat_tests)

pub room_short : (room need : ℕ) → None ≡ room_left room need → room < need
room_short room need h = short_tells room need (nat_le need room) refl h

pub item_parts_is : (item : Item) → item_parts item ≡ parts_of (item_tree item)
item_parts_is (AtomItem a) = refl
item_parts_is (ListItem c) = refl

pub sub_some : (o : Option ℕ) (a b x : ℕ) → o ≡ Some x → SomeIff o (b ≤ a) (a - b) → x + b ≡ a
sub_some o a b x e h = let k : (b ≤ a) × (x ≡ a - b) = subst (λ y. SomeIff y (b ≤ a) (a - b)) e h in omega (arith, k.0, k.1)

pub sub_none : (o : Option ℕ) (a b : ℕ) → o ≡ None → SomeIff o (b ≤ a) (a - b) → a < b
sub_none o a b e h = let k : b ≤ a → ⊥ = subst (λ y. SomeIff y (b ≤ a) (a - b)) e h in elim (cases_lt a b) [ inl lt ↦ lt | inr le ↦ absurd (k le) ]

pub no_end : (column brackets : ℕ) (t : Tree) → 100 < column + width_of t + brackets → None ≡ cond (fits column brackets t) (Some (column + width_of t)) None
no_end column brackets t lt =
    let f : fits column brackets t ≡ false = grind (arith, nat_tests) in
    sym (ap (λ x. cond x (Some (column + width_of t)) None) f)

pub an_end : (column brackets end : ℕ) (t : Tree) → end + brackets ≤ 100 → end ≡ column + width_of t → Some end ≡ cond (fits column brackets t) (Some (column + width_of t)) None
an_end column brackets end t le e =
    let within : column + width_of t + brackets ≤ 100 = omega (arith, le, e) in
    let f : fits column brackets t ≡ true = grind (arith, nat_tests) in
    ap Some e ∙ sym (ap (λ x. cond x (Some (column + width_of t)) None) f)
