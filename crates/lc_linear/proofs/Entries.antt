-- Lists of atoms with their coefficients, as a map keeps them.
use Rattle.std.proofs.Common.{◌≡◌, ℕ, ◌+◌, Bool, true, false, cond, not, List, [], ◌∷◌, Option, Some, None, refl, sym, ap, ap₂, subst, ◌∙◌, arith, to_z, of_z}
use Rattle.std.specs.Prelude.{ℤ, pos, ◌+ℤ◌, ◌-ℤ◌, ◌*ℤ◌, FitsSigned, unwrap_or, if◌then◌else◌, Result, Ok, Err, OnOk, OnErr}
use Rattle.std.specs.Int.{w128}
use Rattle.std.specs.List.{position_or_len}
use Rattle.std.specs.Map.{lookup, keys_of}
use Rattle.std.proofs.Math.Numerals.{one-add}
use Rattle.std.proofs.lemmas.Bool.{false≢true}
use Rattle.std.proofs.lemmas.Int.{ints}
use Rattle.indexmap.specs.IndexMap.{insert_entry}
use Rattle.indexmap.specs.Layout.{set_value_at}
use Rattle.lc_linear.proofs.Ids.{Decides-is_same}
use Rattle.lc_table.specs.declared.node.TermId.{TermId}
use Rattle.lc_linear.proofs.Numbers.{wide_number_kept}
use Rattle.lc_linear.proofs.Products.{mul-neg}
use Rattle.lc_linear.specs.Numbered.{Place, Form, is_same, atom_form, coefficient_in, listed, AllFit}

-- a form with another coefficient for one atom
abbrev pub replaced : Form → TermId → ℤ → Form
replaced f x n None = f None
replaced f x n (Some a) = if is_same a x then n else f (Some a)

-- the map finds what is listed
found : (here : Bool) (n : ℤ) (o : Option ℤ) → unwrap_or (cond here (Some n) o) (pos 0) ≡ (if here then n else unwrap_or o (pos 0))
found true n o = refl
found false n o = refl

pub coefficient_in-lookup : (a : TermId) (es : List (TermId × ℤ)) → unwrap_or (lookup (λ k. is_same a k) es) (pos 0) ≡ coefficient_in es a
coefficient_in-lookup a [] = refl
coefficient_in-lookup a (e ∷ es) =
    found (is_same a e.0) e.1 (lookup (λ k. is_same a k) es) ∙
    ap (λ n. if is_same a e.0 then e.1 else n) (coefficient_in-lookup a es)

-- an entry that is put in, then changed in place, is the changed entry put in
placed : {K V : Type 0} (here : Bool) (i : ℕ) (e : K × V) (es old new : List (K × V)) (v w : V) → set_value_at old i w ≡ new →
    set_value_at (if here then (e.0, v) ∷ es else e ∷ old) (cond (not here) (1 + i) 0) w ≡ (if here then (e.0, w) ∷ es else e ∷ new)
placed true i e es old new v w h = refl
placed false i e es old new v w h = rw one-add (ap (λ rest. e ∷ rest) h)

pub set_value_at-insert_entry : {K V : Type 0} (eq : K → K → Bool) (es : List (K × V)) (k : K) (v w : V) →
    set_value_at (insert_entry eq es k v) (position_or_len (eq k) (keys_of es)) w ≡ insert_entry eq es k w
set_value_at-insert_entry eq [] k v w = refl
set_value_at-insert_entry eq (e ∷ es) k v w =
    placed (eq k e.0) (position_or_len (eq k) (keys_of es)) e es (insert_entry eq es k v) (insert_entry eq es k w) v w (set_value_at-insert_entry eq es k v w)

-- if the atoms are the same the new coefficient hides the old one, else their order is no matter
over : (t : Bool) (n w rest : ℤ) → (if t then w else rest) ≡ (if t then w else (if t then n else rest))
over true n w rest = refl
over false n w rest = refl

behind : (t u : Bool) (n w rest : ℤ) → (t ≡ true → u ≡ true → ⊥) → (if t then n else (if u then w else rest)) ≡ (if u then w else (if t then n else rest))
behind true true n w rest apart = absurd (apart refl refl)
behind true false n w rest apart = refl
behind false true n w rest apart = refl
behind false false n w rest apart = refl

put : (a x y : TermId) (es new : List (TermId × ℤ)) (n w : ℤ) (here : Bool) → is_same x y ≡ here →
    coefficient_in new a ≡ (if is_same a x then w else coefficient_in es a) →
    (l : List (TermId × ℤ)) → l ≡ (if here then (y, w) ∷ es else (y, n) ∷ new) →
    coefficient_in l a ≡ (if is_same a x then w else coefficient_in ((y, n) ∷ es) a)
put a x y es new n w true h ih l is =
    ap (λ l'. coefficient_in l' a) is ∙ over (is_same a y) n w (coefficient_in es a) ∙
    ap (λ z. if is_same a z then w else coefficient_in ((y, n) ∷ es) a) (sym ((Decides-is_same x y).0 h))
put a x y es new n w false h ih l is =
    let apart : is_same a y ≡ true → is_same a x ≡ true → ⊥ =
    λ f g. false≢true (sym h ∙ (Decides-is_same x y).1 (sym ((Decides-is_same a x).0 g) ∙ (Decides-is_same a y).0 f)) in
    ap (λ l'. coefficient_in l' a) is ∙ ap (λ m. if is_same a y then n else m) ih ∙ behind (is_same a y) (is_same a x) n w (coefficient_in es a) apart

pub coefficient_in-insert_entry : (a : TermId) (es : List (TermId × ℤ)) (k : TermId) (w : ℤ) →
    coefficient_in (insert_entry is_same es k w) a ≡ (if is_same a k then w else coefficient_in es a)
coefficient_in-insert_entry a [] k w = refl
coefficient_in-insert_entry a (e ∷ es) k w =
    let new = insert_entry is_same es k w in
    put a k e.0 es new e.1 w (is_same k e.0) refl (coefficient_in-insert_entry a es k w) _ refl

pub listed-insert_entry : (m : ℤ) (es new : List (TermId × ℤ)) (k : TermId) (n : ℤ) → new ≡ insert_entry is_same es k n →
    (p : Place) → listed m new p ≡ replaced (listed m es) k n p
listed-insert_entry m es new k n is None = refl
listed-insert_entry m es new k n is (Some a) = ap (λ l. coefficient_in l a) is ∙ coefficient_in-insert_entry a es k n

-- what fits, with a number that fits in place of another
replaced_fits : (here : Bool) (n m : ℤ) → FitsSigned w128 n → FitsSigned w128 m → FitsSigned w128 (if here then n else m)
replaced_fits true n m f g = f
replaced_fits false n m f g = g

pub AllFit-insert_entry : (es new : List (TermId × ℤ)) (k : TermId) (n : ℤ) → new ≡ insert_entry is_same es k n → FitsSigned w128 n → AllFit es → AllFit new
AllFit-insert_entry es new k n is f fits a =
    subst (FitsSigned w128) (sym (listed-insert_entry (pos 0) es new k n is (Some a))) (replaced_fits (is_same a k) n (coefficient_in es a) f (fits a))

-- the number that a map has for an atom
pub coefficient_in-found : (es : List (TermId × ℤ)) (k : TermId) (o : Option ℤ) → o ≡ lookup (is_same k) es → coefficient_in es k ≡ unwrap_or o (pos 0)
coefficient_in-found es k o is = sym (coefficient_in-lookup k es) ∙ ap (λ q. unwrap_or q (pos 0)) (sym is)

-- to add to a coefficient is to add that multiple of the atom
added_here : (f : Form) (x a : TermId) (n count : ℤ) (here : Bool) → is_same a x ≡ here → n ≡ f (Some x) +ℤ count →
    (if here then n else f (Some a)) ≡ f (Some a) +ℤ count *ℤ (if here then pos 1 else pos 0)
added_here f x a n count true h is =
    let same_place : f (Some x) ≡ f (Some a) = ap (λ z. f (Some z)) (sym ((Decides-is_same a x).0 h)) in
    omega (arith, ints)
added_here f x a n count false h is = omega (arith, ints)

pub replaced_adds : (f : Form) (x : TermId) (n count : ℤ) → n ≡ f (Some x) +ℤ count → (p : Place) → replaced f x n p ≡ f p +ℤ count *ℤ atom_form x p
replaced_adds f x n count is None = omega (arith, ints)
replaced_adds f x n count is (Some a) = added_here f x a n count (is_same a x) refl is

-- what an insertion leaves, whether it is refused or not
pub AllFit-insert : {T E : Type 0} (r : Result T E) (es new : List (TermId × ℤ)) (k : TermId) (n : ℤ) → OnOk r (new ≡ insert_entry is_same es k n) → OnErr r (new ≡ es) →
    FitsSigned w128 n → AllFit es → AllFit new
AllFit-insert (Ok x) es new k n ok err f fits = AllFit-insert_entry es new k n ok f fits
AllFit-insert (Err x) es new k n ok err f fits = subst AllFit (sym err) fits

-- the number that the code has for an atom, and that number with another added
pub found_is : (es : List (TermId × ℤ)) (k : TermId) (o : Option ℤ) (b : ℤ) → o ≡ lookup (is_same k) es → o ≡ Some b → coefficient_in es k ≡ b
found_is es k o b found is = coefficient_in-found es k o found ∙ ap (λ q. unwrap_or q (pos 0)) is

pub found_sum : (es : List (TermId × ℤ)) (k : TermId) (o : Option ℤ) (b count : ℤ) → o ≡ lookup (is_same k) es → o ≡ Some b → FitsSigned w128 count → AllFit es →
    to_z w128 (of_z w128 b) +ℤ to_z w128 (of_z w128 count) ≡ coefficient_in es k +ℤ count
found_sum es k o b count found is f fits =
    let e = found_is es k o b found is in
    ap₂ ◌+ℤ◌ (wide_number_kept b (subst (FitsSigned w128) e (fits k)) ∙ sym e) (wide_number_kept count f)

-- an atom that was not there
pub added_new : (m count n : ℤ) (es new : List (TermId × ℤ)) (k : TermId) (o : Option ℤ) → new ≡ insert_entry is_same es k n → n ≡ count →
    o ≡ lookup (is_same k) es → o ≡ None → (p : Place) → listed m new p ≡ listed m es p +ℤ count *ℤ atom_form k p
added_new m count n es new k o put is found none p =
    let zero_there : coefficient_in es k ≡ pos 0 = coefficient_in-found es k o found ∙ ap (λ q. unwrap_or q (pos 0)) none in
    listed-insert_entry m es new k n put p ∙ replaced_adds (listed m es) k n count (omega (arith, ints)) p

-- an atom that was there: its coefficient is changed in place
pub set_inserted_value : (es new : List (TermId × ℤ)) (k : TermId) (i : ℕ) (v w : ℤ) → new ≡ insert_entry is_same es k v → i ≡ position_or_len (is_same k) (keys_of es) →
    set_value_at new i w ≡ insert_entry is_same es k w
set_inserted_value es new k i v w put at = ap₂ (λ l j. set_value_at l j w) put at ∙ set_value_at-insert_entry is_same es k v w

pub added_old : (m count n : ℤ) (es new : List (TermId × ℤ)) (k : TermId) → new ≡ insert_entry is_same es k n → n ≡ coefficient_in es k +ℤ count →
    (p : Place) → listed m new p ≡ listed m es p +ℤ count *ℤ atom_form k p
added_old m count n es new k put is p = listed-insert_entry m es new k n put p ∙ replaced_adds (listed m es) k n count is p

-- to subtract from a coefficient is to subtract that multiple of the atom
pub replaced_subtracts : (f : Form) (x : TermId) (n count : ℤ) → n ≡ f (Some x) -ℤ count → (p : Place) → replaced f x n p ≡ f p -ℤ count *ℤ atom_form x p
replaced_subtracts f x n count is p =
    let back : n ≡ f (Some x) +ℤ (pos 0 -ℤ count) = omega (arith, ints) in
    let multiple = mul-neg count (atom_form x p) in
    replaced_adds f x n (pos 0 -ℤ count) back p ∙ omega (arith, ints)
