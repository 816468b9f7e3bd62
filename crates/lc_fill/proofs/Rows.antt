-- Rows to which items are appended.
use Rattle.std.proofs.Common.{◌≡◌, ℕ, List, [], ◌∷◌, ◌++◌, refl, sym, ap, ◌∙◌, append_assoc}
use Rattle.lc_sexp.specs.Trees.{Tree, Trees, list, none, ◌▸◌, row, item_count}
use Rattle.lc_fill.specs.Filled.{Filled, as_is, inside, kept, put, lacking_at, followed}
use Rattle.lc_fill.specs.Files.{is_nil}
use Rattle.lc_fill.specs.Seen.{before, onto, row_view}
use Rattle.lc_fill.specs.declared.row.Row.{Row}
use Rattle.lc_fill.specs.declared.gap.Gap.{Gap}

-- what these make with others
abbrev pub made : List Tree → List Gap → List ℕ → Filled Trees → Filled Trees
made xs g l r = record { whole = before xs r.whole; gaps = g ++ r.gaps; lacking = l ++ r.lacking }

pub before_append : (xs ys : List Tree) (us : Trees) → before (xs ++ ys) us ≡ before xs (before ys us)
before_append [] ys us = refl
before_append (x ∷ xs) ys us = ap (λ ts. x ▸ ts) (before_append xs ys us)

pub before_none : (xs : List Tree) → before xs none ≡ row xs
before_none [] = refl
before_none (x ∷ xs) = ap (λ ts. x ▸ ts) (before_none xs)

pub append_nil : {A : Type 0} (xs : List A) → xs ++ [] ≡ xs
append_nil [] = refl
append_nil (x ∷ xs) = ap (λ ys. x ∷ ys) (append_nil xs)

same : (x y : Trees) (g h : List Gap) (l m : List ℕ) → x ≡ y → g ≡ h → l ≡ m
    → (let p : Filled Trees = record { whole = x; gaps = g; lacking = l } in p) ≡ (let q : Filled Trees = record { whole = y; gaps = h; lacking = m } in q)
same x y g h l m e f b = rw (e, f, b) refl

-- an item more
pub made_kept : (xs ys : List Tree) (g : List Gap) (l : List ℕ) (t : Tree) (r : Filled Trees) → ys ≡ xs ++ t ∷ [] → made ys g l r ≡ made xs g l (kept t r)
made_kept xs ys g l t r e = same _ _ _ _ _ _ (ap (λ zs. before zs r.whole) e ∙ before_append xs (t ∷ []) r.whole) refl refl

pub made_put : (xs ys : List Tree) (g h : List Gap) (l : List ℕ) (n : ℕ) (t : Tree) (r : Filled Trees) → ys ≡ xs ++ t ∷ [] → h ≡ g ++ record { place = n; size = item_count t } ∷ []
    → made ys h l r ≡ made xs g l (put n t r)
made_put xs ys g h l n t r e f =
    same _ _ _ _ _ _ (ap (λ zs. before zs r.whole) e ∙ before_append xs (t ∷ []) r.whole) (ap (λ k. k ++ r.gaps) f ∙ append_assoc g (record { place = n; size = item_count t } ∷ []) r.gaps) refl

pub made_lacking : (xs : List Tree) (g : List Gap) (l m : List ℕ) (n : ℕ) (r : Filled Trees) → m ≡ l ++ n ∷ [] → made xs g m r ≡ made xs g l (lacking_at n r)
made_lacking xs g l m n r e = same _ _ _ _ _ _ refl refl (ap (λ k. k ++ r.lacking) e ∙ append_assoc l (n ∷ []) r.lacking)

pub made_followed : (xs ys : List Tree) (g h : List Gap) (l m : List ℕ) (f : Filled Tree) (r : Filled Trees) → ys ≡ xs ++ f.whole ∷ [] → h ≡ g ++ f.gaps → m ≡ l ++ f.lacking
    → made ys h m r ≡ made xs g l (followed f r)
made_followed xs ys g h l m f r e k b =
    same _ _ _ _ _ _ (ap (λ zs. before zs r.whole) e ∙ before_append xs (f.whole ∷ []) r.whole)
    (ap (λ x. x ++ r.gaps) k ∙ append_assoc g f.gaps r.gaps)
    (ap (λ x. x ++ r.lacking) b ∙ append_assoc l f.lacking r.lacking)

pub made_appended : (xs ys zs : List Tree) (g h k : List Gap) (l m n : List ℕ) (r : Filled Trees) → zs ≡ xs ++ ys → k ≡ g ++ h → n ≡ l ++ m
    → made zs k n r ≡ made xs g l (made ys h m r)
made_appended xs ys zs g h k l m n r e f b =
    same _ _ _ _ _ _ (ap (λ x. before x r.whole) e ∙ before_append xs ys r.whole)
    (ap (λ x. x ++ r.gaps) f ∙ append_assoc g h r.gaps)
    (ap (λ x. x ++ r.lacking) b ∙ append_assoc l m r.lacking)

-- nothing more
pub made_alone : (xs : List Tree) (g : List Gap) (l : List ℕ) → made xs g l (as_is none) ≡ record { whole = row xs; gaps = g; lacking = l }
made_alone xs g l = same _ _ _ _ _ _ (before_none xs) (append_nil g) (append_nil l)

pub made_nothing : (xs : List Tree) (g : List Gap) (l : List ℕ) (r : Filled Trees) → xs ≡ [] → g ≡ [] → l ≡ [] → made xs g l r ≡ r
made_nothing xs g l r e f b = rw (e, f, b) refl

pub listed : (t : Tree) (xs : List Tree) (g : List Gap) (l : List ℕ) → t ≡ list (row xs)
    → (let f : Filled Tree = record { whole = t; gaps = g; lacking = l } in f) ≡ inside list (made xs g l (as_is none))
listed t xs g l e =
    let whole : Tree → Filled Tree = λ s. record { whole = s; gaps = g; lacking = l } in
    ap whole e ∙ sym (ap (λ r. inside list r) (made_alone xs g l))

pub alone : (s t : Tree) (g : List Gap) (l : List ℕ) → s ≡ t → g ≡ [] → l ≡ [] → (let f : Filled Tree = record { whole = s; gaps = g; lacking = l } in f) ≡ as_is t
alone s t g l e f b = rw (e, f, b) refl

pub made_put_lacking : (old behind : Row) (m : List ℕ) (n : ℕ) (t : Tree) (r : Filled Trees) → ((q : Filled Trees) → onto behind q ≡ onto old (put n t q)) → m ≡ behind.lacking.items ++ n ∷ []
    → made behind.items.items behind.gaps.items m r ≡ onto old (lacking_at n (put n t r))
made_put_lacking old behind m n t r step e =
    made_lacking behind.items.items behind.gaps.items behind.lacking.items m n r e ∙ step (lacking_at n r)

-- whether a call lacks in a row by itself
pub lacking_alone : (row : Row) → is_nil row.lacking.items ≡ is_nil (row_view row).lacking
lacking_alone row = ap is_nil (sym (append_nil row.lacking.items))
