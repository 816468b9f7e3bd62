-- What is printed of what is read: trees of the same shape that say the same about what is declared, and read as the same.
use Rattle.std.proofs.Common.{◌≡◌, ℕ, ◌+◌, ◌≤◌, Bool, true, false, cond, List, [], ◌∷◌, map, refl, sym, ap, ap₂, ◌∙◌, subst, arith}
use Rattle.lc_sexp.specs.Trees.{Tree, Trees, atom, list, none, ◌▸◌, item_count, item_count_of_all, row}
use Rattle.lc_reading.proofs.Fine.{IfFine, both_fine, if_fine_weaker}
use Rattle.lc_reading.proofs.Words.{is-true}
use Rattle.lc_reading.specs.Flaws.{at}
use Rattle.lc_reading.specs.Readings.{Reading, fine, flawed, wrong, mapped, both, limited, behind_reading}
use Rattle.lc_reading.specs.Words.{is}
use Rattle.lc_reading.specs.declared.pass.Pass.TheVariants.{Shape, Bound}
use Rattle.lc_object_text.specs.Rows.{cons, placed_reading}
use Rattle.lc_text_laws.proofs.Alike.{Alike, AllAlike, Readable, same_count, flawed_fine}
use Rattle.lc_text.proofs.Printed.{same_refl}

-- of trees in two rows, one by one
abbrev pub Pairwise : (Tree → Tree → Type 0) → Trees → Trees → Type 0
Pairwise K none none = Unit {0}
Pairwise K (t ▸ ts) (u ▸ us) = K t u × Pairwise K ts us
Pairwise K none (u ▸ us) = ⊥
Pairwise K (t ▸ ts) none = ⊥

-- two lists after a word
pub record AreBehind (word : List ℕ) (R : Trees → Trees → Type 0) (t u : Tree) : Type 0 where
  pub first : Trees
  pub second : Trees
  pub first_is : t ≡ list (atom word ▸ first)
  pub second_is : u ≡ list (atom word ▸ second)
  pub related : R first second

-- this tree has the shape of that one, is its kin, and reads as this
pub record Again {X : Type 0} (K : Tree → Tree → Type 0) (read : Tree → Reading X) (t u : Tree) (x : X) : Type 0 where
  pub alike : Alike Readable t u
  pub kin : K t u
  pub reads : read t ≡ fine x

-- the same for trees in a row
pub record AllAgain {X : Type 0} (K : Trees → Trees → Type 0) (read : Trees → Reading X) (ts us : Trees) (x : X) : Type 0 where
  pub alike : AllAlike Readable ts us
  pub kin : K ts us
  pub reads : read ts ≡ fine x

-- what is read, itself
pub itself_fine : {X : Type 0} (r : Reading X) → IfFine r (λ x. r ≡ fine x)
itself_fine (fine x) = refl
itself_fine (flawed f) = tt

pub mapped_again : {X Y : Type 0} (K : Tree → Tree → Type 0) (f : X → Y) (read : Tree → Reading X) (t u : Tree) (x : X) → Again K read t u x → Again K (λ t. mapped f (read t)) t u (f x)
mapped_again K f read t u x a = record { alike = a.alike; kin = a.kin; reads = ap (mapped f) a.reads }

-- within a limit
limited_at : {X : Type 0} (P : X → Type 0) (beyond : Bool) (n : ℕ) (r : Reading X) → IfFine r P → IfFine (limited beyond n r) (λ x. P x × (beyond ≡ false))
limited_at P true n r h = flawed_fine (λ x. P x × (true ≡ false)) (at Bound n) r
limited_at P false n r h = if_fine_weaker P (λ x. P x × (false ≡ false)) r (λ x p. (p, refl)) h

pub limited_again : {X : Type 0} (N : X → Type 0) (K : Tree → Tree → Type 0) (beyond : Bool) (n : ℕ) (read : Tree → Reading X) (tree : X → Tree) (u : Tree)
    → IfFine (read u) (λ x. N x → Again K read (tree x) u x) → IfFine (limited beyond n (read u)) (λ x. N x → Again K (λ t. limited beyond n (read t)) (tree x) u x)
limited_again N K beyond n read tree u h =
    if_fine_weaker (λ x. (N x → Again K read (tree x) u x) × (beyond ≡ false)) (λ x. N x → Again K (λ t. limited beyond n (read t)) (tree x) u x) (limited beyond n (read u))
    (λ x p named. record {
      alike = (p.0 named).alike;
      kin = (p.0 named).kin;
      reads = ap (λ b. limited b n (read (tree x))) p.1 ∙ (p.0 named).reads;
    }) (limited_at (λ x. N x → Again K read (tree x) u x) beyond n (read u) h)

-- ---- after a word

module _ {X : Type 0} (N : X → Type 0) (R : Trees → Trees → Type 0) (word : List ℕ) (read : ℕ → ℕ → Trees → Reading X) (parts : X → Trees) where
  abbrev IsBehind : ℕ → Tree → X → Type 0
  IsBehind n t x = N x → Again (AreBehind word R) (behind_reading word read n) (list (atom word ▸ parts x)) t x

  behind_one : (n : ℕ) (ts : Trees) (x : X) → AllAgain R (read n (n + 2)) (parts x) ts x → Again (AreBehind word R) (behind_reading word read n) (list (atom word ▸ parts x)) (list (atom word ▸ ts)) x
  behind_one n ts x a = record {
    alike = (λ h. h, a.alike);
    kin = record { first = parts x; second = ts; first_is = refl; second_is = refl; related = a.kin };
    reads = ap (λ b. cond b (read n (n + 2) (parts x)) (wrong Shape n)) (same_refl word) ∙ a.reads;
  }

  behind_at : (n : ℕ) (w : List ℕ) (ts : Trees) (b : Bool) → is w word ≡ b → IfFine (read n (n + 2) ts) (λ x. N x → AllAgain R (read n (n + 2)) (parts x) ts x)
      → IfFine (cond b (read n (n + 2) ts) (wrong Shape n)) (IsBehind n (list (atom w ▸ ts)))
  behind_at n w ts true e h =
      if_fine_weaker (λ x. N x → AllAgain R (read n (n + 2)) (parts x) ts x) (IsBehind n (list (atom w ▸ ts))) (read n (n + 2) ts)
      (λ x k named. subst (λ v. Again (AreBehind word R) (behind_reading word read n) (list (atom word ▸ parts x)) (list (atom v ▸ ts)) x) (sym (is-true w word e)) (behind_one n ts x (k named))) h
  behind_at n w ts false e h = tt

  pub behind_again : ((n m : ℕ) (ts : Trees) → item_count_of_all ts ≤ 4294967296 → IfFine (read n m ts) (λ x. N x → AllAgain R (read n m) (parts x) ts x)) → (n : ℕ) (t : Tree) → item_count t ≤ 4294967296
      → IfFine (behind_reading word read n t) (IsBehind n t)
  behind_again h n (atom w) small = tt
  behind_again h n (list none) small = tt
  behind_again h n (list (list us ▸ ts)) small = tt
  behind_again h n (list (atom w ▸ ts)) small = behind_at n w ts (is w word) refl (h n (n + 2) ts (omega (arith, small)))

-- ---- rows, each item with a place

module _ {X : Type 0} (tree : ℕ → X → Tree) where
  -- what is printed of these, from the i-th on
  abbrev pub placed_trees : ℕ → List X → Trees
  placed_trees i [] = none
  placed_trees i (x ∷ xs) = tree i x ▸ placed_trees (i + 1) xs

module _ {X : Type 0} (N : X → Type 0) where
  abbrev pub AllNamed : List X → Type 0
  AllNamed [] = Unit {0}
  AllNamed (x ∷ xs) = N x × AllNamed xs

pub placed_as_row : {X : Type 0} (tree : X → Tree) (i : ℕ) (xs : List X) → placed_trees (λ i. tree) i xs ≡ row (map tree xs)
placed_as_row tree i [] = refl
placed_as_row tree i (x ∷ xs) = ap (λ ts. tree x ▸ ts) (placed_as_row tree (i + 1) xs)

module _ {X : Type 0} (N : X → Type 0) (K : Tree → Tree → Type 0) (read : ℕ → ℕ → Tree → Reading X) (tree : ℕ → X → Tree) where
  abbrev ArePlaced : ℕ → ℕ → Trees → List X → Type 0
  ArePlaced i m ts xs = AllNamed N xs → AllAgain (Pairwise K) (placed_reading read i m) (placed_trees tree i xs) ts xs

  placed_more : (i m : ℕ) (t : Tree) (ts : Trees) (x : X) (xs : List X) → Again K (read i m) (tree i x) t x → AllAgain (Pairwise K) (placed_reading read (i + 1) (m + item_count t)) (placed_trees tree (i + 1) xs) ts xs
      → AllAgain (Pairwise K) (placed_reading read i m) (placed_trees tree i (x ∷ xs)) (t ▸ ts) (x ∷ xs)
  placed_more i m t ts x xs a others = record {
    alike = (a.alike, others.alike);
    kin = (a.kin, others.kin);
    reads = ap₂ (both cons) a.reads (ap (λ k. placed_reading read (i + 1) (m + k) (placed_trees tree (i + 1) xs)) (same_count (tree i x) t a.alike) ∙ others.reads);
  }

  pub placed_again : ((i n : ℕ) (t : Tree) → item_count t ≤ 4294967296 → IfFine (read i n t) (λ x. N x → Again K (read i n) (tree i x) t x)) → (i m : ℕ) (ts : Trees) → item_count_of_all ts ≤ 4294967296
      → IfFine (placed_reading read i m ts) (ArePlaced i m ts)
  placed_again h i m none small = λ named. record { alike = tt; kin = tt; reads = refl }
  placed_again h i m (t ▸ ts) small =
      both_fine (λ x. N x → Again K (read i m) (tree i x) t x) (ArePlaced (i + 1) (m + item_count t) ts) (ArePlaced i m (t ▸ ts)) cons (read i m t) (placed_reading read (i + 1) (m + item_count t) ts)
      (h i m t (omega (arith, small))) (placed_again h (i + 1) (m + item_count t) ts (omega (arith, small))) (λ x xs a b named. placed_more i m t ts x xs (a named.0) (b named.1))
