-- Trees of one shape, whose atoms are alike.
use Rattle.std.proofs.Common.{◌≡◌, ℕ, suc, ◌+◌, max, true, List, refl, ap, ap₂}
use Rattle.lc_sexp.specs.Trees.{Tree, Trees, atom, list, none, ◌▸◌, item_count, item_count_of_all, depth_of, depth_of_all}
use Rattle.lc_sexp.specs.TreeCode.{tree_count}
use Rattle.lc_sexp.specs.Printed.{is_atom, HasAtoms, HaveAtoms}
use Rattle.lc_reading.proofs.Fine.{IfFine, both_fine}
use Rattle.lc_reading.specs.Flaws.{at}
use Rattle.lc_reading.specs.Readings.{Reading, fine, flawed, both, ended, flawed_too, two_of}
use Rattle.lc_reading.specs.declared.flaw.Flaw.{Flaw}
use Rattle.lc_reading.specs.declared.pass.Pass.TheVariants.{Shape}

abbrev mutual
  pub Alike : (List ℕ → List ℕ → Type 0) → Tree → Tree → Type 0
  Alike P (atom v) (atom w) = P v w
  Alike P (list ts) (list us) = AllAlike P ts us
  Alike P (atom v) (list us) = ⊥
  Alike P (list ts) (atom w) = ⊥

  pub AllAlike : (List ℕ → List ℕ → Type 0) → Trees → Trees → Type 0
  AllAlike P none none = Unit {0}
  AllAlike P (t ▸ ts) (u ▸ us) = Alike P t u × AllAlike P ts us
  AllAlike P none (u ▸ us) = ⊥
  AllAlike P (t ▸ ts) none = ⊥

-- atoms are the same
abbrev pub Same : List ℕ → List ℕ → Type 0
Same v w = v ≡ w

mutual
  pub same_trees : (t u : Tree) → Alike Same t u → t ≡ u
  same_trees (atom v) (atom w) h = ap atom h
  same_trees (list ts) (list us) h = ap list (all_same ts us h)
  same_trees (atom v) (list us) h = absurd h
  same_trees (list ts) (atom w) h = absurd h

  pub all_same : (ts us : Trees) → AllAlike Same ts us → ts ≡ us
  all_same none none h = refl
  all_same (t ▸ ts) (u ▸ us) h = ap₂ (λ t ts. t ▸ ts) (same_trees t u h.0) (all_same ts us h.1)
  all_same none (u ▸ us) h = absurd h
  all_same (t ▸ ts) none h = absurd h

-- this atom can be read where that can
abbrev pub Readable : List ℕ → List ℕ → Type 0
Readable v w = is_atom w ≡ true → is_atom v ≡ true

mutual
  pub same_count : (t u : Tree) → Alike Readable t u → item_count t ≡ item_count u
  same_count (atom v) (atom w) h = refl
  same_count (list ts) (list us) h = ap (λ n. n + 1) (same_counts ts us h)
  same_count (atom v) (list us) h = absurd h
  same_count (list ts) (atom w) h = absurd h

  pub same_counts : (ts us : Trees) → AllAlike Readable ts us → item_count_of_all ts ≡ item_count_of_all us
  same_counts none none h = refl
  same_counts (t ▸ ts) (u ▸ us) h = ap₂ (λ m n. m + n) (same_count t u h.0) (same_counts ts us h.1)
  same_counts none (u ▸ us) h = absurd h
  same_counts (t ▸ ts) none h = absurd h

mutual
  same_depth : (t u : Tree) → Alike Readable t u → depth_of t ≡ depth_of u
  same_depth (atom v) (atom w) h = refl
  same_depth (list ts) (list us) h = ap (λ n. n + 1) (same_depths ts us h)
  same_depth (atom v) (list us) h = absurd h
  same_depth (list ts) (atom w) h = absurd h

  pub same_depths : (ts us : Trees) → AllAlike Readable ts us → depth_of_all ts ≡ depth_of_all us
  same_depths none none h = refl
  same_depths (t ▸ ts) (u ▸ us) h = ap₂ max (same_depth t u h.0) (same_depths ts us h.1)
  same_depths none (u ▸ us) h = absurd h
  same_depths (t ▸ ts) none h = absurd h

mutual
  readable_tree : (t u : Tree) → Alike Readable t u → HasAtoms u → HasAtoms t
  readable_tree (atom v) (atom w) h atoms = h atoms
  readable_tree (list ts) (list us) h atoms = readable_trees ts us h atoms
  readable_tree (atom v) (list us) h atoms = absurd h
  readable_tree (list ts) (atom w) h atoms = absurd h

  pub readable_trees : (ts us : Trees) → AllAlike Readable ts us → HaveAtoms us → HaveAtoms ts
  readable_trees none none h atoms = tt
  readable_trees (t ▸ ts) (u ▸ us) h atoms = (readable_tree t u h.0 atoms.0, readable_trees ts us h.1 atoms.1)
  readable_trees none (u ▸ us) h atoms = absurd h
  readable_trees (t ▸ ts) none h atoms = absurd h

mutual
  pub itself : (t : Tree) → Alike Readable t t
  itself (atom w) = λ h. h
  itself (list ts) = all_itself ts

  pub all_itself : (ts : Trees) → AllAlike Readable ts ts
  all_itself none = tt
  all_itself (t ▸ ts) = (itself t, all_itself ts)

-- as many trees
pub as_many : (ts us : Trees) → AllAlike Readable ts us → tree_count ts ≡ tree_count us
as_many none none h = refl
as_many (t ▸ ts) (u ▸ us) h = ap suc (as_many ts us h.1)
as_many none (u ▸ us) h = absurd h
as_many (t ▸ ts) none h = absurd h

-- ---- what is read of parts, with none left after them

pub flawed_fine : {X : Type 0} (Q : X → Type 0) (f : Flaw) (r : Reading X) → IfFine (flawed_too f r) Q
flawed_fine Q f (fine x) = tt
flawed_fine Q f (flawed g) = tt

-- nothing is left
pub ended_at : {X : Type 0} (Q : Trees → X → Type 0) (m : ℕ) (ts : Trees) (r : Reading X) → IfFine r (Q none) → IfFine (ended m ts r) (Q ts)
ended_at Q m none r h = h
ended_at Q m (t ▸ ts) r h = flawed_fine (Q (t ▸ ts)) (at Shape m) r

pub two_at : {X Y Z : Type 0} (P : X → Type 0) (Q : Y → Type 0) (R : Trees → Z → Type 0) (f : X → Y → Z) (m : ℕ) (t u : Tree) (ts : Trees) (r : Reading X) (s : Reading Y) → IfFine r P → IfFine s Q
    → ((x : X) (y : Y) → P x → Q y → R none (f x y)) → IfFine (two_of f m t u ts r s) (R ts)
two_at P Q R f m t u ts r s h g k = ended_at R (m + item_count t + item_count u) ts (both f r s) (both_fine P Q (R none) f r s h g k)
