-- Conjuncts and actions: what is printed of them reads as the same, and all but their formulas is printed as it stood.
use Rattle.std.proofs.Common.{◌≡◌, ℕ, ◌+◌, ◌≤◌, List, [], Some, None, sym, ap, ap₂, subst, arith}
use Rattle.std.specs.Prelude.{take}
use Rattle.lc_base.specs.Limits.{parameter_limit}
use Rattle.lc_sexp.specs.Trees.{Tree, Trees, atom, list, none, ◌▸◌, item_count, item_count_of_all}
use Rattle.lc_reading.proofs.Fine.{IfFine, mapped_fine, both_fine}
use Rattle.lc_reading.specs.Listed.{declared_by}
use Rattle.lc_reading.specs.Naming.{name_reading}
use Rattle.lc_reading.specs.Readings.{fine, mapped, both}
use Rattle.lc_reading.specs.Rows.{each_reading, declared_reading}
use Rattle.lc_term.specs.Syntax.{Formula}
use Rattle.lc_term.specs.Updates.{Update}
use Rattle.lc_text.specs.Formulas.{formula_reading}
use Rattle.lc_text.specs.Names.{Names}
use Rattle.lc_text.specs.SpelledTree.{formula_tree}
use Rattle.lc_text.specs.Spelling.{Spelled}
use Rattle.lc_text.specs.Terms.{pair}
use Rattle.lc_tie.specs.Tie.{Conjunct}
use Rattle.lc_object_text.specs.Declaring.{kth_name_reading}
use Rattle.lc_rider_text.specs.Actions.{parameters_reading, heading_reading, effect_reading}
use Rattle.lc_rider_text.specs.Conjuncts.{conjunct_parts_reading, the_conjunct, conjunct_reading}
use Rattle.lc_rider_text.specs.Known.{Known}
use Rattle.lc_rider_text.specs.Updates.{listed_update_reading}
use Rattle.lc_outline_print.specs.Parts.{name_trees, update_tree, update_trees}
use Rattle.lc_text_laws.specs.Spellings.{IsSpelledSo, AreUnbound}
use Rattle.lc_text_laws.proofs.Alike.{Alike, AllAlike, Readable, two_at}
use Rattle.lc_text_laws.proofs.Again.{with_reading}
use Rattle.lc_text_laws.proofs.Formulas.{IsAgain, formula_again}
use Rattle.lc_text_laws.proofs.Rows.{IsRow, each_row, declared_row, in_list, name_stood}

module _ (names : Names) (by : Spelled) (spelled : IsSpelledSo names by) (free : AreUnbound names) where
  -- ---- conjuncts

  -- NAME F
  abbrev conjunct_parts : List ℕ × Formula → Trees
  conjunct_parts p = atom p.0 ▸ formula_tree by 0 p.1 ▸ none

  abbrev pub conjunct_with : Conjunct → Tree
  conjunct_with c = list (atom c.name ▸ formula_tree by 0 c.formula ▸ none)

  abbrev PartsAgain : ℕ → ℕ → Trees → List ℕ × Formula → Type 0
  PartsAgain n m ts p = AllAlike Readable (conjunct_parts p) ts × (conjunct_parts_reading names n m (conjunct_parts p) ≡ fine p)

  named_again : (n m : ℕ) (w : List ℕ) (u : Tree) (f : Formula) → name_reading None [] m (atom w) ≡ fine w → IsAgain names by spelled free (m + 1) u f → PartsAgain n m (atom w ▸ u ▸ none) (w, f)
  named_again n m w u f name again = ((λ h. h, (again.0, tt)), ap₂ (both pair) name again.1)

  parts_again : (n m : ℕ) (ts : Trees) → item_count_of_all ts ≤ 4294967296 → IfFine (conjunct_parts_reading names n m ts) (PartsAgain n m ts)
  parts_again n m none small = tt
  parts_again n m (t ▸ none) small = tt
  parts_again n m (t ▸ u ▸ ts) small =
      two_at (λ w. (atom w ≡ t) × (name_reading None [] m t ≡ fine w)) (IsAgain names by spelled free (m + item_count t) u) (λ ts. PartsAgain n m (t ▸ u ▸ ts)) pair m t u ts _ _
      (with_reading (λ w. atom w ≡ t) (name_reading None [] m t) (name_stood None [] m t)) (formula_again names by spelled free (m + item_count t) u (omega arith))
      (λ w f a b. subst (λ t. PartsAgain n m (t ▸ u ▸ none) (w, f)) a.0
      (named_again n m w u f (subst (λ t. name_reading None [] m t ≡ fine w) (sym a.0) a.1) (subst (λ t. IsAgain names by spelled free (m + item_count t) u f) (sym a.0) b)))

  pub conjunct_again : (n : ℕ) (t : Tree) → item_count t ≤ 4294967296 → IfFine (conjunct_reading names n t) (λ c. Alike Readable (conjunct_with c) t × (conjunct_reading names n (conjunct_with c) ≡ fine c))
  conjunct_again n (atom w) small = tt
  conjunct_again n (list ts) small =
      mapped_fine (PartsAgain n (n + 1) ts) (λ c. Alike Readable (conjunct_with c) (list ts) × (conjunct_reading names n (conjunct_with c) ≡ fine c)) the_conjunct (conjunct_parts_reading names n (n + 1) ts)
      (parts_again n (n + 1) ts (omega arith)) (λ p a. (a.0, ap (mapped the_conjunct) a.1))

-- ---- actions

-- NAME (PARAM*)
pub heading_stood : (known : Known) (i m : ℕ) (t : Tree) (n : ℕ) (u : Tree) → IfFine (heading_reading known i m t n u) (λ p. (atom p.0 ≡ t) × (list (name_trees p.1) ≡ u))
heading_stood known i m t n u =
    both_fine (λ w. atom w ≡ t) (λ ws. list (name_trees ws) ≡ u) (λ p. (atom p.0 ≡ t) × (list (name_trees p.1) ≡ u)) pair (kth_name_reading known.actions i m t) (parameters_reading n u)
    (name_stood None (take i known.actions) m t)
    (in_list name_trees (λ n. declared_reading (name_reading (Some parameter_limit)) declared_by []) (λ n m ts. declared_row atom (name_reading (Some parameter_limit)) declared_by (name_stood (Some parameter_limit)) [] m ts) n u)
    (λ x y a b. (a, b))

module _ (known : Known) (names : Names) (by : Spelled) (spelled : IsSpelledSo names by) (free : AreUnbound names)
    (updates : (n : ℕ) (t : Tree) → IfFine (listed_update_reading known names n t) (λ u. update_tree by u ≡ t)) where
  -- F UPDATE*, if the updates are printed as they stood
  abbrev pub EffectAgain : ℕ → Tree → ℕ → Trees → Formula × List Update → Type 0
  EffectAgain m f n us p =
      Alike Readable (formula_tree by 0 p.0) f × (update_trees by p.1 ≡ us) × (effect_reading known names m (formula_tree by 0 p.0) n us ≡ fine p)

  pub effect_again : (m : ℕ) (f : Tree) (n : ℕ) (us : Trees) → item_count f ≤ 4294967296 → IfFine (effect_reading known names m f n us) (EffectAgain m f n us)
  effect_again m f n us small =
      both_fine (IsAgain names by spelled free m f) (λ xs. IsRow (update_tree by) us xs × (each_reading (listed_update_reading known names) n us ≡ fine xs)) (EffectAgain m f n us) pair
      (formula_reading names [] m f) (each_reading (listed_update_reading known names) n us) (formula_again names by spelled free m f small)
      (with_reading (IsRow (update_tree by) us) (each_reading (listed_update_reading known names) n us) (each_row (update_tree by) (listed_update_reading known names) updates n us))
      (λ x xs a b. (a.0, b.0, ap₂ (both pair) a.1 b.1))
