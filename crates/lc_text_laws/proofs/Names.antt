-- Names in lists are printed as they stood.
use Rattle.std.proofs.Common.{◌≡◌, ℕ, ◌+◌, false, not, ◌&&◌, List, Option, Some, None, refl, sym, ap}
use Rattle.std.specs.List.{list_any}
use Rattle.std.specs.Prelude.{nat_le, take}
use Rattle.lc_lemmas.proofs.Booleans.{true_unless_other}
use Rattle.lc_base.specs.NameText.{is_name}
use Rattle.lc_sexp.specs.Trees.{Tree, atom, list}
use Rattle.lc_reading.proofs.Fine.{IfFine, if_fine_weaker, cond_fine}
use Rattle.lc_reading.proofs.Words.{is-true}
use Rattle.lc_reading.specs.Listed.{place_of}
use Rattle.lc_reading.specs.Naming.{use_reading, known}
use Rattle.lc_reading.specs.Readings.{fine, wrong}
use Rattle.lc_reading.specs.Words.{is, is_long}
use Rattle.lc_reading.specs.declared.pass.Pass.TheVariants.{Shape, Bound}
use Rattle.lc_object_text.specs.Declaring.{kth_name_reading, listed_name_reading, names_reading}
use Rattle.lc_object_text.specs.Points.{is_of_another}
use Rattle.lc_object_text.specs.Rows.{placed_reading}
use Rattle.lc_outline_print.specs.Parts.{name_trees}
use Rattle.lc_text_laws.proofs.Riders.{placed_row}
use Rattle.lc_text_laws.proofs.Rows.{IsRow, limited_fine, name_stood}
use Rattle.lc_object_text.proofs.BodyHolds.{placed_among}

pub kth_stood : (names : List (List ℕ)) (k n : ℕ) (t : Tree) → IfFine (kth_name_reading names k n t) (λ w. atom w ≡ t)
kth_stood names k n t = name_stood None (take k names) n t

listed_stood : (limit : ℕ) (names : List (List ℕ)) (base i n : ℕ) (t : Tree) → IfFine (listed_name_reading limit names base i n t) (λ w. atom w ≡ t)
listed_stood limit names base i n t = limited_fine (λ w. atom w ≡ t) (nat_le limit i) n (kth_name_reading names (base + i) n t) (kth_stood names (base + i) n t)

pub names_stood : (limit : ℕ) (names : List (List ℕ)) (base n : ℕ) (t : Tree) → IfFine (names_reading limit names base n t) (λ ws. list (name_trees ws) ≡ t)
names_stood limit names base n (atom w) = tt
names_stood limit names base n (list ts) =
    if_fine_weaker (IsRow atom ts) (λ ws. list (name_trees ws) ≡ list ts) (placed_reading (listed_name_reading limit names base) 0 (n + 1) ts) (λ ws e. ap list e)
    (placed_row atom (listed_name_reading limit names base) (listed_stood limit names base) 0 (n + 1) ts)

-- ---- the expected name

known_due : (names : List (List ℕ)) (due w : List ℕ) (n : ℕ) (o : Option ℕ) → place_of names w ≡ o → (list_any (is w) names && not (is w due)) ≡ false → IfFine (known n w o) (λ k. atom due ≡ atom w)
known_due names due w n None at e = tt
known_due names due w n (Some k) at e =
    cond_fine (λ k. atom due ≡ atom w) (is_long w) (wrong Bound n) (fine k) tt
    (ap atom (sym (is-true w due (true_unless_other (list_any (is w) names) (is w due) (placed_among names w k at) e))))

pub due_stood : (names : List (List ℕ)) (due : List ℕ) (n : ℕ) (t : Tree) → is_of_another names due t ≡ false → IfFine (use_reading names n t) (λ k. atom due ≡ t)
due_stood names due n (list ts) e = tt
due_stood names due n (atom w) e =
    cond_fine (λ k. atom due ≡ atom w) (is_name w) (known n w (place_of names w)) (wrong Shape n) (known_due names due w n (place_of names w) refl e) tt
