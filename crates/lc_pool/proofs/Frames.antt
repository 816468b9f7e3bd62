-- What a file has around its entries, by parts of forms that are walked.
use Rattle.std.proofs.Common.{◌≡◌, ℕ, ◌==◌, true, List, Result, Ok, sym, ap, ◌∙◌, subst}
use Rattle.lc_sexp.specs.Parts.{atom_fit}
use Rattle.lc_sexp.specs.Shown.{rest_of, text_of, part_count, ShowsAtom, IsPart, GivesPart}
use Rattle.lc_sexp.specs.Trees.{Trees, atom, list, none, ◌▸◌}
use Rattle.lc_sexp.specs.declared.cursor.Atom.{Atom}
use Rattle.lc_sexp.specs.declared.cursor.Cursor.{Cursor}
use Rattle.lc_sexp.specs.declared.misfit.Misfit.{Misfit}
use Rattle.lc_sexp.proofs.Pieced.{none_left}

-- ---- a part that was given, and what is left after it

pub gave_atom : (r : Result Atom Misfit) (old new : Cursor) (a : Atom) → r ≡ Ok a → GivesPart atom_fit ShowsAtom old r new → rest_of old ≡ atom (text_of a) ▸ rest_of new
gave_atom r old new a e h = at (rest_of old) (subst (λ x. GivesPart atom_fit ShowsAtom old x new) e h) where
  at : (ts : Trees) → IsPart atom_fit ShowsAtom old ts (Ok a) new → ts ≡ atom (text_of a) ▸ rest_of new
  at none h = absurd (let e = h.0 in cc)
  at (list us ▸ ts) h = absurd (let e = h.0 in cc)
  at (atom w ▸ ts) h = ap (λ x. atom x ▸ ts) (sym h.0.text) ∙ ap (λ x. atom (text_of a) ▸ x) (sym h.1.rest)

-- a single list, with two atoms in it
pub two_alone : (whole inner behind first left : Trees) (w n : List ℕ) → whole ≡ list inner ▸ behind → inner ≡ atom w ▸ first → first ≡ atom n ▸ left → (part_count left == 0) ≡ true → (part_count behind == 0) ≡ true
    → whole ≡ list (atom w ▸ (atom n ▸ none)) ▸ none
two_alone whole inner behind first left w n outer within next l b =
    outer ∙ ap (λ x. list x ▸ behind) (within ∙ ap (λ x. atom w ▸ x) (next ∙ ap (λ x. atom n ▸ x) (none_left left l))) ∙ ap (λ x. list (atom w ▸ (atom n ▸ none)) ▸ x) (none_left behind b)

-- a single list, with nothing in it
pub none_alone : (whole inner behind : Trees) → whole ≡ list inner ▸ behind → (part_count inner == 0) ≡ true → (part_count behind == 0) ≡ true → whole ≡ list none ▸ none
none_alone whole inner behind outer l b = outer ∙ ap (λ x. list x ▸ behind) (none_left inner l) ∙ ap (λ x. list none ▸ x) (none_left behind b)
