-- What a text reads as where hints are expected.
use Rattle.std.specs.Prelude.{ℕ, ℤ, ◌+◌, codes, if◌then◌else◌, List, [], Option, Some, None}
use Rattle.lc_sexp.specs.Trees.{Tree, Trees, atom, list, none, ◌▸◌, item_count, item_count_of_all}
use Rattle.lc_reading.specs.Readings.{Reading, wrong, mapped, both, two_of, behind_reading}
use Rattle.lc_reading.specs.Rows.{each_reading}
use Rattle.lc_reading.specs.Words.{is}
use Rattle.lc_reading.specs.declared.pass.Pass.TheVariants.{Shape}
use Rattle.lc_term.specs.Syntax.{Term, Formula}
use Rattle.lc_text.specs.Formulas.{formula_reading}
use Rattle.lc_text.specs.Names.{Names}
use Rattle.lc_text.specs.Terms.{pair, number_reading, term_reading}
use Rattle.lc_kernel.specs.Proofs.{Proof}
use Rattle.lc_proof_text.specs.Files.{only}
use Rattle.lc_proof_text.specs.Proofs.{proof_reading}
use Rattle.lc_outline.specs.Development.{Development}
use Rattle.lc_outline.specs.ColumnNames.{column_names}
use Rattle.lc_cert.specs.ColumnNames.{names_with}
use Rattle.lc_hints.specs.Hints.{Hint, Use, Cut, By}
use Rattle.lc_hints.specs.declared.reading.Head.{Head}
use Rattle.lc_hints.specs.declared.reading.Head.TheVariants as H

abbrev pub use_hint : ℤ → List Term → Hint
use_hint k ts = record { number = k; advice = Use ts }

abbrev pub cut_hint : ℤ × Formula → Hint
cut_hint p = record { number = p.0; advice = Cut p.1 }

abbrev pub by_hint : ℤ × Proof → Hint
by_hint p = record { number = p.0; advice = By p.1 }

-- (use K T+), (cut K F), (by K P)
abbrev pub head_of : List ℕ → Option Head
head_of w =
    if is w (codes "use") then Some H.Use
    else (if is w (codes "cut") then Some H.Cut
    else (if is w (codes "by") then Some H.By
    else None))

-- T+: the parts of the list n from m on, one at least
abbrev pub terms_due : Names → ℕ → ℕ → Trees → Reading (List Term)
terms_due names n m none = wrong Shape n
terms_due names n m (t ▸ ts) = each_reading (term_reading names []) m (t ▸ ts)

-- K T+: the parts of the list n, numbered from m on
abbrev pub use_reading : Names → ℕ → ℕ → Trees → Reading Hint
use_reading names n m none = wrong Shape n
use_reading names n m (t ▸ ts) = both use_hint (number_reading m t) (terms_due names n (m + item_count t) ts)

-- K F: the parts of the list n, numbered from m on
abbrev pub cut_parts_reading : Names → ℕ → ℕ → Trees → Reading (ℤ × Formula)
cut_parts_reading names n m (t ▸ u ▸ ts) = two_of pair m t u ts (number_reading m t) (formula_reading names [] (m + item_count t) u)
cut_parts_reading names n m _ = wrong Shape n

abbrev pub cut_reading : Names → ℕ → ℕ → Trees → Reading Hint
cut_reading names n m ts = mapped cut_hint (cut_parts_reading names n m ts)

-- K P: the parts of the list n, numbered from m on
abbrev pub by_parts_reading : Names → ℕ → ℕ → Trees → Reading (ℤ × Proof)
by_parts_reading names n m (t ▸ u ▸ ts) = two_of pair m t u ts (number_reading m t) (proof_reading names (m + item_count t) u)
by_parts_reading names n m _ = wrong Shape n

abbrev pub by_reading : Names → ℕ → ℕ → Trees → Reading Hint
by_reading names n m ts = mapped by_hint (by_parts_reading names n m ts)

-- the list n that begins so, whose other parts are numbered from m on
abbrev pub hint_with : Names → ℕ → ℕ → Trees → Option Head → Reading Hint
hint_with names n m ts None = wrong Shape n
hint_with names n m ts (Some H.Use) = use_reading names n m ts
hint_with names n m ts (Some H.Cut) = cut_reading names n m ts
hint_with names n m ts (Some H.By) = by_reading names n m ts

-- the item n, where a hint is expected
abbrev pub hint_reading : Names → ℕ → Tree → Reading Hint
hint_reading names n (list (atom w ▸ ts)) = hint_with names n (n + 2) ts (head_of w)
hint_reading names n _ = wrong Shape n

-- (hints ..): the item n
abbrev pub form_reading : Names → ℕ → Tree → Reading (List Hint)
form_reading names n t = behind_reading (codes "hints") (λ n m ts. each_reading (hint_reading names) m ts) n t

-- the form of the file, and no other. A missing one is reported at the number of items
abbrev pub file_reading : Names → Trees → Reading (List Hint)
file_reading names ts = only (form_reading names) (item_count_of_all ts) 0 ts

-- hints for this development: variables are written `?k`, and columns by their names
abbrev pub hints_reading : Development → Trees → Reading (List Hint)
hints_reading D ts = file_reading (names_with (column_names D)) ts
