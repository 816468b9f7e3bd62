-- What a text reads as where a part of an instruction is expected.
use Rattle.std.specs.Prelude.{ℕ, ◌+◌, Bool, true, false, List, [], Option, Some, None, option_map}
use Rattle.std.specs.List.{list_any}
use Rattle.lc_sexp.specs.Trees.{Tree, Trees, atom, list, ◌▸◌, item_count}
use Rattle.lc_term.specs.Syntax.{Term}
use Rattle.lc_text.specs.Names.{Names}
use Rattle.lc_reading.specs.Listed.{declared_by}
use Rattle.lc_reading.specs.Naming.{within, known_reading, spelled_reading}
use Rattle.lc_reading.specs.Readings.{Reading, wrong, two_of}
use Rattle.lc_reading.specs.Rows.{each_reading, declared_reading, first_name}
use Rattle.lc_reading.specs.Words.{is}
use Rattle.lc_reading.specs.declared.pass.Pass.TheVariants.{Shape, Unknown, Repeated}
use Rattle.lc_text.specs.Terms.{pair, term_reading}
use Rattle.lc_object_text.specs.CodeNames.{CodeNames}
use Rattle.lc_object_text.specs.Counts.{row_reading}

-- the name of an array, and of a point
abbrev pub array_reading : CodeNames → ℕ → Tree → Reading ℕ
array_reading code n t = known_reading (λ w. option_map (λ row. row.0) (code.array w)) n t

abbrev pub label_reading : CodeNames → ℕ → Tree → Reading ℕ
label_reading code n t = known_reading code.label n t

-- the width of the array that the item names, if it names one
abbrev pub row_width : CodeNames → Tree → Option ℕ
row_width code (atom w) = option_map (λ row. row.1) (code.array w)
row_width code (list ts) = None

-- a local that is written, if it was not before
abbrev pub written : ℕ → List ℕ → Bool → Option ℕ → Reading ℕ
written n w repeated None = wrong Unknown n
written n w true (Some k) = wrong Repeated n
written n w false (Some k) = within n w k

-- the name of a local that is written, after these
abbrev pub target_reading : CodeNames → List (List ℕ) → ℕ → Tree → Reading ℕ
target_reading code before n t = spelled_reading (λ w. written n w (list_any (is w) before) (code.target w)) n t

-- (r ..): as many locals as an array has columns, each once
abbrev pub targets_reading : CodeNames → Option ℕ → ℕ → Tree → Reading (List ℕ)
targets_reading code width n t = row_reading width (declared_reading (target_reading code) declared_by []) n t

-- (T ..): as many terms
abbrev pub values_reading : Names → Option ℕ → ℕ → Tree → Reading (List Term)
values_reading names width n t = row_reading width (each_reading (term_reading names [])) n t

-- r T: a local and its value, the parts of the list n, numbered from m on
abbrev pub assignment_parts : Names → CodeNames → List (List ℕ) → ℕ → ℕ → Trees → Reading (ℕ × Term)
assignment_parts names code before n m (t ▸ u ▸ ts) = two_of pair m t u ts (target_reading code before m t) (term_reading names [] (m + item_count t) u)
assignment_parts names code before n m _ = wrong Shape n

-- (r T)
abbrev pub assignment_reading : Names → CodeNames → List (List ℕ) → ℕ → Tree → Reading (ℕ × Term)
assignment_reading names code before n (atom w) = wrong Shape n
assignment_reading names code before n (list ts) = assignment_parts names code before n (n + 1) ts

-- ((r T) ..): any locals, each once
abbrev pub assignments_reading : Names → CodeNames → ℕ → Tree → Reading (List (ℕ × Term))
assignments_reading names code n (atom w) = wrong Shape n
assignments_reading names code n (list ts) = declared_reading (assignment_reading names code) first_name [] (n + 1) ts
