-- The parts of a hint, and the whole file.
use Rattle.std.proofs.Common.{◌≡◌, ℕ, ◌+◌, List, refl}
use Rattle.lc_sexp.specs.Trees.{Tree, Trees, ◌▸◌, item_count, item_count_of_all}
use Rattle.lc_proof_text.specs.Files.{only}
use Rattle.lc_outline.specs.Development.{Development}
use Rattle.lc_outline.specs.ColumnNames.{column_names}
use Rattle.lc_cert.specs.ColumnNames.{names_with}
use Rattle.lc_hints.specs.Readings.{use_hint, terms_due, use_reading, form_reading, hints_reading}

-- the whole file
pub file_at : (D : Development) (n m : ℕ) (ts us : Trees) (columns : List (List ℕ)) → n ≡ item_count_of_all us → m ≡ 0 → ts ≡ us → columns ≡ column_names D
    → only (form_reading (names_with columns)) n m ts ≡ hints_reading D us
file_at D n m ts us columns owner number rest names = rw (owner, number, rest, names) refl
