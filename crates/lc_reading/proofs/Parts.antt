-- Lemmas of `specs/Parts.antt` that several files cite.
use Rattle.std.proofs.Common.{ℕ, List, Ok, sym, subst, ◌≡◌, Err}
use Rattle.std.specs.Prelude.{Result}
use Rattle.std.specs.Result.{IsErrAnd}
use Rattle.lc_sexp.specs.Trees.{Trees}
use Rattle.lc_sexp.specs.Shown.{rest_of, number_of, owner_of}
use Rattle.lc_sexp.specs.declared.cursor.Cursor.{Cursor}
use Rattle.lc_reading.specs.declared.part.Part.{Part}
use Rattle.lc_reading.specs.declared.flaw.ReadFault.{ReadFault}
use Rattle.lc_reading.specs.Parts.{IsBehindWord, tree_of, place_of}
use Rattle.lc_reading.specs.Readings.{Reading, behind_reading}
use Rattle.lc_reading.specs.Results.{IsReading}
use Rattle.lc_reading.proofs.Sections.{behind_reading-is, behind_reading-other}
use Rattle.lc_sexp.specs.declared.misfit.Misfit.{Misfit}
use Rattle.lc_reading.specs.declared.flaw.ReadFault.TheVariants.{Flawed}
use Rattle.lc_reading.specs.Flaws.{misfit_flaw}

-- what comes after the word
pub behind_read : {T X : Type 0} (view : T → X) (word : List ℕ) (read : ℕ → ℕ → Trees → Reading X) (part : Part) (c : Cursor) (result : Result T ReadFault) → IsBehindWord word part (Ok c)
    → IsReading view (read (owner_of c) (number_of c) (rest_of c)) result → IsReading view (behind_reading word read (place_of part) (tree_of part)) result
behind_read view word read part c result h k = subst (λ r. IsReading view r result) (sym (behind_reading-is word read part c h)) k

-- another list
pub behind_wrong : {T X : Type 0} (view : T → X) (word : List ℕ) (read : ℕ → ℕ → Trees → Reading X) (part : Part) (misfit : Misfit) (result : Result T ReadFault)
    → IsBehindWord word part (Err misfit) → IsErrAnd result (λ y. y ≡ Flawed (misfit_flaw misfit)) → IsReading view (behind_reading word read (place_of part) (tree_of part)) result
behind_wrong view word read part misfit (Ok x) h same = absurd same
behind_wrong view word read part misfit (Err f) (shape, other) same = rw (same, shape) (behind_reading-other word read (place_of part) (tree_of part) other)
