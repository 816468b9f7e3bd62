-- Lists without a word, and limits.
use Rattle.std.proofs.Common.{◌≡◌, ℕ, ◌+◌, List, Bool, true, false, Ok, Err, refl, sym, ap, ◌∙◌}
use Rattle.std.specs.Prelude.{Result}
use Rattle.lc_sexp.specs.Trees.{Tree, Trees, list}
use Rattle.lc_sexp.specs.Shown.{rest_of, number_of, owner_of}
use Rattle.lc_sexp.specs.declared.cursor.Cursor.{Cursor}
use Rattle.lc_sexp.specs.declared.misfit.Misfit.{Misfit}
use Rattle.lc_reading.proofs.Sections.{behind_reading-other}
use Rattle.lc_reading.specs.Flaws.{misfit_flaw}
use Rattle.lc_reading.specs.Parts.{IsBehindWord, tree_of, place_of}
use Rattle.lc_reading.specs.Readings.{Reading, flawed, limited, listed_reading, behind_reading}
use Rattle.lc_reading.specs.Results.{IsReading, limited_result}
use Rattle.lc_reading.specs.declared.flaw.ReadFault.{ReadFault}
use Rattle.lc_reading.specs.declared.flaw.ReadFault.TheVariants.{Flawed, OutOfMemory}
use Rattle.lc_reading.specs.declared.part.Part.{Part}
use Rattle.lc_reading.specs.Words.{is}

-- what is read of the item n at o, m and us, which are those of its list
listed_reading-at : {X : Type 0} (read : ℕ → ℕ → Trees → Reading X) (n o m : ℕ) (t : Tree) (us : Trees) → list us ≡ t → o ≡ n → m ≡ o + 1 → listed_reading read n t ≡ read o m us
listed_reading-at read n o m t us tree owner first = ap (listed_reading read n) (sym tree) ∙ rw (first, owner) refl

-- what is in the list
pub listed_reading-is : {X : Type 0} (read : ℕ → ℕ → Trees → Reading X) (n : ℕ) (t : Tree) (l : Cursor) → list (rest_of l) ≡ t → owner_of l ≡ n → number_of l ≡ owner_of l + 1
    → listed_reading read n t ≡ read (owner_of l) (number_of l) (rest_of l)
listed_reading-is read n t l tree owner first = listed_reading-at read n (owner_of l) (number_of l) t (rest_of l) tree owner first

-- what is wrong in another item than a list that begins with this word
pub behind_reading-err : {X : Type 0} (word : List ℕ) (read : ℕ → ℕ → Trees → Reading X) (part : Part) (misfit : Misfit) → IsBehindWord word part (Err misfit)
    → behind_reading word read (place_of part) (tree_of part) ≡ flawed (misfit_flaw misfit)
behind_reading-err word read part misfit (is, other) = behind_reading-other word read (place_of part) (tree_of part) other ∙ ap (λ m. flawed (misfit_flaw m)) (sym is)

-- a result and its reading, beyond a limit or not
pub limited_read : {T X : Type 0} (view : T → X) (beyond : Bool) (n : ℕ) (r : Reading X) (a : Result T ReadFault) → IsReading view r a → IsReading view (limited beyond n r) (limited_result beyond n a)
limited_read view true n r (Ok x) h = rw h refl
limited_read view true n r (Err (Flawed f)) h = rw h refl
limited_read view true n r (Err OutOfMemory) h = tt
limited_read view false n r (Ok x) h = h
limited_read view false n r (Err f) h = h

-- the same, with the limit and the item given in another way
pub limited_at : {T X : Type 0} (view : T → X) (b beyond : Bool) (m n : ℕ) (r : Reading X) (a e : Result T ReadFault) → IsReading view r a → e ≡ limited_result b m a → b ≡ beyond → m ≡ n
    → IsReading view (limited beyond n r) e
limited_at view b beyond m n r a e h end same at = rw (end, same, at) (limited_read view beyond n r a h)
