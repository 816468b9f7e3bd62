-- What is in a list after its word, and one part alone.
use Rattle.std.proofs.Common.{◌≡◌, ℕ, List, [], Ok, Err, true, false, refl}
use Rattle.std.specs.Prelude.{Result}
use Rattle.std.specs.Result.{IsErrAnd}
use Rattle.lc_sexp.specs.Shown.{rest_of}
use Rattle.lc_sexp.specs.Trees.{Tree, Trees, atom, list, none, ◌▸◌}
use Rattle.lc_sexp.specs.declared.cursor.Cursor.{Cursor}
use Rattle.lc_sexp.specs.declared.misfit.Misfit.{Misfit}
use Rattle.lc_sexp.specs.declared.misfit.Misfit.TheVariants.{Shape as Misshapen}
use Rattle.lc_reading.specs.Flaws.{misfit_flaw}
use Rattle.lc_reading.specs.Listed.{names_among}
use Rattle.lc_reading.specs.Parts.{IsBehindWord, begins, tree_of}
use Rattle.lc_reading.specs.Readings.{Reading, wrong}
use Rattle.lc_reading.specs.Results.{IsReading}
use Rattle.lc_reading.specs.Words.{is}
use Rattle.lc_reading.specs.declared.flaw.ReadFault.{ReadFault}
use Rattle.lc_reading.specs.declared.flaw.ReadFault.TheVariants.{Flawed}
use Rattle.lc_reading.specs.declared.part.Part.{Part}
use Rattle.lc_reading.specs.declared.pass.Pass.TheVariants.{Shape}
use Rattle.lc_proof_text.specs.FileNames.{names_behind}

-- another list is misshapen
pub misfit_at : {T X : Type 0} (view : T → X) (n : ℕ) (r : Reading X) (misfit : Misfit) (result : Result T ReadFault) → r ≡ wrong Shape n → misfit ≡ Misshapen n → IsErrAnd result (λ fault. fault ≡ Flawed (misfit_flaw misfit))
    → IsReading view r result
misfit_at view n r misfit (Ok x) e is told = absurd told
misfit_at view n r misfit (Err fault) e is told = let same : fault ≡ Flawed (misfit_flaw misfit) = told in rw (same, is) e

-- the names that are declared after the word
names_at : (word w : List ℕ) (t : Tree) (ts us : Trees) → t ≡ list (atom w ▸ ts) → is w word ≡ true → us ≡ ts → names_behind word t ≡ names_among us
names_at word w t ts us tree same rest = rw (tree, same, rest) refl

pub names_behind-is : (word : List ℕ) (part : Part) (c : Cursor) → IsBehindWord word part (Ok c) → names_behind word (tree_of part) ≡ names_among (rest_of c)
names_behind-is word part c (ts, w, tree, same, within) = names_at word w (tree_of part) ts (rest_of c) tree same within.rest

pub names_behind-other : (word : List ℕ) (t : Tree) → begins word t ≡ false → names_behind word t ≡ []
names_behind-other word (atom w) e = refl
names_behind-other word (list none) e = refl
names_behind-other word (list (list us ▸ ts)) e = refl
names_behind-other word (list (atom w ▸ ts)) e = rw e refl
