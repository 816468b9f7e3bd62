-- Lists that end after k parts.
use Rattle.std.proofs.Common.{◌≡◌, ℕ, zero, suc, ◌+◌, refl, sym, subst, ◌∙◌}
use Rattle.std.specs.Prelude.{Result, Ok, Err}
use Rattle.lc_sexp.specs.Trees.{Tree, Trees, none, ◌▸◌, item_count}
use Rattle.lc_sexp.specs.Shown.{rest_of, number_of}
use Rattle.lc_sexp.specs.declared.cursor.Cursor.{Cursor}
use Rattle.lc_reading.specs.declared.part.Part.{Part}
use Rattle.lc_reading.specs.Parts.{IsBehind, tree_of}
use Rattle.lc_reading.specs.Readings.{Reading, ended}
use Rattle.lc_sexp.specs.declared.misfit.Misfit.{Misfit}
use Rattle.lc_sexp.specs.declared.misfit.Misfit.TheVariants.{Shape as Misshapen}
use Rattle.lc_reading.proofs.Combined.{ended_read}
use Rattle.lc_reading.specs.Flaws.{misfit_flaw}
use Rattle.lc_reading.specs.Readings.{wrong}
use Rattle.lc_reading.specs.Results.{IsReading, ended_result}
use Rattle.lc_reading.specs.declared.flaw.ReadFault.{ReadFault}
use Rattle.lc_reading.specs.declared.flaw.ReadFault.TheVariants.{Flawed}
use Rattle.lc_reading.specs.declared.pass.Pass.TheVariants.{Shape}
use Rattle.std.specs.Result.{IsErrAnd}
use Rattle.lc_object_text.specs.Counts.{ended_behind}
use Rattle.lc_object_text.specs.Own.{IsLeft, IsShort}

left_at : {X : Type 0} (m n : ℕ) (ts us : Trees) (r : Reading X) → n ≡ m → us ≡ ts → ended m ts r ≡ ended n us r
left_at m n ts us r at same = rw (at, same) refl

-- after the parts
pub left_ended : {X : Type 0} (k m : ℕ) (ts : Trees) (rest : Cursor) (r : Reading X) → IsLeft k m ts rest → ended_behind k m ts r ≡ ended (number_of rest) (rest_of rest) r
left_ended zero m ts rest r (at, same) = left_at m (number_of rest) ts (rest_of rest) r at same
left_ended (suc k) m none rest r h = absurd h
left_ended (suc k) m (t ▸ ts) rest r h = left_ended k (m + item_count t) ts rest r h

-- some are missing
pub short_ended : {X : Type 0} (k m : ℕ) (ts : Trees) (r : Reading X) → IsShort k ts → ended_behind k m ts r ≡ r
short_ended zero m ts r h = absurd h
short_ended (suc k) m none r h = refl
short_ended (suc k) m (t ▸ ts) r h = short_ended k (m + item_count t) ts r h

one_passed : {X : Type 0} (j k n m : ℕ) (t : Tree) (ts us : Trees) (r : Reading X) → us ≡ t ▸ ts → m ≡ n + item_count t → j ≡ suc k → ended_behind j n us r ≡ ended_behind k m ts r
one_passed j k n m t ts us r rest number less = rw (rest, number, less) refl

-- one part is passed
pub passed_ended : {X : Type 0} (j k : ℕ) (l behind : Cursor) (part : Part) (r : Reading X) → IsBehind l (tree_of part) behind → j ≡ suc k
    → ended_behind j (number_of l) (rest_of l) r ≡ ended_behind k (number_of behind) (rest_of behind) r
passed_ended j k l behind part r next less = one_passed j k (number_of l) (number_of behind) (tree_of part) (rest_of behind) (rest_of l) r next.rest next.number less

-- none is left
pub none_ended : {X : Type 0} (k m n : ℕ) (ts : Trees) (r : Reading X) → ts ≡ none → ended_behind k m ts r ≡ ended n ts r
none_ended zero m n ts r e = rw e refl
none_ended (suc k) m n ts r e = rw e refl

-- k parts, and no other
pub parts_ended : {T X : Type 0} (view : T → X) (k m : ℕ) (ts : Trees) (rest : Cursor) (r : Reading X) (a e : Result T ReadFault) → IsLeft k m ts rest → IsReading view r a
    → e ≡ ended_result (number_of rest) (rest_of rest) a → IsReading view (ended_behind k m ts r) e
parts_ended view k m ts rest r a e left h end =
    subst (λ q. IsReading view q e) (sym (left_ended k m ts rest r left)) (subst (IsReading view (ended (number_of rest) (rest_of rest) r)) (sym end) (ended_read view (number_of rest) (rest_of rest) r a h))

-- fewer parts
pub parts_missing : {T X : Type 0} (view : T → X) (k m n : ℕ) (ts : Trees) (r : Reading X) (misfit : Misfit) (result : Result T ReadFault) → misfit ≡ Misshapen n
    → r ≡ wrong Shape n → IsShort k ts → IsErrAnd result (λ y. y ≡ Flawed (misfit_flaw misfit)) → IsReading view (ended_behind k m ts r) result
parts_missing view k m n ts r misfit (Ok x) shape is short same = absurd same
parts_missing view k m n ts r misfit (Err f) shape is short same = rw (same, shape) (short_ended k m ts r short ∙ is)
