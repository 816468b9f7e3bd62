-- A point with the riders beside its code.
use Rattle.std.proofs.Common.{◌≡◌, ℕ, ◌+◌, Bool, refl, sym, ap, ◌∙◌, subst}
use Rattle.std.specs.Prelude.{Result, Ok, Err}
use Rattle.std.specs.Result.{IsErrAnd}
use Rattle.lc_sexp.specs.Trees.{Tree, Trees, ◌▸◌, item_count}
use Rattle.lc_sexp.specs.Shown.{rest_of, number_of, owner_of}
use Rattle.lc_sexp.specs.declared.cursor.Cursor.{Cursor}
use Rattle.lc_reading.specs.declared.flaw.ReadFault.{ReadFault}
use Rattle.lc_reading.specs.declared.flaw.ReadFault.TheVariants.{OutOfMemory}
use Rattle.lc_reading.specs.declared.part.Part.{Part}
use Rattle.lc_reading.specs.Parts.{IsBehind, tree_of, place_of}
use Rattle.lc_reading.specs.Readings.{Reading, both}
use Rattle.lc_reading.specs.Results.{IsReading}
use Rattle.lc_object_text.specs.Instructions.{instruction_reading}
use Rattle.lc_object_text.specs.ObjectNames.{Declared, Body, code_names, body_names}
use Rattle.lc_object_text.specs.Points.{Beside, is_shaped, point_of, point_name_reading, point_parts}

point_from : {X : Type 0} (d : Declared) (b : Body) (beside : Beside X) (operation i n o m q p k before : ℕ) (shaped : Bool) (name code : Tree) (ts us : Trees)
    → us ≡ name ▸ code ▸ ts → o ≡ n → q ≡ m → p ≡ m + item_count name → k ≡ m + item_count name + item_count code → before ≡ b.first + i
    → shaped ≡ is_shaped (instruction_reading (code_names d b) (body_names d b) p code)
    → point_parts d b beside operation i n m us
    ≡ beside o code shaped (both (point_of operation) (point_name_reading d before n q name) (instruction_reading (code_names d b) (body_names d b) p code)) k ts
point_from d b beside operation i n o m q p k before shaped name code ts us rest owner first second third place shape = rw (rest, owner, first, shape, second, third, place) refl

-- a point is read as its name, its instruction and what is beside them
pub point_read : {T X : Type 0} (view : T → X) (d : Declared) (b : Body) (beside : Beside X) (operation i before : ℕ) (shaped : Bool) (l l₁ l₂ : Cursor) (name code : Part) (result : Result T ReadFault)
    → place_of name ≡ number_of l → IsBehind l (tree_of name) l₁ → place_of code ≡ number_of l₁ → IsBehind l₁ (tree_of code) l₂ → before ≡ b.first + i
    → shaped ≡ is_shaped (instruction_reading (code_names d b) (body_names d b) (place_of code) (tree_of code))
    → IsReading view (beside (owner_of l₂) (tree_of code) shaped (both (point_of operation) (point_name_reading d before (owner_of l) (place_of name) (tree_of name))
    (instruction_reading (code_names d b) (body_names d b) (place_of code) (tree_of code))) (number_of l₂) (rest_of l₂)) result
    → IsReading view (point_parts d b beside operation i (owner_of l) (number_of l) (rest_of l)) result
point_read view d b beside operation i before shaped l l₁ l₂ name code result at1 next1 at2 next2 place shape h =
    subst (λ r. IsReading view r result)
    (sym (point_from d b beside operation i (owner_of l) (owner_of l₂) (number_of l) (place_of name) (place_of code) (number_of l₂) before shaped (tree_of name) (tree_of code) (rest_of l₂) (rest_of l)
    (next1.rest ∙ ap (λ ts. tree_of name ▸ ts) next2.rest) (next2.owner ∙ next1.owner) at1 (at2 ∙ next1.number) (next2.number ∙ ap (λ m. m + item_count (tree_of code)) next1.number) place shape))
    h

-- memory was wanted
pub nothing_told : {T X : Type 0} (view : T → X) (r : Reading X) (fault : ReadFault) (result : Result T ReadFault) → fault ≡ OutOfMemory → IsErrAnd result (λ y. y ≡ fault) → IsReading view r result
nothing_told view r fault (Ok x) want same = absurd same
nothing_told view r fault (Err other) want same = rw (same, want) tt
