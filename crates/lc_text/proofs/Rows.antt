-- Formulas that are read one after another.
use Rattle.std.proofs.Common.{◌≡◌, ℕ, List, [], ◌∷◌, Ok, Err, refl, sym, ap, ◌∙◌}
use Rattle.std.specs.Prelude.{Result, Vec, Box}
use Rattle.std.specs.declared.alloc.Global.{Global}
use Rattle.lc_sexp.specs.Shown.{rest_of, number_of}
use Rattle.lc_sexp.specs.declared.cursor.Cursor.{Cursor}
use Rattle.lc_text.specs.Names.{Names}
use Rattle.lc_term.specs.Syntax.{Formula, Formulas, none, more, formulas}
use Rattle.lc_term.specs.View.{formula_of, formulas_of}
use Rattle.lc_term.specs.declared.formula.Formula.{Formula as SeenFormula}
use Rattle.lc_reading.proofs.SoFar.{IsSoFar, front, flawed_before}
use Rattle.lc_reading.specs.Parts.{IsBehind, tree_of, place_of}
use Rattle.lc_reading.specs.Readings.{Reading, fine, both, mapped}
use Rattle.lc_reading.specs.Results.{IsReading}
use Rattle.lc_reading.specs.declared.flaw.ReadFault.{ReadFault}
use Rattle.lc_reading.specs.declared.flaw.ReadFault.TheVariants.{Flawed, OutOfMemory}
use Rattle.lc_reading.specs.declared.part.Part.{Part}
use Rattle.lc_text.specs.Formulas.{formula_reading, formulas_reading}
use Rattle.lc_text.specs.Seen.{boxed, unboxed, row_of}

front_formulas : (fs : List Formula) → front more fs (fine none) ≡ fine (formulas fs)
front_formulas [] = refl
front_formulas (f ∷ fs) = ap (mapped (more f)) (front_formulas fs)

-- all are read
pub formulas_end : (whole rest : Reading Formulas) (a : Result (Vec SeenFormula Global) ReadFault) → rest ≡ fine none → IsSoFar formula_of more whole rest a → IsReading row_of whole a
formulas_end whole rest (Ok fs) e h = h ∙ ap (front more (formulas_of fs.items)) e ∙ front_formulas (formulas_of fs.items)
formulas_end whole rest (Err (Flawed g)) e h = h ∙ ap (flawed_before g) e
formulas_end whole rest (Err OutOfMemory) e h = tt

-- after one item, the others are left
pub formulas_more : (names : Names) (bound : List (List ℕ)) (l behind : Cursor) (part : Part) → place_of part ≡ number_of l → IsBehind l (tree_of part) behind
    → formulas_reading names bound (number_of l) (rest_of l) ≡ both more (formula_reading names bound (place_of part) (tree_of part)) (formulas_reading names bound (number_of behind) (rest_of behind))
formulas_more names bound l behind part at next =
    ap (formulas_reading names bound (number_of l)) next.rest
    ∙ ap (λ m. both more (formula_reading names bound (number_of l) (tree_of part)) (formulas_reading names bound m (rest_of behind))) (sym next.number)
    ∙ ap (λ n. both more (formula_reading names bound n (tree_of part)) (formulas_reading names bound (number_of behind) (rest_of behind))) (sym at)

-- a formula is read out of its box
pub unboxed_reads : (r : Reading Formula) (a : Result (Box SeenFormula Global) ReadFault) → IsReading boxed r a → IsReading formula_of r (unboxed a)
unboxed_reads r (Ok b) h = h
unboxed_reads r (Err fault) h = h
