-- What parts that are read together stand for.
use Rattle.std.specs.Prelude.{◌≡◌, ℕ, ℤ, List, Vec, Box, Result, Ok, Err}
use Rattle.std.specs.declared.alloc.Global.{Global}
use Rattle.lc_base.specs.Name.{bytes_of}
use Rattle.lc_base.specs.declared.name.Name.{Name}
use Rattle.lc_sexp.specs.Shown.{rest_of, owner_of}
use Rattle.lc_sexp.specs.declared.cursor.Cursor.{Cursor}
use Rattle.lc_reading.specs.Flaws.{at}
use Rattle.lc_reading.specs.Parts.{IsThree, IsShortOfThree}
use Rattle.lc_reading.specs.declared.flaw.ReadFault.{ReadFault}
use Rattle.lc_reading.specs.declared.flaw.ReadFault.TheVariants.{Flawed, OutOfMemory}
use Rattle.lc_reading.specs.declared.part.Part.{Part}
use Rattle.lc_reading.specs.declared.pass.Pass.TheVariants.{Shape}
use Rattle.lc_term.specs.Syntax as S
use Rattle.lc_term.specs.View.{term_of, column_of, formula_of, formulas_of}
use Rattle.lc_term.specs.declared.term.Term.{Term}
use Rattle.lc_term.specs.declared.term.ColExpr.{ColExpr}
use Rattle.lc_term.specs.declared.formula.Formula.{Formula}

abbrev pub numbers_of : ℤ × ℤ → ℤ × ℤ
numbers_of p = (p.0, p.1)

abbrev pub terms_of : Term × Term → S.Term × S.Term
terms_of p = (term_of p.0, term_of p.1)

abbrev pub product_parts : ℤ × Term → ℤ × S.Term
product_parts p = (p.0, term_of p.1)

abbrev pub access_parts : ColExpr × Term → S.Column × S.Term
access_parts p = (column_of p.0, term_of p.1)

abbrev pub store_parts : (ColExpr × Term) × Term → (S.Column × S.Term) × S.Term
store_parts p = ((column_of p.0.0, term_of p.0.1), term_of p.1)

-- the formula in a box
abbrev pub boxed : Box Formula Global → S.Formula
boxed b = formula_of b.value

abbrev pub boxed_pair : Box Formula Global × Box Formula Global → S.Formula × S.Formula
boxed_pair p = (boxed p.0, boxed p.1)

-- the formula out of its box
abbrev pub unboxed : Result (Box Formula Global) ReadFault → Result Formula ReadFault
unboxed (Ok b) = Ok b.value
unboxed (Err fault) = Err fault

-- the formulas of a vector
abbrev pub row_of : Vec Formula Global → S.Formulas
row_of fs = S.formulas (formulas_of fs.items)

-- the name and the two numbers of a column that is declared
abbrev pub column_parts : (Name × ℤ) × ℤ → (List ℕ × ℤ) × ℤ
column_parts p = ((bytes_of p.0.0, p.0.1), p.1)

-- the first three parts of a list, and the rest after them, in a box; or it has fewer
abbrev pub AreBoxed : Cursor → Result (Box (Part × Part × Part × Cursor) Global) ReadFault → Type 0
AreBoxed l (Ok b) = IsThree l (Ok b.value)
AreBoxed l (Err (Flawed flaw)) = (flaw ≡ at Shape (owner_of l)) × IsShortOfThree (rest_of l)
AreBoxed l (Err OutOfMemory) = Unit {0}
