-- What a walk over a table puts in.
use Rattle.std.specs.Prelude.{◌≡◌}
use Rattle.lc_term.specs.Syntax as S
use Rattle.lc_table.specs.NodeTables.{Table}
use Rattle.lc_table.specs.Tables.{term_in, HasTerm}
use Rattle.lc_put.specs.Put.{replacement_of, Remembers}
use Rattle.lc_put.specs.PutNumbers.{AreColumns, AreTerms, replacement_at}
use Rattle.lc_term.specs.Replacement.{Replacement}
use Rattle.lc_term.specs.Substitution.{putting, opening, shifting}
use Rattle.lc_put.specs.declared.put.ReplacedNodes.{ReplacedNodes}
use Rattle.lc_put.specs.declared.filling.Filling.{Filling}
use Rattle.lc_put.specs.declared.filling.Filling.TheVariants.{Put, Numbers, Variable, Opening, Shift}

-- what is put in makes this replacement, a number standing for its tree in the table
abbrev pub IsFilled : Filling → Table → Replacement → Type 0
IsFilled (Put p) ts r = r ≡ replacement_of p
IsFilled (Numbers p) ts r = AreColumns ts p.columns.now × AreTerms ts p.variables.now × (r ≡ replacement_at ts p.columns.now p.variables.now)
IsFilled (Variable v k) ts r = (u : S.Term) × HasTerm ts k u × (r ≡ putting v u)
IsFilled (Opening k) ts r = (u : S.Term) × HasTerm ts k u × (r ≡ opening u)
IsFilled (Shift a c) ts r = r ≡ shifting a c

-- the replacement that what is put in makes in a table
abbrev pub replacement_in : Filling → Table → Replacement
replacement_in (Put p) ts = replacement_of p
replacement_in (Numbers p) ts = replacement_at ts p.columns.now p.variables.now
replacement_in (Variable v k) ts = putting v (term_in ts k)
replacement_in (Opening k) ts = opening (term_in ts k)
replacement_in (Shift a c) ts = shifting a c

-- what is put in and what is remembered are of one replacement
pub record Stands (r : Replacement) (ts : Table) (put : Filling) (done : ReplacedNodes) : Type 0 where
  pub filled : IsFilled put ts r
  pub remembers : Remembers r ts done
