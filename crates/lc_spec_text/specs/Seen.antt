-- What the parts of a specification stand for.
use Rattle.std.specs.Prelude.{ℕ, List, Vec, map}
use Rattle.std.specs.declared.alloc.Global.{Global}
use Rattle.lc_base.specs.Name.{bytes_of}
use Rattle.lc_base.specs.declared.name.Name.{Name}
use Rattle.lc_base.specs.declared.ids.ColId.{ColId}
use Rattle.lc_term.specs.Syntax as T
use Rattle.lc_term.specs.View.{term_of, formula_of}
use Rattle.lc_term.specs.declared.term.Term.{Term}
use Rattle.lc_term.specs.declared.formula.Formula.{Formula}
use Rattle.lc_seq.specs.Specification as S
use Rattle.lc_term.specs.UpdateView.{update_of}
use Rattle.lc_seq.specs.SpecView.{column_of, branch_of, operation_of}
use Rattle.lc_seq.specs.declared.specification.Column.{Column}
use Rattle.lc_term.specs.declared.update.Update.{Update}
use Rattle.lc_seq.specs.declared.specification.Branch.{Branch}
use Rattle.lc_seq.specs.declared.specification.Operation.{Operation}

abbrev pub update_parts : (ColId × Term) × Term → (ℕ × T.Term) × T.Term
update_parts p = ((p.0.0.0, term_of p.0.1), term_of p.1)

abbrev pub updates_of : Vec Update Global → List S.Update
updates_of us = map update_of us.items

abbrev pub terms_of : Vec Term Global → List T.Term
terms_of ts = map term_of ts.items

abbrev pub branch_parts : (Formula × Vec Update Global) × Vec Term Global → (T.Formula × List S.Update) × List T.Term
branch_parts p = ((formula_of p.0.0, updates_of p.0.1), terms_of p.1)

abbrev pub branches_of : Vec Branch Global → List S.Branch
branches_of bs = map branch_of bs.items

abbrev pub names_of : Vec Name Global → List (List ℕ)
names_of ns = map bytes_of ns.items

abbrev pub label_parts : Name × Vec Name Global → List ℕ × List (List ℕ)
label_parts p = (bytes_of p.0, names_of p.1)

abbrev pub choice_parts : (Name × Vec Name Global) × ((Formula × Vec Update Global) × Vec Term Global) → (List ℕ × List (List ℕ)) × ((T.Formula × List S.Update) × List T.Term)
choice_parts p = (label_parts p.0, branch_parts p.1)

abbrev pub signature_of : (Name × Vec Name Global) × ℕ → (List ℕ × List (List ℕ)) × ℕ
signature_of p = ((bytes_of p.0.0, names_of p.0.1), p.1)

abbrev pub operation_parts : ((Name × Vec Name Global) × ℕ) × Vec Branch Global → ((List ℕ × List (List ℕ)) × ℕ) × List S.Branch
operation_parts p = (signature_of p.0, branches_of p.1)

abbrev pub columns_of : Vec Column Global → List S.Column
columns_of cs = map column_of cs.items

abbrev pub operations_of : Vec Operation Global → List S.Operation
operations_of os = map operation_of os.items

abbrev pub specification_parts : (Name × Vec Column Global) × Vec Operation Global → (List ℕ × List S.Column) × List S.Operation
specification_parts p = ((bytes_of p.0.0, columns_of p.0.1), operations_of p.1)
