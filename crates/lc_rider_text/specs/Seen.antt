-- What parts that are read together stand for.
use Rattle.std.specs.Prelude.{ℕ, List, map, Vec}
use Rattle.std.specs.declared.alloc.Global.{Global}
use Rattle.lc_base.specs.Name.{bytes_of}
use Rattle.lc_base.specs.declared.name.Name.{Name}
use Rattle.lc_base.specs.declared.ids.ColId.{ColId}
use Rattle.lc_base.specs.declared.ids.OpId.{OpId}
use Rattle.lc_object.specs.declared.instr.EdgeKind.{EdgeKind}
use Rattle.lc_term.specs.Syntax as T
use Rattle.lc_term.specs.Updates as U
use Rattle.lc_term.specs.View.{term_of, formula_of}
use Rattle.lc_term.specs.UpdateView.{update_of, updates_of}
use Rattle.lc_term.specs.declared.term.Term.{Term}
use Rattle.lc_term.specs.declared.formula.Formula.{Formula}
use Rattle.lc_term.specs.declared.update.Update.{Update}
use Rattle.lc_rider.specs.Rider as R
use Rattle.lc_rider.specs.RiderView.{formula_in, choosing_of}
use Rattle.lc_rider.specs.declared.rider.When.{When}
use Rattle.lc_outline.specs.declared.parts.ActionId.{ActionId}
use Rattle.lc_rider_text.specs.declared.deed.Deed.{Deed}
use Rattle.lc_rider_text.specs.declared.deed.Deed.TheVariants.{Assign, LinSelf, LinOther, Note}

abbrev pub conjunct_parts : Name × Formula → List ℕ × T.Formula
conjunct_parts p = (bytes_of p.0, formula_of p.1)

abbrev pub update_parts : (ColId × Term) × Term → (ℕ × T.Term) × T.Term
update_parts p = ((p.0.0.0, term_of p.0.1), term_of p.1)

abbrev pub names_of : Vec Name Global → List (List ℕ)
names_of names = map bytes_of names.items

abbrev pub heading_view : Name × Vec Name Global → List ℕ × List (List ℕ)
heading_view p = (bytes_of p.0, names_of p.1)

abbrev pub effect_view : Formula × Vec Update Global → T.Formula × List U.Update
effect_view p = (formula_of p.0, updates_of p.1.items)

abbrev pub action_parts : (Name × Vec Name Global) × (Formula × Vec Update Global) → (List ℕ × List (List ℕ)) × (T.Formula × List U.Update)
action_parts p = (heading_view p.0, effect_view p.1)

-- what is done
abbrev pub deed_of : Deed → R.Deed
deed_of (Assign u) = R.Assign (update_of u)
deed_of (LinSelf by) = R.Marks R.Own (choosing_of by)
deed_of (LinOther t o by) = R.Marks (R.Other (term_of t) o.0) (choosing_of by)
deed_of (Note by) = R.Marks R.Note (choosing_of by)

abbrev pub other_parts : Term × OpId → T.Term × ℕ
other_parts p = (term_of p.0, p.1.0)

abbrev pub when_parts : When × Deed → T.Formula × R.Deed
when_parts p = (formula_in p.0, deed_of p.1)

abbrev pub terms_of : Vec Term Global → List T.Term
terms_of ts = map term_of ts.items

abbrev pub call_parts : ActionId × Vec Term Global → ℕ × List T.Term
call_parts p = (p.0.0, terms_of p.1)

abbrev pub step_parts : EdgeKind × (ActionId × Vec Term Global) → EdgeKind × (ℕ × List T.Term)
step_parts p = (p.0, call_parts p.1)
