-- The parts of a path of the code: facts, and duties that know some of them.
use Rattle.std.proofs.Common.{◌≡◌, ℕ, List, [], ◌∷◌, ◌++◌, length, map, refl, sym, ap, ◌∙◌, subst}
use Rattle.std.proofs.lemmas.List.{length-map}
use Rattle.lc_base.specs.declared.ids.ColId.{ColId}
use Rattle.lc_table.specs.NodeTables.{Table}
use Rattle.lc_put.specs.PutNumbers.{columns_at, AreColumns}
use Rattle.lc_term.specs.Syntax.{Column, Formula}
use Rattle.lc_table.specs.Tables.{formula_in, formulas_in, AreFormulas, HasFormula, Keeps}
use Rattle.lc_table.specs.declared.node.ColExprId.{ColExprId}
use Rattle.lc_table.specs.declared.node.FormulaId.{FormulaId}
use Rattle.lc_table.proofs.Later.{are_formulas_pushed, formulas_pushed, keeps_itself}
use Rattle.lc_rider.specs.Paths as S
use Rattle.lc_rider.specs.Paths.{with_fact}
use Rattle.lc_rider.specs.DutyView.{AreKnown, AreGoals, owed_in, duty_in}
use Rattle.lc_rider.specs.PathView.{path_in, IsPath, HasPath, with_columns}
use Rattle.lc_rider.specs.declared.duty.Duty.{Duty}
use Rattle.lc_rider.specs.declared.path.Path.{Path}
use Rattle.lc_rider.proofs.PathLater.{has_path_later}
use Rattle.lc_rider.proofs.PathSteps.{AreOwed, duties_kept}

known_to : (ts : Table) (n : ℕ) (ds : List Duty) → AreKnown n ds → AreOwed n (map (owed_in ts) ds)
known_to ts n [] h = tt
known_to ts n (d ∷ ds) h = (h.0, known_to ts n ds h.1)

-- facts as they are seen are as many
formulas_are_known : (ts : Table) (fs : List FormulaId) (ds : List Duty) → AreKnown (length fs) ds → AreKnown (length (formulas_in ts fs)) ds
formulas_are_known ts fs ds h = subst (λ n. AreKnown n ds) (sym (length-map fs (formula_in ts))) h

-- one more fact
pub fact_put : (ts : Table) (p r : Path) (k : FormulaId) → r.facts.items ≡ p.facts.items ++ k ∷ [] → r.columns.items ≡ p.columns.items → r.marks.items ≡ p.marks.items →
    (q : S.Path) (f : Formula) → HasPath ts p q → HasFormula ts k f → HasPath ts r (with_fact q f)
fact_put ts p r k facts columns marks q f h at =
    let fs = p.facts.items in
    let ds = p.marks.items in
    let seen : formulas_in ts r.facts.items ≡ formulas_in ts fs ++ f ∷ [] = ap (formulas_in ts) facts ∙ formulas_pushed ts ts fs k f h.is.facts (keeps_itself ts) at in
    let kept = duties_kept (formulas_in ts fs) f (map (owed_in ts) ds) (known_to ts (length (formulas_in ts fs)) ds (formulas_are_known ts fs ds p.are_known)) in
    let duties : map (duty_in (formulas_in ts r.facts.items)) (map (owed_in ts) r.marks.items) ≡ map (duty_in (formulas_in ts fs)) (map (owed_in ts) ds) =
    (λ i. map (duty_in (seen i)) (map (owed_in ts) (marks i))) ∙ kept in
    let path : path_in ts r ≡ with_fact (path_in ts p) f = λ i. record { columns = columns_at ts (columns i); facts = seen i; duties = duties i } in
    record {
      is = record {
        facts = subst (AreFormulas ts) (sym facts) (are_formulas_pushed ts ts fs k f h.is.facts (keeps_itself ts) at);
        columns = subst (AreColumns ts) (sym columns) h.is.columns;
        goals = subst (AreGoals ts) (sym marks) h.is.goals;
      };
      path = path ∙ ap (λ (x : S.Path). with_fact x f) h.path;
    }

-- other columns, in a later table
pub columns_put : (old new : Table) (p r : Path) (cs : List (ColId × ColExprId)) (σ : ℕ → Column) → IsPath old p → Keeps old new → r.facts.items ≡ p.facts.items → r.columns.items ≡ cs →
    r.marks.items ≡ p.marks.items → AreColumns new cs → columns_at new cs ≡ σ → HasPath new r (with_columns (path_in old p) σ)
columns_put old new p r cs σ h kept facts columns marks are at =
    let later = has_path_later old new p (path_in old p) (record { is = h; path = refl }) kept in
    record {
      is = record {
        facts = subst (AreFormulas new) (sym facts) later.is.facts;
        columns = subst (AreColumns new) (sym columns) are;
        goals = subst (AreGoals new) (sym marks) later.is.goals;
      };
      path = (λ i. record {
        columns = columns_at new (columns i);
        facts = formulas_in new (facts i);
        duties = map (duty_in (formulas_in new (facts i))) (map (owed_in new) (marks i));
      })
          ∙ (λ i. with_columns (later.path i) (at i));
    }
