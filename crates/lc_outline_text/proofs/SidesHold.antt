-- What holds of an object's sections beside its code, if they are read.
use Rattle.std.proofs.Common.{◌≡◌, ℕ, ◌+◌, Bool, true, false, ◌&&◌, cond, List, [], ◌∷◌, length, Some, None, refl, sym, ◌∙◌}
use Rattle.std.specs.List.{list_all}
use Rattle.std.specs.Prelude.{codes}
use Rattle.lc_sexp.specs.Parts.{fits, misshapen}
use Rattle.lc_sexp.specs.TreeCode.{tree_count}
use Rattle.lc_sexp.specs.Trees.{Tree, Trees, atom, list, none, ◌▸◌, item_count}
use Rattle.lc_reading.proofs.Holding.{Holds, holds_unit, both_holds, behind_holds, each_holds, holds_weaker}
use Rattle.lc_reading.specs.Readings.{Reading, fine, both}
use Rattle.lc_reading.specs.Words.{is}
use Rattle.lc_text.specs.Terms.{pair}
use Rattle.lc_term.specs.Syntax.{Formula}
use Rattle.lc_action.specs.Action.{Action}
use Rattle.lc_seq.specs.Specification.{Column}
use Rattle.lc_tie.specs.Tie.{Conjunct, formulas_of}
use Rattle.lc_object_text.proofs.Holding.{Each, placed_holds, each_counted, form_holds}
use Rattle.lc_object_text.proofs.ObjectHolds.{names_counted}
use Rattle.lc_object_text.specs.ObjectNames.{auxiliaries_in}
use Rattle.lc_object_text.specs.Rows.{cons, placed_reading, lists_reading}
use Rattle.lc_object_text.specs.Objects.{first_reading}
use Rattle.lc_object_text.specs.Sections.{Sections, parts_in, parts_of_fit, before_others, forms_in, behind_first}
use Rattle.lc_outline.specs.Scope.{is_scoped}
use Rattle.lc_rider_text.proofs.ActionsKnown.{has_bounds, action_known}
use Rattle.lc_rider_text.proofs.BesideScoped.{column_total, conjunct_scoped}
use Rattle.lc_rider_text.specs.Actions.{action_reading}
use Rattle.lc_rider_text.specs.Columns.{column_reading}
use Rattle.lc_rider_text.specs.Conjuncts.{conjunct_reading}
use Rattle.lc_rider_text.specs.Known.{Known}
use Rattle.lc_rider_text.specs.Scopes.{beside_names}
use Rattle.lc_outline_text.proofs.Fitting.{AreActionsOf}
use Rattle.lc_outline_text.proofs.Outlined.{formulas_scoped}
use Rattle.lc_outline_text.specs.Declarations.{Declarations, known_of, actions_in, parameter_count}
use Rattle.lc_outline_text.specs.Points.{formulas_in_reading}
use Rattle.lc_outline_text.specs.Sides.{auxiliaries_reading, actions_reading, invariant_reading, conditions_reading, Sides, sides_of, sides_reading}

-- ---- auxiliary columns

section_counted : (d : Declarations) (n : ℕ) (t : Tree) → Holds (λ cs. length cs ≡ tree_count (parts_in (codes "aux") t)) (auxiliaries_reading d n t)
section_counted d n t =
    let read = column_reading d.declared.columns d.declared.auxiliaries in
    let P : ℕ → Tree → Column → Type 0 = λ i t c. Unit {0} in
    holds_weaker _ (λ cs. length cs ≡ tree_count (parts_in (codes "aux") t)) (auxiliaries_reading d n t) (λ cs h. h.1)
    (form_holds (λ ts cs. length cs ≡ tree_count ts) (codes "aux") (λ n. placed_reading read 0) n t
    (λ n m ts. holds_weaker (Each P 0 ts) (λ cs. length cs ≡ tree_count ts) (placed_reading read 0 m ts) (λ cs h. each_counted P 0 ts cs h) (placed_holds P read (λ i n t. holds_unit (read i n t)) 0 m ts)))

auxiliaries_counted : (d : Declarations) (s : Sections) (n m : ℕ) (ts : Trees) → s.auxiliaries.trees ≡ ts → Holds (λ cs. length cs ≡ length (auxiliaries_in s)) (first_reading (auxiliaries_reading d) n m ts)
auxiliaries_counted d s n m none e = tt
auxiliaries_counted d s n m (t ▸ ts) e =
    holds_weaker (λ cs. length cs ≡ tree_count (parts_in (codes "aux") t)) (λ cs. length cs ≡ length (auxiliaries_in s)) (auxiliaries_reading d m t) (λ cs h. h ∙ sym (counted_in s t ts e)) (section_counted d m t) where
      counted_in : (s : Sections) (t : Tree) (ts : Trees) → s.auxiliaries.trees ≡ t ▸ ts → length (auxiliaries_in s) ≡ tree_count (parts_in (codes "aux") t)
      counted_in s t ts e = rw e (names_counted (parts_in (codes "aux") t))

-- ---- actions

abbrev IsForm : Known → Trees → Action → Type 0
IsForm known ts a = (length a.parameters ≡ parameter_count ts) × (has_bounds known a ≡ true)

actions_hold : (known : Known) (i m : ℕ) (ts : Trees) → Holds (AreActionsOf known (forms_in (codes "action") ts)) (lists_reading (codes "action") (action_reading known) i m ts)
actions_hold known i m none = tt
actions_hold known i m (atom w ▸ ts) = tt
actions_hold known i m (list none ▸ ts) = tt
actions_hold known i m (list (list us ▸ vs) ▸ ts) = tt
actions_hold known i m (list (atom w ▸ us) ▸ ts) =
    by_test (is w (codes "action")) (action_reading known i m (list (atom w ▸ us))) (lists_reading (codes "action") (action_reading known) (i + 1) (m + item_count (list (atom w ▸ us))) ts)
    (action_known known i m (list (atom w ▸ us))) (actions_hold known (i + 1) (m + item_count (list (atom w ▸ us))) ts) where
      by_test : (b : Bool) (r : Reading Action) (rest : Reading (List Action)) → Holds (IsForm known (parts_of_fit (cond b (fits us) misshapen))) r → Holds (AreActionsOf known (forms_in (codes "action") ts)) rest
          → Holds (AreActionsOf known (before_others (cond b (fits us) misshapen) (forms_in (codes "action") ts))) (cond b (both cons r rest) (fine []))
      by_test true r rest h g = both_holds (IsForm known us) (AreActionsOf known (forms_in (codes "action") ts)) (AreActionsOf known (us ∷ forms_in (codes "action") ts)) cons r rest h g (λ a actions p q. (p, q))
      by_test false r rest h g = tt

-- ---- the invariant and idle clients

formulas_too : (test : Formula → Bool) (cs : List Conjunct) → list_all (λ (c : Conjunct). test c.formula) cs ≡ true → list_all test (formulas_of cs) ≡ true
formulas_too test [] h = refl
formulas_too test (c ∷ cs) h = by_test (test c.formula) (formulas_too test cs) h where
  by_test : (b : Bool) → (list_all (λ (c : Conjunct). test c.formula) cs ≡ true → list_all test (formulas_of cs) ≡ true)
      → (b && list_all (λ (c : Conjunct). test c.formula) cs) ≡ true → (b && list_all test (formulas_of cs)) ≡ true
  by_test true next h = next h
  by_test false next h = h

-- what is in scope beside the code, with n variables
abbrev pub is_said : Declarations → ℕ → Formula → Bool
is_said d n f = is_scoped (column_total (known_of d)) n f

invariant_scoped : (d : Declarations) (n : ℕ) (t : Tree) → Holds (λ cs. list_all (is_said d 1) (formulas_of cs) ≡ true) (invariant_reading d n t)
invariant_scoped d n t =
    let test = λ (c : Conjunct). is_said d 1 c.formula in
    holds_weaker (λ cs. list_all test cs ≡ true) (λ cs. list_all (is_said d 1) (formulas_of cs) ≡ true) (invariant_reading d n t) (formulas_too (is_said d 1))
    (behind_holds (λ cs. list_all test cs ≡ true) (codes "invariant") _ n t (λ n m ts. each_holds test (conjunct_reading (beside_names d.declared.columns None)) (conjunct_scoped d.declared.columns) m ts))

abbrev AreConditions : Declarations → List Conjunct × List Formula → Type 0
AreConditions d p = (list_all (is_said d 1) (formulas_of p.0) ≡ true) × (list_all (is_said d 2) p.1 ≡ true)

conditions_scoped : (d : Declarations) (n m : ℕ) (ts : Trees) → Holds (AreConditions d) (conditions_reading d n m ts)
conditions_scoped d n m none = tt
conditions_scoped d n m (t ▸ none) = tt
conditions_scoped d n m (t ▸ u ▸ ts) =
    both_holds (λ cs. list_all (is_said d 1) (formulas_of cs) ≡ true) (λ fs. list_all (is_said d 2) fs ≡ true) (AreConditions d) pair (invariant_reading d m t)
    (formulas_in_reading (codes "idle") (beside_names d.declared.columns (Some [])) (m + item_count t) u)
    (invariant_scoped d m t) (formulas_scoped (codes "idle") d.declared.columns (Some []) (m + item_count t) u) (λ cs fs h g. (h, g))

-- ---- all of it

pub record AreSides (d : Declarations) (s : Sections) (x : Sides) : Type 0 where
  pub auxiliaries : length x.auxiliaries ≡ length (auxiliaries_in s)
  pub actions : AreActionsOf (known_of d) (actions_in s) x.actions
  pub invariant : list_all (is_said d 1) (formulas_of x.conjuncts) ≡ true
  pub idle : list_all (is_said d 2) x.idle ≡ true

abbrev HaveActions : Declarations → Sections → List Column × List Action → Type 0
HaveActions d s p = (length p.0 ≡ length (auxiliaries_in s)) × AreActionsOf (known_of d) (actions_in s) p.1

pub sides_hold : (d : Declarations) (s : Sections) (n : ℕ) → Holds (AreSides d s) (sides_reading d s n)
sides_hold d s n =
    both_holds (HaveActions d s) (AreConditions d) (AreSides d s) sides_of (actions_reading d s n) (conditions_reading d n s.invariant.number s.invariant.trees)
    (both_holds (λ cs. length cs ≡ length (auxiliaries_in s)) (AreActionsOf (known_of d) (actions_in s)) (HaveActions d s) pair _ _
    (auxiliaries_counted d s n s.auxiliaries.number s.auxiliaries.trees refl) (actions_hold (known_of d) 0 (behind_first s.auxiliaries).number (behind_first s.auxiliaries).trees) (λ cs actions h g. (h, g)))
    (conditions_scoped d n s.invariant.number s.invariant.trees) (λ p q h g. record { auxiliaries = h.0; actions = h.1; invariant = g.0; idle = g.1 })
