-- The invariant, what holds of idle clients, and the actions of a development are those of its text.
use Rattle.std.proofs.Common.{◌≡◌, ℕ, ◌+◌, ◌<◌, Bool, true, false, cond, List, [], ◌∷◌, map, length, Some, None, sym, ap, ◌∙◌, subst}
use Rattle.std.proofs.lemmas.List.{length-map}
use Rattle.std.specs.Prelude.{codes, option_map, slice_get}
use Rattle.lc_sexp.specs.Parts.{fits, misshapen}
use Rattle.lc_sexp.specs.TreeCode.{tree_count}
use Rattle.lc_sexp.specs.Trees.{Tree, Trees, atom, list, none, ◌▸◌, item_count}
use Rattle.lc_reading.proofs.Holding.{Holds, holds_unit, mapped_holds, both_holds, limited_holds, holds_weaker}
use Rattle.lc_reading.proofs.Places.{place_below}
use Rattle.lc_reading.specs.Listed.{place_of}
use Rattle.lc_reading.specs.Readings.{Reading, fine, both}
use Rattle.lc_reading.specs.Rows.{each_reading}
use Rattle.lc_reading.specs.Words.{is}
use Rattle.lc_term.specs.Syntax.{Formula}
use Rattle.lc_term.specs.Updates.{Update}
use Rattle.lc_text.specs.Formulas.{formula_reading}
use Rattle.lc_text.specs.Terms.{pair}
use Rattle.lc_action.specs.Action.{Action}
use Rattle.lc_seq.specs.Specification.{Column}
use Rattle.lc_tie.specs.Tie.{Conjunct}
use Rattle.lc_object_text.proofs.Holding.{form_holds}
use Rattle.lc_object_text.specs.Objects.{first_reading}
use Rattle.lc_object_text.specs.ObjectNames.{first_text, later, parts_in_first}
use Rattle.lc_object_text.specs.Rows.{cons, lists_reading}
use Rattle.lc_object_text.specs.Sections.{Sections, parts_in, parts_of_fit, before_others, forms_in, behind_first}
use Rattle.lc_rider_text.specs.Actions.{parameters_in, heading_reading, effect_reading, the_action, action_parts_reading, headed_action_reading, action_reading}
use Rattle.lc_rider_text.specs.Conjuncts.{conjunct_reading}
use Rattle.lc_rider_text.specs.Known.{Known}
use Rattle.lc_rider_text.specs.Scopes.{beside_names}
use Rattle.lc_rider_text.specs.Updates.{listed_update_reading}
use Rattle.lc_outline.specs.Sizes.{columns_of}
use Rattle.lc_outline_text.specs.Declarations.{Declarations, known_of, actions_in, or_nothing, form_at}
use Rattle.lc_outline_text.specs.Points.{formulas_in_reading}
use Rattle.lc_outline_text.specs.Sides.{auxiliaries_reading, actions_reading, invariant_reading, conditions_reading, Sides, sides_of, sides_reading}
use Rattle.lc_outline_text.specs.Sizes.{columns_stored, columns_acted}
use Rattle.lc_outline_text.proofs.PointsCounted.{formulas_said}
use Rattle.lc_outline_text.proofs.RowsCounted.{Alike, alike_at}
use Rattle.lc_outline_text.proofs.UpdatesCounted.{updates_said}
use Rattle.lc_spec_text.proofs.Ways.{each_counted}

-- ---- actions

-- an action NAME (PARAM ..) F UPDATE ..
abbrev pub IsActionOf : List (List ℕ) → Trees → Action → Type 0
IsActionOf columns f a = columns_stored columns (later (later (later f))) ≡ columns_of a.updates

action_parts_said : (known : Known) (i n m : ℕ) (us : Trees) → Holds (λ p. IsActionOf known.columns us (the_action p)) (action_parts_reading known i n m us)
action_parts_said known i n m none = tt
action_parts_said known i n m (t ▸ none) = tt
action_parts_said known i n m (t ▸ u ▸ none) = tt
action_parts_said known i n m (t ▸ u ▸ f ▸ us) =
    let names = beside_names known.columns (Some (parameters_in u)) in
    let k = m + item_count t + item_count u in
    both_holds (λ h. Unit {0}) (λ (p : Formula × List Update). columns_stored known.columns us ≡ columns_of p.1) (λ p. IsActionOf known.columns (t ▸ u ▸ f ▸ us) (the_action p)) pair (heading_reading known i m t (m + item_count t) u)
    (effect_reading known names k f (k + item_count f) us) (holds_unit (heading_reading known i m t (m + item_count t) u))
    (both_holds (λ g. Unit {0}) (λ vs. columns_stored known.columns us ≡ columns_of vs) (λ (p : Formula × List Update). columns_stored known.columns us ≡ columns_of p.1) pair (formula_reading names [] k f)
    (each_reading (listed_update_reading known names) (k + item_count f) us) (holds_unit (formula_reading names [] k f)) (updates_said known names (k + item_count f) us) (λ g vs h e. e))
    (λ h p u e. e)

action_said : (known : Known) (i n : ℕ) (t : Tree) → Holds (IsActionOf known.columns (parts_in (codes "action") t)) (action_reading known i n t)
action_said known i n t =
    let P = IsActionOf known.columns (parts_in (codes "action") t) in
    limited_holds P _ n (headed_action_reading known i n t)
    (mapped_holds _ P the_action _ (form_holds (λ us p. IsActionOf known.columns us (the_action p)) (codes "action") (action_parts_reading known i) n t (action_parts_said known i)) (λ p h. h.1))

abbrev pub AreActionsOf : List (List ℕ) → List Trees → List Action → Type 0
AreActionsOf columns fs actions = Alike (IsActionOf columns) fs actions

actions_said : (known : Known) (i m : ℕ) (ts : Trees) → Holds (AreActionsOf known.columns (forms_in (codes "action") ts)) (lists_reading (codes "action") (action_reading known) i m ts)
actions_said known i m none = tt
actions_said known i m (atom w ▸ ts) = tt
actions_said known i m (list none ▸ ts) = tt
actions_said known i m (list (list us ▸ vs) ▸ ts) = tt
actions_said known i m (list (atom w ▸ us) ▸ ts) =
    by_test (is w (codes "action")) (action_reading known i m (list (atom w ▸ us))) (lists_reading (codes "action") (action_reading known) (i + 1) (m + item_count (list (atom w ▸ us))) ts)
    (action_said known i m (list (atom w ▸ us))) (actions_said known (i + 1) (m + item_count (list (atom w ▸ us))) ts) where
      by_test : (b : Bool) (r : Reading Action) (rest : Reading (List Action)) → Holds (IsActionOf known.columns (parts_of_fit (cond b (fits us) misshapen))) r → Holds (AreActionsOf known.columns (forms_in (codes "action") ts)) rest
          → Holds (AreActionsOf known.columns (before_others (cond b (fits us) misshapen) (forms_in (codes "action") ts))) (cond b (both cons r rest) (fine []))
      by_test true r rest h g =
          both_holds (IsActionOf known.columns us) (AreActionsOf known.columns (forms_in (codes "action") ts)) (AreActionsOf known.columns (us ∷ forms_in (codes "action") ts)) cons r rest h g (λ a actions p q. (p, q))
      by_test false r rest h g = tt

-- an action stores in the columns that the one of its name does
pub acted_said : (d : Declarations) (actions : List Action) → AreActionsOf d.declared.columns d.actions actions → (w : List ℕ) (a : ℕ) → place_of (map first_text d.actions) w ≡ Some a
    → option_map (λ (x : Action). columns_of x.updates) (slice_get actions a) ≡ Some (columns_acted d w)
acted_said d actions h w a e =
    let few : a < length d.actions = subst (λ n. a < n) (length-map d.actions first_text) (place_below (map first_text d.actions) w a e) in
    let at = alike_at (IsActionOf d.declared.columns) d.actions actions a h few in
    ap (option_map (λ (x : Action). columns_of x.updates)) at.on_right ∙ ap Some (sym at.alike)
    ∙ ap (λ o. Some (columns_stored d.declared.columns (later (later (later (or_nothing o)))))) (sym at.on_left)
    ∙ ap (λ o. Some (columns_stored d.declared.columns (later (later (later (form_at d.actions o)))))) (sym e)

-- ---- the invariant and idle clients

invariant_said : (d : Declarations) (n : ℕ) (t : Tree) → Holds (λ cs. length cs ≡ tree_count (parts_in (codes "invariant") t)) (invariant_reading d n t)
invariant_said d n t =
    let read = conjunct_reading (beside_names d.declared.columns None) in
    holds_weaker _ (λ cs. length cs ≡ tree_count (parts_in (codes "invariant") t)) (invariant_reading d n t) (λ cs h. h.1)
    (form_holds (λ ts (cs : List Conjunct). length cs ≡ tree_count ts) (codes "invariant") (λ n. each_reading read) n t (λ n m ts. each_counted read m ts))

abbrev AreConditionsOf : Trees → List Conjunct × List Formula → Type 0
AreConditionsOf ts p = (length p.0 ≡ tree_count (parts_in_first (codes "invariant") ts)) × (length p.1 ≡ tree_count (parts_in_first (codes "idle") (later ts)))

conditions_said : (d : Declarations) (n m : ℕ) (ts : Trees) → Holds (AreConditionsOf ts) (conditions_reading d n m ts)
conditions_said d n m none = tt
conditions_said d n m (t ▸ none) = tt
conditions_said d n m (t ▸ u ▸ ts) =
    let names = beside_names d.declared.columns (Some []) in
    both_holds (λ cs. length cs ≡ tree_count (parts_in (codes "invariant") t)) (λ fs. length fs ≡ tree_count (parts_in (codes "idle") u)) (AreConditionsOf (t ▸ u ▸ ts)) pair (invariant_reading d m t)
    (formulas_in_reading (codes "idle") names (m + item_count t) u) (invariant_said d m t) (formulas_said (codes "idle") names (m + item_count t) u) (λ cs fs h g. (h, g))

-- ---- all of it

pub record AreSidesOf (d : Declarations) (s : Sections) (x : Sides) : Type 0 where
  pub actions : AreActionsOf d.declared.columns (actions_in s) x.actions
  pub invariant : length x.conjuncts ≡ tree_count (parts_in_first (codes "invariant") s.invariant.trees)
  pub idle : length x.idle ≡ tree_count (parts_in_first (codes "idle") (later s.invariant.trees))

pub sides_said : (d : Declarations) (s : Sections) (n : ℕ) → Holds (AreSidesOf d s) (sides_reading d s n)
sides_said d s n =
    let Acts : List Column × List Action → Type 0 = λ p. AreActionsOf d.declared.columns (actions_in s) p.1 in
    let r = first_reading (auxiliaries_reading d) n s.auxiliaries.number s.auxiliaries.trees in
    both_holds Acts (AreConditionsOf s.invariant.trees) (AreSidesOf d s) sides_of (actions_reading d s n) (conditions_reading d n s.invariant.number s.invariant.trees)
    (both_holds (λ cs. Unit {0}) (AreActionsOf d.declared.columns (actions_in s)) Acts pair r _ (holds_unit r) (actions_said (known_of d) 0 (behind_first s.auxiliaries).number (behind_first s.auxiliaries).trees) (λ cs actions u h. h))
    (conditions_said d n s.invariant.number s.invariant.trees) (λ p q h g. record { actions = h; invariant = g.0; idle = g.1 })
