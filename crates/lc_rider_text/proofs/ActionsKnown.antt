-- What holds of all actions that are read.
use Rattle.std.proofs.Common.{◌≡◌, ℕ, suc, ◌+◌, ◌<◌, ◌≤◌, Bool, true, false, ◌&&◌, ◌++◌, List, [], ◌∷◌, Some, cond, length, length-append, refl, sym, ap, ◌∙◌, subst, arith}
use Rattle.std.proofs.lemmas.Bool.Decides.{nat_tests}
use Rattle.std.specs.List.{list_all, list_any}
use Rattle.std.specs.Prelude.{◌||◌, nat_le, codes}
use Rattle.std.proofs.lemmas.Bool.{and_from}
use Rattle.lc_base.specs.NameText.{is_name}
use Rattle.lc_base.specs.Limits.{action_limit, parameter_limit}
use Rattle.lc_sexp.specs.Parts.{fits, misshapen}
use Rattle.lc_sexp.specs.TreeCode.{tree_count}
use Rattle.lc_sexp.specs.Trees.{Tree, Trees, atom, list, none, ◌▸◌, item_count}
use Rattle.lc_action.specs.Action.{Action}
use Rattle.lc_object_text.specs.Declaring.{kth_name_reading}
use Rattle.lc_object_text.specs.ObjectNames.{items_within, later, within_first}
use Rattle.lc_object_text.specs.Sections.{parts_in, parts_of_fit}
use Rattle.lc_outline.specs.Scope.{is_scoped, action_is_scoped}
use Rattle.lc_reading.proofs.Holding.{Holds, holds_unit, holds_weaker, and_holds, mapped_holds, both_holds, limited_holds, if_holds, listed_holds, each_holds, declared_counts}
use Rattle.lc_reading.specs.Listed.{declared_by}
use Rattle.lc_reading.specs.Naming.{within, declaration_reading, name_reading}
use Rattle.lc_reading.specs.Readings.{fine, wrong, mapped}
use Rattle.lc_reading.specs.Reserved.{is_reserved}
use Rattle.lc_reading.specs.Rows.{each_reading, all_declared, declared_reading}
use Rattle.lc_reading.specs.Words.{is, is_long}
use Rattle.lc_reading.specs.declared.pass.Pass.TheVariants.{Shape, Repeated, Bound}
use Rattle.lc_seq.specs.Specification.{update_is_resolved}
use Rattle.lc_term.specs.Syntax.{Formula}
use Rattle.lc_term.specs.Updates.{Update}
use Rattle.lc_text.specs.Formulas.{formula_reading}
use Rattle.lc_text.specs.Terms.{pair}
use Rattle.lc_rider_text.proofs.BesideScoped.{column_total, update_scoped}
use Rattle.lc_rider_text.proofs.ReadsScoped.{variable_total, formula_scoped, beside_in_scope}
use Rattle.lc_rider_text.specs.Actions.{parameters_reading, parameters_in, effect_reading, the_action, action_parts_reading, headed_action_reading, action_reading}
use Rattle.lc_rider_text.specs.Known.{Known}
use Rattle.lc_rider_text.specs.Scopes.{beside_names}
use Rattle.lc_rider_text.specs.Updates.{update_reading, listed_update_reading}
use Rattle.lc_rider_text.specs.declared.update.Stores.TheVariants.{InAll}

-- there are as many names as items in their list
names_counted : (before : List (List ℕ)) (m : ℕ) (ts : Trees) → Holds (λ ws. length ws ≡ tree_count ts) (declared_reading (name_reading (Some parameter_limit)) declared_by before m ts)
names_counted before m none = refl
names_counted before m (t ▸ ts) =
    both_holds (λ w. Unit {0}) (λ ws. length ws ≡ tree_count ts) (λ ws. length ws ≡ tree_count (t ▸ ts)) (λ w ws. w ∷ ws) (name_reading (Some parameter_limit) before m t) _
    (holds_unit (name_reading (Some parameter_limit) before m t)) (names_counted (before ++ declared_by t) (m + item_count t) ts) (λ w ws h g. ap suc g)

-- and no more than there may be
room : (n : ℕ) → nat_le parameter_limit n ≡ false → n < parameter_limit
room n h = grind (arith, nat_tests)

three_at_most : (n : ℕ) → n ≤ parameter_limit → nat_le n parameter_limit ≡ true
three_at_most n h = grind (arith, nat_tests)

-- a name that is declared after others has room
abbrev HasRoom : List (List ℕ) → Unit {0} → Type 0
HasRoom before u = length before < parameter_limit

within_room : (before : List (List ℕ)) (n : ℕ) (w : List ℕ) (b : Bool) → nat_le parameter_limit (length before) ≡ b → Holds (HasRoom before) (cond b (wrong Bound n) (within n w tt))
within_room before n w true e = tt
within_room before n w false e = if_holds (HasRoom before) (is_long w) (wrong Bound n) (fine tt) tt (room (length before) e)

name_has_room : (before : List (List ℕ)) (n : ℕ) (w : List ℕ) → Holds (λ v. length before < parameter_limit) (name_reading (Some parameter_limit) before n (atom w))
name_has_room before n w =
    mapped_holds (HasRoom before) (λ v. length before < parameter_limit) (λ u. w) (declaration_reading (Some parameter_limit) before n (atom w))
    (if_holds (HasRoom before) (is_name w) _ (wrong Shape n)
    (if_holds (HasRoom before) (is_reserved w || list_any (is w) before) (wrong Repeated n) _ tt (within_room before n w (nat_le parameter_limit (length before)) refl)) tt)
    (λ u h. h)

-- the names after others, together with these
abbrev AreFew : List (List ℕ) → List (List ℕ) → Type 0
AreFew before ws = length before ≤ parameter_limit → length before + length ws ≤ parameter_limit

names_few : (before : List (List ℕ)) (m : ℕ) (ts : Trees) → Holds (AreFew before) (declared_reading (name_reading (Some parameter_limit)) declared_by before m ts)
names_few before m none = λ few. omega (arith, few)
names_few before m (list us ▸ ts) =
    both_holds (λ w. ⊥) (AreFew (before ++ [])) (AreFew before) (λ w ws. w ∷ ws) (name_reading (Some parameter_limit) before m (list us)) _ tt (names_few (before ++ []) (m + item_count (list us)) ts) (λ w ws h g. absurd h)
names_few before m (atom w ▸ ts) =
    both_holds (λ v. length before < parameter_limit) (AreFew (before ++ w ∷ [])) (AreFew before) (λ w ws. w ∷ ws) (name_reading (Some parameter_limit) before m (atom w)) _
    (name_has_room before m w) (names_few (before ++ w ∷ []) (m + item_count (atom w)) ts)
    (λ v ws h g few. let size = length-append before (w ∷ []) in let all = g (omega (arith, size, h)) in omega (arith, size, all))

few_at_most : (ws : List (List ℕ)) → AreFew [] ws → nat_le (length ws) parameter_limit ≡ true
few_at_most ws h = let all = h (omega arith) in three_at_most (length ws) (omega (arith, all))

-- and as many as its list declares
one_name : (before : List (List ℕ)) (n : ℕ) (t : Tree) → Holds (λ w. length (declared_by t) ≡ 1) (name_reading (Some parameter_limit) before n t)
one_name before n (atom w) = holds_weaker (λ v. Unit {0}) (λ v. length (declared_by (atom w)) ≡ 1) (name_reading (Some parameter_limit) before n (atom w)) (λ v h. refl) (holds_unit (name_reading (Some parameter_limit) before n (atom w)))
one_name before n (list ts) = tt

abbrev AreParameters : Tree → List (List ℕ) → Type 0
AreParameters t ws = (length ws ≡ tree_count (items_within t)) × (nat_le (length ws) parameter_limit ≡ true) × (length ws ≡ length (parameters_in t))

parameters_counted : (n : ℕ) (t : Tree) → Holds (AreParameters t) (parameters_reading n t)
parameters_counted n (atom w) = tt
parameters_counted n (list ts) =
    let names = declared_reading (name_reading (Some parameter_limit)) declared_by [] (n + 1) ts in
    let Few : List (List ℕ) → Type 0 = λ ws. nat_le (length ws) parameter_limit ≡ true in
    let AreDeclared : List (List ℕ) → Type 0 = λ ws. length ws ≡ length (all_declared declared_by ts) in
    holds_weaker (λ ws. (length ws ≡ tree_count ts) × (Few ws × AreDeclared ws)) (AreParameters (list ts)) names (λ ws h. (h.0, h.1.0, h.1.1))
    (and_holds (λ ws. length ws ≡ tree_count ts) (λ ws. Few ws × AreDeclared ws) names (names_counted [] (n + 1) ts)
    (and_holds Few AreDeclared names (holds_weaker (AreFew []) Few names few_at_most (names_few [] (n + 1) ts)) (declared_counts (name_reading (Some parameter_limit)) declared_by one_name [] (n + 1) ts)))

-- an action has three parameters at most, and uses only what is in scope
abbrev pub has_bounds : Known → Action → Bool
has_bounds d a = nat_le (length a.parameters) parameter_limit && action_is_scoped (column_total d) a

-- the guard and the updates of an action with n variables
abbrev IsEffect : Known → ℕ → Formula × List Update → Type 0
IsEffect d n p = (is_scoped (column_total d) n p.0 && list_all (update_is_resolved (column_total d) n) p.1) ≡ true

-- the parts of an action: as many parameters as are listed after its name, three at most, and what is in scope with them
abbrev IsMade : Known → Trees → (List ℕ × List (List ℕ)) × (Formula × List Update) → Type 0
IsMade d ts p = (length p.0.1 ≡ tree_count (within_first (later ts))) × (has_bounds d (the_action p) ≡ true)

effect_scoped : (d : Known) (u : Tree) (m : ℕ) (f : Tree) (n : ℕ) (us : Trees)
    → Holds (IsEffect d (variable_total (Some (parameters_in u)))) (effect_reading d (beside_names d.columns (Some (parameters_in u))) m f n us)
effect_scoped d u m f n us =
    let names = beside_names d.columns (Some (parameters_in u)) in
    let count = variable_total (Some (parameters_in u)) in
    let all = beside_in_scope d.columns (Some (parameters_in u)) in
    let test = update_is_resolved (column_total d) count in
    both_holds (λ f. is_scoped (column_total d) count f ≡ true) (λ us. list_all test us ≡ true) (IsEffect d count) pair (formula_reading names [] m f) (each_reading (listed_update_reading d names) n us)
    (formula_scoped (column_total d) count names all m f)
    (each_holds test (listed_update_reading d names) (λ n t. listed_holds (λ u. test u ≡ true) (update_reading InAll d names) n t (update_scoped InAll d count names all)) n us)
    (λ f us h g. and_from (is_scoped (column_total d) count f) (list_all test us) h g)

parts_made : (d : Known) (i n m : ℕ) (ts : Trees) → Holds (IsMade d ts) (action_parts_reading d i n m ts)
parts_made d i n m none = tt
parts_made d i n m (t ▸ none) = tt
parts_made d i n m (t ▸ u ▸ none) = tt
parts_made d i n m (t ▸ u ▸ f ▸ us) =
    both_holds (λ (p : List ℕ × List (List ℕ)). AreParameters u p.1) (IsEffect d (variable_total (Some (parameters_in u)))) (IsMade d (t ▸ u ▸ f ▸ us)) pair _ _
    (both_holds (λ w. Unit {0}) (AreParameters u) (λ (p : List ℕ × List (List ℕ)). AreParameters u p.1) pair _ _
    (holds_unit (kth_name_reading d.actions i m t)) (parameters_counted (m + item_count t) u) (λ w ws h g. g))
    (effect_scoped d u (m + item_count t + item_count u) f (m + item_count t + item_count u + item_count f) us)
    (λ p q h g.
    let same : variable_total (Some (parameters_in u)) ≡ 2 + length p.1 = omega (arith, h.2) in
    (h.0, and_from (nat_le (length p.1) parameter_limit) (action_is_scoped (column_total d) (the_action (p, q))) h.1 (subst (λ n. IsEffect d n q) same g)))

-- An action has as many parameters as are listed after its name, three at most, and uses only what is in scope
abbrev pub IsActionKnown : Known → Tree → Action → Type 0
IsActionKnown d t a = (length a.parameters ≡ tree_count (within_first (later (parts_in (codes "action") t)))) × (has_bounds d a ≡ true)

headed_known : (d : Known) (i n : ℕ) (t : Tree) → Holds (IsActionKnown d t) (headed_action_reading d i n t)
headed_known d i n (atom w) = tt
headed_known d i n (list none) = tt
headed_known d i n (list (list us ▸ ts)) = tt
headed_known d i n (list (atom w ▸ ts)) = by_word (is w (codes "action")) refl where
  by_word : (b : Bool) → is w (codes "action") ≡ b → Holds (IsActionKnown d (list (atom w ▸ ts))) (mapped the_action (cond b (action_parts_reading d i n (n + 2) ts) (wrong Shape n)))
  by_word false e = tt
  by_word true e =
      mapped_holds (IsMade d ts) (IsActionKnown d (list (atom w ▸ ts))) the_action _ (parts_made d i n (n + 2) ts)
      (λ p h. (h.0 ∙ ap (λ b. tree_count (within_first (later (parts_of_fit (cond b (fits ts) misshapen))))) (sym e), h.1))

pub action_known : (d : Known) (i n : ℕ) (t : Tree) → Holds (IsActionKnown d t) (action_reading d i n t)
action_known d i n t = limited_holds (IsActionKnown d t) (nat_le action_limit i) n _ (headed_known d i n t)
