-- What is printed of an action has the same names and updates, and reads as the same action.
use Rattle.std.proofs.Common.{◌≡◌, ℕ, ◌+◌, ◌≤◌, List, ◌++◌, Some, refl, sym, ap, ap₂, ◌∙◌, subst, arith}
use Rattle.std.specs.Prelude.{codes, nat_le}
use Rattle.lc_base.specs.Limits.{action_limit}
use Rattle.lc_sexp.specs.Trees.{Tree, Trees, atom, list, none, ◌▸◌, item_count, item_count_of_all}
use Rattle.lc_reading.proofs.Fine.{IfFine, if_fine_weaker, mapped_fine, both_fine}
use Rattle.lc_reading.specs.Readings.{fine, both, behind_reading}
use Rattle.lc_term.specs.Syntax.{Formula}
use Rattle.lc_term.specs.SystemColumns.{system_columns}
use Rattle.lc_term.specs.Updates.{Update}
use Rattle.lc_text.specs.Names.{Names}
use Rattle.lc_text.specs.Spelling.{Spelled}
use Rattle.lc_text.specs.SpelledTree.{formula_tree}
use Rattle.lc_text.specs.Terms.{pair}
use Rattle.lc_object_text.specs.ObjectNames.{first_text, within_first, later}
use Rattle.lc_rider_text.specs.Actions.{parameters_in, heading_reading, effect_reading, the_action, action_parts_reading, headed_action_reading, action_reading}
use Rattle.lc_rider_text.specs.Known.{Known}
use Rattle.lc_rider_text.specs.Scopes.{beside_names}
use Rattle.lc_outline_print.specs.Beside.{action_tree}
use Rattle.lc_outline_print.specs.Naming.{with_client, named_by}
use Rattle.lc_outline_print.specs.Parts.{name_trees, update_trees}
use Rattle.lc_text_laws.specs.ReadsBack.{HaveNoBinder}
use Rattle.lc_text_laws.proofs.Again.{with_reading}
use Rattle.lc_text_laws.proofs.Alike.{Alike, Readable, same_count, itself, all_itself}
use Rattle.lc_text_laws.proofs.Kin.{AreBehind, Again, AllAgain, mapped_again, limited_again, behind_again}
use Rattle.lc_text_laws.proofs.Riders.{listed_update_stood}
use Rattle.lc_text_laws.proofs.Rows.{both_trees, when_fine, declared_names}
use Rattle.lc_text_laws.proofs.Scopes.{column_stood, beside_spelled, with_client_free, beside_unbound}
use Rattle.lc_text_laws.proofs.Sides.{heading_stood, effect_again}

-- of the parts of two actions all is the same but their guards
abbrev pub SameAction : Trees → Trees → Type 0
SameAction ts us = (first_text ts ≡ first_text us) × (within_first (later ts) ≡ within_first (later us)) × (later (later (later ts)) ≡ later (later (later us)))

abbrev pub ActionParts : Type 0
ActionParts = (List ℕ × List (List ℕ)) × (Formula × List Update)

-- NAME (PARAM*) F UPDATE*, with columns by these names
abbrev pub action_parts : List (List ℕ) → ActionParts → Trees
action_parts columns p =
    let by = named_by columns (with_client p.0.1) in
    atom p.0.0 ▸ list (name_trees p.0.1) ▸ formula_tree by 0 p.1.0 ▸ update_trees by p.1.1

parameters_are : (u : Tree) (ws : List (List ℕ)) → list (name_trees ws) ≡ u → parameters_in u ≡ ws
parameters_are u ws e = ap parameters_in (sym e) ∙ declared_names ws

module _ (known : Known) (columns : List (List ℕ)) (are : columns ≡ known.columns ++ system_columns) where
  abbrev by_of : Tree → Spelled
  by_of u = named_by columns (with_client (parameters_in u))

  abbrev names_of : Tree → Names
  names_of u = beside_names known.columns (Some (parameters_in u))

  -- F UPDATE*
  abbrev Effect : Tree → ℕ → Tree → ℕ → Trees → Formula × List Update → Type 0
  Effect u m f n us p = Alike Readable (formula_tree (by_of u) 0 p.0) f × (update_trees (by_of u) p.1 ≡ us) × (effect_reading known (names_of u) m (formula_tree (by_of u) 0 p.0) n us ≡ fine p)

  effect_of : (u : Tree) → HaveNoBinder (parameters_in u) → (m : ℕ) (f : Tree) (n : ℕ) (us : Trees) → item_count f ≤ 4294967296 → IfFine (effect_reading known (names_of u) m f n us) (Effect u m f n us)
  effect_of u unbound m f n us small =
      let spelled = beside_spelled known.columns columns are (Some (parameters_in u)) in
      let free = beside_unbound known.columns (Some (parameters_in u)) (with_client_free (parameters_in u) unbound) in
      effect_again known (names_of u) (by_of u) spelled free (listed_update_stood known (names_of u) (by_of u) spelled (column_stood known.columns columns are)) m f n us small

  abbrev IsHeading : ℕ → ℕ → Tree → ℕ → Tree → List ℕ × List (List ℕ) → Type 0
  IsHeading i m t n u p = (atom p.0 ≡ t) × (list (name_trees p.1) ≡ u) × (heading_reading known i m t n u ≡ fine p)

  heading_of : (i m : ℕ) (t : Tree) (n : ℕ) (u : Tree) → IfFine (heading_reading known i m t n u) (IsHeading i m t n u)
  heading_of i m t n u =
      if_fine_weaker (λ p. ((atom p.0 ≡ t) × (list (name_trees p.1) ≡ u)) × (heading_reading known i m t n u ≡ fine p)) (IsHeading i m t n u) (heading_reading known i m t n u) (λ p a. (a.0.0, a.0.1, a.1))
      (with_reading (λ p. (atom p.0 ≡ t) × (list (name_trees p.1) ≡ u)) (heading_reading known i m t n u) (heading_stood known i m t n u))

  abbrev IsAction : ℕ → ℕ → ℕ → Trees → ActionParts → Type 0
  IsAction i n m ts p = HaveNoBinder p.0.1 → AllAgain SameAction (action_parts_reading known i n m) (action_parts columns p) ts p

  joined : (i n m : ℕ) (t u f : Tree) (us : Trees) (p : List ℕ × List (List ℕ)) (q : Formula × List Update) → IsHeading i m t (m + item_count t) u p
      → Effect u (m + item_count t + item_count u) f (m + item_count t + item_count u + item_count f) us q → AllAgain SameAction (action_parts_reading known i n m) (action_parts columns (p, q)) (t ▸ u ▸ f ▸ us) (p, q)
  joined i n m t u f us p q a b =
      let guard = formula_tree (by_of u) 0 q.0 in
      let at = m + item_count t + item_count u in
      let whole : AllAgain SameAction (action_parts_reading known i n m) (t ▸ u ▸ guard ▸ us) (t ▸ u ▸ f ▸ us) (p, q) =
      record {
        alike = (itself t, (itself u, (b.0, all_itself us)));
        kin = (refl, refl, refl);
        reads = ap₂ (both pair) a.2 (ap (λ k. effect_reading known (names_of u) at guard (at + k) us) (same_count guard f b.0) ∙ b.2);
      } in
      let same = parameters_are u p.1 a.1 in
      let printed : action_parts columns (p, q) ≡ t ▸ u ▸ guard ▸ us =
      both_trees _ _ _ _ a.0 (both_trees _ _ _ _ a.1
      (ap (λ ws. formula_tree (named_by columns (with_client ws)) 0 q.0 ▸ update_trees (named_by columns (with_client ws)) q.1) (sym same) ∙ ap (λ us. guard ▸ us) b.1)) in
      subst (λ ts. AllAgain SameAction (action_parts_reading known i n m) ts (t ▸ u ▸ f ▸ us) (p, q)) (sym printed) whole

  parts_again : (i n m : ℕ) (ts : Trees) → item_count_of_all ts ≤ 4294967296 → IfFine (action_parts_reading known i n m ts) (IsAction i n m ts)
  parts_again i n m none small = tt
  parts_again i n m (t ▸ none) small = tt
  parts_again i n m (t ▸ u ▸ none) small = tt
  parts_again i n m (t ▸ u ▸ f ▸ us) small =
      let at = m + item_count t + item_count u in
      both_fine (IsHeading i m t (m + item_count t) u) (λ q. HaveNoBinder (parameters_in u) → Effect u at f (at + item_count f) us q) (IsAction i n m (t ▸ u ▸ f ▸ us)) pair
      (heading_reading known i m t (m + item_count t) u) (effect_reading known (names_of u) at f (at + item_count f) us) (heading_of i m t (m + item_count t) u)
      (when_fine (HaveNoBinder (parameters_in u)) (Effect u at f (at + item_count f) us) _ (λ unbound. effect_of u unbound at f (at + item_count f) us (omega (arith, small))))
      (λ p q a b unbound. joined i n m t u f us p q a (b (subst HaveNoBinder (sym (parameters_are u p.1 a.1)) unbound)))

  pub action_again : (i n : ℕ) (t : Tree) → item_count t ≤ 4294967296
      → IfFine (action_reading known i n t) (λ a. HaveNoBinder a.parameters → Again (AreBehind (codes "action") SameAction) (action_reading known i n) (action_tree columns a) t a)
  action_again i n t small =
      limited_again (λ a. HaveNoBinder a.parameters) (AreBehind (codes "action") SameAction) (nat_le action_limit i) n (headed_action_reading known i n) (action_tree columns) t
      (mapped_fine (λ p. HaveNoBinder p.0.1 → Again (AreBehind (codes "action") SameAction) (behind_reading (codes "action") (action_parts_reading known i) n) (list (atom (codes "action") ▸ action_parts columns p)) t p)
      (λ a. HaveNoBinder a.parameters → Again (AreBehind (codes "action") SameAction) (headed_action_reading known i n) (action_tree columns a) t a) the_action
      (behind_reading (codes "action") (action_parts_reading known i) n t)
      (behind_again (λ p. HaveNoBinder p.0.1) SameAction (codes "action") (action_parts_reading known i) (action_parts columns) (parts_again i) n t small)
      (λ p h unbound. mapped_again (AreBehind (codes "action") SameAction) the_action (behind_reading (codes "action") (action_parts_reading known i) n) (list (atom (codes "action") ▸ action_parts columns p)) t p (h unbound)))
