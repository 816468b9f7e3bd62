-- Parts of actions and of what is done at edges, as cursors find them.
use Rattle.std.proofs.Common.{◌≡◌, ℕ, ◌+◌, false, Option, Some, Ok, refl, sym, ap, ◌∙◌}
use Rattle.std.specs.Prelude.{nat_lt}
use Rattle.lc_base.specs.Limits.{path_limit}
use Rattle.lc_sexp.specs.Trees.{Tree, Trees, ◌▸◌, item_count}
use Rattle.lc_sexp.specs.Shown.{rest_of, number_of, owner_of}
use Rattle.lc_sexp.specs.declared.cursor.Cursor.{Cursor}
use Rattle.lc_reading.specs.Parts.{IsNext, IsTwo, IsBehind, tree_of, place_of}
use Rattle.lc_reading.specs.Readings.{limited, both, ended}
use Rattle.lc_reading.specs.declared.part.Part.{Part}
use Rattle.lc_text.specs.Names.{Names}
use Rattle.lc_text.specs.Terms.{pair}
use Rattle.lc_object_text.specs.Rows.{cons}
use Rattle.lc_rider_text.specs.Known.{Known, Ways}
use Rattle.lc_rider_text.specs.Scopes.{beside_names}
use Rattle.lc_rider_text.specs.Actions.{parameters_in, heading_reading, effect_reading, action_parts_reading}
use Rattle.lc_rider_text.specs.Edges.{edge_of, edge_in, is_refused, without}
use Rattle.lc_rider_text.specs.Ons.{step_reading, the_on, on_parts_reading, on_reading, ons_reading}
use Rattle.lc_rider_text.specs.Paths.{path_count}
use Rattle.lc_rider_text.specs.Choices.{in_order_reading, by_reading}
use Rattle.lc_rider_text.specs.Riders.{other_reading, ways_named, mark_of_other, lin_other_reading, lin_other_by_reading, riders_reading}
use Rattle.lc_rider_text.specs.declared.edges.Edges.{Edges}

-- an action's parts at i, j and k, of us, and its updates from l on
action_at : (known : Known) (p n m i j k l : ℕ) (t u f : Tree) (us us1 us2 us3 : Trees)
    → us ≡ t ▸ us1 → us1 ≡ u ▸ us2 → us2 ≡ f ▸ us3 → i ≡ m → j ≡ m + item_count t → k ≡ j + item_count u → l ≡ k + item_count f
    → action_parts_reading known p n m us
    ≡ both pair (heading_reading known p i t j u) (effect_reading known (beside_names known.columns (Some (parameters_in u))) k f l us3)
action_at known p n m i j k l t u f us us1 us2 us3 e1 e2 e3 a1 a2 a3 a4 = rw (e1, e2, e3, a4, a3, a2, a1) refl

pub action_found : (known : Known) (p : ℕ) (l first second third : Cursor) (t u f : Part)
    → IsNext l (Ok t) first → IsNext first (Ok u) second → IsNext second (Ok f) third
    → action_parts_reading known p (owner_of l) (number_of l) (rest_of l)
    ≡ both pair (heading_reading known p (place_of t) (tree_of t) (place_of u) (tree_of u))
    (effect_reading known (beside_names known.columns (Some (parameters_in (tree_of u)))) (place_of f) (tree_of f) (number_of third) (rest_of third))
action_found known p l first second third t u f (a1, n1) (a2, n2) (a3, n3) =
    action_at known p (owner_of l) (number_of l) (place_of t) (place_of u) (place_of f) (number_of third) (tree_of t) (tree_of u) (tree_of f)
    (rest_of l) (rest_of first) (rest_of second) (rest_of third) n1.rest n2.rest n3.rest
    a1 (a2 ∙ n1.number) (a3 ∙ n2.number ∙ ap (λ m. m + item_count (tree_of u)) (sym a2)) (n3.number ∙ ap (λ m. m + item_count (tree_of f)) (sym a3))

-- an edge with its call, and its riders from k on, if it is no edge too many
on_at : (known : Known) (names : Names) (own : Option Ways) (edges : Edges) (n m i j k : ℕ) (t u : Tree) (us us1 ts : Trees)
    → us ≡ t ▸ us1 → us1 ≡ u ▸ ts → is_refused edges (edge_of t) ≡ false → i ≡ m → j ≡ m + item_count t → k ≡ j + item_count u
    → on_parts_reading known names own edges n m us
    ≡ limited (nat_lt path_limit (path_count known own ts)) n (both the_on (step_reading known names i t j u) (riders_reading known names own k ts))
on_at known names own edges n m i j k t u us us1 ts e1 e2 due a1 a2 a3 = rw (e1, e2, due, a3, a2, a1) refl

pub on_found : (known : Known) (names : Names) (own : Option Ways) (edges : Edges) (l first second : Cursor) (t u : Part)
    → IsNext l (Ok t) first → IsNext first (Ok u) second → is_refused edges (edge_of (tree_of t)) ≡ false
    → on_parts_reading known names own edges (owner_of l) (number_of l) (rest_of l)
    ≡ limited (nat_lt path_limit (path_count known own (rest_of second))) (owner_of l)
    (both the_on (step_reading known names (place_of t) (tree_of t) (place_of u) (tree_of u)) (riders_reading known names own (number_of second) (rest_of second)))
on_found known names own edges l first second t u (a1, n1) (a2, n2) due =
    on_at known names own edges (owner_of l) (number_of l) (place_of t) (place_of u) (number_of second) (tree_of t) (tree_of u) (rest_of l) (rest_of first) (rest_of second)
    n1.rest n2.rest due a1 (a2 ∙ n1.number) (n2.number ∙ ap (λ m. m + item_count (tree_of u)) (sym a2))

-- after one item, the others are left
ons_at : (known : Known) (names : Names) (own : Option Ways) (edges left : Edges) (n p m : ℕ) (t : Tree) (ts us : Trees) → us ≡ t ▸ ts → p ≡ n → m ≡ n + item_count t → left ≡ without edges (edge_in t)
    → ons_reading known names own edges n us ≡ both cons (on_reading known names own edges p t) (ons_reading known names own left m ts)
ons_at known names own edges left n p m t ts us rest at number others = rw (rest, at, number, others) refl

pub ons_more : (known : Known) (names : Names) (own : Option Ways) (edges left : Edges) (l behind : Cursor) (part : Part) → place_of part ≡ number_of l → IsBehind l (tree_of part) behind
    → left ≡ without edges (edge_in (tree_of part))
    → ons_reading known names own edges (number_of l) (rest_of l)
    ≡ both cons (on_reading known names own edges (place_of part) (tree_of part)) (ons_reading known names own left (number_of behind) (rest_of behind))
ons_more known names own edges left l behind part at next others =
    ons_at known names own edges left (number_of l) (place_of part) (number_of behind) (tree_of part) (rest_of behind) (rest_of l) next.rest at next.number others

-- a mark of the call of another client, which names no choice
lin_other_at : (known : Known) (names : Names) (n m i j k : ℕ) (t u : Tree) (us ts : Trees) → us ≡ t ▸ u ▸ ts → i ≡ m → j ≡ m + item_count t → k ≡ m + item_count t + item_count u
    → lin_other_reading known names n m us ≡ ended k ts (both mark_of_other (other_reading known names i t j u) (in_order_reading (ways_named known u) n))
lin_other_at known names n m i j k t u us ts e a1 a2 a3 = rw (e, a3, a2, a1) refl

pub lin_other_found : (known : Known) (names : Names) (l rest : Cursor) (t u : Part) → IsTwo l (Ok (t, u, rest))
    → lin_other_reading known names (owner_of l) (number_of l) (rest_of l)
    ≡ ended (number_of rest) (rest_of rest)
    (both mark_of_other (other_reading known names (place_of t) (tree_of t) (place_of u) (tree_of u)) (in_order_reading (ways_named known (tree_of u)) (owner_of l)))
lin_other_found known names l rest t u (same, at1, at2, behind) =
    lin_other_at known names (owner_of l) (number_of l) (place_of t) (place_of u) (number_of rest) (tree_of t) (tree_of u) (rest_of l) (rest_of rest) same at1 at2 behind

-- one that names a choice, by the parts from k on
lin_other_by_at : (known : Known) (names : Names) (n p m i j k : ℕ) (t u : Tree) (us us1 ts : Trees) → us ≡ t ▸ us1 → us1 ≡ u ▸ ts → p ≡ n → i ≡ m → j ≡ m + item_count t → k ≡ j + item_count u
    → lin_other_by_reading known names n m us ≡ both mark_of_other (other_reading known names i t j u) (by_reading names (ways_named known u) p k ts)
lin_other_by_at known names n p m i j k t u us us1 ts e1 e2 a0 a1 a2 a3 = rw (e1, e2, a3, a2, a1, a0) refl

pub lin_other_by_found : (known : Known) (names : Names) (l first second : Cursor) (t u : Part) → IsNext l (Ok t) first → IsNext first (Ok u) second
    → lin_other_by_reading known names (owner_of l) (number_of l) (rest_of l)
    ≡ both mark_of_other (other_reading known names (place_of t) (tree_of t) (place_of u) (tree_of u)) (by_reading names (ways_named known (tree_of u)) (owner_of second) (number_of second) (rest_of second))
lin_other_by_found known names l first second t u (a1, n1) (a2, n2) =
    lin_other_by_at known names (owner_of l) (owner_of second) (number_of l) (place_of t) (place_of u) (number_of second) (tree_of t) (tree_of u) (rest_of l) (rest_of first) (rest_of second)
    n1.rest n2.rest (n2.owner ∙ n1.owner) a1 (a2 ∙ n1.number) (n2.number ∙ ap (λ m. m + item_count (tree_of u)) (sym a2))
