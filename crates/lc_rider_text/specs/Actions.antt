-- What a text reads as where an action is expected.
use Rattle.std.specs.Prelude.{ℕ, ◌+◌, nat_le, codes, List, [], Some}
use Rattle.lc_base.specs.Limits.{action_limit, parameter_limit}
use Rattle.lc_sexp.specs.Trees.{Tree, Trees, atom, list, ◌▸◌, item_count}
use Rattle.lc_reading.specs.Listed.{declared_by}
use Rattle.lc_reading.specs.Naming.{name_reading}
use Rattle.lc_reading.specs.Readings.{Reading, wrong, mapped, limited, both, behind_reading, listed_reading}
use Rattle.lc_reading.specs.Rows.{each_reading, all_declared, declared_reading}
use Rattle.lc_reading.specs.declared.pass.Pass.TheVariants.{Shape}
use Rattle.lc_term.specs.Syntax.{Formula}
use Rattle.lc_term.specs.Updates.{Update}
use Rattle.lc_text.specs.Formulas.{formula_reading}
use Rattle.lc_text.specs.Names.{Names}
use Rattle.lc_text.specs.Terms.{pair}
use Rattle.lc_action.specs.Action.{Action}
use Rattle.lc_object_text.specs.Declaring.{kth_name_reading}
use Rattle.lc_rider_text.specs.Known.{Known}
use Rattle.lc_rider_text.specs.Scopes.{beside_names}
use Rattle.lc_rider_text.specs.Updates.{listed_update_reading}

-- (PARAM*): names, within the limit of parameters
abbrev pub parameters_reading : ℕ → Tree → Reading (List (List ℕ))
parameters_reading n t = listed_reading (λ n. declared_reading (name_reading (Some parameter_limit)) declared_by []) n t

-- the parameters that an item declares
abbrev pub parameters_in : Tree → List (List ℕ)
parameters_in (list ts) = all_declared declared_by ts
parameters_in (atom w) = []

-- NAME (PARAM*), of the i-th action: the items m and n
abbrev pub heading_reading : Known → ℕ → ℕ → Tree → ℕ → Tree → Reading (List ℕ × List (List ℕ))
heading_reading known i m t n u = both pair (kth_name_reading known.actions i m t) (parameters_reading n u)

-- F UPDATE*: the item m, and those from n on
abbrev pub effect_reading : Known → Names → ℕ → Tree → ℕ → Trees → Reading (Formula × List Update)
effect_reading known names m f n us = both pair (formula_reading names [] m f) (each_reading (listed_update_reading known names) n us)

abbrev pub the_action : (List ℕ × List (List ℕ)) × (Formula × List Update) → Action
the_action p = record { name = p.0.0; parameters = p.0.1; guard = p.1.0; updates = p.1.1 }

-- NAME (PARAM*) F UPDATE*, of the i-th action: the parts of the list n, numbered from m on
abbrev pub action_parts_reading : Known → ℕ → ℕ → ℕ → Trees → Reading ((List ℕ × List (List ℕ)) × (Formula × List Update))
action_parts_reading known i n m (t ▸ u ▸ f ▸ us) =
    both pair (heading_reading known i m t (m + item_count t) u)
    (effect_reading known (beside_names known.columns (Some (parameters_in u))) (m + item_count t + item_count u) f (m + item_count t + item_count u + item_count f) us)
action_parts_reading known i n m _ = wrong Shape n

-- (action NAME (PARAM*) F UPDATE*): the i-th
abbrev pub headed_action_reading : Known → ℕ → ℕ → Tree → Reading Action
headed_action_reading known i n t = mapped the_action (behind_reading (codes "action") (action_parts_reading known i) n t)

-- the same, within the limit of actions
abbrev pub action_reading : Known → ℕ → ℕ → Tree → Reading Action
action_reading known i n t = limited (nat_le action_limit i) n (headed_action_reading known i n t)
