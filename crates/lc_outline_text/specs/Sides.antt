-- What a text reads as where the sections before the bodies of a development's object are expected.
use Rattle.std.specs.Prelude.{ℕ, ◌+◌, codes, List, [], Some, None}
use Rattle.lc_sexp.specs.Trees.{Tree, Trees, ◌▸◌, item_count}
use Rattle.lc_reading.specs.Readings.{Reading, wrong, both, behind_reading}
use Rattle.lc_reading.specs.Rows.{each_reading}
use Rattle.lc_reading.specs.declared.pass.Pass.TheVariants.{Shape}
use Rattle.lc_term.specs.Syntax.{Formula}
use Rattle.lc_text.specs.Terms.{pair}
use Rattle.lc_seq.specs.Specification.{Column}
use Rattle.lc_action.specs.Action.{Action}
use Rattle.lc_tie.specs.Tie.{Conjunct}
use Rattle.lc_object_text.specs.Objects.{first_reading}
use Rattle.lc_object_text.specs.Rows.{placed_reading, lists_reading}
use Rattle.lc_object_text.specs.Sections.{Sections, behind_first}
use Rattle.lc_rider_text.specs.Actions.{action_reading}
use Rattle.lc_rider_text.specs.Columns.{column_reading}
use Rattle.lc_rider_text.specs.Conjuncts.{conjunct_reading}
use Rattle.lc_rider_text.specs.Scopes.{beside_names}
use Rattle.lc_outline_text.specs.Declarations.{Declarations, known_of}
use Rattle.lc_outline_text.specs.Points.{formulas_in_reading}

-- (aux COL ..)
abbrev pub auxiliaries_reading : Declarations → ℕ → Tree → Reading (List Column)
auxiliaries_reading d n t = behind_reading (codes "aux") (λ n. placed_reading (column_reading d.declared.columns d.declared.auxiliaries) 0) n t

-- the auxiliary columns, and ACTION ..: the object is the item n
abbrev pub actions_reading : Declarations → Sections → ℕ → Reading (List Column × List Action)
actions_reading d s n =
    both pair (first_reading (auxiliaries_reading d) n s.auxiliaries.number s.auxiliaries.trees)
    (lists_reading (codes "action") (action_reading (known_of d)) 0 (behind_first s.auxiliaries).number (behind_first s.auxiliaries).trees)

-- (invariant (NAME F) ..), which is about no client
abbrev pub invariant_reading : Declarations → ℕ → Tree → Reading (List Conjunct)
invariant_reading d n t = behind_reading (codes "invariant") (λ n. each_reading (conjunct_reading (beside_names d.declared.columns None))) n t

-- INVARIANT (idle F ..) ..: the items from m on of the object n
abbrev pub conditions_reading : Declarations → ℕ → ℕ → Trees → Reading (List Conjunct × List Formula)
conditions_reading d n m (t ▸ u ▸ ts) =
    both pair (invariant_reading d m t) (formulas_in_reading (codes "idle") (beside_names d.declared.columns (Some [])) (m + item_count t) u)
conditions_reading d n m _ = wrong Shape n

-- the sections of an object beside its code: the auxiliary columns, the actions, the invariant, and what holds of idle clients
pub record Sides : Type 0 where
  pub auxiliaries : List Column
  pub actions : List Action
  pub conjuncts : List Conjunct
  pub idle : List Formula

abbrev pub sides_of : List Column × List Action → List Conjunct × List Formula → Sides
sides_of p q = record { auxiliaries = p.0; actions = p.1; conjuncts = q.0; idle = q.1 }

abbrev pub sides_reading : Declarations → Sections → ℕ → Reading Sides
sides_reading d s n = both sides_of (actions_reading d s n) (conditions_reading d n s.invariant.number s.invariant.trees)
