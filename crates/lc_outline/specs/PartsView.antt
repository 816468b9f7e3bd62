-- What the values of the code stand for.
use Rattle.std.specs.Prelude.{map}
use Rattle.lc_term.specs.View.{term_of, formula_of}
use Rattle.lc_seq.specs.SpecView.{column_of}
use Rattle.lc_seq.specs.TextView.{specification_of}
use Rattle.lc_object.specs.Objects.{object_view}
use Rattle.lc_rider.specs.RiderView.{riders_of}
use Rattle.lc_action.specs.ActionView.{action_of}
use Rattle.lc_tie.specs.TieView.{conjuncts_in}
use Rattle.lc_outline.specs.Development as S
use Rattle.lc_outline.specs.declared.parts.On.{On}
use Rattle.lc_outline.specs.declared.parts.Outline.{Outline}
use Rattle.lc_outline.specs.declared.parts.Parts.{Parts}

abbrev pub on_of : On → S.On
on_of o = record { edge = o.edge; action = o.action.0; arguments = map term_of o.arguments.items; riders = riders_of o.riders.items }

abbrev pub outline_of : Outline → S.Outline
outline_of o = record { asserts = map formula_of o.asserts.items; ons = map on_of o.ons.items }

-- the development of these parts
abbrev pub parts_view : Parts → S.Development
parts_view p = record {
  specification = specification_of p.specification;
  object = object_view p.object;
  auxiliaries = map column_of p.auxiliaries.items;
  actions = map action_of p.actions.items;
  conjuncts = conjuncts_in p.tie;
  idle = map formula_of p.idle.items;
  outlines = map outline_of p.outlines.items;
}
