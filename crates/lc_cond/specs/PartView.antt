-- What parts of the code stand for.
use Rattle.std.specs.Prelude.{◌≡◌, true, List, [], ◌∷◌, ◌++◌, map}
use Rattle.lc_term.specs.Lists.{numbered}
use Rattle.lc_object.specs.Edges.{Edge}
use Rattle.lc_object.specs.EdgeView.{edge_of}
use Rattle.lc_object.specs.View.{operation_of, point_of}
use Rattle.lc_object.specs.WellFormed.{has_limits}
use Rattle.lc_outline.specs.Development.{Development}
use Rattle.lc_cond.specs.Conditions as S
use Rattle.lc_cond.specs.declared.part.Part.{Part}
use Rattle.lc_cond.specs.declared.part.Part.TheVariants.{Start, Begin, Pass, Stay, StayIdle}

abbrev pub part_of : Part → S.Part
part_of Start = S.Start
part_of (Begin number body) = S.Begin number.0 (operation_of body.now)
part_of (Pass edge) = S.Pass (edge_of edge.now)
part_of (Stay number point) = S.Stay number.0 (point_of point.now)
part_of StayIdle = S.StayIdle

-- an operation in which a call begins is within its limits
abbrev pub HasLimits : Part → Type 0
HasLimits Start = Unit {0}
HasLimits (Begin number body) = has_limits (operation_of body.now) ≡ true
HasLimits (Pass edge) = Unit {0}
HasLimits (Stay number point) = Unit {0}
HasLimits StayIdle = Unit {0}

-- the parts of a development whose edges are these
abbrev pub parts_along : Development → List Edge → List S.Part
parts_along D es =
    S.Start ∷ (numbered S.Begin 0 D.object.operations ++ (map S.Pass es ++ (numbered S.Stay 0 D.object.points ++ S.StayIdle ∷ [])))
