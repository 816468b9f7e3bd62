use Rattle.std.proofs.Common.{◌≡◌, map, take}
use Rattle.lc_rider_text.specs.KnownView.{ways_view}
use Rattle.lc_outline_text.specs.Declarations.{ways_in, choices_in}
use Rattle.lc_outline_text.specs.Rests.{rests_of, lists_of_rests}
use Rattle.lc_outline_text.proofs.declaring.read_all_ways.Given as goal

-- those of the operations so far
abbrev pub invariant-loop-operation : goal.invariant-loop-operation
invariant-loop-operation l = record {
  ways : map ways_view l.ways.items ≡ map ways_in (rests_of (take l.operation-index l.operations));
  choices : lists_of_rests l.choices.items ≡ map choices_in (rests_of (take l.operation-index l.operations));
}
