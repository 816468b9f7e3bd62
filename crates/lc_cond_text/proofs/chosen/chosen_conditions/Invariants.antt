use Rattle.std.proofs.Common.{option_map}
use Rattle.lc_cond.specs.Stream.{parts_left}
use Rattle.lc_outline.specs.DevelopmentView.{development_view}
use Rattle.lc_cond_text.proofs.Choosing.{IsSoFar}
use Rattle.lc_cond_text.proofs.chosen.chosen_conditions.Given as goal

-- the lines so far
abbrev pub invariant-parts : goal.invariant-parts
invariant-parts l = IsSoFar (option_map (λ a. a.now) l.words.point) (option_map (λ a. a.now) l.words.kind) (development_view l.development) l.stream l.text.items l.count

abbrev pub decreases-parts : goal.decreases-parts
decreases-parts l = parts_left (development_view l.development) l.stream
