use Rattle.std.proofs.Common.{◌≡◌}
use Rattle.lc_term.specs.State.{state_of, env_of}
use Rattle.lc_term.proofs.Evaluated.{parts_from}
use Rattle.lc_look.specs.Ranges.{joined, ranges_of}
use Rattle.lc_look.proofs.range.+range_of.Given as goal

abbrev pub invariant-ranges_of-loop-part : goal.invariant-ranges_of-loop-part
invariant-ranges_of-loop-part l =
    ranges_of (state_of l.state) (env_of l.env) (parts_from l.parts 0) ≡
    joined l.range (ranges_of (state_of l.state) (env_of l.env) (parts_from l.parts l.part-index))
