use Rattle.std.proofs.Common.{◌≡◌, ◌-◌}
use Rattle.lc_sexp.specs.Shown.{rest_of}
use Rattle.lc_outline_text.specs.Sizes.{text_at}
use Rattle.lc_outline_text.proofs.instruction.text_at.Given as goal

-- `counter` parts are still to be passed
abbrev pub invariant-loop : goal.invariant-loop
invariant-loop l = text_at (l.place - l.counter) (rest_of l.rest) ≡ text_at l.place (rest_of l.fn.list)
