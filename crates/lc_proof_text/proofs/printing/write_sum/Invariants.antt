use Rattle.std.proofs.Common.{◌≡◌, ◌++◌, drop, map, string_bytes}
use Rattle.std.specs.Prelude.{codes}
use Rattle.lc_kernel.specs.View.{multiple_of}
use Rattle.lc_proof_text.specs.SpelledProofs.{spelled_multiples}
use Rattle.lc_proof_text.proofs.printing.write_sum.Given as goal

abbrev pub invariant-loop-multiple : goal.invariant-loop-multiple
invariant-loop-multiple l =
    string_bytes l.out ++ spelled_multiples (map multiple_of (drop l.multiple-index l.multiples))
    ≡ string_bytes l.fn.out ++ (codes "sum" ++ spelled_multiples (map multiple_of l.multiples))
