use Rattle.std.proofs.Common.{◌∷◌, Ok}
use Rattle.lc_sexp.specs.Trees.{item_count_of_all}
use Rattle.lc_sexp.specs.Shown.{rest_of, number_of}
use Rattle.lc_kernel.specs.View.{multiple_of}
use Rattle.lc_reading.proofs.SoFar.{IsSoFar}
use Rattle.lc_proof_text.specs.Steps.{multiples_reading}
use Rattle.lc_proof_text.proofs.proof.read_multiples.Given as goal

abbrev pub decreases-multiples : goal.decreases-multiples
decreases-multiples l = item_count_of_all (rest_of l.rest)

-- the multiples that are read, and those that are left
abbrev pub invariant-multiples : goal.invariant-multiples
invariant-multiples l =
    IsSoFar multiple_of (λ x xs. x ∷ xs) (multiples_reading (number_of l.fn.list) (rest_of l.fn.list)) (multiples_reading (number_of l.rest) (rest_of l.rest)) (Ok l.multiples)
