-- That proofs have few steps is one fact.
use Rattle.std.specs.Prelude.{ℕ, ◌≤◌, List, [], ◌∷◌}
use Rattle.std.proofs.Props.{props}
use Rattle.lc_base.specs.Limits.{file_limit}
use Rattle.lc_kernel.specs.Proofs.{size}
use Rattle.lc_cert.specs.Certificates.{Entry, HaveFewSteps}

below_once : (m n : ℕ) → IsProp (m ≤ n)
below_once m n = hlevel props

-- this has one proof at most
pub few_once : (es : List Entry) → IsProp (HaveFewSteps es)
few_once [] x y = λ i. tt
few_once (e ∷ es) x y = λ i. (below_once (size e.proof) file_limit x.0 y.0 i, few_once es x.1 y.1 i)
