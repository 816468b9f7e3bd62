-- The first refusal of proofs that come one after another.
use Rattle.std.specs.Prelude.{◌≡◌, true, List, ◌++◌, Option, Some, None}
use Rattle.lc_base.specs.declared.refusal.Refusal.{Refusal}
use Rattle.lc_outline.specs.Development.{Development}
use Rattle.lc_cert.specs.Certificates.{Entry, is_rising}
use Rattle.lc_cond.specs.Conditions.{conditions}
use Rattle.lc_check.specs.Verdicts.{IsProofRefusal}
use Rattle.lc_check.specs.Walking.{IsInTurn}
use Rattle.lc_check.specs.declared.progress.Progress.{Progress}
use Rattle.lc_check.specs.declared.walk.Walk.{Walk}

-- whatever proofs come after these with numbers that rise, this is their first refusal
abbrev pub IsCertain : Development → List Entry → Refusal → Type 0
IsCertain d taken refusal = (more : List Entry) → is_rising None (taken ++ more) ≡ true → IsProofRefusal (taken ++ more) (conditions d) refusal

abbrev pub IsProgressTelling : Development → List Entry → Walk → Option Refusal → Type 0
IsProgressTelling d taken w None = IsInTurn d taken w
IsProgressTelling d taken w (Some refusal) = IsCertain d taken refusal

-- these proofs were taken
abbrev pub IsProgress : Development → List Entry → Progress → Type 0
IsProgress d taken p = IsProgressTelling d taken p.walk p.told
