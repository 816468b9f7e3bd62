-- What becomes of the proofs that are carried.
use Rattle.std.specs.Prelude.{◌≡◌, ℕ, List, Some}
use Rattle.lc_carry.specs.Carried.{column_between}
use Rattle.lc_carry.specs.CarriedDerives.{AreApart, IsSameCondition}
use Rattle.lc_carry.specs.CarriedFrom.{IsCarriedFrom, IsLeast}
use Rattle.lc_cert.specs.Certificates.{Entry, proof_at}
use Rattle.lc_kernel.specs.Proofs.{Proof}
use Rattle.lc_outline.specs.ColumnNames.{column_names}
use Rattle.lc_outline.specs.Development.{Development}
use Rattle.lc_carry.specs.RenamedProofs.{renamed}

-- if no two columns of D have one name, a condition of E that is the same as the one from which a proof is carried to it has that
-- proof, with each column replaced
abbrev pub GetsCarried : Development → List Entry → Development → List Entry → Type 0
GetsCarried D es E fs =
    (k j : ℕ) (p : Proof) (from : IsCarriedFrom D es E k j p) → IsLeast D es E k j → AreApart (column_names D) → IsSameCondition D E from.old from.new → proof_at fs k ≡ Some (renamed (column_between D E) p)
