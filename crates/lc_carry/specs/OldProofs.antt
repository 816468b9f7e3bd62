-- The proofs of an old development that are carried.
use Rattle.std.specs.Prelude.{ℕ, List, Option}
use Rattle.lc_cert.specs.CertificateView.{entries_in}
use Rattle.lc_carry.specs.Carried.{renamed_at}
use Rattle.lc_carry.specs.TextNumbers.{number_of}
use Rattle.lc_carry.specs.declared.old_proofs.OldProofs.{OldProofs}
use Rattle.lc_kernel.specs.Proofs.{Proof}
use Rattle.lc_carry.specs.Renaming.{column_for}

-- the one that is carried to a condition that says this
abbrev pub proof_for : OldProofs → List ℕ → Option Proof
proof_for proofs t = renamed_at (column_for proofs.columns.items) (entries_in proofs.certificate.now) (number_of proofs.numbers t)
