-- How far a certificate of a development was read and proved.
use Rattle.std.specs.Prelude.{◌≡◌, ℕ, List, []}
use Rattle.lc_outline.specs.Development.{Development}
use Rattle.lc_cert.specs.Certificates.{Entry}
use Rattle.lc_cert.specs.Pieces.{IsAfterTaking, waiting}
use Rattle.lc_cert.specs.declared.cert_reader.CertReader.{CertReader}
use Rattle.lc_check.specs.Progress.{IsProgress}
use Rattle.lc_check.specs.declared.progress.Progress.{Progress}

-- the reader has been fed these bytes, and all proofs that have ended in them were taken
pub record IsUpTo (d : Development) (fed : List ℕ) (r : CertReader) (p : Progress) : Type 0 where
  pub taken : List Entry
  pub read : IsAfterTaking d fed taken r
  pub none : waiting r ≡ []
  pub progress : IsProgress d taken p
