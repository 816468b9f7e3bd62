-- Proofs of a certificate that is accepted.
use Rattle.std.specs.Prelude.{ℕ, List}
use Rattle.lc_cert.specs.Certificates.{Entry}
use Rattle.lc_cert.specs.Files.{Certifies}
use Rattle.lc_check.specs.Verdicts.{ProvesAll}
use Rattle.lc_cond.specs.Conditions.{conditions}
use Rattle.lc_outline.specs.Development.{Development}

-- a file is a certificate of the development with these proofs, which prove all conditions and nothing else
abbrev pub IsCertifiedBy : Development → List Entry → Type 0
IsCertifiedBy D es = (text : List ℕ) × Certifies D text es × ProvesAll es (conditions D)
