-- What is accepted of two files.
use Rattle.std.proofs.Common.{ℕ, List, Ok, Err}
use Rattle.std.specs.Prelude.{Result, IfOk}
use Rattle.lc_reading.specs.Files.{Says}
use Rattle.lc_outline.specs.Development.{Development}
use Rattle.lc_outline_text.specs.Developments.{file_reading}
use Rattle.lc_check.specs.VerdictView.{IsVerdict, IfAccepted}
use Rattle.lc_check.specs.declared.verdict.Verdict.{Verdict}
use Rattle.lc_check.specs.declared.verdict.Verdict.TheVariants.{Accepted as Accepts, Refused as Refuses}

-- it is what the file says
pub said_too : {E : Type 0} (P : Development → Type 0) (dev cert : List ℕ) (result : Result Verdict E) → IfOk result (IsVerdict dev cert) → IfAccepted result P → IfAccepted result (λ D. Says file_reading dev D × P D)
said_too P dev cert (Ok (Accepts a)) exactly h = (exactly.0, h)
said_too P dev cert (Ok (Refuses r)) exactly h = tt
said_too P dev cert (Err e) exactly h = tt
