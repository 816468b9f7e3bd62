-- Sessions of a development and a certificate that comes in pieces.
use Rattle.std.specs.Prelude.{◌≡◌, ℕ, Bool, List}
use Rattle.lc_outline.specs.Development.{Development}
use Rattle.lc_outline.specs.DevelopmentView.{development_view}
use Rattle.lc_check.specs.UpTo.{IsUpTo}
use Rattle.lc_check.specs.declared.certificate_session.Stage.{Stage}

-- a session of this development has been fed these bytes of a certificate
abbrev pub IsFedOn : Development → List ℕ → Stage → Type 0
IsFedOn d fed s = (development_view s.development ≡ d) × IsUpTo d fed s.reader s.progress

-- an allocation was refused, so it answers nothing else any more
abbrev pub is_spent_on : Stage → Bool
is_spent_on s = s.out_of_memory
