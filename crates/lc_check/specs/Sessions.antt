-- Sessions of a development file and a certificate that comes in pieces.
use Rattle.std.specs.Prelude.{ℕ, Bool, false, List}
use Rattle.lc_reading.specs.Files.{Says, IsFirstRefusal}
use Rattle.lc_outline.specs.Development.{Development}
use Rattle.lc_outline_text.specs.Developments.{file_reading}
use Rattle.lc_check.specs.Stages.{IsFedOn, is_spent_on}
use Rattle.lc_check.specs.declared.session.Session.{Session}
use Rattle.lc_check.specs.declared.session.State.{State}
use Rattle.lc_check.specs.declared.session.State.TheVariants.{Refused, UnderWay}

abbrev pub IsStateFed : List ℕ → List ℕ → State → Type 0
IsStateFed dev fed (Refused refusal) = IsFirstRefusal file_reading dev refusal
IsStateFed dev fed (UnderWay s) = (D : Development) × Says file_reading dev D × IsFedOn D fed s

-- a session of this development file has been fed these bytes of a certificate
abbrev pub IsFed : List ℕ → List ℕ → Session → Type 0
IsFed dev fed s = IsStateFed dev fed s.state

abbrev pub is_state_spent : State → Bool
is_state_spent (Refused refusal) = false
is_state_spent (UnderWay s) = is_spent_on s

-- an allocation was refused, so it answers nothing else any more
abbrev pub is_spent : Session → Bool
is_spent s = is_state_spent s.state
