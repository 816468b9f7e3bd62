-- The object of an accepted development is linearizable.
use Rattle.std.proofs.Common.{ℕ, List}
use Rattle.lc_reading.specs.Files.{Says}
use Rattle.lc_outline.proofs.Resolving.{passed_is_resolved}
use Rattle.lc_outline.specs.Development.{Development}
use Rattle.lc_outline.specs.Resolved.{IsResolved}
use Rattle.lc_outline_text.proofs.Assembled.{says_resolved}
use Rattle.lc_outline_text.specs.Developments.{file_reading}
use Rattle.lc_cert.specs.Certificates.{Entry}
use Rattle.lc_cond.proofs.BelowConditions.{use_their_variables}
use Rattle.lc_cond.specs.Conditions.{conditions}
use Rattle.lc_sound.proofs.Lifted.{headline_is_proved}
use Rattle.lc_sound.proofs.Proven.{derived_are_valid}
use Rattle.lc_sound.specs.Linearizable.{IsLinearizableObject}
use Rattle.lc_check.proofs.Derived.{all_derived}
use Rattle.lc_check.specs.Verdicts.{AreProved, IsAccepted}

said_is_resolved : (dev : List ℕ) (D : Development) → Says file_reading dev D → IsResolved D
said_is_resolved dev D (ts, reads, e) = passed_is_resolved D (says_resolved ts D e)

proved_is_linearizable : (D : Development) (es : List Entry) → IsResolved D → AreProved es 0 (conditions D) → IsLinearizableObject D.specification D.object
proved_is_linearizable D es sound h =
    headline_is_proved D (record { resolved = sound; valid = derived_are_valid (conditions D) (all_derived es 0 (conditions D) (use_their_variables D sound) h) })

pub accepted_is_linearizable : (dev cert : List ℕ) (D : Development) → IsAccepted dev cert D → IsLinearizableObject D.specification D.object
accepted_is_linearizable dev cert D (says, (es, certifies, all)) = proved_is_linearizable D es (said_is_resolved dev D says) all.0
