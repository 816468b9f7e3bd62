use Rattle.lc_proof_text.specs.Files.{seen_claim, form_reading}
use Rattle.std.proofs.Common.{refl}
use Rattle.lc_sexp.specs.Shown.{owner_of}
use Rattle.lc_reading.proofs.Combined.{one_part}
use Rattle.lc_proof_text.specs.Files.{only}
use Rattle.lc_proof_text.proofs.formula.read_file.Goals as goal

pub returns : goal.returns
returns c =
    one_part seen_claim form_reading (only form_reading (owner_of c.args.forms)) c.args.forms c.in_ok-form.rest c.in_ok-form.form _ _ c.in_ok-form.ensures c.read_form.ensures c.ended.ensures (λ m ts. refl)
