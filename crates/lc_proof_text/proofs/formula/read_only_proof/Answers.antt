use Rattle.lc_kernel.specs.View.{proof_of}
use Rattle.lc_proof_text.specs.FileNames.{proof_names, declared_of}
use Rattle.lc_proof_text.specs.Proofs.{proof_reading}
use Rattle.std.proofs.Common.{refl}
use Rattle.lc_sexp.specs.Shown.{owner_of}
use Rattle.lc_reading.proofs.Combined.{one_part}
use Rattle.lc_proof_text.specs.Files.{only}
use Rattle.lc_proof_text.proofs.formula.read_only_proof.Goals as goal

pub returns : goal.returns
returns c =
    one_part proof_of (proof_reading (proof_names (declared_of c.args.declared.now))) (only (proof_reading (proof_names (declared_of c.args.declared.now))) (owner_of c.args.list)) c.args.list c.in_ok-part.rest c.in_ok-part.part _ _ c.in_ok-part.ensures c.read_proof.ensures c.ended.ensures (λ m ts. refl)
