use Rattle.lc_term.specs.View.{formula_of}
use Rattle.lc_text.specs.Formulas.{formula_reading}
use Rattle.lc_proof_text.specs.FileNames.{claim_names, declared_of}
use Rattle.std.proofs.Common.{[], refl}
use Rattle.lc_sexp.specs.Shown.{owner_of}
use Rattle.lc_reading.proofs.Combined.{one_part}
use Rattle.lc_proof_text.specs.Files.{only}
use Rattle.lc_proof_text.proofs.formula.read_only_formula.Goals as goal

pub returns : goal.returns
returns c =
    one_part formula_of (formula_reading (claim_names (declared_of c.args.declared.now)) []) (only (formula_reading (claim_names (declared_of c.args.declared.now)) []) (owner_of c.args.list)) c.args.list c.in_ok-part.rest c.in_ok-part.part _ _ c.in_ok-part.ensures c.read_formula.ensures c.ended.ensures (λ m ts. refl)
