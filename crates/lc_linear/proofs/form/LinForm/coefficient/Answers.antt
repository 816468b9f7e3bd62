use Rattle.std.proofs.Common.{◌∙◌, ap}
use Rattle.std.specs.Prelude.{pos, unwrap_or}
use Rattle.std.specs.Int.{w128}
use Rattle.std.proofs.lemmas.Int.{to_z-of_z}
use Rattle.lc_linear.proofs.Entries.{coefficient_in-lookup}
use Rattle.lc_linear.proofs.form.LinForm.coefficient.Goals as goal

pub returns : goal.returns
returns c =
    to_z-of_z w128 c.unwrap_or.result (record { sfits = c.unwrap_or.type_inv }) ∙ c.unwrap_or.ensures ∙
    ap (λ o. unwrap_or o (pos 0)) (c.copied.ensures ∙ c.get.ensures.value) ∙
    coefficient_in-lookup c.args.atom c.args.self.now.coefficients.entries
