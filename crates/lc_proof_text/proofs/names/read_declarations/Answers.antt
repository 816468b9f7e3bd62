use Rattle.std.proofs.Common.{codes, length, ap, arith}
use Rattle.lc_reading.specs.Parts.{tree_of}
use Rattle.lc_proof_text.proofs.Counted.{behind_counted}
use Rattle.lc_proof_text.proofs.Sections.{also_read}
use Rattle.lc_proof_text.proofs.names.read_declarations.Goals as goal

pub returns-clause-wrong : goal.returns-clause-wrong
returns-clause-wrong c =
    rw c.also.ensures (also_read _ _ c.in_ok-variables.wrong c.in_ok-columns.wrong_too c.in_ok-variables.ensures.wrong c.in_ok-columns.ensures.wrong)

pub invariant_of-result : goal.invariant_of-result
invariant_of-result c = record {
  few_variables = omega (arith, ap length c.in_ok-variables.ensures.names, behind_counted (codes "vars") (tree_of c.args.variables), c.requires.variables);
  few_columns = omega (arith, ap length c.in_ok-columns.ensures.names, behind_counted (codes "cols") (tree_of c.args.columns), c.requires.columns);
}
