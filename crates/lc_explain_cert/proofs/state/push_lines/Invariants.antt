use Rattle.std.proofs.Common.{◌≡◌, ◌+◌, ◌++◌, drop, string_bytes}
use Rattle.lc_term.specs.View.{formulas_of}
use Rattle.lc_explain_cert.specs.Names.{spelled}
use Rattle.lc_explain_cert.specs.State.{numbered}
use Rattle.lc_explain_cert.proofs.state.push_lines.Given as goal

-- what is written so far, with what is left, is all
abbrev pub invariant-loop-formula : goal.invariant-loop-formula
invariant-loop-formula l =
    (l.number ≡ l.first + l.formula-index)
    × (string_bytes l.text ++ numbered (spelled l.names) l.number (formulas_of (drop l.formula-index l.formulas)) ≡ string_bytes l.fn.text ++ numbered (spelled l.names) l.first (formulas_of l.formulas))
