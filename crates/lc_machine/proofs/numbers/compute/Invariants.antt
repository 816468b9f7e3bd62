use Rattle.std.proofs.Common.{◌≡◌, true, length, drop, ◌++◌}
use Rattle.lc_object.specs.View.{terms_of}
use Rattle.lc_object.specs.WellFormed.{are_code_terms}
use Rattle.lc_term.specs.State.{state_of, variable_count}
use Rattle.lc_machine.specs.World.{variable}
use Rattle.lc_machine.specs.Step.{numbers}
use Rattle.lc_term.specs.Reached.{TermsFit}
use Rattle.lc_machine.proofs.numbers.compute.Given as goal

-- the numbers so far, with those of the terms that are left, are those of all terms
abbrev pub invariant-loop-term : goal.invariant-loop-term
invariant-loop-term l =
    let s = state_of l.state in
    let vs = l.variables.values.items in
    let all = terms_of l.terms in
    let rest = terms_of (drop l.term-index l.terms) in
    record {
      code : are_code_terms (variable_count l.variables) rest ≡ true;
      rest_fits : TermsFit s (variable vs) all → TermsFit s (variable vs) rest;
      all_fit : TermsFit s (variable vs) rest → TermsFit s (variable vs) all;
      count : length l.numbers.items ≡ l.term-index;
      same : l.numbers.items ++ numbers s vs rest ≡ numbers s vs all;
    }
