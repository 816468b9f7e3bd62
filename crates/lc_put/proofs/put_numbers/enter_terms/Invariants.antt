use Rattle.std.proofs.Common.{◌≡◌, take, map}
use Rattle.lc_put.specs.PutNumbers.{terms_in, AreTerms}
use Rattle.lc_table.specs.Tables.{Keeps}
use Rattle.lc_term.specs.View.{term_of}
use Rattle.lc_put.proofs.put_numbers.enter_terms.Given as goal

-- the terms so far are entered
abbrev pub invariant-loop-term : goal.invariant-loop-term
invariant-loop-term l = Keeps l.fn.table l.table × AreTerms l.table l.entered.items × (terms_in l.table l.entered.items ≡ map term_of (take l.term-index l.terms))
