use Rattle.std.proofs.Common.{◌≡◌, ◌++◌, map, drop}
use Rattle.lc_put.specs.PutNumbers.{terms_in, AreTerms}
use Rattle.lc_table.specs.Tables.{Keeps}
use Rattle.lc_term.specs.View.{term_of}
use Rattle.lc_rider.proofs.SaidTerms.{said_in}
use Rattle.lc_rider.proofs.edge_paths.said_before.Given as goal

-- the terms so far, with those that are left, are all
abbrev pub invariant-loop-term : goal.invariant-loop-term
invariant-loop-term l = record {
  kept : Keeps l.fn.terms l.terms;
  are : AreTerms l.terms l.said.items;
  left : terms_in l.terms l.said.items ++ map (said_in l.fn.terms l.path l.variables) (map term_of (drop l.term-index l.these))
      ≡ map (said_in l.fn.terms l.path l.variables) (map term_of l.these);
}
