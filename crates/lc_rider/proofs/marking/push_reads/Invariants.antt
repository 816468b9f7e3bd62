use Rattle.std.proofs.Common.{◌≡◌, ◌++◌, map, drop}
use Rattle.lc_put.specs.PutNumbers.{columns_at, terms_in, AreTerms}
use Rattle.lc_term.specs.Said.{reads}
use Rattle.lc_table.specs.Tables.{term_in, Keeps}
use Rattle.lc_rider.proofs.marking.push_reads.Given as goal

-- the reads so far, with those of the cells that are left, are all
abbrev pub invariant-loop-cell : goal.invariant-loop-cell
invariant-loop-cell l = record {
  kept : Keeps l.fn.terms l.terms;
  are : AreTerms l.terms l.read.items;
  left : terms_in l.terms l.read.items ++ reads (columns_at l.fn.terms l.columns) (map (λ c. c.0) (drop l.cell-index l.cells)) (term_in l.fn.terms l.client)
      ≡ terms_in l.fn.terms l.fn.read.items ++ reads (columns_at l.fn.terms l.columns) (map (λ c. c.0) l.cells) (term_in l.fn.terms l.client);
}
