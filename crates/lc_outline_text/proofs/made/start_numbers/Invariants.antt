use Rattle.std.proofs.Common.{◌≡◌, ◌++◌, map, take}
use Rattle.lc_object.specs.View.{column_view}
use Rattle.lc_seq.specs.SpecView.{column_of}
use Rattle.lc_seq.specs.Specification as Q
use Rattle.lc_object.specs.Syntax as O
use Rattle.lc_outline_text.proofs.made.start_numbers.Given as goal

-- the numbers so far
abbrev pub invariant-loop-column : goal.invariant-loop-column
invariant-loop-column l = l.numbers.items ≡ map (λ (c : Q.Column). (c.slope, c.start)) (map column_of (take l.column-index l.abstracts))

abbrev pub invariant-loop-column-2 : goal.invariant-loop-column-2
invariant-loop-column-2 l =
    l.numbers.items ≡ map (λ (c : Q.Column). (c.slope, c.start)) (map column_of l.abstracts) ++ map (λ (c : O.Column). (c.slope, c.start)) (map column_view (take l.column-index l.concretes))

abbrev pub invariant-loop-column-3 : goal.invariant-loop-column-3
invariant-loop-column-3 l =
    l.numbers.items ≡ (map (λ (c : Q.Column). (c.slope, c.start)) (map column_of l.abstracts) ++ map (λ (c : O.Column). (c.slope, c.start)) (map column_view l.concretes))
    ++ map (λ (c : Q.Column). (c.slope, c.start)) (map column_of (take l.column-index l.auxiliaries))
