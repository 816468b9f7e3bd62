use Rattle.std.proofs.Common.{◌≡◌, ◌+◌, map, length}
use Rattle.lc_object.specs.View.{column_view, array_of}
use Rattle.lc_object_text.specs.Objects.{concretes_of, arrays_from}
use Rattle.lc_object_text.specs.Texts.{array_view}
use Rattle.lc_object_text.proofs.made.made_arrays.Given as goal

-- the arrays so far, and their columns
abbrev pub invariant-loop-text : goal.invariant-loop-text
invariant-loop-text l = record {
  arrays : map array_of l.arrays.items ≡ arrays_from l.first (map array_view l.yielded);
  columns : map column_view l.concretes.items ≡ concretes_of (map array_view l.yielded);
  next : l.next ≡ l.first + length (concretes_of (map array_view l.yielded));
}
