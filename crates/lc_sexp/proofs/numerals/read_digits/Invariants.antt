use Rattle.std.proofs.Common.{◌≡◌, true, take}
use Rattle.lc_sexp.specs.Numerals.{are_digits, value_of_digits}
use Rattle.lc_sexp.specs.NaturalValue.{IsValue}
use Rattle.lc_sexp.proofs.numerals.read_digits.Given as goal

abbrev pub invariant-loop-byte : goal.invariant-loop-byte
invariant-loop-byte l = (are_digits (take l.byte-index l.text) ≡ true) × IsValue l.value (value_of_digits (take l.byte-index l.text))
