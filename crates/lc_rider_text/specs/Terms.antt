-- What a text reads as where the terms of a call are expected, or of a choice.
use Rattle.std.specs.Prelude.{ℕ, List, [], Option, Some, None}
use Rattle.lc_sexp.specs.Trees.{Trees}
use Rattle.lc_reading.specs.Readings.{Reading}
use Rattle.lc_reading.specs.Rows.{each_reading, counted_reading}
use Rattle.lc_term.specs.Syntax.{Term}
use Rattle.lc_text.specs.Names.{Names}
use Rattle.lc_text.specs.Terms.{term_reading}

-- T*: the parts of the list n from m on, exactly `count` if that is known
abbrev pub arguments_reading : Names → Option ℕ → ℕ → ℕ → Trees → Reading (List Term)
arguments_reading names None n m ts = each_reading (term_reading names []) m ts
arguments_reading names (Some count) n m ts = counted_reading (term_reading names []) n count m ts
