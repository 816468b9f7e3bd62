-- What a text reads as where a conjunct of the invariant is expected.
use Rattle.std.specs.Prelude.{ℕ, ◌+◌, List, [], None}
use Rattle.lc_sexp.specs.Trees.{Tree, Trees, ◌▸◌, item_count}
use Rattle.lc_reading.specs.Naming.{name_reading}
use Rattle.lc_reading.specs.Readings.{Reading, wrong, mapped, two_of, listed_reading}
use Rattle.lc_reading.specs.declared.pass.Pass.TheVariants.{Shape}
use Rattle.lc_term.specs.Syntax.{Formula}
use Rattle.lc_text.specs.Formulas.{formula_reading}
use Rattle.lc_text.specs.Names.{Names}
use Rattle.lc_text.specs.Terms.{pair}
use Rattle.lc_tie.specs.Tie.{Conjunct}

-- NAME F: the parts of the list n, numbered from m on. Conjuncts may share a name
abbrev pub conjunct_parts_reading : Names → ℕ → ℕ → Trees → Reading (List ℕ × Formula)
conjunct_parts_reading names n m (t ▸ u ▸ ts) = two_of pair m t u ts (name_reading None [] m t) (formula_reading names [] (m + item_count t) u)
conjunct_parts_reading names n m _ = wrong Shape n

abbrev pub the_conjunct : List ℕ × Formula → Conjunct
the_conjunct p = record { name = p.0; formula = p.1 }

-- (NAME F)
abbrev pub conjunct_reading : Names → ℕ → Tree → Reading Conjunct
conjunct_reading names n t = mapped the_conjunct (listed_reading (conjunct_parts_reading names) n t)
