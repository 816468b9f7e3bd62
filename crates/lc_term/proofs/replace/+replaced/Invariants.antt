use Rattle.std.proofs.Common.{ℕ, IsTrue}
use Rattle.lc_term.specs.Counter.{HasCounted}
use Rattle.lc_term.specs.Places.{all_pass}
use Rattle.lc_term.specs.Replacement.{under_many}
use Rattle.lc_term.specs.Syntax.{formulas}
use Rattle.lc_term.specs.View.{formulas_of}
use Rattle.lc_term.proofs.Each.{ReplacedBelow}
use Rattle.lc_term.proofs.replace.+replaced.Given as goal

abbrev pub invariant-replaced_each-loop-part : goal.invariant-replaced_each-loop-part
invariant-replaced_each-loop-part g l =
    (n : ℕ) → HasCounted l.depth n → IsTrue (all_pass (g.R.Replacing.fits l.put) n (formulas (formulas_of l.parts))) →
    ReplacedBelow (g.R.Replacing.fits l.put) n (under_many n (g.R.Replacing.replacement l.put)) l.each.items l.parts l.part-index
