-- How the names of an instruction are printed that it is read by.
use Rattle.std.specs.Prelude.{◌≡◌, ℕ, false, List, Some}
use Rattle.lc_text.specs.Names.{Names}
use Rattle.lc_text.specs.Spelling.{Spelled}
use Rattle.lc_text.specs.declared.scope.Extra.TheVariants.{Quantifiers}
use Rattle.lc_object.specs.Syntax.{Object}
use Rattle.lc_object_text.specs.CodeNames.{CodeNames}
use Rattle.lc_outline_print.specs.Naming.{array_name, label}
use Rattle.lc_text_laws.specs.Spellings.{IsSpelledSo}

-- Arrays, locals and labels are printed by the names by which they are read
pub record AreCodeNames (names : Names) (code : CodeNames) (by : Spelled) (object : Object) : Type 0 where
  pub spelled : IsSpelledSo names by
  pub plain : names.allows Quantifiers ≡ false
  pub arrays : (w : List ℕ) (r : ℕ × ℕ) → code.array w ≡ Some r → array_name object r.0 ≡ w
  pub targets : (w : List ℕ) (k : ℕ) → code.target w ≡ Some k → by.variable k ≡ w
  pub labels : (w : List ℕ) (k : ℕ) → code.label w ≡ Some k → label object k ≡ w
