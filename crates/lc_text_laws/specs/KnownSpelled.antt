-- How the names are printed by which the riders beside the code are read.
use Rattle.std.specs.Prelude.{◌≡◌, ℕ, List, Some}
use Rattle.lc_reading.specs.Listed.{place_of}
use Rattle.lc_text.specs.Names.{Names}
use Rattle.lc_text.specs.Spelling.{Spelled}
use Rattle.lc_object.specs.Syntax.{Object}
use Rattle.lc_action.specs.Action.{Action}
use Rattle.lc_rider_text.specs.Known.{Known}
use Rattle.lc_rider_text.specs.Scopes.{column_place}
use Rattle.lc_outline_print.specs.Naming.{operation_name, action_name}
use Rattle.lc_text_laws.specs.Spellings.{IsSpelledSo}

-- Columns, operations and actions are printed by the names by which they are read
pub record AreKnown (known : Known) (names : Names) (by : Spelled) (object : Object) (actions : List Action) : Type 0 where
  pub spelled : IsSpelledSo names by
  pub columns : (w : List ℕ) (k : ℕ) → column_place known.columns w ≡ Some k → by.column k ≡ w
  pub operations : (w : List ℕ) (k : ℕ) → place_of known.operations w ≡ Some k → operation_name object k ≡ w
  pub acting : (w : List ℕ) (k : ℕ) → place_of known.actions w ≡ Some k → action_name actions k ≡ w
