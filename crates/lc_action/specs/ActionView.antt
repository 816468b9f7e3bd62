-- What the values of the code stand for.
use Rattle.std.specs.Prelude.{ℕ, map}
use Rattle.lc_base.specs.Name.{bytes_of}
use Rattle.lc_term.specs.View.{formula_of}
use Rattle.lc_term.specs.UpdateView.{updates_of}
use Rattle.lc_action.specs.Action as S
use Rattle.lc_action.specs.declared.action.Action.{Action}
use Rattle.lc_action.specs.declared.system_columns.SystemColumns.{SystemColumns}

-- the number of the first system column
abbrev pub first_of : SystemColumns → ℕ
first_of system = system.first.0

abbrev pub action_of : Action → S.Action
action_of a = record {
  name = bytes_of a.name;
  parameters = map bytes_of a.params.items;
  guard = formula_of a.guard;
  updates = updates_of a.updates.items;
}
