-- Orders for an object that follows another.
use Rattle.std.specs.Prelude.{List, map}
use Rattle.lc_seq.specs.Sequential.{Choice}
use Rattle.lc_history.specs.History.{Entry}

-- the entry with the choice that there is for its choice
abbrev pub with_choice : (Choice → Choice) → Entry → Entry
with_choice choice_for e = record { client = e.client; call = e.call; choice = choice_for e.choice; reply = e.reply }

abbrev pub with_choices : (Choice → Choice) → List Entry → List Entry
with_choices choice_for order = map (with_choice choice_for) order
