-- The conditions of the counter, as they are printed.
use Rattle.std.proofs.Common.{refl}
use Rattle.std.specs.Fmt.{digits}
use Rattle.lc_cond_text.specs.CounterLines.{CounterIsPrinted, HelpersAreNamed, NotesObserve}

pub counter_is_printed : CounterIsPrinted
unfolding digits
counter_is_printed = refl

pub helpers_are_named : HelpersAreNamed
helpers_are_named = (refl, refl)

pub notes_observe : NotesObserve
notes_observe = refl
