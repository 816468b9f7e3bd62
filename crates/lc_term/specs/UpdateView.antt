-- What updates and writes of the code stand for.
use Rattle.std.specs.Prelude.{List, map}
use Rattle.lc_term.specs.View.{term_of}
use Rattle.lc_term.specs.Updates as U
use Rattle.lc_term.specs.declared.update.Update.{Update}
use Rattle.lc_term.specs.declared.update.Write.{Write}

abbrev pub update_of : Update → U.Update
update_of u = record { column = u.column.0; index = term_of u.index; value = term_of u.value }

abbrev pub updates_of : List Update → List U.Update
updates_of us = map update_of us

abbrev pub write_view : Write → U.Write
write_view w = record { column = w.column.0; index = w.index; value = w.value }

abbrev pub writes_view : List Write → List U.Write
writes_view ws = map write_view ws
