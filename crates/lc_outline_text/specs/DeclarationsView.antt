-- What clauses see of what a development file declares.
use Rattle.lc_object_text.specs.DeclaredView.{declared_view}
use Rattle.lc_outline_text.specs.Declarations as S
use Rattle.lc_outline_text.specs.Rests.{rests_of}
use Rattle.lc_outline_text.specs.declared.declarations.Declarations.{Declarations}

abbrev pub declarations_view : Declarations → S.Declarations
declarations_view d = record { declared = declared_view d.declared; actions = rests_of d.actions.items; operations = rests_of d.operations.items }
