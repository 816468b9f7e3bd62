-- What an object of the code stands for.
use Rattle.lc_object.specs.Syntax as S
use Rattle.lc_object.specs.View.{parts_of}
use Rattle.lc_object.specs.declared.object.Object.{Object}

abbrev pub object_view : Object → S.Object
object_view object = parts_of object.parts
