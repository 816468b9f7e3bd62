-- What is returned for the forms of a development file, as far as its object's code goes.
use Rattle.std.specs.Prelude.{◌≡◌, Result, Ok, Err}
use Rattle.lc_base.specs.declared.refusal.Fault.{Fault}
use Rattle.lc_base.specs.declared.refusal.Fault.TheVariants.{Refused, OutOfMemory}
use Rattle.lc_base.specs.declared.refusal.Refusal.{Refusal}
use Rattle.lc_sexp.specs.Trees.{Trees}
use Rattle.lc_object.specs.Objects.{object_view}
use Rattle.lc_object.specs.Syntax as S
use Rattle.lc_object.specs.declared.object.Object.{Object}
use Rattle.lc_reading.specs.Flaws.{refusal_of}
use Rattle.lc_reading.specs.Readings.{fine, flawed}
use Rattle.lc_reading.specs.declared.flaw.Flaw.{Flaw}
use Rattle.lc_object_text.specs.Objects.{file_reading}

-- they say this object
abbrev pub Says : Trees → S.Object → Type 0
Says ts object = file_reading ts ≡ fine object

-- this is their first refusal
abbrev pub IsFirstRefusal : Trees → Refusal → Type 0
IsFirstRefusal ts refusal = (f : Flaw) × (file_reading ts ≡ flawed f) × (refusal ≡ refusal_of f)

-- The object that they say, else the first refusal, or out of memory
abbrev pub IsAnswerOf : Trees → Result Object Fault → Type 0
IsAnswerOf ts (Ok object) = Says ts (object_view object)
IsAnswerOf ts (Err (Refused refusal)) = IsFirstRefusal ts refusal
IsAnswerOf ts (Err OutOfMemory) = Unit {0}
