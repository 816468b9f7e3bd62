-- Clients at places where the object has code.
use Rattle.std.specs.Prelude.{ℕ, Bool, true, false, ◌==◌, List, length, Option, Some, None}
use Rattle.std.specs.List.{list_all}
use Rattle.lc_object.specs.Syntax.{Object}
use Rattle.lc_machine.specs.World.{Client, Idle, In}
use Rattle.lc_machine.specs.MayRun.{variables_at}

-- there is a count, and it is n
abbrev pub is_count : Option ℕ → ℕ → Bool
is_count None n = false
is_count (Some m) n = m == n

-- a client in a call is at a point, and has the variables of that place
abbrev pub is_placed : Object → Client → Bool
is_placed object Idle = true
is_placed object (In p variables) = is_count (variables_at object p) (length variables)

abbrev pub are_placed : Object → List Client → Bool
are_placed object clients = list_all (is_placed object) clients
