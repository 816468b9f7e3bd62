-- What a machine of the code stands for.
use Rattle.lc_term.specs.State.{state_of}
use Rattle.lc_object.specs.Syntax.{Object}
use Rattle.lc_object.specs.Objects.{object_view}
use Rattle.lc_machine.specs.World.{World}
use Rattle.lc_machine.specs.View.{clients_of}
use Rattle.lc_machine.specs.declared.bare.Bare.{Bare}

-- the object whose code runs
abbrev pub object_in : Bare → Object
object_in bare = object_view bare.object.now

-- the world in which the machine is
abbrev pub world_of : Bare → World
world_of bare = record { columns = state_of bare.state; clients = clients_of bare.clients.items }
