-- What the values of the machine stand for.
use Rattle.std.specs.Prelude.{ℤ, List, map}
use Rattle.lc_machine.specs.declared.effects.Place.{Place}
use Rattle.lc_machine.specs.declared.client.Client.{Client}
use Rattle.lc_machine.specs.declared.client.Client.TheVariants.{Idle, In}
use Rattle.lc_machine.specs.World as W

abbrev pub variables_of : Place → List ℤ
variables_of place = place.variables.values.items

abbrev pub client_of : Client → W.Client
client_of Idle = W.Idle
client_of (In place) = W.In place.point.0 (variables_of place)

abbrev pub clients_of : List Client → List W.Client
clients_of clients = map client_of clients
