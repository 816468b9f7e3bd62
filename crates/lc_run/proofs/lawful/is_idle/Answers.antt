use Rattle.std.proofs.Common.{◌≡◌, ℕ, ◌≤◌, List, Some, length, arith}
use Rattle.std.specs.Prelude.{slice_get}
use Rattle.std.proofs.lemmas.Bool.{false≢true}
use Rattle.std.proofs.lemmas.Option.{slice_get_within}
use Rattle.lc_machine.specs.View.{clients_of}
use Rattle.lc_machine.specs.World.{Client, Idle}
use Rattle.lc_run.proofs.lawful.is_idle.Goals as goal

none-idle : (cs : List Client) (c : ℕ) → length cs ≤ c → slice_get cs c ≡ Some Idle → ⊥
none-idle cs c past is = let h = slice_get_within cs c Idle is in omega arith

pub returns-in-Some-In-2 : goal.returns-in-Some-In-2
returns-in-Some-In-2 c = (λ e. absurd (false≢true e), λ is. absurd (none-idle (clients_of c.args.clients.now) c.args.client c.in-Some-In.ensures is))
