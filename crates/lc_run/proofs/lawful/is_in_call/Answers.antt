use Rattle.std.proofs.Common.{ℕ, ◌≤◌, List, length, arith}
use Rattle.std.proofs.lemmas.Bool.{false≢true}
use Rattle.std.proofs.lemmas.Option.{slice_get_within}
use Rattle.lc_machine.specs.View.{clients_of}
use Rattle.lc_machine.specs.World.{Client, In}
use Rattle.lc_run.specs.Taken.{StandsIn}
use Rattle.lc_run.proofs.lawful.is_in_call.Goals as goal

none-stands : (cs : List Client) (c : ℕ) → length cs ≤ c → StandsIn cs c → ⊥
none-stands cs c past (p, vs, is) = let h = slice_get_within cs c (In p vs) is in omega arith

pub returns-in-Some-Idle-2 : goal.returns-in-Some-Idle-2
returns-in-Some-Idle-2 c = (λ e. absurd (false≢true e), λ stands. absurd (none-stands (clients_of c.args.clients.now) c.args.client c.in-Some-Idle.ensures stands))
