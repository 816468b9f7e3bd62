use Rattle.std.proofs.Common.{◌≡◌, ℕ, ◌+◌, ◌<◌, ◌≤◌, [], slice_get, vec_len}
use Rattle.std.specs.Prelude.{IfSome, vec_capacity}
use Rattle.lc_base.specs.Limits.{seat_limit}
use Rattle.lc_run.specs.Locked.{client_in, labels_made}
use Rattle.lc_run.proofs.held.Shared.new.Given as goal

-- a seat for each client so far, and a part of the ledger for each that is to come
abbrev pub invariant-loop-client : goal.invariant-loop-client
invariant-loop-client g l =
    (l.rest.parts + l.client ≡ seat_limit) × (l.rest.amount ≡ 0) × (vec_len l.seats ≡ l.client) × (l.clients ≤ vec_capacity l.seats)
    × ((k : ℕ) → k < l.client → IfSome (slice_get l.seats.items k) (λ s. (client_in s ≡ k) × (labels_made s ≡ [])))
