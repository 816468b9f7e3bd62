-- Which clients are in a call.
use Rattle.std.specs.Prelude.{ℕ, Bool, false, slice_index_or}
use Rattle.lc_history.specs.declared.history.InCall.{InCall}

abbrev pub in_call : InCall → ℕ → Bool
in_call these c = slice_index_or these.clients.items c false
