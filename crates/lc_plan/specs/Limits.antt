-- How many turns a plan may give to a call.
use Rattle.std.specs.Prelude.{ℕ}

-- the most turns that a plan gives to a call, and the most times that it repeats one
abbrev pub most_turns : ℕ
most_turns = 1000000

-- the turns of a call to which a plan gives no other number
abbrev pub usual_turns : ℕ
usual_turns = 400000
