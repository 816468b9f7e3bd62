-- The numbers of SplitMix64.
use Rattle.std.specs.Prelude.{ℕ, ◌+◌, ◌*◌, ◌/◌, ◌%◌, ◌^◌, bit_xor}
use Rattle.lc_random.specs.declared.splitmix.SplitMix64.{SplitMix64}

abbrev pub state_of : SplitMix64 → ℕ
state_of r = r.state

-- the state after a draw
abbrev pub moved_on : ℕ → ℕ
moved_on state = (state + 0x9e37_79b9_7f4a_7c15) % 2 ^ 64

-- a number whose bits are turned by those that stand n places higher
abbrev pub folded : ℕ → ℕ → ℕ
folded n z = bit_xor z (z / 2 ^ n)

-- the number of a state
abbrev pub mixed : ℕ → ℕ
mixed state =
    let first = (folded 30 state * 0xbf58_476d_1ce4_e5b9) % 2 ^ 64 in
    let second = (folded 27 first * 0x94d0_49bb_1331_11eb) % 2 ^ 64 in
    folded 31 second

-- the number that is drawn in a state
abbrev pub drawn : ℕ → ℕ
drawn state = mixed (moved_on state)
