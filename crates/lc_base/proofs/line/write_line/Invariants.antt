use Rattle.std.proofs.Common.{◌≡◌, ◌∷◌, ◌++◌, flat_map, take}
use Rattle.std.specs.Fmt.{decimal}
use Rattle.lc_base.proofs.line.write_line.Given as goal

abbrev pub invariant-loop-number : goal.invariant-loop-number
invariant-loop-number l = l.line.items ≡ l.word ++ flat_map (λ n. 32 ∷ decimal n) (take l.number-index l.numbers)
