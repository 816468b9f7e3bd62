use Rattle.std.proofs.Common.{◌≡◌, ◌∷◌, ◌++◌, [], get_or, pos, ◌+ℤ◌, w64, to_z, of_z, arith, rules}
use Rattle.std.specs.Prelude.{FitsSigned}
use Rattle.std.proofs.lemmas.Int.{to_z-of_z}
use Rattle.std.proofs.lemmas.List.{drop_more}
use Rattle.lc_machine.proofs.Sums.{sums_next}
use Rattle.lc_machine.proofs.numbers.add.Goals as goal

pub loop-i-preserved : goal.loop-i-preserved
loop-i-preserved c =
    let xs = c.args.numbers.now in
    let ys = c.args.added.now in
    let i = c.loop-i.i in
    let x = get_or xs i (pos 0) in
    let y = get_or ys i (pos 0) in
    let same_x : to_z w64 (of_z w64 x) ≡ x = search rules in
    let same_y : to_z w64 (of_z w64 y) ≡ y = search rules in
    let sum_fits : FitsSigned w64 c.in-Some.sum = search rules in
    let ex = drop_more xs i (pos 0) c.loop-i-test.true in
    let ey = drop_more ys i (pos 0) (omega (arith, c.requires.each, c.loop-i-test.true)) in
    let fits : FitsSigned w64 (x +ℤ y) = rw (← same_x, ← same_y) c.in-Some.ensures.0 in
    let is : c.in-Some.sum ≡ x +ℤ y = rw (← same_x, ← same_y) c.in-Some.ensures.1 in
    let pushed : c.push.new.self.items ≡ c.loop-i.sums.items ++ c.in-Some.sum ∷ [] = simp to_z-of_z at c.push.ensures.items in
    sums_next xs ys i x y c.in-Some.sum c.loop-i.sums.items c.push.new.self.items ex ey is fits pushed c.loop-i.invariant
