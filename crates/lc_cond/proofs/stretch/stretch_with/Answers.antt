use Rattle.std.proofs.Common.{◌≡◌, ◌/◌, arith}
use Rattle.lc_cond.proofs.Stretched.{conjunct_below, stretch_has}
use Rattle.lc_cond.proofs.stretch.stretch_with.Goals as goal

pub returns-clause-has : goal.returns-clause-has
returns-clause-has c = λ lt.
    let count = c.args.count in
    let each = c.args.each in
    let place = c.args.place in
    let conjunct = c.min-conjunct.result in
    let size = c.size_of-size.result in
    let least = c.min-conjunct.ensures in
    let more = c.min.ensures in
    let below = conjunct_below place count each lt in
    let is : conjunct ≡ place / each = omega (arith, least, below) in
    let few = c.requires.each in
    let some = c.size_of-size.ensures in
    stretch_has count each place conjunct size c.min.result few some is below more
