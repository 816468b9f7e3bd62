use Rattle.std.proofs.Common.{◌≡◌, ◌+◌, ◌-◌, ◌*◌, ◌<◌, ◌≤◌, ◌^◌, get_or, length, refl, arith}
use Rattle.lc_hist.proofs.JsonLexed.{digits_begin, digits_next, numeral_found}
use Rattle.lc_hist.proofs.cursor.numeral.Goals as goal

pub digits-init : goal.digits-init
digits-init c = record { written = digits_begin c.args.text.now c.args.from; small = omega arith; order = omega arith }

pub digits-preserved : goal.digits-preserved
digits-preserved c =
    let l = c.digits in
    let text = c.args.text.now in
    let x = get_or text l.end 0 in
    let lt : l.end < length text = omega arith in
    let least : 48 ≤ x = omega arith in
    let most : x ≤ 57 = omega arith in
    let next = 10 * l.number + c.from.result in
    let is : next ≡ 10 * l.number + (x - 48) = omega arith in
    record { written = digits_next text c.args.from l.number l.end next lt least most l.invariant.written is; small = omega arith; order = omega arith }

pub returns : goal.returns
returns c =
    let l = c.digits in
    let text = c.args.text.now in
    let lead = c.if-not-are_short.ensures in
    let over = c.if-not-ends_item.ensures in
    let moved : l.end ≡ c.args.from → ⊥ = λ e. omega arith in
    let small : l.number < 2 ^ 63 = omega arith in
    numeral_found text c.args.from l.number l.end l.invariant.written moved (lead refl) small (over refl).0 (over refl).1
