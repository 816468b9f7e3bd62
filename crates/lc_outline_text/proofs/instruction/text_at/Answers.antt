use Rattle.std.proofs.Common.{◌≡◌, ◌+◌, ◌-◌, suc, ap, sym, ◌∙◌, arith}
use Rattle.lc_sexp.specs.Shown.{rest_of}
use Rattle.lc_outline_text.specs.Sizes.{text_at}
use Rattle.lc_outline_text.proofs.StoredThere.{text_next}
use Rattle.lc_outline_text.proofs.instruction.text_at.Goals as goal

pub loop-preserved : goal.loop-preserved
loop-preserved c =
    let below = c.loop-test.true in
    let more : suc (c.args.place - (c.loop.counter + 1)) ≡ c.args.place - c.loop.counter = omega (arith, below) in
    ap (text_at (c.args.place - (c.loop.counter + 1))) c.behind_first-rest.ensures.rest ∙ sym (text_next (c.args.place - (c.loop.counter + 1)) (rest_of c.loop.rest))
    ∙ ap (λ n. text_at n (rest_of c.loop.rest)) more ∙ c.loop.invariant
