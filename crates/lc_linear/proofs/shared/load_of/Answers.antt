use Rattle.std.proofs.Common.{rules, get_or, ◌≡◌, ◌+◌, ◌*◌, max, ◌∙◌, ap, ap₂, sym}
use Rattle.std.specs.Prelude.{ℤ, pos, FitsSigned, unsigned_abs}
use Rattle.std.specs.Int.{w128}
use Rattle.std.proofs.lemmas.Int.{to_z-of_z}
use Rattle.lc_table.specs.declared.node.TermId.{TermId}
use Rattle.lc_linear.proofs.Loads.{load_more}
use Rattle.lc_linear.proofs.Sums.{get_or-any}
use Rattle.lc_linear.proofs.shared.load_of.Goals as goal

pub loop-term-preserved : goal.loop-term-preserved
loop-term-preserved c =
    let ms = c.args.multiples.now in
    let i = c.loop-term.term-index in
    let m : TermId × ℤ = get_or ms i (record { 0 = 0 }, pos 0) in
    let f : FitsSigned w128 m.1 = search rules in
    let more = load_more c.args.terms.now ms i m c.loop-term-test.true (get_or-any ms i (record { 0 = 0 }, pos 0) m c.loop-term-test.true) in
    let size : c.max.result ≡ max (unsigned_abs m.1) 1 = c.max.ensures ∙ ap (λ n. max n 1) (c.unsigned_abs.ensures.value ∙ ap unsigned_abs (to_z-of_z w128 m.1 f)) in
    c.in_ok-sum.ensures.1 ∙ ap₂ ◌+◌ c.loop-term.invariant (c.in_ok-checked_mul.ensures.1 ∙ ap₂ ◌*◌ size c.in_ok-weight.ensures) ∙ sym more
