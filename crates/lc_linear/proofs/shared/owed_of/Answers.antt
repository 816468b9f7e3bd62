use Rattle.std.proofs.Common.{rules, arith, get_or, ◌≡◌, ◌∙◌, Some, ap, ap₂, sym, take, to_z, of_z}
use Rattle.std.specs.Prelude.{ℤ, pos, ◌+ℤ◌, ◌*ℤ◌, FitsSigned}
use Rattle.std.specs.Int.{w128}
use Rattle.std.proofs.lemmas.List.{take_all}
use Rattle.lc_table.specs.Tables.{term_in}
use Rattle.lc_table.specs.declared.node.TermId.{TermId}
use Rattle.lc_linear.proofs.Loads.{term_at, total_more}
use Rattle.lc_linear.proofs.Numbers.{wide_number_kept}
use Rattle.lc_linear.proofs.Owing.{owed_more, owed_nothing}
use Rattle.lc_linear.proofs.Sums.{get_or-any}
use Rattle.lc_linear.specs.Form.{form_of}
use Rattle.lc_linear.specs.LinForm.{numbers}
use Rattle.lc_linear.specs.Owed.{total}
use Rattle.lc_linear.proofs.shared.owed_of.Goals as goal

pub loop-term-init : goal.loop-term-init
loop-term-init c = owed_nothing c.args.terms.now (numbers c.zero-owed.result) (λ a. c.zero-owed.ensures (Some a))

pub loop-term-preserved : goal.loop-term-preserved
loop-term-preserved c = λ p.
    let ts = c.args.terms.now in
    let ms = c.args.multiples.now in
    let i = c.loop-term.term-index in
    let m : TermId × ℤ = get_or ms i (record { 0 = 0 }, pos 0) in
    let f : FitsSigned w128 m.1 = search rules in
    let there = get_or-any ms i (record { 0 = 0 }, pos 0) m c.loop-term-test.true in
    owed_more ts (numbers c.loop-term.owed) (numbers c.add_atom.new.self) m.0 (term_at ts ms i m c.requires c.loop-term-test.true there) (to_z w128 (of_z w128 m.1)) c.in_ok-add_atom.ensures.ok p
    ∙ ap₂ (λ x k. x +ℤ k *ℤ form_of (term_in ts m.0) p) (c.loop-term.invariant p) (wide_number_kept m.1 f) ∙ sym (total_more ts ms i m c.loop-term-test.true there p)

pub returns : goal.returns
returns c = λ p.
    let whole : take c.loop-term.term-index c.args.multiples.now ≡ c.args.multiples.now = take_all c.loop-term.term-index c.args.multiples.now (omega (arith, c.loop-term-test.false)) in
    c.loop-term.invariant p ∙ ap (λ l. total c.args.terms.now l p) whole
