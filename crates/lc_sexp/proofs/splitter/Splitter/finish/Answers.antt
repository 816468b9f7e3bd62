use Rattle.std.proofs.Common.{refl, ap, ◌∙◌, [], arith}
use Rattle.std.proofs.lemmas.List.{nil_from_length}
use Rattle.lc_sexp.proofs.Splits.{all_aside}
use Rattle.lc_sexp.proofs.splitter.Splitter.finish.Goals as goal

pub returns-clause-answer : goal.returns-clause-answer
returns-clause-answer c = λ whole taken h.
    let s = c.end_word.new.self in
    let n = c.args.self.machine.holes.ok.0 in
    let t = s.machine.text.ok.0 in
    let d = c.depth.ensures in
    let no = nil_from_length c.args.self.machine.holes.items (omega (arith, n, d, c.if-depth-ne0.false)) in
    all_aside s c.in_ok-fill.field-0 whole taken (c.end_word.ensures.place.in_list ∙ c.if-self.false) (ap (λ v. v.items) c.end_word.ensures.place.holes ∙ no) (omega (arith, t, c.in_ok-end_word.ensures.word.ended))
    c.in_ok-fill.ensures (c.in_ok-end_word.ensures.word.splits (λ x. whole) (λ x. []) taken (λ x. refl) h)
