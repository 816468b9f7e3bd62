use Rattle.std.proofs.Common.{◌≡◌, [], refl, ap, ◌∙◌, arith}
use Rattle.std.proofs.lemmas.Bool.Decides.{nat_tests}
use Rattle.std.proofs.lemmas.List.{nil_from_length}
use Rattle.lc_sexp.specs.Trees.{tokens_of_all}
use Rattle.lc_sexp.proofs.Nodes.{flat_whole, tokens_whole}
use Rattle.lc_sexp.proofs.machine.Machine.finish.Goals as goal

pub new-requires : goal.new-requires
new-requires c =
    let k = c.end_word.new.self.text.ok.0 in
    let none : c.end_word.new.self.holes.items ≡ [] = ap (λ v. v.items) c.end_word.ensures.holes ∙ nil_from_length _ (let h = c.args.self.holes.ok.0 in let e = c.is_empty.ensures in let f = c.if-not-is_empty.false in grind (arith, nat_tests)) in
    flat_whole _ c.end_word.new.self.start _ _ (omega (arith, k, c.in_ok-end_word.ensures.ended)) c.end_word.new.self.letters none c.end_word.new.self.under_way

pub returns-clause-told : goal.returns-clause-told
returns-clause-told c =
    let k = c.end_word.new.self.text.ok.0 in
    let none : c.end_word.new.self.holes.items ≡ [] = ap (λ v. v.items) c.end_word.ensures.holes ∙ nil_from_length _ (let h = c.args.self.holes.ok.0 in let e = c.is_empty.ensures in let f = c.if-not-is_empty.false in grind (arith, nat_tests)) in
    ap tokens_of_all c.new.ensures
    ∙ tokens_whole _ c.end_word.new.self.start _ _ (omega (arith, k, c.in_ok-end_word.ensures.ended)) none c.end_word.new.self.under_way
    ∙ c.in_ok-end_word.ensures.told [] refl
