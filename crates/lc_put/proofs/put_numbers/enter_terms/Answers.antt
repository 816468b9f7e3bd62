use Rattle.std.proofs.Common.{◌≡◌, ◌++◌, ◌∷◌, [], ap, subst, sym, ◌∙◌, rules, map, take}
use Rattle.std.proofs.lemmas.List.{map_more}
use Rattle.lc_put.specs.PutNumbers.{terms_in, AreTerms}
use Rattle.lc_term.specs.View.{term_of}
use Rattle.lc_put.proofs.ByNumber.{are_terms_pushed, terms_pushed}
use Rattle.lc_table.proofs.Later.{kept_on}
use Rattle.lc_put.proofs.put_numbers.enter_terms.Goals as goal

pub loop-term-preserved : goal.loop-term-preserved
loop-term-preserved c =
    let i = c.loop-term.invariant in
    let now = c.enter_term.new.self in
    let ks = c.loop-term.entered.items in
    let k = c.in_ok-enter_term.field-0 in
    let at = c.in_ok-enter_term.ensures.id in
    let kept = c.in_ok-enter_term.ensures.kept in
    let items : c.push.new.self.items ≡ ks ++ k ∷ [] = search rules in
    let taken = map_more term_of c.args.terms.now c.loop-term.term-index c.term-item.result c.loop-term-test.true in (
      kept_on c.args.table.now c.loop-term.table now i.0 kept,
      subst (AreTerms now) (sym items) (are_terms_pushed c.loop-term.table now ks k _ i.1 kept at),
      ap (terms_in now) items ∙ terms_pushed c.loop-term.table now ks k _ i.1 kept at ∙ ap (λ l. l ++ term_of c.term-item.result ∷ []) i.2
          ∙ ap (λ x. map term_of (take c.loop-term.term-index c.args.terms.now) ++ term_of x ∷ []) c.term-item.is ∙ sym taken,
    )
