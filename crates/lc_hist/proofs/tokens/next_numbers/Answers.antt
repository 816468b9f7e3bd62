use Rattle.std.proofs.Common.{◌≡◌, ◌∷◌, [], ◌++◌, Some, sym, ap, subst, ◌∙◌, arith, to_z, of_z, w64, rules}
use Rattle.json.specs.Json.{after_end_array}
use Rattle.json.specs.Token.{Token}
use Rattle.lc_hist.specs.JsonTokens.{Begins}
use Rattle.lc_hist.specs.JsonValues.{number_in}
use Rattle.lc_hist.proofs.JsonLists.{all_in-push}
use Rattle.lc_hist.proofs.JsonTokens.{row_begins, row_next, begins-shorter, says_numbers}
use Rattle.lc_hist.proofs.tokens.next_numbers.Goals as goal

pub numbers-init : goal.numbers-init
numbers-init c = ([], ap Some (sym c.new-numbers.ensures.items), row_begins 0 c.begins_array.new.self)

pub numbers-preserved : goal.numbers-preserved
numbers-preserved c =
    let l = c.numbers in
    let ds = l.invariant.0 in
    let z = c.in-Some.number in
    let d = c.in-Some.ensures.0 in
    let rest = c.next_number.new.self in
    let same : c.take_end_array.new.self ≡ l.reader = grind arith in
    let next : Begins 0 l.reader d rest = subst (λ ts. Begins 0 ts d rest) same c.in-Some.ensures.2 in
    let e : to_z w64 (of_z w64 z) ≡ z = search rules in
    let pushed : l.numbers.items ++ z ∷ [] ≡ c.push.new.self.items = sym (c.in_ok-push.ensures.items ∙ ap (λ w. l.numbers.items ++ w ∷ []) e) in (
      ds ++ d ∷ [],
      all_in-push number_in ds d l.numbers.items z l.invariant.1 c.in-Some.ensures.1 ∙ ap Some pushed,
      row_next 0 c.begins_array.new.self ds l.reader d rest l.invariant.2 next,
    )

pub numbers-smaller : goal.numbers-smaller
numbers-smaller c =
    let rest = c.next_number.new.self in
    let d = c.in-Some.ensures.0 in
    let same : c.take_end_array.new.self ≡ c.numbers.reader = grind arith in
    let next : Begins 0 c.numbers.reader d rest = subst (λ ts. Begins 0 ts d rest) same c.in-Some.ensures.2 in
    begins-shorter 0 c.numbers.reader d rest next

pub returns : goal.returns
returns c =
    let l = c.numbers in
    let rest = c.take_end_array.new.self in
    let opens : c.args.reader.now ≡ Token.begin_array ∷ c.begins_array.new.self = grind arith in
    let ends : after_end_array l.reader ≡ Some rest = grind arith in
    says_numbers c.args.reader.now c.begins_array.new.self l.invariant.0 l.numbers.items l.reader rest opens l.invariant.2 l.invariant.1 ends
