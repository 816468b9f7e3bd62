use Rattle.std.proofs.Common.{◌≡◌, Some, None, [], ◌∷◌, ◌++◌, length, ap, sym, ◌∙◌, rules, to_z, of_z, w64}
use Rattle.lc_hist.specs.JsonItems.{data_at, values_at}
use Rattle.lc_hist.specs.JsonValues.{all_in, number_in, numbers_in}
use Rattle.lc_hist.proofs.JsonLists.{all_in-none, all_in-push, numbers_of, one_read, stands_behind}
use Rattle.lc_hist.proofs.json_values.read_numbers.Goals as goal

pub returns-in_default-read_number : goal.returns-in_default-read_number
returns-in_default-read_number c =
    let l = c.values in
    let d = data_at c.in-Some-next.value in
    let all = values_at c.in-Some.values in
    let listed : numbers_in (data_at c.args.value.now) ≡ all_in number_in all =
    numbers_of (data_at c.args.value.now) all c.in-Some.ensures in
    let here : l.invariant.0 ++ d ∷ values_at c.next.new.self ≡ all = ap (λ rest. l.invariant.0 ++ rest) (sym c.in-Some-next.ensures.value) ∙ l.invariant.2 in
    let none : number_in d ≡ None = sym c.read_number.ensures ∙ c.in_default-read_number.is in
    sym (listed ∙ all_in-none number_in all (length l.invariant.0) d (stands_behind l.invariant.0 d (values_at c.next.new.self) all here) none)

pub values-preserved : goal.values-preserved
values-preserved c =
    let l = c.values in
    let ds = l.invariant.0 in
    let d = data_at c.in-Some-next.value in
    let z = c.in-Some-read_number.number in
    let says : number_in d ≡ Some z = sym c.read_number.ensures ∙ c.in-Some-read_number.is in
    let e : to_z w64 (of_z w64 z) ≡ z = search rules in
    let pushed : l.numbers.items ++ z ∷ [] ≡ c.push.new.self.items = sym (c.in_ok-push.ensures.items ∙ ap (λ w. l.numbers.items ++ w ∷ []) e) in (
      ds ++ d ∷ [],
      all_in-push number_in ds d l.numbers.items z l.invariant.1 says ∙ ap Some pushed,
      one_read ds d (values_at c.next.new.self) (values_at l.values) (values_at c.in-Some.values) c.in-Some-next.ensures.value l.invariant.2,
    )
