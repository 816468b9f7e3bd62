use Rattle.std.proofs.Common.{◌≡◌, Some, ap, sym, subst, ◌∙◌, map, arith, add-one, rules, to_z, of_z, w64, get_or, pos}
use Rattle.std.proofs.lemmas.Option.{slice_get-get_or}
use Rattle.serde_json.specs.View.{view}
use Rattle.lc_lemmas.proofs.Lists.{taken_all}
use Rattle.lc_hist.specs.JsonKept.{Each}
use Rattle.lc_hist.specs.JsonValues.{all_in, number_in}
use Rattle.lc_hist.specs.JsonWritten.{number_data}
use Rattle.lc_hist.proofs.JsonLists.{each-next, written_next, kept_numbers, values_in-items_of}
use Rattle.lc_hist.proofs.json_writing.numbers_value.Goals as goal

pub loop-number-preserved : goal.loop-number-preserved
loop-number-preserved c =
    let i = c.loop-number.number-index in
    let zs = c.args.numbers.now in
    let z = get_or zs i (pos 0) in
    let same : to_z w64 (of_z w64 z) ≡ z = search rules in
    let at = slice_get-get_or zs i (pos 0) (omega arith) in
    let value : view c.number_value.result ≡ number_data z = c.number_value.ensures.value ∙ ap number_data same in
    let kept : number_in (number_data z) ≡ Some z = ap number_in (sym value) ∙ c.number_value.ensures.kept ∙ ap Some same in
    record {
      written = rw (c.in_ok-push.ensures.items, add-one i) (written_next number_data zs i z c.loop-number.values.items c.number_value.result c.loop-number.invariant.written at value);
      kept = rw (add-one i) (each-next (λ y. number_in (number_data y) ≡ Some y) zs i z c.loop-number.invariant.kept at kept);
    }

pub returns-clause-kept : goal.returns-clause-kept
returns-clause-kept c =
    let zs = c.args.numbers.now in
    let whole = taken_all zs c.loop-number.number-index c.loop-number-test.false in
    ap (all_in number_in) (values_in-items_of (map number_data zs)) ∙ kept_numbers zs (subst (Each (λ z. number_in (number_data z) ≡ Some z)) whole c.loop-number.invariant.kept)
