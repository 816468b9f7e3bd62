use Rattle.std.proofs.Common.{◌-◌, [], ◌∷◌, ◌++◌, length, length-append, map, sym, ap, ◌∙◌, arith}
use Rattle.std.proofs.lemmas.List.{map-append, length-map}
use Rattle.lc_object.specs.View.{column_view, array_of, columns_of}
use Rattle.lc_object_text.specs.Objects.{concretes_of, arrays_from}
use Rattle.lc_object_text.specs.Texts.{array_view}
use Rattle.lc_object_text.proofs.MadeParts.{concretes_last, arrays_more}
use Rattle.lc_object_text.proofs.made.made_arrays.Goals as goal

pub loop-text-preserved : goal.loop-text-preserved
loop-text-preserved c =
    let text = c.in-Some.text in
    let old = c.loop-text in
    let seen = map array_view old.yielded in
    let a = array_view text in
    let all = map-append array_view old.yielded (text ∷ []) in
    let size = length-map text.columns.items column_view in
    let numbers = c.in_ok-numbers.numbers in
    record {
      arrays = ap (map array_of) c.in_ok-push.ensures.items ∙ map-append array_of old.arrays.items (record { name = text.name; columns = numbers } ∷ [])
          ∙ arrays_more c.args.first old.next (c.in_ok-end.end - old.next) seen a (map array_of old.arrays.items) (columns_of numbers.items) old.invariant.arrays old.invariant.next
          (omega (arith, c.in_ok-end.ensures, c.len-in-loop-text.ensures, size)) c.in_ok-numbers.ensures
          ∙ ap (arrays_from c.args.first) (sym all);
      columns = ap (map column_view) c.in_ok-append.ensures.items ∙ map-append column_view old.concretes.items text.columns.items ∙ ap (λ cs. cs ++ a.columns) old.invariant.columns
          ∙ sym (concretes_last seen a) ∙ ap concretes_of (sym all);
      next = omega (arith, c.in_ok-end.ensures, c.len-in-loop-text.ensures, size, old.invariant.next, ap (λ texts. length (concretes_of texts)) all, ap length (concretes_last seen a), length-append (concretes_of seen) a.columns);
    }
