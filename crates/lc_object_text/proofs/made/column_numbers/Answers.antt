use Rattle.std.proofs.Common.{◌+◌, ◌-◌, [], ◌∷◌, ◌++◌, ap, ◌∙◌, arith}
use Rattle.std.proofs.lemmas.List.{map-append}
use Rattle.lc_base.specs.declared.ids.ColId.{ColId}
use Rattle.lc_object.specs.View.{columns_of}
use Rattle.lc_object.specs.WellFormed.{numbers_from}
use Rattle.lc_object_text.proofs.MadeParts.{numbers_on}
use Rattle.lc_object_text.proofs.made.column_numbers.Goals as goal

pub loop-number-preserved : goal.loop-number-preserved
loop-number-preserved c =
    let n = c.loop-number.number in
    let left = c.args.end - (n + 1) in
    let xs = columns_of c.loop-number.columns.items in
    let pushed = ap columns_of c.in_ok-push.ensures.items ∙ map-append (λ (x : ColId). x.0) c.loop-number.columns.items (record { 0 = n } ∷ []) in
    ap (λ ys. ys ++ numbers_from (n + 1) left) pushed ∙ numbers_on n (c.args.end - n) left xs (omega (arith, c.loop-number-test.true)) ∙ c.loop-number.invariant
