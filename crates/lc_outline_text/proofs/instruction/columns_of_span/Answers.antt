use Rattle.std.proofs.Common.{◌≡◌, ◌+◌, ◌-◌, [], ◌∷◌, ◌++◌, ap, sym, ◌∙◌, append-nil, arith}
use Rattle.std.proofs.lemmas.List.{map-append}
use Rattle.lc_base.specs.declared.ids.ColId.{ColId}
use Rattle.lc_object.specs.View.{columns_of}
use Rattle.lc_object.specs.WellFormed.{numbers_from}
use Rattle.lc_object_text.proofs.MadeParts.{numbers_on}
use Rattle.lc_outline_text.proofs.instruction.columns_of_span.Goals as goal

pub loop-column-init : goal.loop-column-init
loop-column-init c =
    let first = c.args.span.first in
    let width : c.in-Some.end - first ≡ c.args.span.width = omega (arith, c.in-Some.ensures, c.in-Ok.ensures) in
    ap (λ xs. columns_of xs ++ numbers_from first (c.in-Some.end - first)) c.new-columns.ensures.items ∙ ap (numbers_from first) width

pub loop-column-preserved : goal.loop-column-preserved
loop-column-preserved c =
    let n = c.loop-column.column in
    let left = c.in-Some.end - (n + 1) in
    let xs = columns_of c.loop-column.columns.items in
    let pushed = ap columns_of c.in_ok-push.ensures.items ∙ map-append (λ (x : ColId). x.0) c.loop-column.columns.items (record { 0 = n } ∷ []) in
    ap (λ ys. ys ++ numbers_from (n + 1) left) pushed ∙ numbers_on n (c.in-Some.end - n) left xs (omega (arith, c.loop-column-test.true)) ∙ c.loop-column.invariant

pub returns : goal.returns
returns c =
    let n = c.loop-column.column in
    let xs = columns_of c.loop-column.columns.items in
    let none_left : c.in-Some.end - n ≡ 0 = omega (arith, c.loop-column-test.false) in
    sym (append-nil xs) ∙ ap (λ k. xs ++ numbers_from n k) (sym none_left) ∙ c.loop-column.invariant
