use Rattle.std.proofs.Common.{◌≡◌, ◌-◌, length, sym, ap, ◌∙◌, arith}
use Rattle.lc_sexp.specs.Printed.{printed_items}
use Rattle.lc_sexp.specs.Shown.{rest_of, item_tree}
use Rattle.lc_layout.proofs.Widths.{parts_of, width_parts, room_is, room_short, item_parts_is, sub_some, sub_none, no_end, an_end}
use Rattle.lc_layout.proofs.width.end_of.Goals as goal

pub returns-in_err-within : goal.returns-in_err-within
returns-in_err-within c =
    let t = item_tree c.args.item in
    let a = sub_some c.checked_sub.result 100 c.args.column c.in_ok-behind_column.behind_column c.in_ok-behind_column.was c.checked_sub.ensures in
    let b = sub_some c.checked_sub-2.result c.in_ok-behind_column.behind_column c.args.brackets c.in_ok-room.room c.in_ok-room.was c.checked_sub-2.ensures in
    let n = sub_none c.checked_sub-3.result c.in_ok-room.room c.own_width.result c.in_err-within.was c.checked_sub-3.ensures in
    c.from_residual-in_err-within.ensures ∙ no_end c.args.column c.args.brackets t (omega (arith, a, b, n, c.own_width.ensures, width_parts t))

pub returns-in_err-left : goal.returns-in_err-left
returns-in_err-left c =
    let t = item_tree c.args.item in
    let a = sub_some c.checked_sub.result 100 c.args.column c.in_ok-behind_column.behind_column c.in_ok-behind_column.was c.checked_sub.ensures in
    let b = sub_some c.checked_sub-2.result c.in_ok-behind_column.behind_column c.args.brackets c.in_ok-room.room c.in_ok-room.was c.checked_sub-2.ensures in
    let d = sub_some c.checked_sub-3.result c.in_ok-room.room c.own_width.result c.in_ok-within.within c.in_ok-within.was c.checked_sub-3.ensures in
    let l : length (printed_items (rest_of c.parts.result)) ≡ length (printed_items (parts_of t)) = ap (λ x. length (printed_items x)) (c.parts.ensures ∙ item_parts_is c.args.item) in
    let n = room_short c.in_ok-within.within (length (printed_items (rest_of c.parts.result))) (sym c.in_err-left.was ∙ c.room_behind.ensures) in
    c.from_residual-in_err-left.ensures ∙ no_end c.args.column c.args.brackets t (omega (arith, a, b, d, l, n, c.own_width.ensures, width_parts t))

pub returns : goal.returns
returns c =
    let t = item_tree c.args.item in
    let a = sub_some c.checked_sub.result 100 c.args.column c.in_ok-behind_column.behind_column c.in_ok-behind_column.was c.checked_sub.ensures in
    let b = sub_some c.checked_sub-2.result c.in_ok-behind_column.behind_column c.args.brackets c.in_ok-room.room c.in_ok-room.was c.checked_sub-2.ensures in
    let d = sub_some c.checked_sub-3.result c.in_ok-room.room c.own_width.result c.in_ok-within.within c.in_ok-within.was c.checked_sub-3.ensures in
    let l : length (printed_items (rest_of c.parts.result)) ≡ length (printed_items (parts_of t)) = ap (λ x. length (printed_items x)) (c.parts.ensures ∙ item_parts_is c.args.item) in
    let n = room_is c.in_ok-within.within (length (printed_items (rest_of c.parts.result))) c.in_ok-left.left (sym c.in_ok-left.was ∙ c.room_behind.ensures) in
    an_end c.args.column c.args.brackets (100 - c.args.brackets - c.in_ok-left.left) t
    (omega (arith, a, b, d, n))
    (omega (arith, a, b, d, l, n, c.own_width.ensures, width_parts t))
