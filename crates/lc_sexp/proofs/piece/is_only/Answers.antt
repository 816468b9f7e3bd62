use Rattle.std.proofs.Common.{◌≡◌, true, ◌==◌, sym, ◌∙◌}
use Rattle.lc_sexp.specs.Shown.{rest_of, item_tree, part_count}
use Rattle.lc_sexp.proofs.Pieced.{gave_list, stands_alone}
use Rattle.lc_sexp.proofs.Walks.{gave_item}
use Rattle.lc_sexp.proofs.piece.is_only.Goals as goal

pub returns : goal.returns
returns c =
    let outer = gave_list c.list.result c.cursor-rest.result c.list.new.self c.in-Ok.list c.in-Ok.is c.list.ensures in
    let within = gave_item c.item.result c.in-Ok.list c.item.new.self c.in-Ok-item._item c.in-Ok-item.is c.item.ensures in
    let left : (part_count (rest_of c.item.new.self) == 0) ≡ true = (let e = c.is_empty.ensures in let f = c.if-not-is_empty.false in cc) in
    let behind : (part_count (rest_of c.list.new.self) == 0) ≡ true = (let e = c.is_empty-else-not-is_empty.ensures in let f = c.if-not-is_empty-2.false in cc) in (
      item_tree c.in-Ok-item._item,
      sym c.cursor-rest.ensures.rest
          ∙ stands_alone (rest_of c.cursor-rest.result) (rest_of c.in-Ok.list) (rest_of c.list.new.self) (rest_of c.item.new.self) (item_tree c.in-Ok-item._item) outer within left behind,
    )
