use Rattle.std.proofs.Common.{◌≡◌, true, ◌==◌, sym, ◌∙◌}
use Rattle.lc_sexp.specs.Shown.{rest_of, part_count}
use Rattle.lc_pool.proofs.Frames.{none_alone}
use Rattle.lc_pool.proofs.framing.is_empty_list.Goals as goal
use Rattle.lc_sexp.proofs.Pieced.{gave_list}

pub returns-then-is_empty : goal.returns-then-is_empty
returns-then-is_empty c = λ ended.
    let outer = gave_list c.list.result c.cursor-forms.result c.list.new.self c.in-Ok.list c.in-Ok.is c.list.ensures in
    let left : (part_count (rest_of c.in-Ok.list) == 0) ≡ true = (let e = c.is_empty.ensures in let f = c.if-is_empty.true in cc) in
    let behind : (part_count (rest_of c.list.new.self) == 0) ≡ true = (let e = c.is_empty-then-is_empty.ensures in cc) in
    sym c.cursor-forms.ensures.rest ∙ none_alone (rest_of c.cursor-forms.result) (rest_of c.in-Ok.list) (rest_of c.list.new.self) outer left behind
