use Rattle.std.proofs.Common.{rules, arith, ◌<◌}
use Rattle.lc_put.proofs.deep.find_parts.Goals as goal

pub returns-in_ok-find_column-in-Read : goal.returns-in_ok-find_column-in-Read
returns-in_ok-find_column-in-Read g c n within before =
    let column : c.in-Read.column.0 < c.args.part = search rules in
    let index : c.in-Read.index.0 < c.args.part = search rules in
    c.find_term-in-Read.ensures n (omega arith) (c.in_ok-find_column-in-Read.ensures n (omega arith) before)

pub returns-in_ok-find_term-in-Store : goal.returns-in_ok-find_term-in-Store
returns-in_ok-find_term-in-Store g c n within before =
    let below : c.in-Store.below.0 < c.args.part = search rules in
    let index : c.in-Store.index.0 < c.args.part = search rules in
    let value : c.in-Store.value.0 < c.args.part = search rules in
    c.find_term-in-Store-2.ensures n (omega arith) (c.in_ok-find_term-in-Store.ensures n (omega arith) (c.in_ok-find_column-in-Store.ensures n (omega arith) before))

pub returns-in_ok-find_term-in-Add : goal.returns-in_ok-find_term-in-Add
returns-in_ok-find_term-in-Add g c n within before =
    let left : c.in-Add.left.0 < c.args.part = search rules in
    let right : c.in-Add.right.0 < c.args.part = search rules in
    c.find_term-in-Add-2.ensures n (omega arith) (c.in_ok-find_term-in-Add.ensures n (omega arith) before)
