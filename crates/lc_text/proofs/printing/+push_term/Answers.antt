use Rattle.std.proofs.Common.{◌≡◌, ◌++◌, [], append_assoc, append-nil, add-one, ap, sym, ◌∙◌, string_bytes, arith, rules}
use Rattle.std.specs.Prelude.{codes}
use Rattle.lc_term.specs.View.{column_of}
use Rattle.lc_term.proofs.Chained.{store_inside, rest_inside}
use Rattle.lc_text.proofs.Stores.{opened, one_written, all_written}
use Rattle.lc_text.proofs.printing.+push_term.Goals as goal

pub push_column-loop-init : goal.push_column-loop-init
push_column-loop-init g t c = sym (append-nil (string_bytes c.args.out.now))

pub push_column-loop-preserved : goal.push_column-loop-preserved
push_column-loop-preserved g t c =
    let before = string_bytes c.args.out.now in
    c.in_ok-push_str.ensures.bytes ∙ ap (λ l. l ++ codes "(store ") c.loop.invariant ∙ append_assoc before (opened c.loop.counter) (codes "(store ")
    ∙ ap (λ n. before ++ opened n) (sym (add-one c.loop.counter))

pub push_column-push_term-requires : goal.push_column-push_term-requires
push_column-push_term-requires g t c =
    let inside = store_inside c.args.column.now c.stores.chain.stores.items c.pop.new.self.items c.in-Some.store c.in-Some.ensures.items c.stores.invariant.0 in
    let less = inside.0 in
    λ κs lives. (omega arith, lives)

pub push_column-push_term-requires-in-Some : goal.push_column-push_term-requires-in-Some
push_column-push_term-requires-in-Some g t c =
    let inside = store_inside c.args.column.now c.stores.chain.stores.items c.pop.new.self.items c.in-Some.store c.in-Some.ensures.items c.stores.invariant.0 in
    let less = inside.1 in
    λ κs lives. (omega arith, lives)

pub push_column-stores-preserved : goal.push_column-stores-preserved
push_column-stores-preserved g t c =
    let whole = c.args.column.now in
    let all = c.stores.chain.stores.items in
    let ss = c.pop.new.self.items in (
      rest_inside whole all ss c.in-Some.store c.in-Some.ensures.items c.stores.invariant.0,
      one_written (g.S.Spelling.spelled c.args.spelling.now) c.args.depth (string_bytes c.args.out.now) (string_bytes c.stores.out) (string_bytes c.push_str-in-Some.new.self) (string_bytes c.push_term.new.out)
          (string_bytes c.push_str-in-Some-2.new.self) (string_bytes c.push_term-in-Some.new.out) (string_bytes c.push_str-in-Some-3.new.self) (column_of whole) all ss c.in-Some.store c.in-Some.ensures.items
          c.stores.invariant.1 c.in_ok-push_str-2.ensures.bytes c.in_ok-push_term.ensures c.in_ok-push_str-3.ensures.bytes c.in_ok-push_term-2.ensures c.in_ok-push_str-4.ensures.bytes,
    )

pub push_column-returns : goal.push_column-returns
push_column-returns g t c =
    let none : c.stores.chain.stores.items ≡ [] = search rules in
    all_written (g.S.Spelling.spelled c.args.spelling.now) c.args.depth (string_bytes c.args.out.now) (string_bytes c.stores.out) (column_of c.args.column.now) c.stores.chain.stores.items none c.stores.invariant.1
