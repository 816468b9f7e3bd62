use Rattle.std.proofs.Common.{◌≡◌, ◌<◌, ◌≤◌, ◌∙◌, sym, ap, subst, map, length, arith}
use Rattle.std.proofs.lemmas.List.{take_all}
use Rattle.lc_term.specs.Said.{put}
use Rattle.lc_term.specs.View.{term_of}
use Rattle.lc_action.specs.Telling.{entry_of, columns_in}
use Rattle.lc_action.proofs.Columns.{IsAbsent}
use Rattle.lc_action.proofs.Entries.{replaced_entry, store_behind, absent_step}
use Rattle.lc_action.proofs.stored_columns.store.Goals as goal

pub returns-then-eq : goal.returns-then-eq
returns-then-eq c =
    let e : length c.loop-place.columns.items ≡ length c.args.columns.items = ap length c.loop-place.invariant.1 in
    let h : c.loop-place.place < length c.loop-place.columns.items = omega (arith, e, c.len-place-end.ensures, c.loop-place-test.true) in
    replaced_entry c.loop-place.columns.items c.loop-place.place c.index.result.now c.index_mut.result.now c.index_mut-then-eq.result.now
    c.replace-before.new.dest c.in_ok-columns.field-0 c.replace-before.result c.args.column.0 (term_of c.args.index) (term_of c.args.value) h
    c.index.ensures c.index_mut.ensures.value c.index_mut-then-eq.ensures.value (sym c.eq.ensures ∙ c.if-eq.true) c.replace-before.ensures.value c.in_ok-columns.ensures c.loop-place.invariant.0
    ∙ ap (λ cs. put (columns_in cs) (record { column = c.args.column.0; index = term_of c.args.index; value = term_of c.args.value })) c.loop-place.invariant.1

pub loop-place-preserved : goal.loop-place-preserved
loop-place-preserved c =
    let e : length c.loop-place.columns.items ≡ length c.args.columns.items = ap length c.loop-place.invariant.1 in
    let h : c.loop-place.place < length c.loop-place.columns.items = omega (arith, e, c.len-place-end.ensures, c.loop-place-test.true) in (
      absent_step c.loop-place.columns.items c.loop-place.place c.index.result.now c.args.column.0 h c.index.ensures (sym c.eq.ensures ∙ c.if-eq.false) c.loop-place.invariant.0,
      c.loop-place.invariant.1,
    )

pub returns : goal.returns
returns c =
    let e : length c.loop-place.columns.items ≡ length c.args.columns.items = ap length c.loop-place.invariant.1 in
    let h : length c.loop-place.columns.items ≤ c.loop-place.place = omega (arith, e, c.len-place-end.ensures, c.loop-place-test.false) in
    ap (λ cs. columns_in cs) c.in_ok-push.ensures.items
    ∙ store_behind c.loop-place.columns.items (c.args.column, c.in_ok-stored.stored) c.args.column.0 (term_of c.args.index) (term_of c.args.value)
    (subst (λ ps. IsAbsent c.args.column.0 (map entry_of ps)) (take_all c.loop-place.place c.loop-place.columns.items h) c.loop-place.invariant.0)
    (ap (λ x. (c.args.column.0, x)) c.in_ok-stored.ensures)
    ∙ ap (λ cs. put (columns_in cs) (record { column = c.args.column.0; index = term_of c.args.index; value = term_of c.args.value })) c.loop-place.invariant.1
