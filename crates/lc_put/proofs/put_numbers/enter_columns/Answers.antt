use Rattle.std.proofs.Common.{◌≡◌, ◌++◌, ◌∷◌, [], ap, subst, sym, ◌∙◌, rules, map, take}
use Rattle.std.proofs.lemmas.List.{map_more}
use Rattle.lc_base.specs.declared.ids.ColId.{ColId}
use Rattle.lc_table.specs.declared.node.ColExprId.{ColExprId}
use Rattle.lc_term.specs.Entries.{entry_of}
use Rattle.lc_put.specs.PutNumbers.{entry_in, AreColumns}
use Rattle.lc_put.proofs.ByNumber.{are_columns_pushed, entries_pushed}
use Rattle.lc_table.proofs.Later.{kept_on}
use Rattle.lc_put.proofs.put_numbers.enter_columns.Goals as goal

pub loop-entry-preserved : goal.loop-entry-preserved
loop-entry-preserved c =
    let i = c.loop-entry.invariant in
    let now = c.enter_column.new.self in
    let ps = c.loop-entry.entered.items in
    let p : ColId × ColExprId = (c.entry-item.result.0, c.in_ok-enter_column.field-0) in
    let at = c.in_ok-enter_column.ensures.id in
    let kept = c.in_ok-enter_column.ensures.kept in
    let items : c.push.new.self.items ≡ ps ++ p ∷ [] = search rules in
    let taken = map_more entry_of c.args.columns.now c.loop-entry.entry-index c.entry-item.result c.loop-entry-test.true in (
      kept_on c.args.table.now c.loop-entry.table now i.0 kept,
      subst (AreColumns now) (sym items) (are_columns_pushed c.loop-entry.table now ps p _ i.1 kept at),
      ap (map (entry_in now)) items ∙ entries_pushed c.loop-entry.table now ps p _ i.1 kept at ∙ ap (λ l. l ++ entry_of c.entry-item.result ∷ []) i.2
          ∙ ap (λ x. map entry_of (take c.loop-entry.entry-index c.args.columns.now) ++ entry_of x ∷ []) c.entry-item.is ∙ sym taken,
    )
