use Rattle.lc_put.proofs.ReplacedStores.{column_part_at}
use Rattle.lc_put.proofs.Remembered.{column_noted, stands_later}
use Rattle.lc_term.specs.Replacement.{under_many}
use Rattle.lc_put.proofs.replacing.replaced_end.Goals as goal

pub returns-clause-done : goal.returns-clause-done
returns-clause-done g c =
    let now = c.replaced_root.new.table in
    let kept = c.in_ok-number.ensures.kept in
    let at = column_part_at (under_many c.args.depth g.R.Filled.replacement) c.args.table.now now c.args.base c.in_ok-number.number c.requires.there c.in_ok-number.ensures.id in
    column_noted g.R.Filled.replacement c.args.table.now now c.args.put.now c.args.done.now c.note_part.new.self c.args.base c.args.depth _ c.requires.there kept
    (stands_later g.R.Filled.replacement c.args.put.now _ _ _ c.requires.done kept) at c.in_ok-note_part.ensures.parts c.in_ok-note_part.ensures.formulas
