use Rattle.std.proofs.Common.{◌≡◌, Some, refl}
use Rattle.std.specs.Prelude.{nat_eq}
use Rattle.std.specs.Map.{lookup}
use Rattle.lc_table.proofs.Chained.{where_some}
use Rattle.lc_copy.proofs.Copied.{column_found, column_noted, copies_kept}
use Rattle.lc_copy.proofs.copying.copied_below.Goals as goal

pub returns-in-Some-clause-id : goal.returns-in-Some-clause-id
returns-in-Some-clause-id c =
    column_found c.args.other.now c.args.table.now c.args.copied.now c.args.chain.now.base c.in-Some.number c.requires.copies c.requires.there
    (where_some (λ n. lookup (nat_eq c.args.chain.now.base.0) c.args.copied.now.parts.entries ≡ Some n) c.args.chain.now.known c.in-Some.number c.in-Some.is c.requires.known)

pub returns-in_ok-insert-in-None-clause-copies : goal.returns-in_ok-insert-in-None-clause-copies
returns-in_ok-insert-in-None-clause-copies c =
    let other = c.args.other.now in
    let now = c.copied_root.new.table in
    column_noted other now c.args.copied.now _ c.args.chain.now.base c.in_ok-number-in-None.number (copies_kept other c.args.table.now now _ c.requires.copies c.in_ok-number-in-None.ensures.kept) c.requires.there
    c.in_ok-number-in-None.ensures.id c.in_ok-insert-in-None.ensures.updates.0 refl
