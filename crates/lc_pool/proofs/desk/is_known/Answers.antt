use Rattle.std.proofs.Common.{subst}
use Rattle.std.specs.Prelude.{IfSome}
use Rattle.std.proofs.lemmas.Result.{IfOk-weaker}
use Rattle.lc_cert.specs.ColumnNames.{names_with}
use Rattle.lc_cert.specs.EntryView.{entry_of}
use Rattle.lc_cert.specs.OneByOne.{IsReadAlone}
use Rattle.lc_outline.specs.ColumnNames.{column_names}
use Rattle.lc_pool.specs.Desks.{development_in, cuts_in, items_in}
use Rattle.lc_pool.proofs.desk.is_known.Goals as goal

pub returns-clause-known : goal.returns-clause-known
returns-clause-known c =
    let f = c.args.files.now in
    let alone = subst (λ o. IfSome o (λ e. IsReadAlone (names_with (column_names (development_in f))) f.file.now (cuts_in f) (items_in f) c.args.number (entry_of e))) c.in-Some.is c.in_ok-entry.ensures.alone in
    IfOk-weaker c.derives.result _ _ (λ good derived. λ yes'. record { entry = entry_of c.in-Some.entry; alone = alone; derived = derived yes' }) c.derives.ensures.derived
