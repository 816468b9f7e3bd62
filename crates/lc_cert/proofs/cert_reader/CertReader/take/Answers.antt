use Rattle.std.proofs.Common.{[], ◌∷◌, ◌++◌}
use Rattle.lc_cert.proofs.Pieces.{if_some, if_none, under_way_with}
use Rattle.lc_outline.specs.ColumnNames.{column_names}
use Rattle.lc_cert.specs.EntryView.{entry_of}
use Rattle.lc_cert.proofs.cert_reader.CertReader.take.Goals as goal

pub returns-clause-entry : goal.returns-clause-entry
returns-clause-entry c =
    if_some c.take.result _ _
    (λ entry g D fed taken h. under_way_with (column_names D) D.object.name fed taken (taken ++ (entry_of entry ∷ [])) c.args.self.now c.take.new.self (λ parts. g (column_names D) D.object.name parts taken) h)
    c.take.ensures.entry

pub returns-clause-none : goal.returns-clause-none
returns-clause-none c =
    if_none c.take.result _ _
    (λ g D fed taken h. under_way_with (column_names D) D.object.name fed taken taken c.args.self.now c.take.new.self (λ parts. g (column_names D) D.object.name parts taken) h)
    c.take.ensures.none
