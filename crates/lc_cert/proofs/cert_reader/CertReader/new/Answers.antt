use Rattle.std.proofs.Common.{[]}
use Rattle.lc_outline.specs.DevelopmentView.{development_view}
use Rattle.lc_cert.proofs.Pieces.{nothing_ended}
use Rattle.lc_outline.specs.ColumnNames.{column_names}
use Rattle.lc_cert.proofs.cert_reader.CertReader.new.Goals as goal

pub returns-clause-start : goal.returns-clause-start
returns-clause-start c =
    let D = development_view c.args.development.now in
    record { parts = []; all = nothing_ended; read = c.new.ensures.start; form = c.new-2.ensures.form (column_names D) D.object.name }
