use Rattle.lc_reading.specs.TableView.{listed}
use Rattle.lc_proof_text.proofs.Counted.{place_fits}
use Rattle.lc_proof_text.proofs.names.InClaimScope.column.Goals as goal

pub column_at-requires : goal.column_at-requires
column_at-requires c =
    let declared = c.args.self.now.0.now in
    rw c.place.ensures (place_fits (listed declared.columns) c.args.name.now declared.few_columns)
