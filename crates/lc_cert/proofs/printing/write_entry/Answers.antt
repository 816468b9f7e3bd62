use Rattle.lc_kernel.specs.View.{proof_of}
use Rattle.lc_reading.specs.Words.{names_in}
use Rattle.lc_cert.proofs.Written.{written_entry}
use Rattle.lc_cert.specs.ColumnNames.{spelled_with}
use Rattle.lc_cert.proofs.printing.write_entry.Goals as goal

pub returns : goal.returns
returns c =
    written_entry (spelled_with (names_in c.args.columns.now)) c.args.entry.now.number (proof_of c.args.entry.now.proof) _ _ _ _
    c.in_ok-write.ensures.bytes c.in_ok-write_proof.ensures.text c.in_ok-push_str.ensures.bytes
