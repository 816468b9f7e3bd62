use Rattle.lc_sexp.specs.Shown.{rest_of}
use Rattle.lc_object.specs.View.{parts_of}
use Rattle.lc_reading.proofs.Combined.{ok_arm}
use Rattle.lc_object_text.specs.Objects.{file_reading}
use Rattle.lc_object_text.proofs.ObjectHolds.{is_well_formed}
use Rattle.lc_object_text.proofs.file.object_at.Goals as goal

pub of_parts-requires : goal.of_parts-requires
of_parts-requires c =
    is_well_formed (rest_of c.args.forms) (parts_of c.in_ok-parts.parts)
    (ok_arm parts_of (file_reading (rest_of c.args.forms)) c.read_file.result c.in_ok-parts.parts c.read_file.ensures c.in_ok-parts.was)
