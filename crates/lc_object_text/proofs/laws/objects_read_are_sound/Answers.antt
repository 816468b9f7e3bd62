use Rattle.lc_object_text.proofs.ObjectHolds.{is_well_formed}
use Rattle.lc_object_text.proofs.laws.objects_read_are_sound.Goals as goal

pub returns : goal.returns
returns c = is_well_formed
