use Rattle.lc_base.specs.Name.{bytes_of}
use Rattle.lc_reading.proofs.Combined.{both_read}
use Rattle.lc_text.specs.Terms.{pair}
use Rattle.lc_rider_text.specs.Seen.{names_of}
use Rattle.lc_rider_text.proofs.action.read_heading.Goals as goal

pub returns : goal.returns
returns c = λ r h. rw c.both.ensures (both_read bytes_of names_of pair _ _ _ _ (rw c.from.ensures at c.read_kth_name.ensures) h)
