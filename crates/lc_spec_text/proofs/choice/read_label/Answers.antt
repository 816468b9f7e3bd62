use Rattle.lc_base.specs.Name.{bytes_of}
use Rattle.lc_reading.proofs.Combined.{both_read}
use Rattle.lc_text.specs.Terms.{pair}
use Rattle.lc_spec_text.specs.Seen.{names_of}
use Rattle.lc_spec_text.proofs.choice.read_label.Goals as goal

pub returns : goal.returns
returns c = λ r h. rw c.both.ensures (both_read bytes_of names_of pair _ _ _ _ c.read_name.ensures h)
