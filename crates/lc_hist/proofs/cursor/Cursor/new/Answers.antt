use Rattle.lc_hist.specs.declared.cursor.Place.TheVariants.{Fresh}
use Rattle.lc_hist.proofs.cursor.Cursor.new.Goals as goal

pub returns : goal.returns
returns c = c.spaces_end.ensures Fresh
