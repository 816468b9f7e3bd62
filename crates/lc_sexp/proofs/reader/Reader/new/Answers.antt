use Rattle.std.proofs.Common.{refl}
use Rattle.lc_sexp.proofs.Fed.{after_new}
use Rattle.lc_sexp.proofs.reader.Reader.new.Goals as goal

pub returns-clause-start : goal.returns-clause-start
returns-clause-start c = after_new _ refl c.new.ensures.offset c.new.ensures.depth c.new.ensures.comment c.new.ensures.splits
