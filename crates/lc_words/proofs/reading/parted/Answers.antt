use Rattle.std.proofs.Common.{arith}
use Rattle.lc_words.proofs.Ranges.{parted_cut}
use Rattle.lc_words.proofs.reading.parted.Goals as goal

pub returns : goal.returns
returns c = parted_cut c.args.text.now c.split_once.result (c.split_once.ensures.byte (omega arith) (λ w o is. is))
