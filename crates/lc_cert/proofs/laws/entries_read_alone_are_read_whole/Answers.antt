use Rattle.lc_cert.proofs.OneByOne.{read_alone_is_read_whole}
use Rattle.lc_cert.proofs.laws.entries_read_alone_are_read_whole.Goals as goal

pub returns : goal.returns
returns c = read_alone_is_read_whole
