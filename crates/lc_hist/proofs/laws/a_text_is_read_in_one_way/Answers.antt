use Rattle.lc_hist.proofs.JsonAlways.{said_or_wrong}
use Rattle.lc_hist.proofs.JsonOnce.{one_history, one_item, not_both}
use Rattle.lc_hist.proofs.laws.a_text_is_read_in_one_way.Goals as goal

pub returns : goal.returns
returns c = record { said_or_wrong = said_or_wrong; one_history = one_history; one_item = one_item; not_both = not_both }
