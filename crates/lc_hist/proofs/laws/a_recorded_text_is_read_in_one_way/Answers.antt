use Rattle.lc_hist.proofs.JsonAlways.{recorded_or_wrong}
use Rattle.lc_hist.proofs.JsonAnswers.{history_is_recorded}
use Rattle.lc_hist.proofs.JsonOnce.{one_recorded, one_recorded_item, recorded_not_wrong}
use Rattle.lc_hist.proofs.laws.a_recorded_text_is_read_in_one_way.Goals as goal

pub returns : goal.returns
returns c = record { said_or_wrong = recorded_or_wrong; one_history = one_recorded; one_item = one_recorded_item; not_both = recorded_not_wrong; with_order = history_is_recorded }
