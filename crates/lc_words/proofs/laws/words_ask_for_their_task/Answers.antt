use Rattle.lc_words.proofs.Plain.{words_ask}
use Rattle.lc_words.proofs.laws.words_ask_for_their_task.Goals as goal

pub returns : goal.returns
returns c = words_ask
