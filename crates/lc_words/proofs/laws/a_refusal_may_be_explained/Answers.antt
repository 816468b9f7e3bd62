use Rattle.lc_words.proofs.Plain.{explained_words_ask}
use Rattle.lc_words.proofs.laws.a_refusal_may_be_explained.Goals as goal

pub returns : goal.returns
returns c = explained_words_ask
