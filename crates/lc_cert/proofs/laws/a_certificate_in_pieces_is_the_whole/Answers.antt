use Rattle.lc_cert.proofs.Pieces.{few_taken, entries_first, pieces_same}
use Rattle.lc_cert.proofs.laws.a_certificate_in_pieces_is_the_whole.Goals as goal

pub returns : goal.returns
returns c = record { same = pieces_same; first = entries_first; few_steps = few_taken }
