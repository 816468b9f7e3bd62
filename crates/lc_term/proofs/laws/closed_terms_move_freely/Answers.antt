use Rattle.lc_term.proofs.Closed.{shifted_closed, closed_fits, closed_put_fits, closed_open_fits}
use Rattle.lc_term.proofs.laws.closed_terms_move_freely.Goals as goal

pub returns-clause-same : goal.returns-clause-same
returns-clause-same c = shifted_closed

pub returns-clause-shift : goal.returns-clause-shift
returns-clause-shift c = closed_fits

pub returns-clause-substitute : goal.returns-clause-substitute
returns-clause-substitute c = closed_put_fits

pub returns-clause-instantiate : goal.returns-clause-instantiate
returns-clause-instantiate c = closed_open_fits
