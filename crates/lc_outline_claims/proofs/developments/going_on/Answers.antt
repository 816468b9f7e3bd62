use Rattle.lc_outline_claims.proofs.developments.going_on.Goals as goal

pub returns-clause-piece : goal.returns-clause-piece
returns-clause-piece c = c.next_piece.ensures.piece

pub returns-clause-spent : goal.returns-clause-spent
returns-clause-spent c = c.next_piece.ensures.spent
