use Rattle.lc_outline_claims.proofs.developments.beginning_lines.Goals as goal

pub returns : goal.returns
returns c = c.new.ensures.text
