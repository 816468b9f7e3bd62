use Rattle.lc_cond_text.proofs.lines.fill.Goals as goal

pub go_on-requires : goal.go_on-requires
go_on-requires c = c.loop-piece.invariant.left
