use Rattle.lc_words.proofs.commands.program.Goals as goal

pub returns : goal.returns
returns c = c.program_of.ensures
