use Rattle.std.proofs.Common.{◌∙◌, None, Some}
use Rattle.clap.specs.Words.{found_of}
use Rattle.lc_words.proofs.Found.{flag_found}
use Rattle.lc_words.proofs.reading.is_set.Goals as goal

pub returns-in-Some : goal.returns-in-Some
returns-in-Some c = c.eq.ensures ∙ flag_found (found_of c.args.command.now) c.args.name.now (Some c.in-Some.value.now) c.in-Some.ensures

pub returns-in-None : goal.returns-in-None
returns-in-None c = flag_found (found_of c.args.command.now) c.args.name.now None c.in-None.ensures
