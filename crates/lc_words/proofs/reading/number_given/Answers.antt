use Rattle.std.proofs.Common.{◌∙◌, None, Some}
use Rattle.clap.specs.Words.{found_of}
use Rattle.lc_words.proofs.Workers.{number_found}
use Rattle.lc_words.proofs.reading.number_given.Goals as goal

pub returns-in_err-get_str : goal.returns-in_err-get_str
returns-in_err-get_str c = rw c.from_residual.ensures (number_found (found_of c.args.command.now) c.args.name.now None c.in_err-get_str.ensures)

pub returns : goal.returns
returns c =
    let text = c.in_ok-get_str.field-0.now in
    c.number_in.ensures ∙ number_found (found_of c.args.command.now) c.args.name.now (Some text) c.in_ok-get_str.ensures
