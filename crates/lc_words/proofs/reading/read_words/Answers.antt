use Rattle.std.proofs.lemmas.Result.{err_from_is_err_and}
use Rattle.clap.specs.Words.{app_of}
use Rattle.lc_words.specs.Tasks.{task_of, texts_of}
use Rattle.lc_words.proofs.Faults.{taken_fault, wrong_fault, help_asked, no_help, not_wrong, nothing_asked, any_err, reads_explained, reads_request, memory_told}
use Rattle.lc_words.proofs.reading.read_words.Goals as goal

pub returns-in_err-matches-clause-taken : goal.returns-in_err-matches-clause-taken
returns-in_err-matches-clause-taken c =
    let p = err_from_is_err_and c.from_residual-in_err-matches.result c.from_residual-in_err-matches.ensures.1 in
    rw (p.1, p.2) (taken_fault (app_of c.in_ok-program.field-0) (texts_of c.args.words.now) c.in_err-matches.field-0.0 c.in_ok-program.ensures c.in_err-matches.ensures.passes)

pub returns-in_err-matches-clause-wrong : goal.returns-in_err-matches-clause-wrong
returns-in_err-matches-clause-wrong c =
    let p = err_from_is_err_and c.from_residual-in_err-matches.result c.from_residual-in_err-matches.ensures.1 in
    rw (p.1, p.2) (wrong_fault (app_of c.in_ok-program.field-0) (texts_of c.args.words.now) c.in_err-matches.field-0.0 c.in_ok-program.ensures c.in_err-matches.ensures.kinds)

pub returns-in-Some-clause-reads : goal.returns-in-Some-clause-reads
returns-in-Some-clause-reads c =
    reads_request (app_of c.in_ok-program.field-0) (texts_of c.args.words.now) c.in_ok-matches.matches c.in-Some.request c.in_ok-program.ensures c.in_ok-matches.ensures.matches c.in-Some.ensures

pub returns-in_err-error-in-None-clause-wrong : goal.returns-in_err-error-in-None-clause-wrong
returns-in_err-error-in-None-clause-wrong c = λ wrong. memory_told c.from_residual-in_err-error-in-None.result c.from_residual-in_err-error-in-None.ensures.1

pub returns-in-Some-clause-wrong : goal.returns-in-Some-clause-wrong
returns-in-Some-clause-wrong c =
    not_wrong (app_of c.in_ok-program.field-0) (texts_of c.args.words.now) c.in_ok-matches.matches (task_of c.in-Some.request) c.in_ok-program.ensures c.in_ok-matches.ensures.kinds
    c.in_ok-matches.ensures.matches c.in-Some.ensures

pub returns-in_err-error-in-None-clause-taken : goal.returns-in_err-error-in-None-clause-taken
returns-in_err-error-in-None-clause-taken c =
    any_err (texts_of c.args.words.now) c.from_residual-in_err-error-in-None.result
    (nothing_asked (app_of c.in_ok-program.field-0) (texts_of c.args.words.now) c.in_ok-matches.matches c.in_ok-program.ensures c.in_ok-matches.ensures.matches c.in-None.ensures)

pub returns-clause-taken : goal.returns-clause-taken
returns-clause-taken c = λ task ask.
    absurd (nothing_asked (app_of c.in_ok-program.field-0) (texts_of c.args.words.now) c.in_ok-matches.matches c.in_ok-program.ensures c.in_ok-matches.ensures.matches c.in-None.ensures task ask)

pub returns-in_err-matches-clause-help : goal.returns-in_err-matches-clause-help
returns-in_err-matches-clause-help c =
    let p = err_from_is_err_and c.from_residual-in_err-matches.result c.from_residual-in_err-matches.ensures.1 in
    rw (p.1, p.2) (help_asked (app_of c.in_ok-program.field-0) (texts_of c.args.words.now) c.in_err-matches.field-0.0 c.in_ok-program.ensures c.in_err-matches.ensures.kinds)

pub returns-in-Some-clause-help : goal.returns-in-Some-clause-help
returns-in-Some-clause-help c = no_help (app_of c.in_ok-program.field-0) (texts_of c.args.words.now) c.in_ok-program.ensures c.in_ok-matches.ensures.kinds

pub returns-in_err-error-in-None-clause-help : goal.returns-in_err-error-in-None-clause-help
returns-in_err-error-in-None-clause-help c = λ help. absurd (no_help (app_of c.in_ok-program.field-0) (texts_of c.args.words.now) c.in_ok-program.ensures c.in_ok-matches.ensures.kinds help)

pub returns-clause-help : goal.returns-clause-help
returns-clause-help c = λ help. absurd (no_help (app_of c.in_ok-program.field-0) (texts_of c.args.words.now) c.in_ok-program.ensures c.in_ok-matches.ensures.kinds help)

pub returns-in-Some-clause-explained : goal.returns-in-Some-clause-explained
returns-in-Some-clause-explained c =
    reads_explained (app_of c.in_ok-program.field-0) (texts_of c.args.words.now) c.in_ok-matches.matches c.is_explained.result c.in_ok-program.ensures c.in_ok-matches.ensures.matches
    c.is_explained.ensures
