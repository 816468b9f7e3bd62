use Rattle.std.proofs.Common.{ℕ, List, [], ◌∷◌, get_or, false, Some, vec_len, not, sym, ap, ◌∙◌, arith}
use Rattle.lc_sexp.specs.Text.{is_Letter, uncommented}
use Rattle.lc_sexp.specs.Progress.{told}
use Rattle.lc_sexp.proofs.Runs.{fault_taken, fault_refused, fault_word, run_comment, told_whites, word_comment, uncommented_word}
use Rattle.lc_sexp.proofs.machine.Machine.push_run.Goals as goal

pub returns-then-not-branch-clause-wrong : goal.returns-then-not-branch-clause-wrong
returns-then-not-branch-clause-wrong c = λ none rest.
    let m = c.args.self.now in
    fault_refused m.in_comment c.args.bytes.now c.first_run-run.result m.offset (vec_len m.holes) c.first_run-run.ensures
    (c.in_ok-take_run.ensures.placed ∙ ap not c.if-not-branch.true) rest
    ∙ ap (λ m. Some m.offset) (sym (c.in_ok-take_run.ensures.same c.if-not-branch.true))

pub returns-then-is_word_before_white-clause-told : goal.returns-then-is_word_before_white-clause-told
returns-then-is_word_before_white-clause-told c = λ some rest.
    let m = c.args.self.now in
    let m' = c.end_word.new.self in
    let k = m'.text.ok.0 in
    let is = c.first_run-run.ensures in
    let w = c.is_word_before_white.ensures c.if-is_word_before_white.true in
    let b : ℕ = get_or c.args.bytes.now c.first_run-run.result.length 0 in
    let text : List ℕ = b ∷ uncommented false rest in
    let ended = c.in_ok-end_word.ensures in
    ap (λ d. told m'.text.items m'.start m'.nodes.items (uncommented d rest)) (ended.comment ∙ c.advance.ensures.comment)
    ∙ told_whites m'.text.items m'.start m'.nodes.items (b ∷ []) (uncommented false rest) (omega (arith, k, ended.ended)) (w.white, tt)
    ∙ ended.told text (ap is_Letter w.white) ∙ c.advance.ensures.told text ∙ c.in_ok-take_run.ensures.told c.if-not-branch.false is.seen is.counts text
    ∙ ap (told m.text.items m.start m.nodes.items) (sym (uncommented_word m.in_comment c.args.bytes.now c.first_run-run.result is w rest))

pub returns-then-is_word_before_white-clause-fault : goal.returns-then-is_word_before_white-clause-fault
returns-then-is_word_before_white-clause-fault c = λ some rest.
    let m = c.args.self.now in
    let m' = c.end_word.new.self in
    let taken = c.in_ok-take_run.ensures in
    let ended = c.in_ok-end_word.ensures in
    fault_word m.in_comment m'.in_comment c.args.bytes.now c.first_run-run.result m.offset m'.offset (vec_len m.holes) (vec_len m'.holes)
    c.first_run-run.ensures (c.is_word_before_white.ensures c.if-is_word_before_white.true) c.requires.room
    (omega (arith, ended.offset, c.advance.ensures.offset, taken.offset c.if-not-branch.false)) (ap (λ v. vec_len v) (ended.holes ∙ c.advance.ensures.holes) ∙ taken.depth c.if-not-branch.false) (ended.comment ∙ c.advance.ensures.comment) rest

pub returns-then-is_word_before_white-clause-comment : goal.returns-then-is_word_before_white-clause-comment
returns-then-is_word_before_white-clause-comment c = λ some.
    c.in_ok-end_word.ensures.comment ∙ c.advance.ensures.comment
    ∙ word_comment c.args.self.now.in_comment c.args.bytes.now c.first_run-run.result c.first_run-run.ensures (c.is_word_before_white.ensures c.if-is_word_before_white.true)

pub returns-clause-fault : goal.returns-clause-fault
returns-clause-fault c = λ some rest.
    let m = c.args.self.now in
    let m' = c.take_run.new.self in
    let run = c.first_run-run.result in
    let is = c.first_run-run.ensures in
    let went = c.if-not-branch.false in
    let taken = c.in_ok-take_run.ensures in
    fault_taken m.in_comment m'.in_comment c.args.bytes.now run m.offset m'.offset (vec_len m.holes) (vec_len m'.holes)
    is (taken.placed ∙ ap not went) (omega (arith, is.within, c.requires.room)) (taken.offset went) (taken.depth went) (taken.comment went) rest

pub returns-clause-comment : goal.returns-clause-comment
returns-clause-comment c = λ some.
    c.in_ok-take_run.ensures.comment c.if-not-branch.false
    ∙ run_comment c.args.self.now.in_comment c.args.bytes.now c.first_run-run.result c.first_run-run.ensures
