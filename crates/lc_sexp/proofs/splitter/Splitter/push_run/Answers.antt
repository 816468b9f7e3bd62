use Rattle.std.proofs.Common.{ℕ, ◌+◌, [], ◌∷◌, ◌++◌, get_or, take, false, not, vec_len, if◌then◌else◌, sym, ap, ◌∙◌, subst, arith}
use Rattle.lc_sexp.specs.Text.{is_Letter, uncommented}
use Rattle.lc_sexp.specs.Splitting.{Splits, depth_of}
use Rattle.lc_sexp.specs.Runs.{IsRun}
use Rattle.lc_sexp.proofs.Runs.{fault_taken, fault_refused, fault_word, told_whites, uncommented_word}
use Rattle.lc_sexp.proofs.Splits.{machine_step, count_step, run_step}
use Rattle.lc_sexp.proofs.splitter.Splitter.push_run.Goals as goal

pub returns-then-not-branch-clause-wrong : goal.returns-then-not-branch-clause-wrong
returns-then-not-branch-clause-wrong c = λ none rest.
    let s = c.args.self.now in
    fault_refused s.machine.in_comment c.args.bytes.now c.first_run-run.result s.machine.offset (depth_of s)
    (subst (λ b. IsRun b c.args.bytes.now c.first_run-run.result) c.in_comment.ensures c.first_run-run.ensures) (c.in_ok-take_run.ensures.placed ∙ ap not c.if-not-branch.true) rest

pub returns-then-is_word_before_white-clause-splits : goal.returns-then-is_word_before_white-clause-splits
returns-then-is_word_before_white-clause-splits c = λ some whole taken h.
    let s = c.args.self.now in
    let s' = c.end_word.new.self in
    let m' = s'.machine in
    let k = m'.text.ok.0 in
    let run = c.first_run-run.result in
    let is = subst (λ b. IsRun b c.args.bytes.now run) c.in_comment.ensures c.first_run-run.ensures in
    let w = c.is_word_before_white.ensures c.if-is_word_before_white.true in
    let b : ℕ = get_or c.args.bytes.now run.length 0 in
    let front = take (run.length + 1) c.args.bytes.now in
    let ended = c.in_ok-end_word.ensures in
    subst (λ d. Splits (λ x. whole (front ++ x)) (uncommented d) taken s') (sym (ended.place.comment ∙ c.advance.ensures.comment))
    (machine_step (λ x. whole (front ++ x)) (λ x. b ∷ uncommented false x) (uncommented false) taken s' m'
    (λ x. told_whites m'.text.items m'.start m'.nodes.items (b ∷ []) (uncommented false x) (omega (arith, k, ended.word.ended)) (w.white, tt)) (λ r. r) (λ e o. o)
    (ended.word.splits (λ x. whole (front ++ x)) (λ x. b ∷ uncommented false x) taken (λ x. ap is_Letter w.white)
    (count_step (λ x. whole (front ++ x)) (λ x. b ∷ uncommented false x) taken c.take_run.new.self c.advance.new.self c.advance.ensures.told c.advance.ensures.nodes c.advance.ensures.holes
    (c.in_ok-take_run.ensures.splits c.if-not-branch.false (λ x. whole (front ++ x)) (λ x. b ∷ uncommented false x) taken is.seen is.counts
    (run_step whole taken s front (λ x. is.seen ++ (b ∷ uncommented false x)) (uncommented_word s.machine.in_comment c.args.bytes.now run is w) h)))))

pub returns-then-is_word_before_white-clause-fault : goal.returns-then-is_word_before_white-clause-fault
returns-then-is_word_before_white-clause-fault c = λ some rest.
    let s = c.args.self.now in
    let s' = c.end_word.new.self in
    let run = c.first_run-run.result in
    let is = subst (λ b. IsRun b c.args.bytes.now run) c.in_comment.ensures c.first_run-run.ensures in
    let taken = c.in_ok-take_run.ensures in
    let place = c.in_ok-end_word.ensures.place in
    fault_word s.machine.in_comment s'.machine.in_comment c.args.bytes.now run s.machine.offset s'.machine.offset (depth_of s) (depth_of s')
    is (c.is_word_before_white.ensures c.if-is_word_before_white.true) c.requires.room (omega (arith, place.offset, c.advance.ensures.offset, taken.offset c.if-not-branch.false))
    (ap (λ v. vec_len v + (if s'.in_list then 1 else 0)) (place.holes ∙ c.advance.ensures.holes) ∙ ap (λ l. vec_len c.take_run.new.self.machine.holes + (if l then 1 else 0)) place.in_list ∙ taken.depth c.if-not-branch.false)
    (place.comment ∙ c.advance.ensures.comment) rest

pub returns-clause-splits : goal.returns-clause-splits
returns-clause-splits c = λ some whole taken h.
    let s = c.args.self.now in
    let run = c.first_run-run.result in
    let is = subst (λ b. IsRun b c.args.bytes.now run) c.in_comment.ensures c.first_run-run.ensures in
    let front = take run.length c.args.bytes.now in
    let went = c.if-not-branch.false in
    subst (λ b. Splits (λ x. whole (front ++ x)) (uncommented b) taken c.take_run.new.self) (sym (c.in_ok-take_run.ensures.comment went))
    (c.in_ok-take_run.ensures.splits went (λ x. whole (front ++ x)) (uncommented run.in_comment) taken is.seen is.counts
    (run_step whole taken s front (λ x. is.seen ++ uncommented run.in_comment x) is.uncomments h))

pub returns-clause-fault : goal.returns-clause-fault
returns-clause-fault c = λ some rest.
    let s = c.args.self.now in
    let s' = c.take_run.new.self in
    let run = c.first_run-run.result in
    let is = subst (λ b. IsRun b c.args.bytes.now run) c.in_comment.ensures c.first_run-run.ensures in
    let went = c.if-not-branch.false in
    let taken = c.in_ok-take_run.ensures in
    fault_taken s.machine.in_comment s'.machine.in_comment c.args.bytes.now run s.machine.offset s'.machine.offset (depth_of s) (depth_of s')
    is (taken.placed ∙ ap not went) (omega (arith, is.within, c.requires.room)) (taken.offset went) (taken.depth went) (taken.comment went) rest
