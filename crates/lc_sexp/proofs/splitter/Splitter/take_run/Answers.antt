use Rattle.std.proofs.Common.{◌++◌, refl, sym, ap, ◌∙◌, subst, arith}
use Rattle.lc_sexp.specs.Splitting.{Splits}
use Rattle.lc_sexp.specs.Progress.{told}
use Rattle.lc_sexp.specs.Flat.{is_rooted}
use Rattle.lc_sexp.specs.declared.class.Class.TheVariants.{White, Open, Close}
use Rattle.lc_sexp.proofs.Runs.{told_whites, seen_of, seen_letters, seen_byte, seen_wordless}
use Rattle.lc_sexp.proofs.Splits.{machine_step, count_step}
use Rattle.lc_sexp.proofs.splitter.Splitter.take_run.Goals as goal

pub push_letters-requires-clause-letters : goal.push_letters-requires-clause-letters
push_letters-requires-clause-letters c = seen_letters c.args.run.class c.args.bytes.now c.requires.seen.0 c.in-Letter.is c.requires.seen.1

pub returns-in_ok-push_letters-in-Letter-clause-splits : goal.returns-in_ok-push_letters-in-Letter-clause-splits
returns-in_ok-push_letters-in-Letter-clause-splits c = λ went whole rest taken seen are h.
    let s = c.args.self.now in
    let m' = c.advance.new.self in
    let m = c.push_letters.new.self in
    let letters = c.in_ok-push_letters-in-Letter.ensures in
    machine_step whole (λ x. seen ++ rest x) rest taken (record s { machine = m' }) m
    (λ x. letters.told (rest x) ∙ ap (λ y. told m'.text.items m'.start m'.nodes.items (y ++ rest x)) (sym (are.letters c.in-Letter.is)))
    (λ r. ap (λ v. is_rooted v.items) c.push_letters.ensures.nodes ∙ r) (λ e o. ap (λ v. v.items) c.push_letters.ensures.holes ∙ o)
    (count_step whole (λ x. seen ++ rest x) taken s m' c.advance.ensures.told c.advance.ensures.nodes c.advance.ensures.holes h)

pub returns-in_ok-end_word-in-White-clause-splits : goal.returns-in_ok-end_word-in-White-clause-splits
returns-in_ok-end_word-in-White-clause-splits c = λ went whole rest taken seen are h.
    let s = c.end_word.new.self in
    let k = s.machine.text.ok.0 in
    machine_step whole (λ x. seen ++ rest x) rest taken s s.machine
    (λ x. told_whites s.machine.text.items s.machine.start s.machine.nodes.items seen (rest x) (omega (arith, k, c.in_ok-end_word-in-White.ensures.word.ended)) (seen_of c.args.run.class White c.args.bytes.now seen c.in-White.is are))
    (λ r. r) (λ e o. o)
    (c.in_ok-end_word-in-White.ensures.word.splits whole (λ x. seen ++ rest x) taken (λ x. seen_wordless c.args.run.class White c.args.bytes.now seen (rest x) c.in-White.is refl c.requires.some are)
    (count_step whole (λ x. seen ++ rest x) taken c.args.self.now c.advance-in-White.new.self c.advance-in-White.ensures.told c.advance-in-White.ensures.nodes c.advance-in-White.ensures.holes h))

pub returns-in_ok-open_list-in-Open-clause-splits : goal.returns-in_ok-open_list-in-Open-clause-splits
returns-in_ok-open_list-in-Open-clause-splits c = λ went whole rest taken seen are h.
    let byte = seen_byte c.args.run.class Open c.args.bytes.now seen c.in-Open.is (λ n e. e) are in
    c.in_ok-open_list-in-Open.ensures.splits whole rest taken byte.0 byte.2
    (subst (λ y. Splits whole (λ x. y ++ rest x) taken c.end_word-in-Open.new.self) byte.1
    (c.in_ok-end_word-in-Open.ensures.word.splits whole (λ x. seen ++ rest x) taken (λ x. seen_wordless c.args.run.class Open c.args.bytes.now seen (rest x) c.in-Open.is refl c.requires.some are)
    (count_step whole (λ x. seen ++ rest x) taken c.args.self.now c.advance-in-Open.new.self c.advance-in-Open.ensures.told c.advance-in-Open.ensures.nodes c.advance-in-Open.ensures.holes h)))

pub returns-in_ok-close_list-in-Close-clause-splits : goal.returns-in_ok-close_list-in-Close-clause-splits
returns-in_ok-close_list-in-Close-clause-splits c = λ went whole rest taken seen are h.
    let byte = seen_byte c.args.run.class Close c.args.bytes.now seen c.in-Close.is (λ n e. e) are in
    c.in_ok-close_list-in-Close.ensures.splits whole rest taken byte.0 byte.2
    (subst (λ y. Splits whole (λ x. y ++ rest x) taken c.end_word-in-Close.new.self) byte.1
    (c.in_ok-end_word-in-Close.ensures.word.splits whole (λ x. seen ++ rest x) taken (λ x. seen_wordless c.args.run.class Close c.args.bytes.now seen (rest x) c.in-Close.is refl c.requires.some are)
    (count_step whole (λ x. seen ++ rest x) taken c.args.self.now c.advance-in-Close.new.self c.advance-in-Close.ensures.told c.advance-in-Close.ensures.nodes c.advance-in-Close.ensures.holes h)))
