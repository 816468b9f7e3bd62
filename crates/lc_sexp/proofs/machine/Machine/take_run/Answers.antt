use Rattle.std.proofs.Common.{ap, sym, refl, ◌∙◌, ◌∷◌, ◌++◌, arith}
use Rattle.lc_sexp.specs.Text.{is_Letter}
use Rattle.lc_sexp.specs.Progress.{told}
use Rattle.lc_sexp.specs.declared.class.Class.TheVariants.{White, Open, Close}
use Rattle.lc_sexp.proofs.Nodes.{told_bracket, lexed_open, lexed_close}
use Rattle.lc_sexp.proofs.Runs.{told_whites, seen_of, seen_letters, seen_byte, seen_wordless}
use Rattle.lc_sexp.proofs.machine.Machine.take_run.Goals as goal

pub push_letters-requires-clause-letters : goal.push_letters-requires-clause-letters
push_letters-requires-clause-letters c = seen_letters c.args.run.class c.args.bytes.now c.requires.seen.0 c.in-Letter.is c.requires.seen.1

pub returns-in_ok-push_letters-in-Letter-clause-told : goal.returns-in_ok-push_letters-in-Letter-clause-told
returns-in_ok-push_letters-in-Letter-clause-told c = λ went seen h rest.
    let m = c.args.self.now in
    c.in_ok-push_letters-in-Letter.ensures.told rest ∙ c.advance.ensures.told (c.args.bytes.now ++ rest) ∙ ap (λ x. told m.text.items m.start m.nodes.items (x ++ rest)) (sym (h.letters c.in-Letter.is))

pub returns-in_ok-end_word-in-White-clause-told : goal.returns-in_ok-end_word-in-White-clause-told
returns-in_ok-end_word-in-White-clause-told c = λ went seen h rest.
    let m = c.end_word.new.self in
    let k = m.text.ok.0 in
    told_whites m.text.items m.start m.nodes.items seen rest (omega (arith, k, c.in_ok-end_word-in-White.ensures.ended)) (seen_of c.args.run.class White c.args.bytes.now seen c.in-White.is h)
    ∙ c.in_ok-end_word-in-White.ensures.told (seen ++ rest) (seen_wordless c.args.run.class White c.args.bytes.now seen rest c.in-White.is refl c.requires.some h)
    ∙ c.advance-in-White.ensures.told (seen ++ rest)

pub returns-in_ok-open_list-in-Open-clause-told : goal.returns-in_ok-open_list-in-Open-clause-told
returns-in_ok-open_list-in-Open-clause-told c = λ went seen h rest.
    let m = c.advance-in-Open.new.self in
    let k = c.end_word-in-Open.new.self.text.ok.0 in
    let byte = seen_byte c.args.run.class Open c.args.bytes.now seen c.in-Open.is (λ n e. e) h in
    told_bracket m.text.items c.end_word-in-Open.new.self.text.items c.open_list.new.self.text.items m.start c.end_word-in-Open.new.self.start c.open_list.new.self.start
    m.nodes.items c.end_word-in-Open.new.self.nodes.items c.open_list.new.self.nodes.items _ byte.0 rest
    c.in_ok-end_word-in-Open.ensures.told c.in_ok-open_list-in-Open.ensures.told (omega (arith, k, c.in_ok-end_word-in-Open.ensures.ended))
    (ap (λ v. v.items) c.open_list.ensures.text) c.open_list.ensures.start (ap is_Letter byte.2) (lexed_open byte.0 rest byte.2)
    ∙ c.advance-in-Open.ensures.told (byte.0 ∷ rest)
    ∙ ap (λ x. told c.args.self.now.text.items c.args.self.now.start c.args.self.now.nodes.items (x ++ rest)) (sym byte.1)

pub returns-in_ok-end_word-in-Close-clause-told : goal.returns-in_ok-end_word-in-Close-clause-told
returns-in_ok-end_word-in-Close-clause-told c = λ went seen h rest.
    let m = c.advance-in-Close.new.self in
    let k = c.end_word-in-Close.new.self.text.ok.0 in
    let byte = seen_byte c.args.run.class Close c.args.bytes.now seen c.in-Close.is (λ n e. e) h in
    told_bracket m.text.items c.end_word-in-Close.new.self.text.items c.close_list.new.self.text.items m.start c.end_word-in-Close.new.self.start c.close_list.new.self.start
    m.nodes.items c.end_word-in-Close.new.self.nodes.items c.close_list.new.self.nodes.items _ byte.0 rest
    c.in_ok-end_word-in-Close.ensures.told c.close_list.ensures.told (omega (arith, k, c.in_ok-end_word-in-Close.ensures.ended))
    (ap (λ v. v.items) c.close_list.ensures.text) c.close_list.ensures.start (ap is_Letter byte.2) (lexed_close byte.0 rest byte.2)
    ∙ c.advance-in-Close.ensures.told (byte.0 ∷ rest)
    ∙ ap (λ x. told c.args.self.now.text.items c.args.self.now.start c.args.self.now.nodes.items (x ++ rest)) (sym byte.1)
