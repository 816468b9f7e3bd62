use Rattle.std.proofs.Common.{◌≡◌, length, arith}
use Rattle.lc_sexp.proofs.Nodes.{told_word, word_under_way}
use Rattle.lc_sexp.proofs.Cuts.{rooted_more}
use Rattle.lc_sexp.proofs.machine.Machine.end_word.Goals as goal

pub invariant_of-self-2-clause-under_way : goal.invariant_of-self-2-clause-under_way
invariant_of-self-2-clause-under_way c =
    let k = c.args.self.now.text.ok.0 in
    let end : c.len-end.result ≡ length c.args.self.now.text.items = omega (arith, c.len-end.ensures, k) in
    word_under_way c.args.self.now.text.items c.args.self.now.start c.len-end.result c.args.self.now.nodes.items c.push.new.self.items c.args.self.now.holes.items
    end (omega (arith, c.args.self.now.begun, c.len-end.ensures)) c.in_ok-push.ensures.items c.args.self.now.under_way

pub returns-clause-told : goal.returns-clause-told
returns-clause-told c = λ rest b.
    let k = c.args.self.now.text.ok.0 in
    let end : c.len-end.result ≡ length c.args.self.now.text.items = omega (arith, c.len-end.ensures, k) in
    told_word c.args.self.now.text.items c.args.self.now.start c.len-end.result c.args.self.now.nodes.items c.push.new.self.items c.args.self.now.holes.items rest
    end (omega (arith, c.args.self.now.begun, c.len-end.ensures)) c.if-self-end.false c.args.self.now.letters c.in_ok-push.ensures.items c.args.self.now.under_way b

pub returns-clause-rooted : goal.returns-clause-rooted
returns-clause-rooted c = λ some r.
    rooted_more c.args.self.now.text.items c.args.self.now.start c.args.self.now.nodes.items c.push.new.self.items c.args.self.now.holes.items _ c.in_ok-push.ensures.items
    (let k = c.args.self.now.holes.ok.0 in omega (arith, k, some)) r c.args.self.now.under_way
