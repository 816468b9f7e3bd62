use Rattle.std.proofs.Common.{◌≡◌, ◌==◌, false, refl, sym, ◌∙◌, arith}
use Rattle.std.proofs.lemmas.Bool.Decides.{nat_tests}
use Rattle.lc_outline_text.specs.StoredView.{round_of}
use Rattle.lc_outline_text.proofs.Sets.{in_again, put_in}
use Rattle.lc_outline_text.proofs.column_set.put.Goals as goal

pub returns-then-of-set-clause-more : goal.returns-then-of-set-clause-more
returns-then-of-set-clause-more c = in_again c.args.set.now c.args.column.now.0 c.requires (sym c.of.ensures ∙ c.if-of-set.true)

pub returns-clause-set : goal.returns-clause-set
returns-clause-set c =
    let before = c.of.ensures in
    let other = c.if-of-set.false in
    let out : (round_of c.args.set.now.rounds c.args.column.now.0 == c.args.set.now.round) ≡ false = grind (arith, nat_tests, before, other) in
    put_in c.args.set.now (record { columns = c.push.new.self; rounds = c.set.new.self; round = c.args.set.now.round }) c.args.column.now c.requires out c.in_ok-set.ensures c.in_ok-push.ensures.items refl
