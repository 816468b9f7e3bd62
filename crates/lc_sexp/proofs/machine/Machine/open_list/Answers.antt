use Rattle.std.proofs.Common.{arith, ◌++◌, ◌∷◌, [], ap, ◌∙◌}
use Rattle.lc_sexp.proofs.Nodes.{told_begun, begun_under_way, not_refused}
use Rattle.lc_sexp.proofs.Cuts.{rooted_open}
use Rattle.lc_sexp.proofs.machine.Machine.open_list.Goals as goal

pub invariant_of-self-else-is_err-clause-under_way : goal.invariant_of-self-else-is_err-clause-under_way
invariant_of-self-else-is_err-clause-under_way c =
    begun_under_way c.args.self.now.text.items c.args.self.now.start c.args.self.now.nodes.items c.push.new.self.items c.args.self.now.holes.items c.push-2.new.self.items
    c.in_ok-push.ensures.items (not_refused _ _ _ _ _ c.if-is_err.false c.is_err.ensures.negation c.push-2.ensures.items ∙ ap (λ n. c.args.self.now.holes.items ++ (n ∷ [])) (let k = c.args.self.now.nodes.ok.0 in omega (arith, c.len-at.ensures, k))) c.args.self.now.under_way

pub returns-clause-told : goal.returns-clause-told
returns-clause-told c = λ tokens.
    told_begun c.args.self.now.text.items c.args.self.now.start c.args.self.now.nodes.items c.push.new.self.items c.args.self.now.holes.items c.push-2.new.self.items tokens
    c.in_ok-push.ensures.items (not_refused _ _ _ _ _ c.if-is_err.false c.is_err.ensures.negation c.push-2.ensures.items ∙ ap (λ n. c.args.self.now.holes.items ++ (n ∷ [])) (let k = c.args.self.now.nodes.ok.0 in omega (arith, c.len-at.ensures, k))) c.args.self.now.under_way

pub returns-clause-rooted : goal.returns-clause-rooted
returns-clause-rooted c = λ r. rooted_open c.args.self.now.nodes.items c.push.new.self.items c.in_ok-push.ensures.items r
