use Rattle.lc_linear.proofs.Owing.{together_begun, together_ended}
use Rattle.lc_linear.specs.Owed.{total}
use Rattle.lc_linear.proofs.shared.light_form.Goals as goal

pub loop-node-init : goal.loop-node-init
loop-node-init c = together_begun c.args.terms.now c.zero-form.result c.in_ok-owed.owed (total c.args.terms.now c.args.multiples.now) c.zero-form.ensures c.in_ok-owed.ensures

pub returns-then-is_constant : goal.returns-then-is_constant
returns-then-is_constant c =
    together_ended c.args.terms.now c.loop-node.form c.loop-node.owed (total c.args.terms.now c.args.multiples.now) (c.is_constant.ensures.0 c.if-is_constant.true) c.loop-node.invariant
