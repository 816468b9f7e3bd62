use Rattle.std.proofs.Common.{◌∙◌, sym}
use Rattle.lc_seq.specs.TextView.{specification_of}
use Rattle.lincheck.proofs.Drawn.{traced, untraced}
use Rattle.lincheck.proofs.draw.shown_of.Goals as goal

pub returns-then-not-is_traced : goal.returns-then-not-is_traced
returns-then-not-is_traced c = untraced c.args.shown (specification_of c.args.spec.now) c.args.bytes.now c.picture_of.result (sym c.is_traced.ensures ∙ c.if-not-is_traced.true) c.picture_of.ensures

pub returns : goal.returns
returns c = traced c.args.shown (specification_of c.args.spec.now) c.args.bytes.now c.in_ok-text.text.items (sym c.is_traced.ensures ∙ c.if-not-is_traced.false) c.in_ok-text.ensures
