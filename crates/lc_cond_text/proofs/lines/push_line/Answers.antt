use Rattle.std.proofs.Common.{rules}
use Rattle.lc_outline.specs.DevelopmentView.{development_view}
use Rattle.lc_cond_text.proofs.LeftOver.{next_there, line_more}
use Rattle.lc_cond_text.proofs.lines.push_line.Goals as goal

pub push_condition-requires-clause-condition : goal.push_condition-requires-clause-condition
push_condition-requires-clause-condition c =
    let l = c.args.left.now in
    (next_there l.terms l.part.items l.written c.index-condition.result.now c.requires.some c.index-condition.ensures c.requires.left.are).0

pub returns : goal.returns
returns c =
    let l = c.args.left.now in
    line_more (development_view c.args.development.now) l.stream l.terms l.texts c.push_condition.new.texts l.most l.part l.written l.number _ _ c.index-condition.result.now c.args.piece.now.items c.push_text.new.out.items
    c.requires.some c.index-condition.ensures (search rules) (search rules) (search rules) c.requires.left.are c.in_ok-push_condition.ensures.recalls
