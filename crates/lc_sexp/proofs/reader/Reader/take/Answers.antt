use Rattle.std.proofs.Common.{◌∙◌, sym}
use Rattle.lc_sexp.proofs.Fed.{if_none, none_ready, after_none}
use Rattle.lc_sexp.proofs.reader.Reader.take.Goals as goal

pub returns-clause-all : goal.returns-clause-all
returns-clause-all c =
    if_none c.pop_front.result c.args.self.now.splitter.ready.items c.pop_front.new.self.items _ c.pop_front.ensures.items c.pop_front.ensures.rest
    (λ e f spent fed taken h. none_ready fed taken c.args.self.now e h)

pub returns-clause-none : goal.returns-clause-none
returns-clause-none c =
    if_none c.pop_front.result c.args.self.now.splitter.ready.items c.pop_front.new.self.items _ c.pop_front.ensures.items c.pop_front.ensures.rest
    (λ e f fed taken h. after_none fed taken c.args.self.now c.pop_front.new.self (f ∙ sym e) h)
