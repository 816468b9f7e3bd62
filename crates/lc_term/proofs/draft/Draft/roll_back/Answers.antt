use Rattle.std.proofs.Common.{◌∙◌, ap, map}
use Rattle.lc_term.specs.State.{column_at}
use Rattle.lc_term.specs.Written.{cells_from, taken_back, kept_of}
use Rattle.lc_term.proofs.Written.{state-is, count-taken}
use Rattle.lc_term.proofs.draft.Draft.roll_back.Goals as goal

pub returns-clause-written : goal.returns-clause-written
returns-clause-written c = state-is c.take_back.new.self ∙ ap (λ ks. column_at (map cells_from ks)) c.take_back.ensures.kept

pub returns-clause-saved : goal.returns-clause-saved
returns-clause-saved c =
    ap (λ us. column_at (map cells_from (taken_back (kept_of c.take_back.new.self) us))) c.take_back.ensures.none ∙ ap (λ ks. column_at (map cells_from ks)) c.take_back.ensures.kept

pub returns-clause-columns : goal.returns-clause-columns
returns-clause-columns c = count-taken c.args.self.now.state c.take_back.new.self c.args.self.now.done.items c.take_back.ensures.kept
