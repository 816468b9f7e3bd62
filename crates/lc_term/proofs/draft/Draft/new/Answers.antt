use Rattle.std.proofs.Common.{◌∙◌, sym, ap, map}
use Rattle.lc_term.specs.State.{column_at}
use Rattle.lc_term.specs.Written.{kept_of, taken_back, cells_from}
use Rattle.lc_term.proofs.Written.{state-is}
use Rattle.lc_term.proofs.draft.Draft.new.Goals as goal

pub returns-clause-saved : goal.returns-clause-saved
returns-clause-saved c =
    ap (λ us. column_at (map cells_from (taken_back (kept_of c.args.state) us))) c.new.ensures.items ∙ sym (state-is c.args.state)
