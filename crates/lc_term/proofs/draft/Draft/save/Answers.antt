use Rattle.std.proofs.Common.{◌∙◌, sym, ap, map}
use Rattle.lc_term.specs.State.{column_at}
use Rattle.lc_term.specs.Written.{kept_of, taken_back, cells_from}
use Rattle.lc_term.proofs.Written.{state-is}
use Rattle.lc_term.proofs.draft.Draft.save.Goals as goal

pub returns-clause-saved : goal.returns-clause-saved
returns-clause-saved c =
    let s = c.args.self.now.state in
    ap (λ us. column_at (map cells_from (taken_back (kept_of s) us))) c.clear.ensures.items ∙ sym (state-is s)
