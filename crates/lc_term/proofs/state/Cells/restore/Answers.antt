use Rattle.std.proofs.Common.{ap, ◌∙◌, sym}
use Rattle.std.specs.Prelude.{ℤ, Option}
use Rattle.std.proofs.lemmas.Int.{to_z-of_z}
use Rattle.lc_term.specs.Written.{Kept, kept_in, with_written}
use Rattle.lc_term.proofs.state.Cells.restore.Goals as goal

pub returns-in-None : goal.returns-in-None
returns-in-None c =
    let old = c.args.self.now in
    let kept : (ℤ → Option ℤ) → Kept = λ w. record { slope = old.slope; start = old.start; written = w } in
    let index_fits = c.ranges.index in
    let updates = simp to_z-of_z at c.remove.ensures.updates in
    ap kept (λ p j. updates.0 j p) ∙ ap (with_written (kept_in old) c.args.index) (sym c.in-None.is)
