use Rattle.std.proofs.Common.{subst, sym}
use Rattle.lc_table.specs.Tables.{AreFormulas}
use Rattle.lc_houdini.proofs.Opened.{first_are, within_are, both_are}
use Rattle.lc_houdini.proofs.goals.replaced.Goals as goal

pub returns : goal.returns
returns c =
    let ts = c.args.terms.now in
    let hs = c.args.hypotheses.now in
    let first = subst (AreFormulas ts) (sym c.in_ok-all.ensures.items) (first_are ts hs _ c.requires.hypotheses) in
    let more = subst (AreFormulas ts) (sym c.in_ok-extend_from_slice.ensures.items) (both_are ts c.in_ok-all.all.items c.args.parts.now first c.requires.parts) in
    subst (AreFormulas ts) (sym c.in_ok-extend_from_slice-2.ensures.items) (both_are ts c.extend_from_slice.new.self.items _ more (within_are ts hs _ _ c.requires.hypotheses))
