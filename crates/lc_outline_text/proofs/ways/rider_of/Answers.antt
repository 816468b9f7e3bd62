use Rattle.std.proofs.Common.{◌≡◌, ◌++◌, [], ◌∷◌, Bool, true, false, codes, refl, sym, ap, ◌∙◌}
use Rattle.std.specs.Prelude.{not, if◌then◌else◌}
use Rattle.lc_sexp.specs.Shown.{rest_of}
use Rattle.lc_reading.specs.Words.{is}
use Rattle.lc_object_text.specs.ObjectNames.{first_text, within_first, later}
use Rattle.lc_outline_text.specs.DeclarationsView.{declarations_view}
use Rattle.lc_outline_text.specs.Paths.{ways_kept}
use Rattle.lc_outline.specs.Sizes.{no_way}
use Rattle.lc_outline_text.specs.Sizes.{deed_ways}
use Rattle.lc_outline_text.specs.StoredView.{ways_of_deed}
use Rattle.lc_outline_text.proofs.StoredThere.{or_none}
use Rattle.lc_outline_text.proofs.ways.rider_of.Goals as goal

it_holds : (b : Bool) → false ≡ not b → b ≡ true
it_holds true e = refl
it_holds false e = absurd (cc)

pub returns : goal.returns
returns c =
    let d = declarations_view c.args.declarations.now in
    let ts = rest_of c.args.list in
    let ways = deed_ways d c.args.operation (within_first (later (later ts))) in
    let inner = c.within_first-inner.ensures.rest ∙ ap within_first (c.behind_first-2.ensures.rest ∙ ap later c.behind_first.ensures.rest) in
    let when : is (first_text ts) (codes "when") ≡ true = sym (ap (λ w. is w (codes "when")) c.first_text.ensures) ∙ it_holds (is c.first_text.result.now (codes "when")) c.if-ne.ensures in
    or_none (ways_of_deed c.in_ok-deed-2.deed) ways (c.in_ok-deed-2.ensures ∙ ap (λ us. ways_kept (deed_ways d c.args.operation us)) inner)
    ∙ ap (λ b. ways_kept (if b then ways ++ no_way ∷ [] else deed_ways d c.args.operation ts)) (sym when)
