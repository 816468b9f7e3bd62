use Rattle.std.proofs.Common.{◌≡◌, ℕ, true, List, length, subst}
use Rattle.lc_outline.specs.DevelopmentView.{development_view}
use Rattle.lc_cert.specs.OneByOne.{IsFrame}
use Rattle.lc_cond.specs.Conditions.{conditions}
use Rattle.lc_pool.specs.Known.{IsKnown, at_place}
use Rattle.lc_pool.specs.Marks.{AllHold}
use Rattle.lc_pool.proofs.checking.proven_in_pieces.Goals as goal

pub returns-then-branch : goal.returns-then-branch
returns-then-branch g c =
    let D = development_view c.args.development.now in
    let cert = c.args.cert.now in
    let places = c.in-Some.cuts.places.items in
    let items = c.in-Some.cuts.items.items in
    let counted = c.count-count.ensures D c.in_ok-cuts.ensures in
    let framed : c.in_ok-are_framed.field-0 ≡ true = (let f = c.if-not-branch.false in cc) in
    let frame = subst (λ n. IsFrame D cert (at_place places 0) (at_place places n)) counted (c.in_ok-are_framed.ensures.frame framed) in
    let at_items = subst (λ (ns : List ℕ). AllHold (IsKnown D cert (at_place c.deref.result.now) (at_place ns)) (length (conditions D))) c.deref-2.ensures.value (c.in_ok-all_proved.ensures c.if-branch.true) in
    let known = subst (λ (ns : List ℕ). AllHold (IsKnown D cert (at_place ns) (at_place items)) (length (conditions D))) c.deref.ensures.value at_items in
    (counted, c.known_entries_prove_the_development.ensures D cert (at_place places) (at_place items) frame (c.in_ok-are_framed.ensures.first framed) known)
