use Rattle.std.proofs.Common.{◌++◌, ◌∙◌, ℕ, List, Option, ap, map, sym}
use Rattle.std.proofs.lemmas.List.{map_push}
use Rattle.lc_draw.specs.Counting.{place_at}
use Rattle.lc_draw.specs.declared.places.Mark.{Mark}
use Rattle.lc_draw.proofs.places.mark_entry.Goals as goal

pub returns : goal.returns
returns c =
    let before = c.args.marks.now.items in
    ap (λ (ms : List Mark). map (λ (m : Mark). m.place) ms) c.in_ok-push.ensures.items
    ∙ (map_push (λ (m : Mark). m.place) before _ ∙ ap (λ (n : Option ℕ). map (λ (m : Mark). m.place) before ++ place_at c.args.place n) (sym c.in-Some.is))
