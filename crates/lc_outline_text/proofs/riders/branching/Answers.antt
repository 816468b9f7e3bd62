use Rattle.std.proofs.Common.{◌≡◌, ◌+◌, ◌++◌, [], ◌∷◌, drop, if◌then◌else◌, append_assoc, sym, ap, ◌∙◌}
use Rattle.std.proofs.lemmas.List.{map-append}
use Rattle.lc_outline_text.specs.Paths.{leaves_choice, branching}
use Rattle.lc_outline_text.specs.StoredView.{ways_of_rider, ways_of_riders}
use Rattle.lc_outline_text.proofs.RidersPassed.{next_rider, choice_left, none_left}
use Rattle.lc_outline_text.proofs.riders.branching.Goals as goal
use Rattle.lc_outline_text.proofs.riders.branching.Goals.{then-way_count-ne1+in_ok-push, else-way_count-ne1}

pub loop-rider-preserved : goal.loop-rider-preserved
loop-rider-preserved c =
    let rs = c.args.riders.now in
    let i = c.loop-rider.rider-index in
    let r = c.rider-item.result in
    let rest = branching (ways_of_riders (drop (i + 1) rs)) in
    let so_far = ways_of_riders c.loop-rider.those.items in
    let next : branching (ways_of_riders (drop i rs)) ≡ (if leaves_choice (ways_of_rider r) then ways_of_rider r ∷ rest else rest) = ap branching (next_rider rs i r c.loop-rider-test.true c.rider-item.is) in
    elim c.if-way_count-ne1.branch [
      | then-way_count-ne1+in_ok-push w ↦
          ap (λ those. ways_of_riders those.items ++ rest) w.those-is
          ∙ ap (λ xs. ways_of_riders xs ++ rest) w.in_ok-push.ensures.items
          ∙ ap (λ xs. xs ++ rest) (map-append ways_of_rider c.loop-rider.those.items (r ∷ []))
          ∙ append_assoc so_far (ways_of_rider r ∷ []) rest
          ∙ ap (λ b. so_far ++ (if b then ways_of_rider r ∷ rest else rest)) (sym (choice_left (ways_of_rider r) (λ one. w.if-way_count-ne1.true (c.way_count.ensures ∙ one))))
          ∙ ap (λ xs. so_far ++ xs) (sym next) ∙ c.loop-rider.invariant
      | else-way_count-ne1 w ↦
          ap (λ those. ways_of_riders those.items ++ rest) w.those-is
          ∙ ap (λ b. so_far ++ (if b then ways_of_rider r ∷ rest else rest)) (sym (none_left (ways_of_rider r) (sym c.way_count.ensures ∙ w.if-way_count-ne1.false)))
          ∙ ap (λ xs. so_far ++ xs) (sym next) ∙ c.loop-rider.invariant
    ]
