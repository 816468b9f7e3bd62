-- Parts of drawings, and the part that is all.
use Rattle.std.proofs.Common.{◌≡◌, ℕ, ◌+◌, Bool, List, [], Option, Some, None, length, map, take, refl, sym, ap, subst, ◌∙◌}
use Rattle.std.specs.Prelude.{◌-◌}
use Rattle.lc_history.specs.History.{Event, Entry, count}
use Rattle.lc_history.specs.WellFormed.{begins}
use Rattle.lc_draw.specs.Drawings.{IsDrawing, event_in, has_call, marked}
use Rattle.lc_draw.specs.Stretches.{DrawsRound, IsPart, count_such, is_within}
use Rattle.lc_draw.proofs.Drawn.{draws_so}
use Rattle.lc_draw.proofs.Stretching.{count-all, within-all, within-end}

-- the part in the same stretch
part-so : (events : List Event) (order : List Entry) (event : Option ℕ) (text : List ℕ) (f g : ℕ → ℕ → Bool) → f ≡ g → (from until : ℕ) → is_within from until events ≡ f → IsPart from until events order event text → (from' until' : ℕ)
    → is_within from' until' events ≡ g → IsPart from' until' events order event text
part-so events order event text f g same from until is draws from' until' is' =
    let e = is ∙ (same ∙ sym is') in
    draws_so (count_such (is_within from until events) events) (count_such (is_within from' until' events) events) (marked (is_within from until events) [] 0 order) (marked (is_within from' until' events) [] 0 order)
    (event_in events event) (event_in events event) text (ap (λ test. count_such test events) e) (ap (λ test. marked test [] 0 order) e) refl draws

-- the part in the stretch of all events is the drawing
pub all-drawn : (events : List Event) (order : List Entry) (event : Option ℕ) (text : List ℕ) (from until : ℕ) → from ≡ 0 → until ≡ length events → IsPart from until events order event text → IsDrawing events order event text
all-drawn events order event text from until at end draws =
    let whole = subst (λ k. IsPart 0 k events order event text) end (subst (λ k. IsPart k until events order event text) at draws) in
    draws_so (count_such (is_within 0 (length events) events) events) (count begins events) (marked (is_within 0 (length events) events) [] 0 order) (marked (has_call events) [] 0 order) (event_in events event) (event_in events event) text
    (count-all events) (ap (λ test. marked test [] 0 order) (within-all events)) refl whole

-- and the part round one where there is
pub some-round : {X : Type 0} (f : X → Event) (xs : List X) (events : List Event) (order : List Entry) (width at from until : ℕ) (text : List ℕ) (mark : Option ℕ) → map f xs ≡ events → Some at ≡ mark → from ≡ at - width
    → take until xs ≡ take (at + width) xs → IsPart from until events order None text → DrawsRound events order width mark (Some text)
some-round f xs events order width at from until text mark same is begins ends draws =
    let begin = ap (λ k. is_within k until events) begins in
    let end = within-end f (at - width) until (at + width) xs events same ends in
    subst (λ m. DrawsRound events order width m (Some text)) is
    (part-so events order None text (is_within from until events) (is_within (at - width) (at + width) events) (begin ∙ end) from until refl draws (at - width) (at + width) refl)
