-- The order is legal: notes leave the sequential state as it is, so those that do not count can be left out.
use Rattle.std.proofs.Common.{◌≡◌, ℕ, Bool, true, false, cond, List, [], ◌∷◌, Some, subst}
use Rattle.lc_seq.specs.Sequential.{Sequential}
use Rattle.lc_history.specs.History.{Entry, IsLegal}
use Rattle.lc_sound.specs.Happening.{Happening, Happens, Marked, client_of, returns_next, counted, put}
use Rattle.lc_sound.specs.Lawful.{Phase, IsLawful}

with_or_without : {A : Type 0} (step : Sequential A) (s : A) (e : Entry) (es : List Entry) → step s e.client e.call e.choice ≡ Some (s, e.reply) → IsLegal step s es
    → (b : Bool) → IsLegal step s (cond b (e ∷ es) es)
with_or_without step s e es is rest true = (s, is, rest)
with_or_without step s e es is rest false = rest

pub lawful_is_legal : {A : Type 0} (step : Sequential A) (hs : List Happening) (s : A) (phases : ℕ → Phase) → IsLawful step s phases hs → IsLegal step s (counted hs)
lawful_is_legal step [] s phases law = tt
lawful_is_legal step (Happens event ∷ hs) s phases law =
    subst (λ t. IsLegal step t (counted hs)) law.3 (lawful_is_legal step hs law.1 (put phases (client_of (Happens event)) law.0) law.4)
lawful_is_legal step (Marked false e ∷ hs) s phases law = (law.1, law.3, lawful_is_legal step hs law.1 (put phases e.client law.0) law.4)
lawful_is_legal step (Marked true e ∷ hs) s phases law =
    with_or_without step s e (counted hs) law.3.1
    (subst (λ t. IsLegal step t (counted hs)) law.3.0 (lawful_is_legal step hs law.1 (put phases e.client law.0) law.4))
    (returns_next e.client hs)
