-- If what happens is lawful, the order of its marks linearizes its history.
use Rattle.std.proofs.Common.{ℕ, List}
use Rattle.lc_seq.specs.Sequential.{Sequential}
use Rattle.lc_history.specs.History.{Linearizes}
use Rattle.lc_sound.specs.Happening.{Happening, events, counted}
use Rattle.lc_sound.specs.Lawful.{Free, IsLawful}
use Rattle.lc_sound.proofs.Own.{IsOwn, lawful_is_own}
use Rattle.lc_sound.proofs.Legal.{lawful_is_legal}
use Rattle.lc_sound.proofs.Kept.{entries_are_calls}
use Rattle.lc_sound.proofs.Cuts.{stands_earlier}

pub lawful_linearizes : {A : Type 0} (step : Sequential A) (start : A) (hs : List Happening) → IsLawful step start (λ c. Free) hs → Linearizes step start (events hs) (counted hs)
lawful_linearizes step start hs law =
    let mine : (c : ℕ) → IsOwn c Free hs = λ c. lawful_is_own step hs start (λ c. Free) c law in
    record {
      legal = lawful_is_legal step hs start (λ c. Free) law;
      calls = λ c. entries_are_calls c Free hs (mine c);
      precedence = stands_earlier hs mine;
    }
