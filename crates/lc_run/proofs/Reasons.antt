-- Why a run is not finished: at most one reason applies, and none if all seats are its own.
use Rattle.std.proofs.Common.{◌≡◌, ℕ, Bool, true, false, List, Option, Some, None, refl, sym, ap, subst, ◌∙◌, nat_lt, arith}
use Rattle.std.specs.Prelude.{◌↔◌, All, MatchOption, slice_get}
use Rattle.std.proofs.lemmas.Bool.Decides.{nat_tests}
use Rattle.std.proofs.lemmas.List.Elements.{All-get_or}
use Rattle.std.proofs.lemmas.Option.{get_or_from_slice_get, same_Some, slice_get_within}
use Rattle.lc_lemmas.proofs.Numbers.{below_from_test}
use Rattle.lc_outline.specs.Development.{Development}
use Rattle.lc_sound.specs.Instrumented.{Label}
use Rattle.lc_run.specs.Locked.{labels_held, client_in}
use Rattle.lc_run.specs.Seated.{HasOwn, IsFirstStrange, IsLeastMissing, IsWhole, IsWhy, IsWhyNot}
use Rattle.lc_run.specs.declared.finishing.Why.{Why}
use Rattle.lc_run.specs.declared.finishing.Why.TheVariants.{SeatMissing, RunMismatch, SeatMismatch, OutOfMemory}
use Rattle.lc_run.specs.declared.held.Shared.{Shared}
use Rattle.lc_run.specs.declared.held.Seat.{Seat}

-- numbers of which neither is less
neither : (a b : ℕ) → nat_lt a b ≡ false → nat_lt b a ≡ false → a ≡ b
neither a b h k = grind (arith, nat_tests)

module _ {J : Type 0} where
  own-at : (labels : List Label) (seats : List (Seat J)) (k : ℕ) (s : Seat J) → slice_get seats k ≡ Some s → All (HasOwn labels) seats → HasOwn labels s
  own-at labels seats k s is all =
      subst (HasOwn labels) (get_or_from_slice_get seats k s s is) (All-get_or (HasOwn labels) seats k s (slice_get_within seats k s is) all)

  one-missing : (n : ℕ) (seats : List (Seat J)) (c d : ℕ) → IsLeastMissing n seats c → IsLeastMissing n seats d → c ≡ d
  one-missing n seats c d h k = by (nat_lt c d) refl (nat_lt d c) refl
    where
      by : (a : Bool) → nat_lt c d ≡ a → (b : Bool) → nat_lt d c ≡ b → c ≡ d
      by true e b f = absurd (let there = k.least c (below_from_test c d e) in let none = h.missing in cc)
      by false e true f = absurd (let there = h.least d (below_from_test d c f) in let none = k.missing in cc)
      by false e false f = neither c d e f

  one-strange : (labels : List Label) (seats : List (Seat J)) (c d : ℕ) → IsFirstStrange labels seats c → IsFirstStrange labels seats d → c ≡ d
  one-strange labels seats c d h k = by (nat_lt h.place k.place) refl (nat_lt k.place h.place) refl
    where
      by : (a : Bool) → nat_lt h.place k.place ≡ a → (b : Bool) → nat_lt k.place h.place ≡ b → c ≡ d
      by true e b f = absurd (h.strange (k.first h.place h.seat (below_from_test h.place k.place e) h.there))
      by false e true f = absurd (k.strange (h.first k.place k.seat (below_from_test k.place h.place f) k.there))
      by false e false f =
          let here : slice_get seats h.place ≡ Some k.seat = subst (λ i. slice_get seats i ≡ Some k.seat) (sym (neither h.place k.place e f)) k.there in
          sym h.client ∙ (ap client_in (same_Some h.seat k.seat (sym h.there ∙ here)) ∙ k.client)

  module _ (s : Shared J) (D : Development) (n : ℕ) (seats : List (Seat J)) where
    not-whole : (why : Why) → IsWhyNot s D n seats why → IsWhole s D n seats → ⊥
    not-whole (SeatMissing c) h w = let there = w.there c h.below in let none = h.missing in cc
    not-whole RunMismatch h w = h.1 w.same
    not-whole (SeatMismatch c) h w = let x = h.2 in x.strange (own-at (labels_held s) seats x.place x.seat x.there w.own)
    not-whole OutOfMemory h w = h

    one-why : (why other : Why) → IsWhyNot s D n seats why → IsWhyNot s D n seats other → why ≡ other
    one-why (SeatMissing c) (SeatMissing d) h k = ap SeatMissing (one-missing n seats c d h k)
    one-why (SeatMissing c) RunMismatch h k = absurd (let there = k.0 c h.below in let none = h.missing in cc)
    one-why (SeatMissing c) (SeatMismatch d) h k = absurd (let there = k.0 c h.below in let none = h.missing in cc)
    one-why RunMismatch (SeatMissing d) h k = absurd (let there = h.0 d k.below in let none = k.missing in cc)
    one-why RunMismatch RunMismatch h k = refl
    one-why RunMismatch (SeatMismatch d) h k = absurd (h.1 k.1)
    one-why (SeatMismatch c) (SeatMissing d) h k = absurd (let there = h.0 d k.below in let none = k.missing in cc)
    one-why (SeatMismatch c) RunMismatch h k = absurd (k.1 h.1)
    one-why (SeatMismatch c) (SeatMismatch d) h k = ap SeatMismatch (one-strange (labels_held s) seats c d h.2 k.2)
    one-why OutOfMemory other h k = absurd h
    one-why why OutOfMemory h k = absurd k

    pub none-whole : (r : Option Why) → MatchOption r (IsWhole s D n seats) (IsWhyNot s D n seats) → (r ≡ None) ↔ IsWhole s D n seats
    none-whole None h = (λ e. h, λ w. refl)
    none-whole (Some why) h = (λ e. absurd cc, λ w. absurd (not-whole why h w))

    pub some-why : (r : Option Why) → MatchOption r (IsWhole s D n seats) (IsWhyNot s D n seats) → (why : Why) → (r ≡ Some why) ↔ IsWhyNot s D n seats why
    some-why None h why = (λ e. absurd cc, λ k. absurd (not-whole why k h))
    some-why (Some w) h why = (λ e. subst (IsWhyNot s D n seats) (same_Some w why e) h, λ k. ap Some (one-why w why h k))

    -- why they are not the run's seats is why it is not finished
    pub as-why : (why : Why) → IsWhyNot s D n seats why → IsWhy s D n seats why
    as-why (SeatMissing c) h = h
    as-why RunMismatch h = h
    as-why (SeatMismatch c) h = h
    as-why OutOfMemory h = absurd h
