-- What is lawful is so of each client.
use Rattle.std.proofs.Common.{◌≡◌, ℕ, Bool, true, false, ◌==◌, ◌⊎◌, List, [], ◌∷◌, refl, subst, inl, inr}
use Rattle.lc_lemmas.proofs.Numbers.{equal_other_way, flipped_test}
use Rattle.lc_seq.specs.Sequential.{Sequential}
use Rattle.lc_sound.specs.Happening.{Happening, client_of, put}
use Rattle.lc_sound.specs.Lawful.{Phase, Takes, IsLawful}

-- the same, of one client
abbrev pub IsOwn : ℕ → Phase → List Happening → Type 0
IsOwn c p [] = Unit {0}
IsOwn c p (h ∷ hs) = (q : Phase) × (((client_of h == c) ≡ true) × Takes p h q ⊎ ((client_of h == c) ≡ false) × (q ≡ p)) × IsOwn c q hs

pub put_here : {A : Type 0} (f : ℕ → A) (c : ℕ) (v : A) (d : ℕ) → (d == c) ≡ true → put f c v d ≡ v
put_here f c v d e = rw e

pub put_away : {A : Type 0} (f : ℕ → A) (c : ℕ) (v : A) (d : ℕ) → (d == c) ≡ false → put f c v d ≡ f d
put_away f c v d e = rw e

own_step : {A : Type 0} (step : Sequential A) (h : Happening) (hs : List Happening) (s : A) (phases : ℕ → Phase) (c : ℕ)
    → (law : IsLawful step s phases (h ∷ hs)) → IsOwn c (put phases (client_of h) law.0 c) hs
    → (b : Bool) → (client_of h == c) ≡ b → IsOwn c (phases c) (h ∷ hs)
own_step step h hs s phases c law rest true e =
    let same : client_of h ≡ c = equal_other_way c (client_of h) e in (
      law.0,
      inl (e, subst (λ d. Takes (phases d) h law.0) same law.2),
      subst (λ p. IsOwn c p hs) (put_here phases (client_of h) law.0 c (flipped_test (client_of h) c true e)) rest,
    )
own_step step h hs s phases c law rest false e = (
  phases c,
  inr (e, refl),
  subst (λ p. IsOwn c p hs) (put_away phases (client_of h) law.0 c (flipped_test (client_of h) c false e)) rest,
)

pub lawful_is_own : {A : Type 0} (step : Sequential A) (hs : List Happening) (s : A) (phases : ℕ → Phase) (c : ℕ) → IsLawful step s phases hs → IsOwn c (phases c) hs
lawful_is_own step [] s phases c law = tt
lawful_is_own step (h ∷ hs) s phases c law =
    own_step step h hs s phases c law (lawful_is_own step hs law.1 (put phases (client_of h) law.0) c law.4) (client_of h == c) refl
