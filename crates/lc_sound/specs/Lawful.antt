-- What each client is in, along what happens.
use Rattle.std.specs.Prelude.{◌≡◌, ℕ, true, false, List, [], ◌∷◌, ℤ}
use Rattle.lc_seq.specs.Sequential.{Call, Sequential, Step}
use Rattle.lc_history.specs.History.{Called, Replied, Entry}
use Rattle.lc_sound.specs.Happening.{Happening, Happens, Marked, client_of, put}

-- what a client is in: no call, a call without a mark, one with a note, one with a mark
pub data Phase : Type 0 where
  Free : Phase
  Waiting : Call → Phase
  Noted : Call → List ℤ → Phase
  Done : Call → List ℤ → Phase

-- what happens takes its client from one phase to another
pub data Takes : Phase → Happening → Phase → Type 0 where
  calls : {c : ℕ} {call : Call} → Takes Free (Happens (Called c call)) (Waiting call)
  returns_done : {c : ℕ} {call : Call} {reply : List ℤ} → Takes (Done call reply) (Happens (Replied c reply)) Free
  returns_noted : {c : ℕ} {call : Call} {reply : List ℤ} → Takes (Noted call reply) (Happens (Replied c reply)) Free
  marks : {e : Entry} → Takes (Waiting e.call) (Marked false e) (Done e.call e.reply)
  marks_noted : {e : Entry} {reply : List ℤ} → Takes (Noted e.call reply) (Marked false e) (Done e.call e.reply)
  notes : {e : Entry} → Takes (Waiting e.call) (Marked true e) (Noted e.call e.reply)
  notes_again : {e : Entry} {reply : List ℤ} → Takes (Noted e.call reply) (Marked true e) (Noted e.call e.reply)

-- and the sequential state from s to t
abbrev pub Leaves : {A : Type 0} → Sequential A → A → Happening → A → Type 0
Leaves step s (Happens event) t = t ≡ s
Leaves step s (Marked false e) t = Step step s e.client e.call e.choice t e.reply
Leaves step s (Marked true e) t = (t ≡ s) × Step step s e.client e.call e.choice s e.reply

abbrev pub IsLawful : {A : Type 0} → Sequential A → A → (ℕ → Phase) → List Happening → Type 0
IsLawful step s phases [] = Unit {0}
IsLawful {A} step s phases (h ∷ hs) =
    (q : Phase) × (t : A) × Takes (phases (client_of h)) h q × Leaves step s h t × IsLawful step t (put phases (client_of h) q) hs
