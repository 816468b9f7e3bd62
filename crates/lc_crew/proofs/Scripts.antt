-- Calls of scripts, one step after another, and scripts of phases.
use Rattle.std.proofs.Common.{◌≡◌, ℕ, zero, suc, ◌+◌, ◌<◌, ◌≤◌, ◌==◌, eq-eqb, ne_eqb, Bool, true, false, cond, ◌||◌, List, [], ◌∷◌, ◌++◌, Option, Some, None, Vec, drop, take, get_or, length, map, refl, sym, ap, subst, ◌∙◌, inl, inr, append-nil, append_assoc, arith}
use Rattle.std.specs.declared.alloc.Global.{Global}
use Rattle.std.proofs.lemmas.List.{drop_all, drop_more}
use Rattle.lc_plan.specs.Plans as S
use Rattle.lc_plan.specs.View.{calls_of, script_of, scripts_of}
use Rattle.lc_plan.specs.declared.plan.Calls.{Calls}
use Rattle.lc_plan.specs.declared.plan.Script.{Script}
use Rattle.lc_sound.specs.Instrumented.{Label}
use Rattle.lc_crew.specs.Phases.{has_script}
use Rattle.lc_crew.specs.Playing.{HasMadeCalls, HasPlayed, HasPlayedFrom, calls_in, planned}
use Rattle.lc_crew.specs.declared.halt.Halt.{Halt}

-- what is played after a step whose calls all returned
step-first : (end : Option Halt) (k : S.Calls) (ks : List S.Calls) (c : ℕ) (before mid after : List Label) → HasMadeCalls None k c before mid → HasPlayed end ks c mid after → HasPlayed end (k ∷ ks) c before after
step-first None k ks c before mid after made rest = (mid, made, rest)
step-first (Some halt) k ks c before mid after made rest = inr (mid, made, rest)

-- a step that stops what is left of a script
pub halted_step_played : (seen items : List Calls) (i : ℕ) (x : Calls) (h : Halt) (halt : Option Halt) (c d : ℕ) (before after : List Label) → seen ≡ items → i < length seen → x ≡ get_or seen i x → halt ≡ Some h → d ≡ c
    → HasMadeCalls halt (calls_of x) d before after → HasPlayed (Some h) (map calls_of (drop i items)) c before after
halted_step_played seen items i x h halt c d before after same below is some client made =
    subst (λ its. HasPlayed (Some h) (map calls_of (drop i its)) c before after) same
    (subst (λ ks. HasPlayed (Some h) (map calls_of ks) c before after) (sym (drop_more seen i x below ∙ ap (λ y. y ∷ drop (i + 1) seen) (sym is)))
    (inl (subst (λ e. HasMadeCalls (Some h) (calls_of x) e before after) client (subst (λ o. HasMadeCalls o (calls_of x) d before after) some made))))

all-made : (halt : Option Halt) (k : S.Calls) (c : ℕ) (before after : List Label) → ((h : Halt) → halt ≡ Some h → ⊥) → HasMadeCalls halt k c before after → HasMadeCalls None k c before after
all-made None k c before after never made = made
all-made (Some h) k c before after never made = absurd (never h refl)

-- a step after which the script goes on
pub gone-on : (seen items : List Calls) (i : ℕ) (x : Calls) (halt : Option Halt) (c d : ℕ) (before mid : List Label) → seen ≡ items → i < length seen → x ≡ get_or seen i x → ((h : Halt) → halt ≡ Some h → ⊥) → d ≡ c
    → HasMadeCalls halt (calls_of x) d before mid → (end : Option Halt) (after : List Label) → HasPlayed end (map calls_of (drop (i + 1) items)) c mid after
    → HasPlayed end (map calls_of (drop i items)) c before after
gone-on seen items i x halt c d before mid same below is never client made end after rest =
    let all : HasMadeCalls None (calls_of x) c before mid = subst (λ e. HasMadeCalls None (calls_of x) e before mid) client (all-made halt (calls_of x) d before mid never made) in
    let behind = subst (λ its. HasPlayed end (map calls_of (drop (i + 1) its)) c mid after) (sym same) rest in
    subst (λ its. HasPlayed end (map calls_of (drop i its)) c before after) same
    (subst (λ ks. HasPlayed end (map calls_of ks) c before after) (sym (drop_more seen i x below ∙ ap (λ y. y ∷ drop (i + 1) seen) (sym is)))
    (step-first end (calls_of x) (map calls_of (drop (i + 1) seen)) c before mid after all behind))

-- after the last step nothing is left
pub all-played : (seen items : List Calls) (i : ℕ) (c : ℕ) (now : List Label) → seen ≡ items → length seen ≤ i → HasPlayed None (map calls_of (drop i items)) c now now
all-played seen items i c now same past =
    subst (λ its. HasPlayed None (map calls_of (drop i its)) c now now) same (subst (λ ks. HasPlayed None (map calls_of ks) c now now) (sym (drop_all i seen past)) refl)

-- ---- calls after others

-- what is played after calls that all returned
more-played : (end : Option Halt) (ks ms : List S.Calls) (c : ℕ) (x y z : List Label) → HasPlayed None ks c x y → HasPlayed end ms c y z → HasPlayed end (ks ++ ms) c x z
more-played end [] ms c x y z same rest = subst (λ l. HasPlayed end ms c l z) same rest
more-played end (k ∷ ks) ms c x y z (mid, made, later) rest = step-first end k (ks ++ ms) c x mid z made (more-played end ks ms c mid y z later rest)

-- after one that did not return nothing is played
halted-early : (h : Halt) (ks ms : List S.Calls) (c : ℕ) (x y : List Label) → HasPlayed (Some h) ks c x y → HasPlayed (Some h) (ks ++ ms) c x y
halted-early h [] ms c x y never = absurd never
halted-early h (k ∷ ks) ms c x y (inl made) = inl made
halted-early h (k ∷ ks) ms c x y (inr (mid, made, rest)) = inr (mid, made, halted-early h ks ms c mid y rest)

pub played-on : (a b end : Option Halt) (ks ms : List S.Calls) (c : ℕ) (x y z : List Label) → HasPlayedFrom a b ks c x y → HasPlayedFrom b end ms c y z → HasPlayedFrom a end (ks ++ ms) c x z
played-on None None end ks ms c x y z h k = more-played end ks ms c x y z h k
played-on None (Some s) end ks ms c x y z h (is, same) =
    subst (λ o. HasPlayed o (ks ++ ms) c x z) (sym is) (subst (λ l. HasPlayed (Some s) (ks ++ ms) c x l) (sym same) (halted-early s ks ms c x y h))
played-on (Some s) b end ks ms c x y z (is, same) k = let here : HasPlayedFrom (Some s) end ms c y z = subst (λ o. HasPlayedFrom o end ms c y z) is k in (here.0, here.1 ∙ same)

-- ---- the scripts of a phase

script-first : (c : ℕ) (s : S.Script) (ss : List S.Script) (b : Bool) → (s.client == c) ≡ b → calls_in c (s ∷ ss) ≡ cond b (s.calls ++ calls_in c ss) (calls_in c ss)
script-first c s ss b e = ap (λ t. cond t (s.calls ++ calls_in c ss) (calls_in c ss)) e

here-first : (seen : List Script) (i : ℕ) (x : Script) (c : ℕ) (b : Bool) → i < length seen → x ≡ get_or seen i x → (x.client == c) ≡ b
    → calls_in c (map script_of (drop i seen)) ≡ cond b ((script_of x).calls ++ calls_in c (map script_of (drop (i + 1) seen))) (calls_in c (map script_of (drop (i + 1) seen)))
here-first seen i x c b below is e =
    ap (λ l. calls_in c (map script_of l)) (drop_more seen i x below ∙ ap (λ y. y ∷ drop (i + 1) seen) (sym is)) ∙ script-first c (script_of x) (map script_of (drop (i + 1) seen)) b e

-- one that is the client's
script-played : (seen : List Script) (i : ℕ) (x : Script) (c : ℕ) (a b end : Option Halt) (made mid after : List Label) → i < length seen → x ≡ get_or seen i x → (x.client == c) ≡ true
    → HasPlayedFrom a b (script_of x).calls c made mid → HasPlayedFrom b end (calls_in c (map script_of (drop (i + 1) seen))) c mid after → HasPlayedFrom a end (calls_in c (map script_of (drop i seen))) c made after
script-played seen i x c a b end made mid after below is e played rest =
    subst (λ ks. HasPlayedFrom a end ks c made after) (sym (here-first seen i x c true below is e))
    (played-on a b end (script_of x).calls (calls_in c (map script_of (drop (i + 1) seen))) c made mid after played rest)

-- one that is not
script-passed : (seen : List Script) (i : ℕ) (x : Script) (c : ℕ) (a end : Option Halt) (made after : List Label) → i < length seen → x ≡ get_or seen i x → (x.client == c) ≡ false
    → HasPlayedFrom a end (calls_in c (map script_of (drop (i + 1) seen))) c made after → HasPlayedFrom a end (calls_in c (map script_of (drop i seen))) c made after
script-passed seen i x c a end made after below is e rest = subst (λ ks. HasPlayedFrom a end ks c made after) (sym (here-first seen i x c false below is e)) rest

-- the next script is the client's, which has made it
pub script-made : (seen : List Script) (i : ℕ) (x : Script) (c d who : ℕ) (a b : Option Halt) (made mid : List Label) → i < length seen → x ≡ get_or seen i x → x.client ≡ who → who ≡ d → d ≡ c
    → HasPlayedFrom a b (script_of x).calls d made mid → (end : Option Halt) (after : List Label) → HasPlayedFrom b end (calls_in c (map script_of (drop (i + 1) seen))) c mid after
    → HasPlayedFrom a end (calls_in c (map script_of (drop i seen))) c made after
script-made seen i x c d who a b made mid below is same whose own played end after rest =
    script-played seen i x c a b end made mid after below is (eq-eqb x.client c (same ∙ (whose ∙ own))) (subst (λ e. HasPlayedFrom a b (script_of x).calls e made mid) own played) rest

-- or it is another's
pub script-left : (seen : List Script) (i : ℕ) (x : Script) (c d who : ℕ) (a : Option Halt) (made : List Label) → i < length seen → x ≡ get_or seen i x → (x.client ≡ who → ⊥) → who ≡ d → d ≡ c
    → (end : Option Halt) (after : List Label) → HasPlayedFrom a end (calls_in c (map script_of (drop (i + 1) seen))) c made after → HasPlayedFrom a end (calls_in c (map script_of (drop i seen))) c made after
script-left seen i x c d who a made below is other whose own end after rest =
    script-passed seen i x c a end made after below is (ne_eqb x.client c (λ e. other (e ∙ sym (whose ∙ own)))) rest

none-played : (a : Option Halt) (c : ℕ) (now : List Label) → HasPlayedFrom a a [] c now now
none-played None c now = refl
none-played (Some h) c now = (refl, refl)

-- after the last one nothing is left
pub phase-played : (seen : List Script) (i : ℕ) (a : Option Halt) (c : ℕ) (now : List Label) → length seen ≤ i → HasPlayedFrom a a (calls_in c (map script_of (drop i seen))) c now now
phase-played seen i a c now past = subst (λ l. HasPlayedFrom a a (calls_in c (map script_of l)) c now now) (sym (drop_all i seen past)) (none-played a c now)

-- a client without a script makes no call
no-calls : (c : ℕ) (phase : List S.Script) → has_script c phase ≡ false → calls_in c phase ≡ []
no-calls c [] h = refl
no-calls c (s ∷ ss) h = by (no-calls c ss) (s.client == c) refl
  where
    by : (has_script c ss ≡ false → calls_in c ss ≡ []) → (b : Bool) → (s.client == c) ≡ b → calls_in c (s ∷ ss) ≡ []
    by rest true e = absurd (let u : (true || has_script c ss) ≡ false = subst (λ t. (t || has_script c ss) ≡ false) e h in cc)
    by rest false e = script-first c s ss false e ∙ rest (subst (λ t. (t || has_script c ss) ≡ false) e h)

-- ---- one phase more

phase-more : (phases : List (Vec Script Global)) (n : ℕ) (p : Vec Script Global) → n < length phases → p ≡ get_or phases n p
    → take (suc n) (map scripts_of phases) ≡ take n (map scripts_of phases) ++ scripts_of p ∷ []
phase-more [] n p below is = absurd (omega (arith, below))
phase-more (q ∷ qs) zero p below is = ap (λ (v : Vec Script Global). scripts_of v ∷ []) (sym is)
phase-more (q ∷ qs) (suc n) p below is = ap (λ l. scripts_of q ∷ l) (phase-more qs n p (omega (arith, below)) is)

planned-more : (c : ℕ) (ps : List (List S.Script)) (p : List S.Script) → planned c (ps ++ p ∷ []) ≡ planned c ps ++ calls_in c p
planned-more c [] p = append-nil (calls_in c p)
planned-more c (q ∷ ps) p = ap (λ l. calls_in c q ++ l) (planned-more c ps p) ∙ sym (append_assoc (calls_in c q) (planned c ps) (calls_in c p))

-- what is planned to the end of the next phase
next-planned : (phases : List (Vec Script Global)) (n : ℕ) (p : Vec Script Global) (c : ℕ) → n < length phases → p ≡ get_or phases n p
    → planned c (take (n + 1) (map scripts_of phases)) ≡ planned c (take n (map scripts_of phases)) ++ calls_in c (scripts_of p)
next-planned phases n p c below is =
    let next : n + 1 ≡ suc n = omega arith in
    ap (λ k. planned c (take k (map scripts_of phases))) next ∙ (ap (planned c) (phase-more phases n p below is) ∙ planned-more c (take n (map scripts_of phases)) (scripts_of p))

-- a client that rests in it
pub rested : (phases : List (Vec Script Global)) (n : ℕ) (p : Vec Script Global) (c : ℕ) (end : Option Halt) (made : List Label) → n < length phases → p ≡ get_or phases n p
    → has_script c (scripts_of p) ≡ false → HasPlayed end (planned c (take n (map scripts_of phases))) c [] made → HasPlayed end (planned c (take (n + 1) (map scripts_of phases))) c [] made
rested phases n p c end made below is none h =
    let same = next-planned phases n p c below is ∙ (ap (λ l. planned c (take n (map scripts_of phases)) ++ l) (no-calls c (scripts_of p) none) ∙ append-nil (planned c (take n (map scripts_of phases)))) in
    subst (λ ks. HasPlayed end ks c [] made) (sym same) h

-- and one that plays
pub went-on : (phases : List (Vec Script Global)) (n : ℕ) (p : Vec Script Global) (c d : ℕ) (before end : Option Halt) (made after : List Label) → n < length phases → p ≡ get_or phases n p → d ≡ c
    → HasPlayed before (planned c (take n (map scripts_of phases))) c [] made → HasPlayedFrom before end (calls_in c (scripts_of p)) c made after
    → HasPlayed end (planned d (take (n + 1) (map scripts_of phases))) d [] after
went-on phases n p c d before end made after below is same h plays =
    subst (λ x. HasPlayed end (planned x (take (n + 1) (map scripts_of phases))) x [] after) (sym same)
    (subst (λ ks. HasPlayed end ks c [] after) (sym (next-planned phases n p c below is))
    (played-on None before end (planned c (take n (map scripts_of phases))) (calls_in c (scripts_of p)) c [] made after h plays))
