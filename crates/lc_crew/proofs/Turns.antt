-- Clients that make their calls one turn at a time: where they stand after a turn, and what is left of their calls.
use Rattle.std.proofs.Common.{◌≡◌, ℕ, zero, suc, ◌+◌, ◌-◌, ◌<◌, ◌≤◌, nat_lt, Bool, true, false, List, [], ◌∷◌, ◌++◌, ℤ, Option, Some, None, Vec, refl, sym, ap, ap₂, subst, ◌∙◌, get_or, drop, take, inl, inr, append-nil, append_assoc, arith}
use Rattle.std.proofs.lemmas.List.{length-append}
use Rattle.std.specs.Prelude.{◌↔◌, All, IsSome, SomeIff, cond, length, map, option_to_list}
use Rattle.std.proofs.lemmas.Bool.{lt-ltb, ltb-false}
use Rattle.std.proofs.lemmas.List.{drop_more, map-append}
use Rattle.std.proofs.lemmas.List.Elements.{All-append, All-cons, All-drop, All-take}
use Rattle.std.specs.List.{insert, remove}
use Rattle.std.specs.declared.alloc.Global.{Global}
use Rattle.lc_term.proofs.Stores.{Every-append}
use Rattle.lc_machine.specs.Step.{Event, Invoked, Returned}
use Rattle.lc_plan.specs.Plans as S
use Rattle.lc_plan.specs.View.{calls_of, script_of, scripts_of}
use Rattle.lc_plan.specs.declared.plan.Calls.{Calls}
use Rattle.lc_plan.specs.declared.plan.Plan.{Plan}
use Rattle.lc_plan.specs.declared.plan.Script.{Script}
use Rattle.lc_run.specs.Labels.{is_unfinished, HasMade, HasMoved, IsMove, IsMoveBy}
use Rattle.lc_run.specs.Locked.{client_in, labels_made}
use Rattle.lc_run.specs.declared.fault.RunFault.{RunFault}
use Rattle.lc_run.specs.declared.held.Seat.{Seat}
use Rattle.lc_sound.specs.Instrumented.{Label}
use Rattle.lc_crew.specs.Halts.{fits}
use Rattle.lc_crew.specs.Playing.{HasPlayed, HasReturned, HasStopped, HaveReturned, IsHaltAt, calls_in, event_of, planned}
use Rattle.lc_crew.specs.Turns.{HasTurnedAt, IsOnWay, IsOnWayAt, IsWithin, LeadsTo, StandsSo, due_of, dues_of, going_on, halt_in, has_ended, is_at_end, left_of, lessened, made_ever, stand_before}
use Rattle.lc_crew.specs.declared.due.Due.{Due}
use Rattle.lc_crew.specs.declared.ended.Ended.{Ended}
use Rattle.lc_crew.specs.Members.{HasMadeAll, client_of, halt_of, made_by}
use Rattle.lc_crew.specs.Phases.{phases_to}
use Rattle.lc_crew.specs.declared.halt.Halt.{Halt}
use Rattle.lc_crew.specs.declared.member.Member.{Member}
use Rattle.lc_crew.specs.declared.player.Player.{Player}
use Rattle.lc_crew.specs.declared.halt.Halt.TheVariants.{Spent, Overflow, Full}
use Rattle.lc_crew.specs.declared.stand.Stand.{Stand}
use Rattle.lc_crew.specs.declared.stand.Stand.TheVariants.{Between, Within, Halted}
use Rattle.lc_crew.proofs.Scripts.{went-on}
use Rattle.lc_crew.proofs.Unfinished.{in-none, returned-fits, spent-fits}

-- ---- where a client stands after a turn

-- a call that has begun, and has not moved
begun-only : (call : Event) (c : ℕ) (before now : List Label) → HasMade (λ what. what ≡ call) c before now → (begun : List Label) × HasMade (λ what. what ≡ call) c before begun × HasMoved c 0 begun now
begun-only call c before now made = (now, made, record { moves = []; count = refl; each = tt; grown = sym (append-nil now) })

-- one move more
moved-more : (c k : ℕ) (begun before after : List Label) → HasMoved c k begun before → HasMade IsMove c before after → HasMoved c (suc k) begun after
moved-more c k begun before after moved made = record {
  moves = moved.moves ++ made.label ∷ [];
  count = let n = length-append moved.moves (made.label ∷ []) in omega (arith, moved.count, n);
  each = Every-append (IsMoveBy c) moved.moves (made.label ∷ []) moved.each ((made.client, made.what), tt);
  grown = made.grown ∙ (ap (λ l. l ++ made.label ∷ []) moved.grown ∙ append_assoc begun moved.moves (made.label ∷ []));
}

-- so its client stands then
pub begun-stands : (turns : ℕ) (call : Event) (c : ℕ) (before now : List Label) → HasMade (λ what. what ≡ call) c before now → StandsSo (going_on turns) turns call c before now
begun-stands zero call c before now made = begun-only call c before now made
begun-stands (suc left) call c before now made = let only = begun-only call c before now made in (only.0, 0, only.1, only.2, omega arith)

-- a call that has moved
pub moved-stands : (left turns : ℕ) (call : Event) (c : ℕ) (before mid now : List Label) → IsWithin left turns call c before mid → HasMade IsMove c mid now → StandsSo (going_on left) turns call c before now
moved-stands zero turns call c before mid now (begun, k, first, moved, all) made =
    (begun, first, subst (λ n. HasMoved c n begun now) (let e : suc k ≡ turns = omega (arith, all) in e) (moved-more c k begun mid now moved made))
moved-stands (suc left) turns call c before mid now (begun, k, first, moved, all) made = (begun, suc k, first, moved-more c k begun mid now moved made, omega (arith, all))

-- a call that has returned
pub returned-stands : (left turns : ℕ) (call : Event) (c : ℕ) (numbers : Vec ℤ Global) (before mid now : List Label) → IsWithin left turns call c before mid → HasMade (λ what. what ≡ Returned numbers.items) c mid now
    → HasReturned turns call c before now
returned-stands left turns call c numbers before mid now (begun, k, first, moved, all) reply = (numbers, (begun, k, mid, first, moved, omega (arith, all), reply))

-- a call that cannot go on
pub halted-stands : (fault : RunFault) (halt : Halt) (left turns : ℕ) (call : Event) (c : ℕ) (before mid now : List Label) → IsHaltAt fault halt → now ≡ mid → IsWithin left turns call c before mid → HasStopped halt turns call c before now
halted-stands fault Spent left turns call c before mid now is same within = absurd is
halted-stands fault Overflow left turns call c before mid now is same (begun, k, first, moved, all) =
    subst (HasStopped Overflow turns call c before) (sym same) (begun, k, first, moved, omega (arith, all))
halted-stands fault Full left turns call c before mid now is same (begun, k, first, moved, all) =
    subst (HasStopped Full turns call c before) (sym same) (inr (begun, k, first, moved, omega (arith, all)))

-- ---- what is left of the calls

-- one call more that has returned, before others
returned-before : (n turns : ℕ) (call : Event) (c : ℕ) (x y z : List Label) → HasReturned turns call c x y → HaveReturned n turns call c y z → HaveReturned (suc n) turns call c x z
returned-before zero turns call c x y z first same = (x, refl, subst (HasReturned turns call c x) (sym same) first)
returned-before (suc n) turns call c x y z first (mid, rest, last) = (mid, returned-before n turns call c x y mid first rest, last)

-- the same call so often
abbrev times : ℕ → S.Calls → S.Calls
times n k = record k { count = n }

returned-first : (end : Option Halt) (k : S.Calls) (n : ℕ) (ks : List S.Calls) (c : ℕ) (x y z : List Label) → HasReturned k.turns (event_of k) c x y → HasPlayed end (times n k ∷ ks) c y z → HasPlayed end (times (suc n) k ∷ ks) c x z
returned-first None k n ks c x y z first (mid, made, rest) = (mid, returned-before n k.turns (event_of k) c x y mid first made, rest)
returned-first (Some h) k n ks c x y z first (inl (m, below, (mid, made, stopped))) =
    inl (suc m, omega (arith, below), (mid, returned-before m k.turns (event_of k) c x y mid first made, stopped))
returned-first (Some h) k n ks c x y z first (inr (mid, made, rest)) = inr (mid, returned-before n k.turns (event_of k) c x y mid first made, rest)

-- a call that is made no time
none-first : (end : Option Halt) (k : S.Calls) (ks : List S.Calls) (c : ℕ) (y z : List Label) → HasPlayed end ks c y z → HasPlayed end (times 0 k ∷ ks) c y z
none-first None k ks c y z rest = (y, refl, rest)
none-first (Some h) k ks c y z rest = inr (y, refl, rest)

stopped-first : (h : Halt) (k : S.Calls) (n : ℕ) (ks : List S.Calls) (c : ℕ) (x y : List Label) → HasStopped h k.turns (event_of k) c x y → HasPlayed (Some h) (times (suc n) k ∷ ks) c x y
stopped-first h k n ks c x y stopped = inl (0, omega arith, (x, refl, stopped))

-- what is played of calls, without those that are made no time, is played of all
pub ever-played : (end : Option Halt) (ks : List S.Calls) (c : ℕ) (x y : List Label) → HasPlayed end (made_ever ks) c x y → HasPlayed end ks c x y
ever-played end [] c x y h = h
ever-played end (k ∷ ks) c x y h = by (λ e m. ever-played e ks c m y) (nat_lt 0 k.count) refl
  where
    first : ((e : Option Halt) (m : List Label) → HasPlayed e (made_ever ks) c m y → HasPlayed e ks c m y) → (e : Option Halt) → HasPlayed e (k ∷ made_ever ks) c x y → HasPlayed e (k ∷ ks) c x y
    first rest None (mid, made, more) = (mid, made, rest None mid more)
    first rest (Some s) (inl made) = inl made
    first rest (Some s) (inr (mid, made, more)) = inr (mid, made, rest (Some s) mid more)

    by : ((e : Option Halt) (m : List Label) → HasPlayed e (made_ever ks) c m y → HasPlayed e ks c m y) → (b : Bool) → nat_lt 0 k.count ≡ b → HasPlayed end (k ∷ ks) c x y
    by rest true e = first rest end (subst (λ t. HasPlayed end (cond t (k ∷ made_ever ks) (made_ever ks)) c x y) e h)
    by rest false e =
        let none : k.count ≡ 0 = let low = ltb-false 0 k.count e in omega (arith, low) in
        let more : HasPlayed end (made_ever ks) c x y = subst (λ t. HasPlayed end (cond t (k ∷ made_ever ks) (made_ever ks)) c x y) e h in
        subst (λ n. HasPlayed end (times n k ∷ ks) c x y) (sym none) (none-first end k ks c x y (rest end x more))

less-played : (end : Option Halt) (n : ℕ) (d : Due) (rest : List Due) (c : ℕ) (x y z : List Label) → HasReturned (due_of d).turns (event_of (due_of d)) c x y → HasPlayed end (dues_of (lessened n d rest)) c y z
    → HasPlayed end (times (suc n) (calls_of d.calls.now) ∷ dues_of rest) c x z
less-played end zero d rest c x y z first played = returned-first end (calls_of d.calls.now) 0 (dues_of rest) c x y z first (none-first end (calls_of d.calls.now) (dues_of rest) c y z played)
less-played end (suc n) d rest c x y z first played = returned-first end (calls_of d.calls.now) (suc n) (dues_of rest) c x y z first played

-- ---- a client's way

stopped-fits : (h : Halt) (turns op : ℕ) (ns : List ℤ) (c : ℕ) (before after : List Label) → HasStopped h turns (Invoked op ns) c before after → fits (Some h) (is_unfinished after) ≡ true
stopped-fits Spent turns op ns c before after is = spent-fits turns op ns c before after is
stopped-fits Overflow turns op ns c before after is = refl
stopped-fits Full turns op ns c before after is = refl

module _ (phases : List (List S.Script)) (c : ℕ) (d : Due) (rest : List Due) (before now : List Label) where
  -- a call has returned
  pub between-on-way : (due' : Option Due) (rest' : List Due) → LeadsTo phases c (dues_of (d ∷ rest)) before → HasReturned (due_of d).turns (event_of (due_of d)) c before now
      → left_of due' rest' ≡ lessened d.more d rest → IsOnWayAt phases c Between due' rest' now
  between-on-way due' rest' leads returned same = (
    λ end after played. leads end after (less-played end d.more d rest c before now after returned (subst (λ l. HasPlayed end (dues_of l) c now after) same played)),
    returned-fits (due_of d).turns (event_of (due_of d)) c before now returned,
  )

  -- it goes on
  pub within-on-way : (left : ℕ) (due' : Option Due) → LeadsTo phases c (dues_of (d ∷ rest)) before → IsWithin left (due_of d).turns (event_of (due_of d)) c before now → due' ≡ Some d → IsOnWayAt phases c (Within left) due' rest now
  within-on-way left due' leads within same = subst (λ o. IsOnWayAt phases c (Within left) o rest now) (sym same) (before, leads, within)

  -- it is the last one
  pub halted-on-way : (h : Halt) (due' : Option Due) → LeadsTo phases c (dues_of (d ∷ rest)) before → HasStopped h (due_of d).turns (event_of (due_of d)) c before now → IsOnWayAt phases c (Halted h) due' rest now
  halted-on-way h due' leads stopped = (
    leads (Some h) now (stopped-first h (calls_of d.calls.now) d.more (dues_of rest) c before now stopped),
    stopped-fits h (due_of d).turns (due_of d).call.op (due_of d).call.numbers c before now stopped,
  )

-- what is left of the way of a client that has come to its turn
pub turned-on-way : (phases : List (List S.Script)) (c : ℕ) (stand turn : Stand) (due due' : Option Due) (rest rest' : List Due) (now : List Label) → HasTurnedAt phases c (Some turn) stand due rest now
    → (turn ≡ Between → (d : Due) → due ≡ Some d → left_of due' rest' ≡ lessened d.more d rest) → ((turn ≡ Between → ⊥) → (due' ≡ due) × (rest' ≡ rest)) → IsOnWayAt phases c turn due' rest' now
turned-on-way phases c stand turn None due' rest rest' now way returned goes = absurd way
turned-on-way phases c stand Between (Some d) due' rest rest' now (before, leads, stands) returned goes = between-on-way phases c d rest before now due' rest' leads stands (returned refl d refl)
turned-on-way phases c stand (Within left) (Some d) due' rest rest' now (before, leads, stands) returned goes =
    let kept = goes (λ e. absurd cc) in
    subst (λ r. IsOnWayAt phases c (Within left) due' r now) (sym kept.1) (within-on-way phases c d rest before now left due' leads stands kept.0)
turned-on-way phases c stand (Halted h) (Some d) due' rest rest' now (before, leads, stands) returned goes =
    let kept = goes (λ e. absurd cc) in
    subst (λ r. IsOnWayAt phases c (Halted h) due' r now) (sym kept.1) (halted-on-way phases c d rest before now h due' leads stands)

-- what a client has made that makes no further call
at-end-played : (phases : List (List S.Script)) (c : ℕ) (stand : Stand) (due : Option Due) (rest : List Due) (now : List Label) → is_at_end stand due ≡ true → IsOnWayAt phases c stand due rest now
    → HasPlayed (halt_in stand) (planned c phases) c [] now
at-end-played phases c Between None rest now ended way = way.0 None now refl
at-end-played phases c Between (Some d) rest now ended way = absurd cc
at-end-played phases c (Within left) due rest now ended way = absurd cc
at-end-played phases c (Halted h) due rest now ended way = way.0

pub ended-made-all : {J : Type 0} (phases : List (List S.Script)) (p : Player J) (m : Member J) (h : Option Halt) → has_ended p ≡ true → IsOnWay phases p → h ≡ halt_in p.stand → client_of m ≡ client_in p.seat
    → halt_of m ≡ h → made_by m ≡ labels_made p.seat → HasMadeAll phases m
ended-made-all phases p m h ended way is client halt made =
    subst (λ o. HasPlayed o (planned (client_of m) phases) (client_of m) [] (made_by m)) (sym (halt ∙ is))
    (subst (λ ls. HasPlayed (halt_in p.stand) (planned (client_of m) phases) (client_of m) [] ls) (sym made)
    (subst (λ c. HasPlayed (halt_in p.stand) (planned c phases) c [] (labels_made p.seat)) (sym client) (at-end-played phases (client_in p.seat) p.stand p.due _ (labels_made p.seat) ended way)))

-- a client before the next phase
pub begins-on-way : (plan : Plan) (n : ℕ) (phase : Vec Script Global) (scripts : List Script) (c d : ℕ) (halt : Option Halt) (made : List Label) (dues rest : List Due) (due : Option Due) → n < length plan.phases.items
    → phase ≡ get_or plan.phases.items n phase → scripts ≡ phase.items → HasPlayed halt (planned c (phases_to plan n)) c [] made → fits halt (is_unfinished made) ≡ true → d ≡ c
    → dues_of dues ≡ made_ever (calls_in d (map script_of scripts)) → left_of due rest ≡ dues → IsOnWayAt (phases_to plan (n + 1)) c (stand_before halt) due rest made
begins-on-way plan n phase scripts c d None made dues rest due below is same h fit own all left = (
  λ end after played.
      went-on plan.phases.items n phase c c None end made after below is refl h
      (ever-played end (calls_in c (scripts_of phase)) c made after
      (subst (λ ks. HasPlayed end ks c made after)
      (ap dues_of left ∙ (all ∙ (ap (λ e. made_ever (calls_in e (map script_of scripts))) own ∙ ap (λ l. made_ever (calls_in c (map script_of l))) same))) played)),
  in-none (is_unfinished made) fit,
)
begins-on-way plan n phase scripts c d (Some h) made dues rest due below is same played fit own all left =
    (went-on plan.phases.items n phase c c (Some h) (Some h) made made below is refl played (refl, refl), fit)

pub starts-on-way : {J : Type 0} (plan : Plan) (n : ℕ) (phase : Vec Script Global) (scripts : List Script) (m : Member J) (seat : Seat J) (e : Ended) (stand : Stand) (dues rest : List Due) (due : Option Due)
    → n < length plan.phases.items → phase ≡ get_or plan.phases.items n phase → scripts ≡ phase.items → HasMadeAll (phases_to plan n) m → client_in seat ≡ client_of m → labels_made seat ≡ made_by m
    → e.client ≡ client_of m → e.halt ≡ halt_of m → stand ≡ stand_before e.halt → dues_of dues ≡ made_ever (calls_in e.client (map script_of scripts)) → left_of due rest ≡ dues
    → IsOnWayAt (phases_to plan (n + 1)) (client_in seat) stand due rest (labels_made seat)
starts-on-way plan n phase scripts m seat e stand dues rest due below there same made own labels client halt is all left =
    subst (λ s. IsOnWayAt (phases_to plan (n + 1)) (client_in seat) s due rest (labels_made seat)) (sym (is ∙ ap stand_before halt))
    (subst (λ c. IsOnWayAt (phases_to plan (n + 1)) c (stand_before (halt_of m)) due rest (labels_made seat)) (sym own)
    (subst (λ ls. IsOnWayAt (phases_to plan (n + 1)) (client_of m) (stand_before (halt_of m)) due rest ls) (sym labels)
    (begins-on-way plan n phase scripts (client_of m) e.client (halt_of m) (made_by m) dues rest due below there same made m.fit client all left)))

-- a client that has begun its next call
pub begun-turn : (phases : List (List S.Script)) (c d : ℕ) (stand turn : Stand) (due : Option Due) (x : Due) (rest : List Due) (old now : List Label) → due ≡ Some x → stand ≡ Between → d ≡ c
    → IsOnWayAt phases c stand due rest old → StandsSo turn (due_of x).turns (event_of (due_of x)) c old now → HasTurnedAt phases d (Some turn) stand due rest now
begun-turn phases c d stand turn due x rest old now is here same way stands =
    let at : IsOnWayAt phases c Between (Some x) rest old = subst (λ s. IsOnWayAt phases c s (Some x) rest old) here (subst (λ o. IsOnWayAt phases c stand o rest old) is way) in
    subst (λ e. HasTurnedAt phases e (Some turn) stand due rest now) (sym same) (subst (λ o. HasTurnedAt phases c (Some turn) stand o rest now) (sym is) (old, at.0, stands))

-- a client that has taken a step of its call
pub stepped-turn : (phases : List (List S.Script)) (c d left : ℕ) (stand turn : Stand) (due : Option Due) (x : Due) (rest : List Due) (old now : List Label) → due ≡ Some x → stand ≡ Within left → d ≡ c
    → IsOnWayAt phases c stand due rest old → ((turns : ℕ) (call : Event) (before : List Label) → IsWithin left turns call c before old → StandsSo turn turns call c before now)
    → HasTurnedAt phases d (Some turn) stand due rest now
stepped-turn phases c d left stand turn due x rest old now is here same way goes =
    let at : IsOnWayAt phases c (Within left) (Some x) rest old = subst (λ s. IsOnWayAt phases c s (Some x) rest old) here (subst (λ o. IsOnWayAt phases c stand o rest old) is way) in
    subst (λ e. HasTurnedAt phases e (Some turn) stand due rest now) (sym same)
    (subst (λ o. HasTurnedAt phases c (Some turn) stand o rest now) (sym is) (at.0, at.1, goes (due_of x).turns (event_of (due_of x)) at.0 at.2))

-- ---- calls of a script

-- they are made no time if no number is one less
pub made-never : (o : Option ℕ) (n : ℕ) → ((m : ℕ) → o ≡ Some m → ⊥) → SomeIff o (1 ≤ n) (n - 1) → n ≡ 0
made-never None zero none tells = refl
made-never None (suc n) none tells = absurd (tells (omega arith))
made-never (Some m) n none tells = absurd (none m refl)

pub due-none : (x : Calls) (ds : List S.Calls) → x.count ≡ 0 → ds ≡ ds ++ made_ever (calls_of x ∷ [])
due-none x ds none = sym (ap (λ n. ds ++ cond (nat_lt 0 n) (calls_of x ∷ []) []) none ∙ append-nil ds)

-- else they are made once, and so many times more
pub due-more : (o : Option ℕ) (x : Calls) (ds : List Due) (d : Due) → o ≡ Some d.more → d.calls.now ≡ x → SomeIff o (1 ≤ x.count) (x.count - 1) → dues_of (ds ++ d ∷ []) ≡ dues_of ds ++ made_ever (calls_of x ∷ [])
due-more o x ds d some same tells =
    let k : (1 ≤ x.count) × (d.more ≡ x.count - 1) = subst (λ o. SomeIff o (1 ≤ x.count) (x.count - 1)) some tells in
    let count : suc d.more ≡ x.count = omega (arith, k.0, k.1) in
    let made : nat_lt 0 x.count ≡ true = lt-ltb 0 x.count (omega (arith, k.0)) in
    let one : due_of d ≡ calls_of x = ap₂ (λ (y : Calls) n. record (calls_of y) { count = n }) same count in
    map-append due_of ds (d ∷ []) ∙ ap (λ y. dues_of ds ++ y ∷ []) one ∙ sym (ap (λ t. dues_of ds ++ cond t (calls_of x ∷ []) []) made)

made-ever-more : (k : S.Calls) (ks : List S.Calls) → made_ever (k ∷ ks) ≡ made_ever (k ∷ []) ++ made_ever ks
made-ever-more k ks = by (nat_lt 0 k.count)
  where
    by : (t : Bool) → cond t (k ∷ made_ever ks) (made_ever ks) ≡ cond t (k ∷ []) [] ++ made_ever ks
    by true = refl
    by false = refl

-- after the next calls of a script, with what is left of it
pub dues-more : (seen items : List Calls) (i : ℕ) (x : Calls) (ds next all : List S.Calls) → seen ≡ items → i < length seen → x ≡ get_or seen i x → next ≡ ds ++ made_ever (calls_of x ∷ [])
    → ds ++ made_ever (map calls_of (drop i items)) ≡ all → next ++ made_ever (map calls_of (drop (i + 1) items)) ≡ all
dues-more seen items i x ds next all same below is grown so =
    let here : drop i items ≡ x ∷ drop (i + 1) items =
    subst (λ l. drop i l ≡ x ∷ drop (i + 1) l) same (drop_more seen i x below ∙ ap (λ y. y ∷ drop (i + 1) seen) (sym is)) in
    let rest = map calls_of (drop (i + 1) items) in
    ap (λ l. l ++ made_ever rest) grown
    ∙ (append_assoc ds (made_ever (calls_of x ∷ [])) (made_ever rest)
    ∙ (sym (ap (λ l. ds ++ made_ever (map calls_of l)) here ∙ ap (λ l. ds ++ l) (made-ever-more (calls_of x) rest)) ∙ so))

-- what is taken first of what is left
pub first-taken : (o : Option Due) (old new : List Due) (n : ℕ) → n ≡ length old → IsSome o ↔ (0 < n) → old ≡ option_to_list o ++ new → left_of o new ≡ old
first-taken None [] new n same some is = refl
first-taken None (d ∷ old) new n same some is = absurd (let no = some.1 (omega (arith, same)) in cc)
first-taken (Some d) old new n same some is = sym is

-- ---- lists of clients

pub All-removed : {X : Type 0} (P : X → Type 0) (xs : List X) (i : ℕ) → All P xs → All P (remove xs i)
All-removed P xs i all = All-append P (take i xs) (drop (suc i) xs) (All-take P i xs all) (All-drop P (suc i) xs all)

pub All-inserted : {X : Type 0} (P : X → Type 0) (xs : List X) (i : ℕ) (x : X) → P x → All P xs → All P (insert xs i x)
All-inserted P xs i x is all = All-append P (take i xs) (x ∷ drop i xs) (All-take P i xs all) (All-cons P x (drop i xs) is (All-drop P i xs all))
