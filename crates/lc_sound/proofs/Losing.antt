-- An object that loses an update is never proven.
use Rattle.std.proofs.Common.{◌≡◌, ℕ, ◌+ℤ◌, ◌⊎◌, ne_eqb, ◌==◌, Bool, true, false, cond, List, [], ◌∷◌, ℤ, pos, Some, None, refl, sym, ap, ◌∙◌, subst, inl, inr, arith, eqb-true}
use Rattle.std.specs.Prelude.{codes}
use Rattle.std.proofs.lemmas.Bool.{eqb-false}
use Rattle.std.proofs.lemmas.Int.{ints}
use Rattle.std.proofs.lemmas.Option.{same_Some}
use Rattle.lc_lemmas.proofs.Numbers.{equal_to_itself}
use Rattle.lc_term.specs.Syntax.{Number, Variable, Add}
use Rattle.lc_term.specs.Meaning.{State}
use Rattle.lc_term.specs.State.{with_cell}
use Rattle.lc_seq.specs.Sequential.{Call, Choice, Sequential, InOrder, ByName}
use Rattle.lc_seq.specs.Specification.{Specification}
use Rattle.lc_seq.specs.TextStep.{text_step, start_of}
use Rattle.lc_history.specs.History.{Entry, IsLegal, AreCalls, entries_of, IsLinearizable}
use Rattle.lc_object.specs.Syntax as O
use Rattle.lc_object.specs.Syntax.{Load, Store, Return}
use Rattle.lc_object.specs.declared.instr.EdgeKind.TheVariants.{Next}
use Rattle.lc_machine.specs.World.{World, Idle, In, initial_world}
use Rattle.lc_machine.specs.Step.{Invoked, Moved, Returned, Steps, after, with_row}
use Rattle.lc_machine.specs.Runs.{IsBareRun}
use Rattle.lc_cond.specs.Counter.{counter_specification, racy_object}
use Rattle.lc_sound.specs.Instrumented.{bare_history}
use Rattle.lc_sound.specs.Examples.{lost_labels, LostUpdateIsNeverProven}
use Rattle.lc_sound.proofs.Lifted.{headline_is_proved}

-- ---- the run

abbrev racy_object_inc : O.Operation
racy_object_inc = record { name = codes "inc"; arguments = []; replies = 1; locals = codes "x" ∷ []; entry = 0 }

abbrev racy_object_p0 : O.Point
racy_object_p0 = record { name = codes "p0"; operation = 0; instruction = Load 0 (Number (pos 0)) (2 ∷ []) 1 }

abbrev racy_object_p1 : O.Point
racy_object_p1 = record { name = codes "p1"; operation = 0; instruction = Store 0 (Number (pos 0)) (Add (Variable 2) (Number (pos 1)) ∷ []) 2 }

abbrev racy_object_p2 : O.Point
racy_object_p2 = record { name = codes "p2"; operation = 0; instruction = Return (Variable 2 ∷ []) }

abbrev pub v0 : World
v0 = initial_world racy_object 2

abbrev v1 : World
v1 = after v0 v0.columns 0 (In 0 (pos 2 ∷ pos 0 ∷ pos 0 ∷ []))

abbrev v2 : World
v2 = after v1 v1.columns 1 (In 0 (pos 2 ∷ pos 1 ∷ pos 0 ∷ []))

abbrev v3 : World
v3 = after v2 v2.columns 0 (In 1 (pos 2 ∷ pos 0 ∷ pos 0 ∷ []))

abbrev v4 : World
v4 = after v3 v3.columns 1 (In 1 (pos 2 ∷ pos 1 ∷ pos 0 ∷ []))

abbrev v5 : World
v5 = after v4 (with_row v4.columns (1 ∷ []) (pos 0) (pos 1 ∷ [])) 0 (In 2 (pos 2 ∷ pos 0 ∷ pos 0 ∷ []))

abbrev v6 : World
v6 = after v5 (with_row v5.columns (1 ∷ []) (pos 0) (pos 1 ∷ [])) 1 (In 2 (pos 2 ∷ pos 1 ∷ pos 0 ∷ []))

abbrev v7 : World
v7 = after v6 v6.columns 0 Idle

abbrev v8 : World
v8 = after v7 v7.columns 1 Idle

step_v1 : Steps racy_object v0 0 (Invoked 0 []) v1
step_v1 = (racy_object_inc, refl, refl, refl, refl)

step_v2 : Steps racy_object v1 1 (Invoked 0 []) v2
step_v2 = (racy_object_inc, refl, refl, refl, refl)

step_v3 : Steps racy_object v2 0 (Moved 0 Next) v3
step_v3 = (pos 2 ∷ pos 0 ∷ pos 0 ∷ [], (racy_object_p0).instruction, record { client = refl; code = (racy_object_p0, refl, refl) }, v2.columns, 1, pos 2 ∷ pos 0 ∷ pos 0 ∷ [], (refl, refl, refl), refl)

step_v4 : Steps racy_object v3 1 (Moved 0 Next) v4
step_v4 = (pos 2 ∷ pos 1 ∷ pos 0 ∷ [], (racy_object_p0).instruction, record { client = refl; code = (racy_object_p0, refl, refl) }, v3.columns, 1, pos 2 ∷ pos 1 ∷ pos 0 ∷ [], (refl, refl, refl), refl)

step_v5 : Steps racy_object v4 0 (Moved 1 Next) v5
step_v5 = (pos 2 ∷ pos 0 ∷ pos 0 ∷ [], (racy_object_p1).instruction, record { client = refl; code = (racy_object_p1, refl, refl) }, with_row v4.columns (1 ∷ []) (pos 0) (pos 1 ∷ []), 2, pos 2 ∷ pos 0 ∷ pos 0 ∷ [], (refl, refl, refl), refl)

step_v6 : Steps racy_object v5 1 (Moved 1 Next) v6
step_v6 = (pos 2 ∷ pos 1 ∷ pos 0 ∷ [], (racy_object_p1).instruction, record { client = refl; code = (racy_object_p1, refl, refl) }, with_row v5.columns (1 ∷ []) (pos 0) (pos 1 ∷ []), 2, pos 2 ∷ pos 1 ∷ pos 0 ∷ [], (refl, refl, refl), refl)

step_v7 : Steps racy_object v6 0 (Returned (pos 0 ∷ [])) v7
step_v7 = (2, pos 2 ∷ pos 0 ∷ pos 0 ∷ [], (racy_object_p2).instruction, record { client = refl; code = (racy_object_p2, refl, refl) }, Next, v6.columns, (refl, refl, refl), refl)

step_v8 : Steps racy_object v7 1 (Returned (pos 0 ∷ [])) v8
step_v8 = (2, pos 2 ∷ pos 1 ∷ pos 0 ∷ [], (racy_object_p2).instruction, record { client = refl; code = (racy_object_p2, refl, refl) }, Next, v7.columns, (refl, refl, refl), refl)

lost_run : IsBareRun racy_object 2 lost_labels
lost_run = (v8, (v1, step_v1, (v2, step_v2, (v3, step_v3, (v4, step_v4, (v5, step_v5, (v6, step_v6, (v7, step_v7, (v8, step_v8, refl)))))))))

-- ---- no order linearizes its history

abbrev inc : Call
inc = record { op = 0; numbers = [] }

abbrev one : List (Call × List ℤ)
one = (inc, pos 0 ∷ []) ∷ []

abbrev step : Sequential State
step = text_step counter_specification.operations

-- an entry in front is its client's first
in_front : (e : Entry) (es : List Entry) (c : ℕ) → e.client ≡ c → entries_of c (e ∷ es) ≡ (e.call, e.reply) ∷ entries_of c es
in_front e es c is = ap (λ d. cond (d == c) ((e.call, e.reply) ∷ entries_of c es) (entries_of c es)) is ∙ ap (λ b. cond b ((e.call, e.reply) ∷ entries_of c es) (entries_of c es)) (equal_to_itself c)

-- an increment that replies 0 finds 0, and leaves 1
incremented : (s t : State) (c : ℕ) (e : Entry) (es : List Entry) → step s e.client e.call e.choice ≡ Some (t, e.reply) → (e.call, e.reply) ∷ entries_of c es ≡ one → (s 0 (pos 0) ≡ pos 0) × (t 0 (pos 0) ≡ pos 1) × (entries_of c es ≡ [])
incremented s t c e es st is =
    let front : (e.call, e.reply) ≡ (inc, pos 0 ∷ []) = first_is (e.call, e.reply) (inc, pos 0 ∷ []) (entries_of c es) [] is in
    let call : e.call ≡ inc = ap (λ p. p.0) front in
    let reply : e.reply ≡ pos 0 ∷ [] = ap (λ p. p.1) front in
    let none : entries_of c es ≡ [] = rest_is (e.call, e.reply) (inc, pos 0 ∷ []) (entries_of c es) [] is in
    let took : step s e.client inc e.choice ≡ Some (t, pos 0 ∷ []) = subst (λ r. step s e.client inc e.choice ≡ Some (t, r)) reply (subst (λ k. step s e.client k e.choice ≡ Some (t, e.reply)) call st) in
    let both : (step_of s, s 0 (pos 0) ∷ []) ≡ (t, pos 0 ∷ []) = by_choice e.choice took in
    let found : s 0 (pos 0) ≡ pos 0 = head_is (s 0 (pos 0)) (pos 0) (ap (λ p. p.1) both) in
    (found, (λ i. (sym (ap (λ p. p.0) both)) i 0 (pos 0)) ∙ ap (λ x. x +ℤ pos 1) found, none)
  where
    step_of : State → State
    step_of s = with_cell s 0 (pos 0) (s 0 (pos 0) +ℤ pos 1)

    given : State × List ℤ
    given = (step_of s, s 0 (pos 0) ∷ [])

    wanted : State × List ℤ
    wanted = (t, pos 0 ∷ [])

    -- the counter has no branch of a name
    by_choice : (choice : Choice) → step s e.client inc choice ≡ Some wanted → given ≡ wanted
    by_choice InOrder took = same_Some (step_of s, s 0 (pos 0) ∷ []) (t, pos 0 ∷ []) took
    by_choice (ByName name ns) took = absurd cc

    first_is : {A : Type 0} (x y : A) (xs ys : List A) → x ∷ xs ≡ y ∷ ys → x ≡ y
    first_is x y xs ys e = cc

    rest_is : {A : Type 0} (x y : A) (xs ys : List A) → x ∷ xs ≡ y ∷ ys → xs ≡ ys
    rest_is x y xs ys e = cc

    head_is : (x y : ℤ) → x ∷ [] ≡ y ∷ [] → x ≡ y
    head_is x y e = cc

-- whose entry is in front
whose : (a b : ℕ) (e : Entry) (es : List Entry) → ((c : ℕ) → (c ≡ a → ⊥) → (c ≡ b → ⊥) → entries_of c (e ∷ es) ≡ []) → (e.client ≡ a) ⊎ (e.client ≡ b)
whose a b e es others = by (e.client == a) (e.client == b) refl refl
  where
    by : (x y : Bool) → (e.client == a) ≡ x → (e.client == b) ≡ y → (e.client ≡ a) ⊎ (e.client ≡ b)
    by true y h k = inl (eqb-true e.client a h)
    by false true h k = inr (eqb-true e.client b k)
    by false false h k = absurd (cc (sym (in_front e es e.client refl) ∙ others e.client (eqb-false e.client a h) (eqb-false e.client b k)))

-- a's call is done and b's is left
second : (a b : ℕ) (t : State) (es : List Entry) → IsLegal step t es → entries_of a es ≡ [] → entries_of b es ≡ one → ((c : ℕ) → (c ≡ a → ⊥) → (c ≡ b → ⊥) → entries_of c es ≡ []) → t 0 (pos 0) ≡ pos 0
second a b t [] legal ea eb others = absurd (cc eb)
second a b t (e ∷ es) (u, st, rest) ea eb others = by (whose a b e es others)
  where
    by : (e.client ≡ a) ⊎ (e.client ≡ b) → t 0 (pos 0) ≡ pos 0
    by (inl is) = absurd (cc (sym (in_front e es a is) ∙ ea))
    by (inr is) = (incremented t u b e es st (sym (in_front e es b is) ∙ eb)).0

behind : (c d : ℕ) (e : Entry) (es : List Entry) (xs : List (Call × List ℤ)) → e.client ≡ c → (d ≡ c → ⊥) → entries_of d (e ∷ es) ≡ xs → entries_of d es ≡ xs
behind c d e es xs is ne h = by (e.client == d) refl h
  where
    by : (b : Bool) → (e.client == d) ≡ b → entries_of d (e ∷ es) ≡ xs → entries_of d es ≡ xs
    by true k h = absurd (ne (sym (eqb-true e.client d k) ∙ is))
    by false k h = sym (ap (λ b. cond b ((e.call, e.reply) ∷ entries_of d es) (entries_of d es)) k) ∙ h

-- the call of a goes first
goes_first : (a b : ℕ) → (b ≡ a → ⊥) → (s : State) (e : Entry) (es : List Entry) → e.client ≡ a → IsLegal step s (e ∷ es) → entries_of a (e ∷ es) ≡ one → entries_of b (e ∷ es) ≡ one → ((c : ℕ) → (c ≡ a → ⊥) → (c ≡ b → ⊥) → entries_of c (e ∷ es) ≡ []) → ⊥
goes_first a b ne s e es is (t, st, rest) ea eb others =
    let x = incremented s t a e es st (sym (in_front e es a is) ∙ ea) in
    let y = second a b t es rest x.2 (behind a b e es one is ne eb) (λ c p q. behind a c e es [] is p (others c p q)) in
    absurd (omega (arith, ints, sym x.1 ∙ y))

none_legal : (s : State) (es : List Entry) → IsLegal step s es → entries_of 0 es ≡ one → entries_of 1 es ≡ one → ((c : ℕ) → (c ≡ 0 → ⊥) → (c ≡ 1 → ⊥) → entries_of c es ≡ []) → ⊥
none_legal s [] legal ea eb others = absurd (cc ea)
none_legal s (e ∷ es) legal ea eb others = by (whose 0 1 e es others)
  where
    by : (e.client ≡ 0) ⊎ (e.client ≡ 1) → ⊥
    by (inl is) = goes_first 0 1 (λ x. omega arith) s e es is legal ea eb others
    by (inr is) = goes_first 1 0 (λ x. omega arith) s e es is legal eb ea (λ c p q. others c q p)

returned_calls : (c : ℕ) (xs ys : List (Call × List ℤ)) → AreCalls c None (bare_history lost_labels) xs → Rattle.lc_history.specs.History.pending_of c None (bare_history lost_labels) ≡ None → Rattle.lc_history.specs.History.returned_of c None (bare_history lost_labels) ≡ ys → xs ≡ ys
returned_calls c xs ys (inl is) none r = is ∙ r
returned_calls c xs ys (inr (call, reply, pending, is)) none r = absurd (cc (sym none ∙ pending))

not_linearizable : IsLinearizable step (start_of counter_specification.columns) (bare_history lost_labels) → ⊥
not_linearizable (order, lin) = none_legal (start_of counter_specification.columns) order lin.legal
    (returned_calls 0 (entries_of 0 order) one (lin.calls 0) refl refl) (returned_calls 1 (entries_of 1 order) one (lin.calls 1) refl refl)
    (λ c p q.
    let z : (0 == c) ≡ false = ne_eqb 0 c (λ x. p (sym x)) in
    let w : (1 == c) ≡ false = ne_eqb 1 c (λ x. q (sym x)) in
    returned_calls c (entries_of c order) [] (lin.calls c) (rw (z, w)) (rw (z, w)))

pub never_proven : LostUpdateIsNeverProven
never_proven D specified code X =
    not_linearizable (subst (λ (q : Specification). IsLinearizable (text_step q.operations) (start_of q.columns) (bare_history lost_labels)) specified
    (headline_is_proved D X 2 lost_labels (subst (λ o. IsBareRun o 2 lost_labels) (sym code) lost_run)))
