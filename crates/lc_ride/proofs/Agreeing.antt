-- What riders do, as a function and as a relation.
use Rattle.std.proofs.Common.{◌≡◌, ℕ, Bool, true, false, List, [], ◌∷◌, ◌++◌, ℤ, pos, negsuc, Option, Some, None, option_map, cond, refl, sym, ap, ◌∙◌, inl, inr}
use Rattle.std.specs.Option.{option_and_then}
use Rattle.std.specs.Ordering.{int_eq}
use Rattle.std.proofs.lemmas.Bool.{false≢true}
use Rattle.std.proofs.lemmas.Bool.Decides.{Decides-int_eq}
use Rattle.std.proofs.lemmas.Option.{same_Some}
use Rattle.lc_term.specs.Lists.{Every}
use Rattle.lc_term.specs.Meaning.{State, Env, outside, value}
use Rattle.lc_term.specs.Syntax.{Term, Formula}
use Rattle.lc_term.specs.SystemColumns.{pend, op_column}
use Rattle.lc_term.specs.Truth.{truth, is_ground}
use Rattle.lc_term.specs.Updates.{Write}
use Rattle.lc_term.proofs.Truth.{Decides-truth}
use Rattle.lc_seq.specs.Sequential.{Choice, given_in}
use Rattle.lc_seq.specs.Specification.{Operation, chosen}
use Rattle.lc_seq.specs.Branches.{op_branches}
use Rattle.lc_seq.specs.TextStep.{run, call_env}
use Rattle.lc_rider.specs.Rider.{Marking, Own, Other, Note, Deed, Assign, Marks, Rider, Mark, choice_at, arguments_in, Taken, IsSettled, IsNoted, IsMarked, IsDone, IsDoneWhere, RideAll}
use Rattle.lc_ride.specs.Riding.{Ridden, taken, settling, settle, noting, note, help, mark, do_deed, do_where, do_rider, behind, do_all}
use Rattle.lc_ride.specs.RideLaws.{IsOpen, RidersAreDone}

firsts : (a c : List Mark) (b d : State) → ◌≡◌ {A = Option Ridden} (Some (a, b)) (Some (c, d)) → a ≡ c
firsts a c b d e = let x : Ridden = (a, b) in let y : Ridden = (c, d) in ap (λ (p : Ridden). p.0) (same_Some x y e)

seconds : (a c : List Mark) (b d : State) → ◌≡◌ {A = Option Ridden} (Some (a, b)) (Some (c, d)) → b ≡ d
seconds a c b d e = let x : Ridden = (a, b) in let y : Ridden = (c, d) in ap (λ (p : Ridden). p.1) (same_Some x y e)

module _ (operations : List Operation) (first : ℕ) where
  module _ (m : State) (c o : ℕ) (choice : Choice) where
    here : (x : Option (List Write × List ℤ)) (b : Bool) (r : List Write × List ℤ) → int_eq (m (pend first) (pos c)) (pos 1) ≡ b → cond b x None ≡ Some r → (m (pend first) (pos c) ≡ pos 1) × (x ≡ Some r)
    here x true r is e = ((Decides-int_eq (m (pend first) (pos c)) (pos 1)).0 is, e)
    here x false r is e = absurd cc

    taken-some : (r : List Write × List ℤ) → taken operations first m c o choice ≡ Some r → (m (pend first) (pos c) ≡ pos 1) × (run m (call_env c (arguments_in operations first m c o ++ given_in choice)) (chosen choice (op_branches operations o)) ≡ Some r)
    taken-some r e = here (run m (call_env c (arguments_in operations first m c o ++ given_in choice)) (chosen choice (op_branches operations o))) (int_eq (m (pend first) (pos c)) (pos 1)) r refl e

    some-taken : (ws : List Write) (reply : List ℤ) → m (pend first) (pos c) ≡ pos 1 → Taken operations first m c o choice ws reply → taken operations first m c o choice ≡ Some (ws, reply)
    some-taken ws reply one is = ap (λ b. cond b (run m (call_env c (arguments_in operations first m c o ++ given_in choice)) (chosen choice (op_branches operations o))) None) ((Decides-int_eq (m (pend first) (pos c)) (pos 1)).1 one) ∙ is

    settle-to : (x : Option (List Write × List ℤ)) (ms : List Mark) (m' : State) → taken operations first m c o choice ≡ x → option_map (settling operations first m c choice) x ≡ Some (ms, m') → IsSettled operations first m c o choice ms m'
    settle-to None ms m' is e = absurd cc
    settle-to (Some (ws, reply)) ms m' is e =
        let t = taken-some (ws, reply) is in
        (ws, reply, t.0, t.1, sym (firsts _ ms _ m' e), sym (seconds _ ms _ m' e))

    settle-from : (ms : List Mark) (m' : State) → IsSettled operations first m c o choice ms m' → settle operations first m c o choice ≡ Some (ms, m')
    settle-from ms m' (ws, reply, one, is, ms-is, m-is) =
        ap (option_map (settling operations first m c choice)) (some-taken ws reply one is) ∙ (λ i. let r : Ridden = (sym ms-is i, sym m-is i) in Some r)

    note-at : (ws : List Write) (reply : List ℤ) (ms : List Mark) (m' : State) → m (pend first) (pos c) ≡ pos 1 → Taken operations first m c o choice ws reply → noting operations first m c choice ws reply ≡ Some (ms, m') → IsNoted operations first m c o choice ms m'
    note-at [] reply ms m' one is e = (reply, one, is, sym (firsts _ ms _ m' e), sym (seconds _ ms _ m' e))
    note-at (w ∷ ws) reply ms m' one is e = absurd cc

    note-to : (x : Option (List Write × List ℤ)) (ms : List Mark) (m' : State) → taken operations first m c o choice ≡ x → option_and_then (λ (r : List Write × List ℤ). noting operations first m c choice r.0 r.1) x ≡ Some (ms, m') → IsNoted operations first m c o choice ms m'
    note-to None ms m' is e = absurd cc
    note-to (Some (ws, reply)) ms m' is e = let t = taken-some (ws, reply) is in note-at ws reply ms m' t.0 t.1 e

    note-from : (ms : List Mark) (m' : State) → IsNoted operations first m c o choice ms m' → note operations first m c o choice ≡ Some (ms, m')
    note-from ms m' (reply, one, is, ms-is, m-is) =
        ap (option_and_then (λ (r : List Write × List ℤ). noting operations first m c choice r.0 r.1)) (some-taken [] reply one is) ∙ (λ i. let r : Ridden = (sym ms-is i, sym m-is i) in Some r)

  help-at : (m : State) (c p : ℕ) (choice : Choice) (b : Bool) (ms : List Mark) (m' : State) → int_eq (m (op_column first) (pos c)) (pos p) ≡ b →
      cond b (settle operations first m c p choice) None ≡ Some (ms, m') → (m (op_column first) (pos c) ≡ pos p) × IsSettled operations first m c p choice ms m'
  help-at m c p choice true ms m' is e = ((Decides-int_eq (m (op_column first) (pos c)) (pos p)).0 is, settle-to m c p choice (taken operations first m c p choice) ms m' refl e)
  help-at m c p choice false ms m' is e = absurd cc

  help-to : (self o : ℕ) (e : Env) (m : State) (t : Term) (p : ℕ) (choice : Choice) (x : ℤ) (ms : List Mark) (m' : State) → value m e outside t ≡ x →
      help operations first m x p choice ≡ Some (ms, m') → IsMarked operations first self o e m (Other t p) choice ms m'
  help-to self o e m t p choice (pos c) ms m' is h =
      let r = help-at m c p choice (int_eq (m (op_column first) (pos c)) (pos p)) ms m' refl h in
      (c, is, r.0, r.1)
  help-to self o e m t p choice (negsuc c) ms m' is h = absurd cc

  mark-to : (self o : ℕ) (e : Env) (m : State) (k : Marking) (choice : Choice) (ms : List Mark) (m' : State) → mark operations first self o e m k choice ≡ Some (ms, m') →
      IsMarked operations first self o e m k choice ms m'
  mark-to self o e m Own choice ms m' h = settle-to m self o choice (taken operations first m self o choice) ms m' refl h
  mark-to self o e m (Other t p) choice ms m' h = help-to self o e m t p choice (value m e outside t) ms m' refl h
  mark-to self o e m Note choice ms m' h = note-to m self o choice (taken operations first m self o choice) ms m' refl h

  mark-from : (self o : ℕ) (e : Env) (m : State) (k : Marking) (choice : Choice) (ms : List Mark) (m' : State) → IsMarked operations first self o e m k choice ms m' →
      mark operations first self o e m k choice ≡ Some (ms, m')
  mark-from self o e m Own choice ms m' h = settle-from m self o choice ms m' h
  mark-from self o e m (Other t p) choice ms m' (c, is, op, h) =
      ap (λ x. help operations first m x p choice) is ∙
      (ap (λ b. cond b (settle operations first m c p choice) None) ((Decides-int_eq (m (op_column first) (pos c)) (pos p)).1 op) ∙ settle-from m c p choice ms m' h)
  mark-from self o e m Note choice ms m' h = note-from m self o choice ms m' h

  deed-to : (self o : ℕ) (e : Env) (m : State) (d : Deed) (ms : List Mark) (m' : State) → do_deed operations first self o e m d ≡ Some (ms, m') → IsDone operations first self o e m d ms m'
  deed-to self o e m (Assign u) ms m' h = (sym (firsts _ ms _ m' h), sym (seconds _ ms _ m' h))
  deed-to self o e m (Marks k by) ms m' h = mark-to self o e m k (choice_at m e by) ms m' h

  deed-from : (self o : ℕ) (e : Env) (m : State) (d : Deed) (ms : List Mark) (m' : State) → IsDone operations first self o e m d ms m' → do_deed operations first self o e m d ≡ Some (ms, m')
  deed-from self o e m (Assign u) ms m' h = λ i. let r : Ridden = (sym h.0 i, sym h.1 i) in Some r
  deed-from self o e m (Marks k by) ms m' h = mark-from self o e m k (choice_at m e by) ms m' h

  where-at : (self o : ℕ) (e : Env) (m : State) (f : Formula) (d : Deed) (b : Bool) (ms : List Mark) (m' : State) → is_ground f ≡ true → truth m e outside f ≡ b →
      cond b (do_deed operations first self o e m d) (Some ([], m)) ≡ Some (ms, m') → IsDoneWhere operations first (Some f) self o e m d ms m'
  where-at self o e m f d true ms m' g is h = inl ((Decides-truth m e outside f g).0 is, deed-to self o e m d ms m' h)
  where-at self o e m f d false ms m' g is h =
      inr ((λ holds. absurd (false≢true (sym is ∙ (Decides-truth m e outside f g).1 holds))), sym (firsts _ ms _ m' h), sym (seconds _ ms _ m' h))

  where-to : (condition : Option Formula) (self o : ℕ) (e : Env) (m : State) (d : Deed) (ms : List Mark) (m' : State) → IsOpen condition →
      do_where operations first condition self o e m d ≡ Some (ms, m') → IsDoneWhere operations first condition self o e m d ms m'
  where-to None self o e m d ms m' g h = deed-to self o e m d ms m' h
  where-to (Some f) self o e m d ms m' g h = where-at self o e m f d (truth m e outside f) ms m' g refl h

  not-true : (f : Formula) (m : State) (e : Env) (b : Bool) → truth m e outside f ≡ b → (truth m e outside f ≡ true → ⊥) → truth m e outside f ≡ false
  not-true f m e true is no-way = absurd (no-way is)
  not-true f m e false is no-way = is

  where-from : (condition : Option Formula) (self o : ℕ) (e : Env) (m : State) (d : Deed) (ms : List Mark) (m' : State) → IsOpen condition →
      IsDoneWhere operations first condition self o e m d ms m' → do_where operations first condition self o e m d ≡ Some (ms, m')
  where-from None self o e m d ms m' g h = deed-from self o e m d ms m' h
  where-from (Some f) self o e m d ms m' g (inl (holds, h)) =
      ap (λ b. cond b (do_deed operations first self o e m d) (Some ([], m))) ((Decides-truth m e outside f g).1 holds) ∙ deed-from self o e m d ms m' h
  where-from (Some f) self o e m d ms m' g (inr (fails, ms-is, m-is)) =
      ap (λ b. cond b (do_deed operations first self o e m d) (Some ([], m))) (not-true f m e (truth m e outside f) refl (λ is. fails ((Decides-truth m e outside f g).0 is))) ∙
      (λ i. let r : Ridden = (sym ms-is i, sym m-is i) in Some r)

  -- ---- riders in order

  module _ (self o : ℕ) (e : Env) where
    rest-to : (ns : List Mark) (mid : State) (rs : List Rider) (x : Option Ridden) (ms : List Mark) (m' : State) → do_all operations first self o e mid rs ≡ x → behind operations first ns x ≡ Some (ms, m') →
        (later : List Mark) × (do_all operations first self o e mid rs ≡ Some (later, m')) × (ms ≡ ns ++ later)
    rest-to ns mid rs None ms m' is h = absurd cc
    rest-to ns mid rs (Some (later, end)) ms m' is h =
        (later, is ∙ ap (λ (z : State). let r : Ridden = (later, z) in Some r) (seconds _ ms _ m' h), sym (firsts _ ms _ m' h))

    more-to : (r : Rider) (rs : List Rider) (m : State) (ms : List Mark) (m' : State) → IsOpen r.condition →
        ((mid : State) (later : List Mark) → do_all operations first self o e mid rs ≡ Some (later, m') → RideAll operations first self o e mid rs later m') →
        (x : Option Ridden) → do_rider operations first self o e m r ≡ x → option_and_then (λ (y : Ridden). behind operations first y.0 (do_all operations first self o e y.1 rs)) x ≡ Some (ms, m') →
        RideAll operations first self o e m (r ∷ rs) ms m'
    more-to r rs m ms m' plain others None is k = absurd cc
    more-to r rs m ms m' plain others (Some (now, mid)) is k =
        let later = rest-to now mid rs (do_all operations first self o e mid rs) ms m' refl k in
        (mid, now, later.0, where-to r.condition self o e m r.deed now mid plain is, others mid later.0 later.1, later.2)

    all-to : (rs : List Rider) (m : State) (ms : List Mark) (m' : State) → Every (λ (r : Rider). IsOpen r.condition) rs → do_all operations first self o e m rs ≡ Some (ms, m') → RideAll operations first self o e m rs ms m'
    all-to [] m ms m' plain h = (sym (firsts _ ms _ m' h), sym (seconds _ ms _ m' h))
    all-to (r ∷ rs) m ms m' plain h =
        more-to r rs m ms m' plain.0 (λ mid later k. all-to rs mid later m' plain.1 k) (do_rider operations first self o e m r) refl h

    all-from : (rs : List Rider) (m : State) (ms : List Mark) (m' : State) → Every (λ (r : Rider). IsOpen r.condition) rs → RideAll operations first self o e m rs ms m' → do_all operations first self o e m rs ≡ Some (ms, m')
    all-from [] m ms m' plain (ms-is, m-is) = λ i. let r : Ridden = (sym ms-is i, sym m-is i) in Some r
    all-from (r ∷ rs) m ms m' plain (mid, now, later, ride, rides, is) =
        ap (option_and_then (λ (y : Ridden). behind operations first y.0 (do_all operations first self o e y.1 rs))) (where-from r.condition self o e m r.deed now mid plain.0 ride) ∙
        (ap (behind operations first now) (all-from rs mid later m' plain.1 rides) ∙ ap (λ (zs : List Mark). let x : Ridden = (zs, m') in Some x) (sym is))

pub riders-agree : RidersAreDone
riders-agree operations first self o e m riders marks m' plain = (all-to operations first self o e riders m marks m' plain, all-from operations first self o e riders m marks m' plain)
