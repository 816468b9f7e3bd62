-- An order that linearizes a history for an object does so for one that follows it.
use Rattle.std.proofs.Common.{◌≡◌, ℕ, zero, suc, Bool, true, cond, List, [], ◌∷◌, ℤ, Some, None, take, slice_get, refl, ap, sym, subst, ◌∙◌}
use Rattle.std.specs.Prelude.{◌==◌}
use Rattle.lc_seq.specs.Sequential.{Call, Choice, Sequential, Step}
use Rattle.lc_history.specs.History.{Event, Entry, IsLegal, AreCalls, entries_of, is_of, count, IsPlace, Linearizes}
use Rattle.lc_history.specs.Shadowed.{with_choice, with_choices}

entries-kept : (f : Choice → Choice) (c : ℕ) (order : List Entry) → entries_of c (with_choices f order) ≡ entries_of c order
entries-kept f c [] = refl
entries-kept f c (e ∷ es) = ap (λ rest. cond (e.client == c) ((e.call, e.reply) ∷ rest) rest) (entries-kept f c es)

count-kept : (f : Choice → Choice) (c : ℕ) (order : List Entry) (i : ℕ) → count (is_of c) (take i (with_choices f order)) ≡ count (is_of c) (take i order)
count-kept f c [] zero = refl
count-kept f c [] (suc i) = refl
count-kept f c (e ∷ es) zero = refl
count-kept f c (e ∷ es) (suc i) = ap (λ n. cond (e.client == c) (suc n) n) (count-kept f c es i)

-- the place of an entry
record Stood (f : Choice → Choice) (order : List Entry) (i : ℕ) (e : Entry) : Type 0 where
  entry : Entry
  stands : slice_get order i ≡ Some entry
  is : e ≡ with_choice f entry

stood : (f : Choice → Choice) (order : List Entry) (i : ℕ) (e : Entry) → slice_get (with_choices f order) i ≡ Some e → Stood f order i e
stood f [] i e at = absurd cc
stood f (d ∷ es) zero e at = let same : with_choice f d ≡ e = cc in record { entry = d; stands = refl; is = sym same }
stood f (d ∷ es) (suc i) e at =
    let rest = stood f es i e at in
    record { entry = rest.entry; stands = rest.stands; is = rest.is }

place-kept : (f : Choice → Choice) (order : List Entry) (c k i : ℕ) → IsPlace (is_of c) k (with_choices f order) i → IsPlace (is_of c) k order i
place-kept f order c k i place =
    let there = stood f order i place.element place.stands in record {
      element = there.entry;
      stands = there.stands;
      passes = subst (λ (e : Entry). is_of c e ≡ true) there.is place.passes;
      before = sym (count-kept f c order i) ∙ place.before;
    }

module _ {A B : Type 0} (step : Sequential A) (own : Sequential B) (followed : A → Bool) (shadow : A → B) (f : Choice → Choice)
    (follows : (s : A) (client : ℕ) (call : Call) (choice : Choice) (t : A) (reply : List ℤ) → followed s ≡ true → Step step s client call choice t reply
    → (followed t ≡ true) × Step own (shadow s) client call (f choice) (shadow t) reply) where
  legal : (s : A) (order : List Entry) → followed s ≡ true → IsLegal step s order → IsLegal own (shadow s) (with_choices f order)
  legal s [] is done = tt
  legal s (e ∷ es) is (t, taken, rest) =
      let next = follows s e.client e.call e.choice t e.reply is taken in (shadow t, next.1, legal t es next.0 rest)

  pub followed-linearizes : (s : A) (history : List Event) (order : List Entry) → followed s ≡ true → Linearizes step s history order
      → Linearizes own (shadow s) history (with_choices f order)
  followed-linearizes s history order is l = record {
    legal = legal s order is l.legal;
    calls = λ c. subst (AreCalls c None history) (sym (entries-kept f c order)) (l.calls c);
    precedence = λ c k d m p q before at then. l.precedence c k d m p q before (place-kept f order c k p at) (place-kept f order d m q then);
  }
