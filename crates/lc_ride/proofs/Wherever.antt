-- What is returned when riders are done under conditions.
use Rattle.std.proofs.Common.{◌≡◌, ℕ, Bool, true, false, List, [], ℤ, Option, Some, Result, Ok, Err, cond, refl, sym, subst, append-nil}
use Rattle.std.specs.Prelude.{MatchBool, IsErrAnd}
use Rattle.std.proofs.lemmas.Bool.{false≢true}
use Rattle.lc_term.specs.Meaning.{State, Env, outside}
use Rattle.lc_term.specs.Reached.{TermsFit, FormulaFits}
use Rattle.lc_term.specs.State.{env_of}
use Rattle.lc_term.specs.Syntax.{Term, Formula}
use Rattle.lc_term.specs.Truth.{truth}
use Rattle.lc_action.specs.ActionView.{first_of}
use Rattle.lc_seq.specs.Run.{seq_says}
use Rattle.lc_seq.specs.Sequential.{Chosen, Choice, given_in}
use Rattle.lc_seq.specs.SpecView.{operations_of}
use Rattle.lc_seq.specs.Specification.{Operation}
use Rattle.lc_seq.specs.declared.fault.SeqFault.{SeqFault}
use Rattle.lc_rider.specs.Rider.{Marking, Marks, Rider, choice_at}
use Rattle.lc_ride.specs.Calls.{HasRoom, CanRide, Does}
use Rattle.lc_ride.specs.Riding.{Ridden, mark, do_deed, do_where, do_rider}
use Rattle.lc_ride.specs.RidingFits.{MarkFits, DeedFits, RiderFitsWhere, RiderFits}
use Rattle.lc_ride.specs.RideView.{IsRidden, marks_of}
use Rattle.lc_ride.specs.declared.marks.Mark.{Mark}
use Rattle.lc_ride.specs.declared.riding.Rides.{Rides}
use Rattle.lc_ride.specs.declared.settling.Call.{Call}
use Rattle.lc_ride.proofs.Deeding.{fault_is_ridden, says-less}

under : (F D : Type 0) (b : Bool) (w x : Option Ridden) (before after : List Mark) (m' : State) (r : Result Bool SeqFault) → b ≡ true → F →
    IsRidden D w before after m' r → IsRidden (F × MatchBool b D (Unit {0})) (cond b w x) before after m' r
under F D true w x before after m' (Ok true) e f (d, done) = ((f, d), done)
under F D true w x before after m' (Ok false) e f (d, none) = ((f, d), none)
under F D true w x before after m' (Err fault) e f h = says-less (F × D) D fault (λ t. t.1) h
under F D false w x before after m' r e f h = absurd (false≢true e)

also : (F D : Type 0) (w : Option Ridden) (before after : List Mark) (m' : State) (r : Result Bool SeqFault) → F → IsRidden D w before after m' r → IsRidden (F × D) w before after m' r
also F D w before after m' (Ok true) f (d, done) = ((f, d), done)
also F D w before after m' (Ok false) f (d, none) = ((f, d), none)
also F D w before after m' (Err fault) f h = says-less (F × D) D fault (λ t. t.1) h

-- a mark of the client that was computed
pub by-client : (F : Type 0) (fits : ℤ → Type 0) (wanted : ℤ → Option Ridden) (a b : ℤ) (before after : List Mark) (m' : State) (r : Result Bool SeqFault) → F → a ≡ b →
    IsRidden (fits a) (wanted a) before after m' r → IsRidden (F × fits b) (wanted b) before after m' r
by-client F fits wanted a b before after m' r f is h = also F (fits b) (wanted b) before after m' r f (subst (λ x. IsRidden (fits x) (wanted x) before after m' r) is h)

-- a mark by the choice that was computed in the state that the columns are
module _ (rides : Rides) (s m : State) (at : s ≡ m) (k : Marking) (by : Chosen Term) where
  pub not-picked : (before : List Mark) (r : Result Bool SeqFault) (fault : SeqFault) → IsErrAnd r (λ y. y ≡ fault) → seq_says fault (TermsFit s (env_of rides.env.now) (given_in by)) →
      Does rides m (Marks k by) before before m r
  not-picked before r fault e says =
      let ops = operations_of rides.operations.now in
      let first = first_of rides.system in
      fault_is_ridden (DeedFits ops first rides.client rides.operation.0 (env_of rides.env.now) m (Marks k by)) (TermsFit m (env_of rides.env.now) (given_in by)) (do_deed ops first rides.client rides.operation.0 (env_of rides.env.now) m (Marks k by))
      before before m r fault e (λ t. t.0) (subst (λ z. seq_says fault (TermsFit z (env_of rides.env.now) (given_in by))) at says)

  pub picked : (choice : Choice) → TermsFit s (env_of rides.env.now) (given_in by) × (choice ≡ choice_at s (env_of rides.env.now) by) → (before after : List Mark) (end : State) (r : Result Bool SeqFault) →
      IsRidden (MarkFits (operations_of rides.operations.now) (first_of rides.system) rides.client rides.operation.0 (env_of rides.env.now) m k choice)
      (mark (operations_of rides.operations.now) (first_of rides.system) rides.client rides.operation.0 (env_of rides.env.now) m k choice) before after end r →
      Does rides m (Marks k by) before after end r
  picked choice known before after end r done =
      let e = env_of rides.env.now in
      let (fit, is) = subst (λ z. TermsFit z e (given_in by) × (choice ≡ choice_at z e by)) at known in
      let fits : Choice → Type 0 = MarkFits (operations_of rides.operations.now) (first_of rides.system) rides.client rides.operation.0 e m k in
      let wanted : Choice → Option Ridden = mark (operations_of rides.operations.now) (first_of rides.system) rides.client rides.operation.0 e m k in
      also (TermsFit m e (given_in by)) (fits (choice_at m e by)) (wanted (choice_at m e by)) before after end r fit (subst (λ x. IsRidden (fits x) (wanted x) before after end r) is done)

pub room-for : (rides : Rides) (call : Call) (n : ℕ) → call ≡ record { operations = rides.operations; system = rides.system; client = rides.client; operation = rides.operation } → CanRide rides n → HasRoom call n
room-for rides call n is can = subst (λ c. HasRoom c n) (sym is) (record { there = can.there; few = can.few rides.operation.0; client = can.client })

skipped : (F D : Type 0) (b : Bool) (w x : Option Ridden) → b ≡ false → F → (F × MatchBool b D (Unit {0})) × (cond b w x ≡ x)
skipped F D true w x e f = absurd (false≢true (sym e))
skipped F D false w x e f = ((f, tt), refl)

module _ (operations : List Operation) (first self o : ℕ) (e : Env) (m : State) (r : Rider) (f : Formula) (is : r.condition ≡ Some f) where
  pub where-true : (before after : List Mark) (m' : State) (answer : Result Bool SeqFault) → FormulaFits m e f → truth m e outside f ≡ true →
      IsRidden (DeedFits operations first self o e m r.deed) (do_deed operations first self o e m r.deed) before after m' answer →
      IsRidden (RiderFits operations first self o e m r) (do_rider operations first self o e m r) before after m' answer
  where-true before after m' answer fits holds done =
      subst (λ x. IsRidden (RiderFitsWhere operations first x self o e m r.deed) (do_where operations first x self o e m r.deed) before after m' answer) (sym is)
      (under (FormulaFits m e f) (DeedFits operations first self o e m r.deed) (truth m e outside f) (do_deed operations first self o e m r.deed) (Some ([], m)) before after m' answer holds fits done)

  pub where-false : (before : List Mark) → FormulaFits m e f → truth m e outside f ≡ false →
      IsRidden (RiderFits operations first self o e m r) (do_rider operations first self o e m r) before before m (Ok true)
  where-false before fits fails =
      subst (λ x. IsRidden (RiderFitsWhere operations first x self o e m r.deed) (do_where operations first x self o e m r.deed) before before m (Ok true)) (sym is)
      (let nothing : Ridden = ([], m) in
      let s = skipped (FormulaFits m e f) (DeedFits operations first self o e m r.deed) (truth m e outside f) (do_deed operations first self o e m r.deed) (Some nothing) fails fits in
      (s.0, ([], s.1, sym (append-nil (marks_of before)))))
