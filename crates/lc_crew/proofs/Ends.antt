-- How clients came to their ends, beside their seats.
use Rattle.std.proofs.Common.{◌≡◌, ℕ, zero, suc, ◌+◌, ◌<◌, ◌≤◌, true, false, List, [], ◌∷◌, ◌++◌, None, Result, Ok, Err, Vec, get_or, length, map, sym, ap, subst, ◌∙◌, arith}
use Rattle.std.proofs.lemmas.List.{length-map, take_all}
use Rattle.std.specs.Prelude.{All, IfOk, IfSome, slice_get}
use Rattle.std.specs.declared.alloc.Global.{Global}
use Rattle.lc_run.specs.Labels.{is_unfinished, labels_by}
use Rattle.lc_run.specs.LabelView.{labels_of}
use Rattle.lc_run.specs.Ordering.{order_entries}
use Rattle.lc_run.specs.Locked.{client_in, labels_made}
use Rattle.lc_run.specs.Seated.{HasOwn}
use Rattle.lc_run.specs.declared.held.Seat.{Seat}
use Rattle.lc_history.specs.Histories.{events_in}
use Rattle.lc_history.specs.History.{Linearizes}
use Rattle.lc_machine.specs.World.{World}
use Rattle.lc_outline.specs.Development.{Development}
use Rattle.lc_plan.specs.Plans.{Script}
use Rattle.lc_plan.specs.View.{plan_of, script_of, scripts_of}
use Rattle.lc_plan.specs.declared.plan.Plan.{Plan}
use Rattle.lc_plan.specs.declared.plan.Script as Code
use Rattle.lc_seq.specs.TextStep.{text_step, start_of}
use Rattle.lc_sound.specs.Instrumented.{Label, IsRun, history}
use Rattle.lc_sound.specs.Order.{order}
use Rattle.lc_crew.specs.Halts.{fits}
use Rattle.lc_crew.specs.Members.{AreEndsOf, HasMadeAll, IsEndOf, Plays, client_of, halt_of, made_by}
use Rattle.lc_crew.specs.Phases.{has_script, phases_to}
use Rattle.lc_crew.specs.Playing.{HasPlayed, HasPlayedFrom, calls_in, planned}
use Rattle.lc_crew.specs.Ran.{AreAllEnded, AreNumberedFrom, EndsSo, IsRunOf}
use Rattle.lc_crew.specs.declared.ended.Ended.{Ended}
use Rattle.lc_crew.specs.declared.member.Member.{Member}
use Rattle.lc_crew.specs.declared.plan.Ran.{Ran}
use Rattle.lc_crew.specs.declared.stop.Stop.{Stop}
use Rattle.lc_crew.proofs.Scripts.{rested, went-on}

-- what holds of the element at each place holds of all
pub all-of : {A : Type 0} (P : A → Type 0) (xs : List A) → ((k : ℕ) → k < length xs → IfSome (slice_get xs k) P) → All P xs
all-of P [] f = λ k d h. absurd (omega (arith, h))
all-of P (x ∷ xs) f = by (f 0 (omega arith)) (all-of P xs (λ j below. f (suc j) (omega (arith, below))))
  where
    by : P x → All P xs → All P (x ∷ xs)
    by first rest zero d h = first
    by first rest (suc k) d h = rest k d (omega (arith, h))

-- one end more, of the next client
pub numbered-more : (c : ℕ) (ends : List Ended) (e : Ended) → AreNumberedFrom c ends → e.client ≡ c + length ends → AreNumberedFrom c (ends ++ e ∷ [])
numbered-more c [] e are next = (omega (arith, next), tt)
numbered-more c (f ∷ ends) e are next = (are.0, numbered-more (suc c) ends e are.1 (omega (arith, next)))

-- a client that has made nothing has made its calls of no phase
pub fresh : {J : Type 0} (m : Member J) → halt_of m ≡ None → made_by m ≡ [] → HasMadeAll [] m
fresh m none nothing = subst (λ o. HasPlayed o [] (client_of m) [] (made_by m)) (sym none) nothing

-- the first n phases are all, if there are no more than n
pub all-phases : (plan : Plan) (n : ℕ) → length plan.phases.items ≤ n → phases_to plan n ≡ (plan_of plan).phases
all-phases plan n past = take_all n (map scripts_of plan.phases.items) (let same = length-map plan.phases.items scripts_of in omega arith)

-- a client that has made its calls of the first n phases, and then those of the next one
pub next-made : {J : Type 0} (plan : Plan) (n : ℕ) (phase : Vec Code.Script Global) (scripts : List Code.Script) (m : Member J) (r : Result (Member J) Stop) → n < length plan.phases.items → phase ≡ get_or plan.phases.items n phase
    → scripts ≡ phase.items → HasMadeAll (phases_to plan n) m → IfOk r (Plays (calls_in (client_of m) (map script_of scripts)) m) → IfOk r (λ after. client_of after ≡ client_of m) → IfOk r (HasMadeAll (phases_to plan (n + 1)))
next-made plan n phase scripts m (Err e) below is same made plays client = tt
next-made plan n phase scripts m (Ok x) below is same made plays client =
    went-on plan.phases.items n phase (client_of m) (client_of x) (halt_of m) (halt_of x) (made_by m) (made_by x) below is client made
    (subst (λ l. HasPlayedFrom (halt_of m) (halt_of x) (calls_in (client_of m) (map script_of l)) (client_of m) (made_by m) (made_by x)) same plays)

-- or that makes none of it
pub rest-made : {J : Type 0} (plan : Plan) (n : ℕ) (phase : Vec Code.Script Global) (scripts : List Code.Script) (m : Member J) → n < length plan.phases.items → phase ≡ get_or plan.phases.items n phase
    → scripts ≡ phase.items → has_script (client_of m) (map script_of scripts) ≡ false → HasMadeAll (phases_to plan n) m → HasMadeAll (phases_to plan (n + 1)) m
rest-made plan n phase scripts m below is same none made =
    rested plan.phases.items n phase (client_of m) (halt_of m) (made_by m) below is (subst (λ l. has_script (client_of m) (map script_of l) ≡ false) same none) made

module _ {J : Type 0} (phases : List (List Script)) where
  -- the end of a client that has made its calls
  pub is-end : (m : Member J) (s : Seat J) (e : Ended) → client_in s ≡ client_of m → labels_made s ≡ made_by m → e.client ≡ client_of m → e.halt ≡ halt_of m → HasMadeAll phases m → IsEndOf phases s e
  is-end m s e here labels client halt made = record {
    client = client ∙ sym here;
    fit = subst (λ ls. fits e.halt (is_unfinished ls) ≡ true) (sym labels) (subst (λ o. fits o (is_unfinished (made_by m)) ≡ true) (sym halt) m.fit);
    played = subst (λ ls. HasPlayed e.halt (planned e.client phases) e.client [] ls) (sym labels)
        (subst (λ o. HasPlayed o (planned e.client phases) e.client [] (made_by m)) (sym halt)
        (subst (λ c. HasPlayed (halt_of m) (planned c phases) c [] (made_by m)) (sym client) made));
  }

  -- one seat more with its end
  pub end-more : (seats : List (Seat J)) (ends : List Ended) (s : Seat J) (e : Ended) → AreEndsOf phases seats ends → IsEndOf phases s e → AreEndsOf phases (seats ++ s ∷ []) (ends ++ e ∷ [])
  end-more [] [] s e are is = (is, tt)
  end-more (t ∷ seats) (f ∷ ends) s e are is = (are.0, end-more seats ends s e are.1 is)
  end-more [] (f ∷ ends) s e are is = absurd are
  end-more (t ∷ seats) [] s e are is = absurd are

  -- if seats have their clients' labels, ends fit these
  ends-fit : (labels : List Label) (seats : List (Seat J)) (ends : List Ended) → AreEndsOf phases seats ends → All (HasOwn labels) seats → All (EndsSo phases labels) ends
  ends-fit labels [] [] are own = λ k d h. absurd (omega (arith, h))
  ends-fit labels (s ∷ seats) (e ∷ ends) are own = by (ends-fit labels seats ends are.1 (λ k d h. own (suc k) d (omega (arith, h))))
    where
      same : labels_by e.client labels ≡ labels_made s
      same = ap (λ c. labels_by c labels) are.0.client ∙ own 0 s (omega arith)

      mine : EndsSo phases labels e
      mine = record {
        fit = ap (λ ls. fits e.halt (is_unfinished ls)) same ∙ are.0.fit;
        played = subst (λ ls. HasPlayed e.halt (planned e.client phases) e.client [] ls) (sym same) are.0.played;
      }

      by : All (EndsSo phases labels) ends → All (EndsSo phases labels) (e ∷ ends)
      by rest zero d h = mine
      by rest (suc k) d h = rest k d (omega (arith, h))
  ends-fit labels [] (f ∷ ends) are own = absurd are
  ends-fit labels (s ∷ seats) [] are own = absurd are

  -- what has run, if all seats were handed in with their clients' ends
  pub ended : (D : Development) (n : ℕ) (ran : Ran) (seats : List (Seat J)) → ∥ ((w : World) × IsRun D n (labels_of ran.log.labels.items) w) ∥₁
      → events_in ran.log.history ≡ history (labels_of ran.log.labels.items) → order_entries ran.log.order.items ≡ order (labels_of ran.log.labels.items)
      → ∥ Linearizes (text_step D.specification.operations) (start_of D.specification.columns) (events_in ran.log.history) (order_entries ran.log.order.items) ∥₁
      → All (HasOwn (labels_of ran.log.labels.items)) seats → AreAllEnded n ran.ends.items → AreEndsOf phases seats ran.ends.items → IsRunOf D n phases ran
  ended D n ran seats run its_history its_order linearizes own all ends = record {
    ordered = record {
      run = run;
      linearizes = subst (λ h. ∥ Linearizes (text_step D.specification.operations) (start_of D.specification.columns) h (order labels) ∥₁) its_history
          (subst (λ o. ∥ Linearizes (text_step D.specification.operations) (start_of D.specification.columns) (events_in ran.log.history) o ∥₁) its_order linearizes);
      each = ends-fit labels seats ran.ends.items ends own;
      all = all;
    };
    events = its_history;
    entries = its_order;
  }
    where
      labels : List Label
      labels = labels_of ran.log.labels.items
