-- Riders one after the other.
use Rattle.std.proofs.Common.{◌≡◌, ℕ, Bool, true, false, List, [], ◌∷◌, ◌++◌, Option, Result, Ok, Err, refl, sym, ap, subst, ◌∙◌, append-nil, append_assoc}
use Rattle.std.specs.Prelude.{MatchOption}
use Rattle.std.specs.Option.{option_and_then}
use Rattle.lc_term.specs.Meaning.{State, Env}
use Rattle.lc_seq.specs.Specification.{Operation}
use Rattle.lc_seq.specs.declared.fault.SeqFault.{SeqFault}
use Rattle.lc_rider.specs.Rider.{Rider}
use Rattle.lc_ride.specs.Riding.{Ridden, do_rider, behind, do_all}
use Rattle.lc_ride.specs.RidingFits.{RiderFits, RidersFit}
use Rattle.lc_ride.specs.RideView.{IsRidden, marks_of}
use Rattle.lc_ride.specs.declared.marks.Mark.{Mark}
use Rattle.lc_ride.proofs.Deeding.{says-less}

module _ (operations : List Operation) (first self o : ℕ) (e : Env) where
  -- what is returned when riders are done from here
  abbrev pub Answers : State → List Rider → List Mark → List Mark → State → Result Bool SeqFault → Type 0
  Answers m rs before after end answer = IsRidden (RidersFit operations first self o e m rs) (do_all operations first self o e m rs) before after end answer

  -- what those that are left come to is what all of them come to
  abbrev pub LeadsOn : State → List Rider → List Mark → State → List Rider → List Mark → Type 0
  LeadsOn start all before m rest now = (after : List Mark) (end : State) (answer : Result Bool SeqFault) → Answers m rest now after end answer → Answers start all before after end answer

  pub none-left : (m : State) (before : List Mark) → Answers m [] before before m (Ok true)
  none-left m before = (tt, ([], refl, sym (append-nil (marks_of before))))

  module _ (m : State) (r : Rider) (rs : List Rider) where
    pub one-done : (mid : State) (before now after : List Mark) (end : State) (answer : Result Bool SeqFault) →
        IsRidden (RiderFits operations first self o e m r) (do_rider operations first self o e m r) before now mid (Ok true) → Answers mid rs now after end answer → Answers m (r ∷ rs) before after end answer
    one-done mid before now after end answer (fits, (ms, is, marks)) rest = at answer rest
      where
        same : do_all operations first self o e m (r ∷ rs) ≡ behind operations first ms (do_all operations first self o e mid rs)
        same = ap (option_and_then (λ (x : Ridden). behind operations first x.0 (do_all operations first self o e x.1 rs))) is

        fit : RidersFit operations first self o e mid rs → RidersFit operations first self o e m (r ∷ rs)
        fit h = (fits, subst (λ (x : Option Ridden). MatchOption x (Unit {0}) (λ (y : Ridden). RidersFit operations first self o e y.1 rs)) (sym is) h)

        later : RidersFit operations first self o e m (r ∷ rs) → RidersFit operations first self o e mid rs
        later h = subst (λ (x : Option Ridden). MatchOption x (Unit {0}) (λ (y : Ridden). RidersFit operations first self o e y.1 rs)) is h.1

        at : (answer : Result Bool SeqFault) → Answers mid rs now after end answer → Answers m (r ∷ rs) before after end answer
        at (Ok true) (f, (ns, k, a)) =
            (fit f, (ms ++ ns, same ∙ ap (behind operations first ms) k, a ∙ (ap (λ xs. xs ++ ns) marks ∙ append_assoc (marks_of before) ms ns)))
        at (Ok false) (f, k) = (fit f, same ∙ ap (behind operations first ms) k)
        at (Err fault) h = says-less (RidersFit operations first self o e m (r ∷ rs)) (RidersFit operations first self o e mid rs) fault later h

    pub one-not-done : (mid : State) (before now after : List Mark) (end : State) →
        IsRidden (RiderFits operations first self o e m r) (do_rider operations first self o e m r) before now mid (Ok false) → Answers m (r ∷ rs) before after end (Ok false)
    one-not-done mid before now after end (fits, is) = (
      (fits, subst (λ (x : Option Ridden). MatchOption x (Unit {0}) (λ (y : Ridden). RidersFit operations first self o e y.1 rs)) (sym is) tt),
      ap (option_and_then (λ (x : Ridden). behind operations first x.0 (do_all operations first self o e x.1 rs))) is,
    )
