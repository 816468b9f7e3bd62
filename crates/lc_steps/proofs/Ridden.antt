-- Riders, as they are computed and as a development has them.
use Rattle.std.proofs.Common.{◌≡◌, ℕ, true, false, List, [], ◌∷◌, ◌++◌, ℤ, Option, Some, None, Result, Ok, Err, Bool, refl, sym, ap, subst, ◌∙◌}
use Rattle.std.specs.Prelude.{Vec}
use Rattle.std.specs.declared.alloc.Global.{Global}
use Rattle.lc_term.specs.Meaning.{State, Env}
use Rattle.lc_term.specs.Updates.{variable}
use Rattle.lc_seq.specs.Specification.{Operation}
use Rattle.lc_seq.specs.declared.fault.SeqFault.{SeqFault}
use Rattle.lc_seq.specs.declared.fault.SeqFault.TheVariants as Q
use Rattle.lc_object.specs.Places.{operation_at}
use Rattle.lc_object.specs.declared.instr.EdgeKind.{EdgeKind}
use Rattle.lc_rider.specs.Rider.{Rider}
use Rattle.lc_outline.specs.Development.{Development, first_system, riders_at}
use Rattle.lc_ride.specs.RideView.{IsRidden, marks_of}
use Rattle.lc_ride.specs.Riding.{Ridden, do_all}
use Rattle.lc_ride.specs.RidingFits.{RidersFit}
use Rattle.lc_ride.specs.declared.marks.Mark.{Mark}
use Rattle.lc_steps.specs.Stepping.{ridden, RiddenFits}
use Rattle.lc_steps.specs.StepParts.{AreRidden, fault_as}

module _ (D : Development) (c p : ℕ) (k : EdgeKind) (vs : List ℤ) (s : State) (ops : List Operation) (first x o : ℕ) (rs : List Rider) where
  pub ridden-of : (after : List Mark) (columns : State) (r : Result Bool SeqFault) → ops ≡ D.specification.operations → first ≡ first_system D → x ≡ c → o ≡ operation_at D.object p → rs ≡ riders_at D p k →
      IsRidden (RidersFit ops first x o (variable vs) s rs) (do_all ops first x o (variable vs) s rs) [] after columns r →
      IsRidden (RiddenFits D c p k vs s) (ridden D c p k vs s) [] after columns r
  ridden-of after columns r a b d e f h =
      let e1 = subst (λ z. IsRidden (RidersFit z first x o (variable vs) s rs) (do_all z first x o (variable vs) s rs) [] after columns r) a h in
      let e2 = subst (λ z. IsRidden (RidersFit D.specification.operations z x o (variable vs) s rs) (do_all D.specification.operations z x o (variable vs) s rs) [] after columns r) b e1 in
      let e3 = subst (λ z. IsRidden (RidersFit D.specification.operations (first_system D) z o (variable vs) s rs) (do_all D.specification.operations (first_system D) z o (variable vs) s rs) [] after columns r) d e2 in
      let e4 = subst (λ z. IsRidden (RidersFit D.specification.operations (first_system D) c z (variable vs) s rs) (do_all D.specification.operations (first_system D) c z (variable vs) s rs) [] after columns r) e e3 in
      subst (λ z. IsRidden (RidersFit D.specification.operations (first_system D) c (operation_at D.object p) (variable vs) s z) (do_all D.specification.operations (first_system D) c (operation_at D.object p) (variable vs) s z) [] after columns r) f e4

  pub ridden-from : (before after : List Mark) (columns : State) (r r' : Result Bool SeqFault) → before ≡ [] → r ≡ r' → ops ≡ D.specification.operations → first ≡ first_system D → x ≡ c → o ≡ operation_at D.object p → rs ≡ riders_at D p k →
      IsRidden (RidersFit ops first x o (variable vs) s rs) (do_all ops first x o (variable vs) s rs) before after columns r →
      IsRidden (RiddenFits D c p k vs s) (ridden D c p k vs s) [] after columns r'
  ridden-from before after columns r r' none same a b d e f h =
      let first-is = subst (λ z. IsRidden (RidersFit ops first x o (variable vs) s rs) (do_all ops first x o (variable vs) s rs) z after columns r) none h in
      let answer-is = subst (λ z. IsRidden (RidersFit ops first x o (variable vs) s rs) (do_all ops first x o (variable vs) s rs) [] after columns z) same first-is in
      ridden-of after columns r' a b d e f answer-is

module _ (fits : Type 0) (wanted : Option Ridden) (columns : State) where
  pub all-done : (marks : Vec Mark Global) → IsRidden fits wanted [] marks.items columns (Ok true) → AreRidden fits wanted columns (Ok (Some marks))
  all-done marks (f, (ms, is, same)) = (f, is ∙ ap (λ xs. let r : Ridden = (xs, columns) in Some r) (sym same))

  pub not-all-done : (before after : List Mark) → IsRidden fits wanted before after columns (Ok false) → AreRidden fits wanted columns (Ok None)
  not-all-done before after h = h

  pub faulted : (before after : List Mark) (fault : SeqFault) → IsRidden fits wanted before after columns (Err fault) → AreRidden fits wanted columns (Err (fault_as fault))
  faulted before after Q.Overflow h = h
  faulted before after Q.OutOfMemory h = h
