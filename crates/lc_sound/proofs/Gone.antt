-- A step of an instruction, as an edge of the table with all that is known of it.
use Rattle.std.proofs.Common.{◌≡◌, ℕ, suc, ◌+◌, ◌≤◌, ◌⊎◌, ◌==◌, true, List, [], ◌∷◌, ℤ, pos, Option, Some, None, length, refl, sym, ap, ◌∙◌, subst, inl, inr, arith}
use Rattle.std.specs.Prelude.{slice_get}
use Rattle.std.proofs.lemmas.Bool.{eqb-true}
use Rattle.std.proofs.lemmas.Option.{same_Some}
use Rattle.lc_lemmas.proofs.Booleans.{left_true, right_true}
use Rattle.lc_term.specs.Updates.{variable, assigned}
use Rattle.lc_term.specs.Meaning.{State, EachHolds}
use Rattle.lc_object.specs.Syntax.{Instr, Load, Store, Cas, Set, Faa, If, Return, Operation, Point, Object}
use Rattle.lc_object.specs.Edges.{Edge, edges, edges_at, edges_from}
use Rattle.lc_object.specs.WellFormed.{is_instruction, is_label, passes_at}
use Rattle.lc_object.specs.declared.instr.EdgeKind.{EdgeKind}
use Rattle.lc_machine.specs.World.{In}
use Rattle.lc_machine.specs.Step.{Does, Outcome, numbers}
use Rattle.lc_machine.specs.EdgeSteps.{updated, reached, IsIn}
use Rattle.lc_machine.proofs.EdgeLaw.{in_either, of_point, by_edge}
use Rattle.lc_object.specs.Places.{operation_in}
use Rattle.lc_outline.specs.Development.{Development, first_system, on_at}
use Rattle.lc_outline.specs.Resolved.{IsOnResolved}
use Rattle.lc_sound.specs.Claims.{IsProven, IsClientGood}
use Rattle.lc_machine.proofs.Bodies.{point_is_placed, does_outside}
use Rattle.lc_sound.proofs.Frames.{Kept}
use Rattle.lc_sound.proofs.Lifting.{AreBehind, edge_targets, assigned_other}

-- ---- an edge of the table is one of its point's instruction

abbrev Stands : Object → ℕ → List Point → Edge → Type 0
Stands object q ps e = (k : ℕ) × (pt : Point) × (slice_get ps k ≡ Some pt) × IsIn e (edges_at object (q + k) pt.instruction)

stands : (object : Object) (q : ℕ) (ps : List Point) (e : Edge) → IsIn e (edges_from object q ps) → Stands object q ps e
stands object q [] e h = absurd h
stands object q (x ∷ ps) e h = by (in_either e (edges_at object q x.instruction) (edges_from object (suc q) ps) h) (λ k. stands object (suc q) ps e k)
  where
    by : IsIn e (edges_at object q x.instruction) ⊎ IsIn e (edges_from object (suc q) ps) → (IsIn e (edges_from object (suc q) ps) → Stands object (suc q) ps e) → Stands object q (x ∷ ps) e
    by (inl h) later = (0, x, refl, subst (λ j. IsIn e (edges_at object j x.instruction)) (omega arith) h)
    by (inr h) later = let y = later h in (suc y.0, y.1, y.2, subst (λ j. IsIn e (edges_at object j (y.1).instruction)) (omega arith) y.3)

pub edge_here : (object : Object) (e : Edge) (p : ℕ) (pt : Point) → IsIn e (edges object) → e.point ≡ p → slice_get object.points p ≡ Some pt → IsIn e (edges_at object p pt.instruction)
edge_here object e p pt h from at =
    let y = stands object 0 object.points e h in
    let is : y.0 ≡ p = (let a = of_point object (0 + y.0) (y.1).instruction e y.3 in omega (arith, a, from)) in
    let same : y.1 ≡ pt = same_Some y.1 pt (sym y.2 ∙ (ap (slice_get object.points) is ∙ at)) in
    subst (λ (x : Point). IsIn e (edges_at object p x.instruction)) same (subst (λ j. IsIn e (edges_at object j (y.1).instruction)) (omega arith) y.3)

-- ---- where it leads

pub label_point : (object : Object) (op : ℕ) (l : ℕ) (found : Option Point) → slice_get object.points l ≡ found → passes_at (λ (point : Point). point.operation == op) found ≡ true → (pt : Point) × (slice_get object.points l ≡ Some pt) × (pt.operation ≡ op)
label_point object op l None e h = absurd cc
label_point object op l (Some pt) e h = (pt, e, eqb-true pt.operation op h)

abbrev pub Led : Object → ℕ → ℕ → Type 0
Led object op q = (pt : Point) × (slice_get object.points q ≡ Some pt) × (pt.operation ≡ op)

to : (object : Object) (op l q : ℕ) (next : Option ℕ) → is_label object op l ≡ true → next ≡ Some l → next ≡ Some q → Led object op q
to object op l q next h e f = let same : l ≡ q = same_Some l q (sym e ∙ f) in subst (Led object op) same (label_point object op l (slice_get object.points l) refl h)

next_of : (e x : Edge) → e ≡ x → e.next ≡ x.next
next_of e x is = ap (λ (y : Edge). y.next) is

pub edge_led_to : (object : Object) (p op : ℕ) (o : Operation) (i : Instr) (e : Edge) → is_instruction object op o i ≡ true → IsIn e (edges_at object p i) → (q : ℕ) → e.next ≡ Some q → Led object op q
edge_led_to object p op o (Load a t rs l) e h (inl is) q n = to object op l q e.next (right_true _ _ h) (next_of e _ is) n
edge_led_to object p op o (Load a t rs l) e h (inr none) q n = absurd none
edge_led_to object p op o (Store a t us l) e h (inl is) q n = to object op l q e.next (right_true _ _ h) (next_of e _ is) n
edge_led_to object p op o (Store a t us l) e h (inr none) q n = absurd none
edge_led_to object p op o (Cas a t old new l m) e h (inl is) q n = to object op l q e.next (right_true _ _ (left_true _ _ h)) (next_of e _ is) n
edge_led_to object p op o (Cas a t old new l m) e h (inr (inl is)) q n = to object op m q e.next (right_true _ _ h) (next_of e _ is) n
edge_led_to object p op o (Cas a t old new l m) e h (inr (inr none)) q n = absurd none
edge_led_to object p op o (Set rs us l) e h (inl is) q n = to object op l q e.next (right_true _ _ h) (next_of e _ is) n
edge_led_to object p op o (Set rs us l) e h (inr none) q n = absurd none
edge_led_to object p op o (Faa a t rs ds l) e h (inl is) q n = to object op l q e.next (right_true _ _ h) (next_of e _ is) n
edge_led_to object p op o (Faa a t rs ds l) e h (inr none) q n = absurd none
edge_led_to object p op o (If f l m) e h (inl is) q n = to object op l q e.next (right_true _ _ (left_true _ _ h)) (next_of e _ is) n
edge_led_to object p op o (If f l m) e h (inr (inl is)) q n = to object op m q e.next (right_true _ _ h) (next_of e _ is) n
edge_led_to object p op o (If f l m) e h (inr (inr none)) q n = absurd none
edge_led_to object p op o (Return us) e h (inl is) q n = absurd (cc (sym (next_of e _ is) ∙ n))
edge_led_to object p op o (Return us) e h (inr none) q n = absurd none

-- ---- all of it

pub record Gone (D : Development) (n : ℕ) (s s' : State) (c p : ℕ) (vs : List ℤ) (point : Point) (op : Operation) (kind : EdgeKind) (out : Outcome) : Type 0 where
  pub edge : Edge
  pub among : IsIn edge (edges D.object)
  pub from : edge.point ≡ p
  pub kind_is : edge.kind ≡ kind
  pub facts : EachHolds s (variable vs) edge.facts
  pub columns : s' ≡ updated s vs s edge.updates
  pub outcome : out ≡ reached s vs edge edge.next
  pub behind : AreBehind (2 + length op.arguments) edge.targets
  pub resolved : IsOnResolved D point.operation edge (on_at D edge.point edge.kind)
  pub steady : Kept (first_system D) s (updated s vs s edge.updates)
  pub one : variable (assigned vs edge.targets (numbers s vs edge.values)) 1 ≡ pos c
  pub here : IsIn edge (edges_at D.object p point.instruction)
  pub code : is_instruction D.object point.operation op point.instruction ≡ true
  pub target : (q : ℕ) → edge.next ≡ Some q → (pt : Point) × (slice_get D.object.points q ≡ Some pt) × (pt.operation ≡ point.operation)

pub done_is_gone : (D : Development) (X : IsProven D) (n : ℕ) (s s' : State) (c p : ℕ) (vs : List ℤ) (kind : EdgeKind) (out : Outcome) (good : IsClientGood D n s c (In p vs)) → Does D.object s vs (good.0).instruction kind s' out →
    Gone D n s s' c p vs good.0 good.1 kind out
done_is_gone D X n s s' c p vs kind out good done =
    let R = X.resolved in
    let g = by_edge D.object R.object p good.0 good.2 s s' vs kind out done in
    let e : Edge = g.0 in
    let pl = point_is_placed D.object R.object p good.0 good.2 in
    let same : pl.operation ≡ good.1 = same_Some pl.operation good.1 (sym pl.is ∙ good.3) in
    let code = subst (λ o. is_instruction D.object (good.0).operation o (good.0).instruction ≡ true) same pl.instruction in
    let here = edge_here D.object e p good.0 g.1.0 g.1.1 good.2 in
    let targets = edge_targets D.object p (good.0).operation good.1 (good.0).instruction e code here in
    let outside : (k : ℕ) → length D.object.abstracts + length D.object.concretes ≤ k → updated s vs s e.updates k ≡ s k =
    λ k h. (λ i. sym g.2.1 i k) ∙ does_outside D.object R.object s vs kind s' (good.0).instruction out k (inr h) done in
    record {
      edge = e;
      among = g.1.0;
      from = g.1.1;
      kind_is = g.1.2;
      facts = g.2.0;
      columns = g.2.1;
      outcome = g.2.2;
      behind = targets;
      resolved = subst (λ o. IsOnResolved D o e (on_at D e.point e.kind)) (ap operation_in (ap (slice_get D.object.points) g.1.1 ∙ good.2)) (R.ons e g.1.0);
      steady = record {
        call = λ k a b. outside k (let x = R.abstracts in omega arith);
        pend_is = λ i. inl (λ j. outside (first_system D) (let x = R.abstracts in omega arith) j i);
        beyond = λ k a. outside k (let x = R.abstracts in omega arith);
      };
      one = assigned_other vs e.targets (numbers s vs e.values) (2 + length (good.1).arguments) 1 targets (omega arith) ∙ good.6;
      here = here;
      code = code;
      target = edge_led_to D.object p (good.0).operation good.1 (good.0).instruction e code here;
    }
