-- What is read of the bodies of an object: the operations that they are of, and their points.
use Rattle.std.proofs.Common.{◌≡◌, ℕ, zero, suc, ◌+◌, ◌≤◌, ◌<◌, Bool, true, false, cond, List, [], ◌∷◌, ◌++◌, take, length, length-append, append_assoc, map, Option, Some, None, refl, sym, ap, ◌∙◌, subst, arith}
use Rattle.std.proofs.Math.Seq.{take-append_seam}
use Rattle.std.proofs.lemmas.Bool.{or_parts}
use Rattle.std.proofs.lemmas.Bool.Decides.{nat_tests}
use Rattle.std.proofs.lemmas.List.{length-map}
use Rattle.std.specs.Prelude.{codes, option_map, slice_get, ◌&&◌, nat_le, nat_lt}
use Rattle.std.specs.List.{list_any}
use Rattle.lc_lemmas.proofs.Numbers.{at_least_from_test}
use Rattle.lc_lemmas.proofs.Lists.{past_end}
use Rattle.lc_base.specs.Limits.{local_limit, point_limit, argument_limit, reply_limit}
use Rattle.lc_sexp.specs.TreeCode.{tree_count}
use Rattle.lc_sexp.specs.Trees.{Tree, Trees, none, ◌▸◌}
use Rattle.lc_reading.proofs.Holding.{Holds, holds_weaker}
use Rattle.lc_reading.specs.Listed.{place_of, names_among}
use Rattle.lc_reading.specs.Readings.{wrong}
use Rattle.lc_reading.specs.Words.{is}
use Rattle.lc_reading.specs.declared.pass.Pass.TheVariants.{Shape}
use Rattle.lc_object.specs.Syntax.{Operation, Point}
use Rattle.lc_object.specs.WellFormed.{has_limits}
use Rattle.lc_object_text.proofs.BodyHolds.{IsPointOf, IsPoint, IsBody, IsBodyAt, body_holds}
use Rattle.lc_object_text.proofs.Holding.{Each, placed_holds, each_counted, each_form, AllForms, parts_of_all, some_forms, parts_counted}
use Rattle.lc_object_text.proofs.SignatureHolds.{IsSignature, IsOperation}
use Rattle.lc_object_text.specs.ObjectNames.{Call, Declared, Body, first_text, within_first, later, call_of, call_or, call_at, name_or, points_in, body_of, bodies_from, bodies_due}
use Rattle.lc_object_text.specs.Objects.{Signature, due_body_reading, ith_body_reading, bodies_reading, operations_from, points_of}
use Rattle.lc_object_text.specs.Points.{BodyText, code_alone}
use Rattle.lc_object_text.specs.Rows.{placed_reading}
use Rattle.lc_object_text.specs.Sections.{parts_in}
use Rattle.lc_text.proofs.Printed.{same_refl}

-- the body of the i-th operation
abbrev pub IsDue : Declared → ℕ → Tree → BodyText Point → Type 0
IsDue d i t text = (b : Body) × (slice_get d.bodies i ≡ Some b) × IsBodyAt d b i t text

due_holds : (d : Declared) (i n : ℕ) (t : Tree) → Holds (IsDue d i t) (ith_body_reading d code_alone i n t)
due_holds d i n t = by_body (slice_get d.bodies i) refl where
  by_body : (o : Option Body) → slice_get d.bodies i ≡ o → Holds (IsDue d i t) (due_body_reading d code_alone o i n t)
  by_body None e = tt
  by_body (Some b) e = holds_weaker (IsBodyAt d b i t) (IsDue d i t) (due_body_reading d code_alone (Some b) i n t) (λ text h. (b, e, h)) (body_holds d b i n t)

abbrev pub AreBodies : Declared → Trees → List (BodyText Point) → Type 0
AreBodies d ts texts = (bodies_due (length d.operations) ≤ tree_count ts) × Each (IsDue d) 0 ts texts

pub bodies_hold : (d : Declared) (n m : ℕ) (ts : Trees) → Holds (AreBodies d ts) (bodies_reading d code_alone n m ts)
bodies_hold d n m ts = by_test (nat_lt (tree_count ts) (bodies_due (length d.operations))) refl where
  by_test : (b : Bool) → nat_lt (tree_count ts) (bodies_due (length d.operations)) ≡ b → Holds (AreBodies d ts) (cond b (wrong Shape n) (placed_reading (ith_body_reading d code_alone) 0 m ts))
  by_test true e = tt
  by_test false e =
      holds_weaker (Each (IsDue d) 0 ts) (AreBodies d ts) (placed_reading (ith_body_reading d code_alone) 0 m ts) (λ texts h. (at_least_from_test (tree_count ts) (bodies_due (length d.operations)) e, h))
      (placed_holds (IsDue d) (ith_body_reading d code_alone) (due_holds d) 0 m ts)

-- places in lists that are joined
pub at_seam : {X : Type 0} (before behind : List X) (x : X) → slice_get (before ++ x ∷ behind) (length before) ≡ Some x
at_seam [] behind x = refl
at_seam (y ∷ before) behind x = at_seam before behind x

pub placed_at_seam : (before behind : List (List ℕ)) (w : List ℕ) → list_any (is w) before ≡ false → place_of (before ++ w ∷ behind) w ≡ Some (length before)
placed_at_seam [] behind w new = ap (λ b. cond b (Some 0) (option_map suc (place_of behind w))) (same_refl w)
placed_at_seam (v ∷ before) behind w new =
    ap (λ b. cond b (Some 0) (option_map suc (place_of (before ++ w ∷ behind) w))) (or_parts (is w v) (list_any (is w) before) new).0
    ∙ ap (option_map suc) (placed_at_seam before behind w (or_parts (is w v) (list_any (is w) before) new).1)

-- the operation of a body
pub record IsOperationOf (b : Body) (o : Operation) : Type 0 where
  pub entry : o.entry ≡ b.first
  pub arguments : length o.arguments ≡ length b.call.arguments
  pub replies : b.call.replies ≡ Some o.replies
  pub locals : length o.locals ≡ length b.locals
  pub limits : has_limits o ≡ true

abbrev pub AreOperationsOf : List Body → List Operation → Type 0
AreOperationsOf [] [] = Unit {0}
AreOperationsOf [] (o ∷ os) = ⊥
AreOperationsOf (b ∷ bs) [] = ⊥
AreOperationsOf (b ∷ bs) (o ∷ os) = IsOperationOf b o × AreOperationsOf bs os

abbrev pub ArePointsOf : Declared → Body → ℕ → List Point → Type 0
ArePointsOf d b k [] = Unit {0}
ArePointsOf d b k (q ∷ qs) = IsPointOf d b k q × ArePointsOf d b k qs

-- the points of a body and of those after it, its own being the first
pub record BodyPoints (d : Declared) (b : Body) (k p : ℕ) (qs own others : List Point) : Type 0 where
  pub split : qs ≡ own ++ others
  pub first : b.first ≡ p
  pub counted : length own ≡ length b.labels
  pub some : 1 ≤ length own
  pub fit : ArePointsOf d b k own

-- the points of bodies, from the k-th body and the p-th point on
abbrev pub ArePoints : Declared → ℕ → ℕ → List Body → List Point → Type 0
ArePoints d k p [] qs = (qs ≡ []) × (p ≤ point_limit)
ArePoints d k p (b ∷ bs) qs = (own : List Point) × (others : List Point) × BodyPoints d b k p qs own others × ArePoints d (k + 1) (p + length own) bs others

points_fit : (d : Declared) (b : Body) (k i : ℕ) (ts : Trees) (qs : List Point) → Each (IsPoint d b k) i ts qs → ArePointsOf d b k qs
points_fit d b k i none [] h = tt
points_fit d b k i none (q ∷ qs) h = absurd h
points_fit d b k i (t ▸ ts) [] h = absurd h
points_fit d b k i (t ▸ ts) (q ∷ qs) h = (h.0.1.1, points_fit d b k (i + 1) ts qs h.1)

points_few : (d : Declared) (b : Body) (k i : ℕ) (ts : Trees) (qs : List Point) → b.first + i ≤ point_limit → Each (IsPoint d b k) i ts qs → b.first + i + length qs ≤ point_limit
points_few d b k i none [] few h = omega (arith, few)
points_few d b k i none (q ∷ qs) few h = absurd h
points_few d b k i (t ▸ ts) [] few h = absurd h
points_few d b k i (t ▸ ts) (q ∷ qs) few h =
    let below : b.first + i < point_limit = h.0.1.0 in
    omega (arith, points_few d b k (i + 1) ts qs (omega (arith, below)) h.1)

points_counted : (us : Trees) → AllForms (codes "point") (later (later us)) → length (points_in us) ≡ tree_count (later (later us))
points_counted us forms = ap length (some_forms (codes "point") (later (later us)) forms) ∙ parts_counted (codes "point") (later (later us))

-- the call of the operation that a body names, which is at the body's own place
call_due : (names before behind : List (List ℕ)) (calls calls_before calls_behind : List Call) (k : ℕ) (w v : List ℕ) (call : Call)
    → names ≡ before ++ w ∷ behind → calls ≡ calls_before ++ call ∷ calls_behind → length before ≡ k → length calls_before ≡ k → list_any (is w) (take k names) ≡ false → v ≡ name_or (slice_get names k)
    → call_at calls (place_of names v) ≡ call
call_due names before behind calls calls_before calls_behind k w v call e f long long_too new due =
    let at : slice_get names k ≡ Some w = ap (slice_get names) (sym long) ∙ ap (λ ws. slice_get ws (length before)) e ∙ at_seam before behind w in
    let same : v ≡ w = due ∙ ap name_or at in
    let taken : take k names ≡ before = ap (λ n. take n names) (sym long) ∙ ap (take (length before)) e ∙ take-append_seam before (w ∷ behind) in
    let placed : place_of names v ≡ Some k =
    ap (place_of names) same ∙ ap (λ ws. place_of ws w) e ∙ placed_at_seam before behind w (sym (ap (list_any (is w)) taken) ∙ new) ∙ ap Some long in
    ap (call_at calls) placed ∙ ap call_or (ap (slice_get calls) (sym long_too) ∙ ap (λ cs. slice_get cs (length calls_before)) f ∙ at_seam calls_before calls_behind call)

limits : (a r l : ℕ) → a ≤ argument_limit → r ≤ reply_limit → l ≤ local_limit → (nat_le a argument_limit && nat_le r reply_limit && nat_le l local_limit) ≡ true
limits a r l h g k = grind (arith, nat_tests)

-- the operation that a signature and a body make
abbrev made : ℕ → Signature → BodyText Point → Operation
made e s text = record { name = s.name; arguments = s.arguments; replies = s.replies; locals = text.locals; entry = e }

operation_fits : (d : Declared) (b : Body) (k : ℕ) (uo us : Trees) (s : Signature) (text : BodyText Point) → b.call ≡ call_of uo → b.locals ≡ names_among (within_first (later us))
    → IsSignature d k uo s → IsBody d b k us text → IsOperationOf b (made b.first s text)
operation_fits d b k uo us s text same locals c r = record {
  entry = refl;
  arguments = c.arguments ∙ sym (ap (λ (x : Call). length x.arguments) same);
  replies = ap (λ (x : Call). x.replies) same ∙ c.replies;
  locals = r.locals ∙ sym (ap length locals);
  limits = limits (length s.arguments) s.replies (length text.locals) c.few c.at_most r.few;
}

pub same_body : (b c : Body) (o : Option Body) → o ≡ Some b → o ≡ Some c → b ≡ c
same_body b c o e f = cc

-- the bodies from the k-th operation on
pub bodies_fit : (d : Declared) (before : List (List ℕ)) (calls_before : List Call) (bodies_before : List Body) (k p n : ℕ) (os ts : Trees) (ss : List Signature) (texts : List (BodyText Point))
    → d.operations ≡ before ++ map first_text (parts_of_all (codes "op") os) → d.calls ≡ calls_before ++ map call_of (parts_of_all (codes "op") os)
    → d.bodies ≡ bodies_before ++ bodies_from d.operations d.calls k p n ts → length before ≡ k → length calls_before ≡ k → length bodies_before ≡ k
    → n ≡ tree_count os → n ≤ tree_count ts → p ≤ point_limit → Each (IsOperation d) k os ss → Each (IsDue d) k ts texts
    → AreOperationsOf (bodies_from d.operations d.calls k p n ts) (operations_from p ss texts) × ArePoints d k p (bodies_from d.operations d.calls k p n ts) (points_of texts)
bodies_fit d before calls_before bodies_before k p zero none none [] [] e f g long long_too longer counted many few signatures bodies = (tt, (refl, few))
bodies_fit d before calls_before bodies_before k p zero none none [] (text ∷ texts) e f g long long_too longer counted many few signatures bodies = absurd bodies
bodies_fit d before calls_before bodies_before k p zero none (t ▸ ts) [] [] e f g long long_too longer counted many few signatures bodies = absurd bodies
bodies_fit d before calls_before bodies_before k p zero none (t ▸ ts) [] (text ∷ texts) e f g long long_too longer counted many few signatures bodies =
    let b = bodies.0.0 in
    let none_left : slice_get d.bodies k ≡ None = ap (slice_get d.bodies) (sym longer) ∙ ap (λ bs. slice_get bs (length bodies_before)) g ∙ past_end bodies_before in
    absurd (let there : slice_get d.bodies k ≡ Some b = bodies.0.1 in let no : None ≡ Some b = sym none_left ∙ there in cc)
bodies_fit d before calls_before bodies_before k p zero none ts (s ∷ ss) texts e f g long long_too longer counted many few signatures bodies = absurd signatures
bodies_fit d before calls_before bodies_before k p zero (o ▸ os) ts ss texts e f g long long_too longer counted many few signatures bodies = absurd (omega (arith, counted))
bodies_fit d before calls_before bodies_before k p (suc n) none ts ss texts e f g long long_too longer counted many few signatures bodies = absurd (omega (arith, counted))
bodies_fit d before calls_before bodies_before k p (suc n) (o ▸ os) none ss texts e f g long long_too longer counted many few signatures bodies = absurd (omega (arith, many))
bodies_fit d before calls_before bodies_before k p (suc n) (o ▸ os) (t ▸ ts) [] texts e f g long long_too longer counted many few signatures bodies = absurd signatures
bodies_fit d before calls_before bodies_before k p (suc n) (o ▸ os) (t ▸ ts) (s ∷ ss) [] e f g long long_too longer counted many few signatures bodies = absurd bodies
bodies_fit d before calls_before bodies_before k p (suc n) (o ▸ os) (t ▸ ts) (s ∷ ss) (text ∷ texts) e f g long long_too longer counted many few signatures bodies =
    let uo = parts_in (codes "op") o in
    let us = parts_in (codes "body") t in
    let points = later (later us) in
    let b = body_of d.operations d.calls k p us in
    let next = p + length (points_in us) in
    let bs = bodies_from d.operations d.calls (k + 1) next n ts in
    let names = map first_text (parts_of_all (codes "op") os) in
    let others = map call_of (parts_of_all (codes "op") os) in
    let there : slice_get d.bodies k ≡ Some b = ap (slice_get d.bodies) (sym longer) ∙ ap (λ bs. slice_get bs (length bodies_before)) g ∙ at_seam bodies_before bs b in
    let r : IsBody d b k us text = subst (λ c. IsBody d c k us text) (same_body bodies.0.0 b (slice_get d.bodies k) bodies.0.1 there) bodies.0.2.1 in
    let c : IsSignature d k uo s = signatures.0.1 in
    let same : b.call ≡ call_of uo = call_due d.operations before names d.calls calls_before others k (first_text uo) (first_text us) (call_of uo) e f long long_too c.new r.due in
    let forms = each_form (IsPoint d b k) (codes "point") (λ i u q h. h.0) 0 points text.points r.points.1 in
    let size : length (points_in us) ≡ tree_count points = points_counted us forms in
    let as_many : length text.points ≡ length (points_in us) = each_counted (IsPoint d b k) 0 points text.points r.points.1 ∙ sym size in
    let room : b.first + 0 + length text.points ≤ point_limit = points_few d b k 0 points text.points (omega (arith, few)) r.points.1 in
    let rest = bodies_fit d (before ++ first_text uo ∷ []) (calls_before ++ call_of uo ∷ []) (bodies_before ++ b ∷ []) (k + 1) next n os ts ss texts
    (e ∙ sym (append_assoc before (first_text uo ∷ []) names)) (f ∙ sym (append_assoc calls_before (call_of uo ∷ []) others)) (g ∙ sym (append_assoc bodies_before (b ∷ []) bs))
    (omega (arith, long, length-append before (first_text uo ∷ []))) (omega (arith, long_too, length-append calls_before (call_of uo ∷ []))) (omega (arith, longer, length-append bodies_before (b ∷ [])))
    (omega (arith, counted)) (omega (arith, many)) (omega (arith, room, as_many)) signatures.1 bodies.1 in (
      (operation_fits d b k uo us s text same refl c r, subst (λ i. AreOperationsOf bs (operations_from (p + i) ss texts)) (sym as_many) rest.0),
      (
        text.points,
        points_of texts,
        record { split = refl; first = refl; counted = as_many ∙ sym (length-map (points_in us) first_text); some = omega (arith, as_many, size, r.points.0); fit = points_fit d b k 0 points text.points r.points.1 },
        subst (λ i. ArePoints d (k + 1) (p + i) bs (points_of texts)) (sym as_many) rest.1,
      ),
    )
