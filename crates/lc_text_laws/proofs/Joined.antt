-- Bodies that are read, with the operations that they are of: what is printed of them, by their places.
use Rattle.std.proofs.Common.{◌≡◌, ℕ, zero, suc, ◌+◌, ◌≤◌, ◌<◌, false, cond, List, [], ◌∷◌, ◌++◌, append-nil, append_assoc, length-append, length, take, map, Some, None, refl, sym, ap, ap₂, ◌∙◌, subst, arith}
use Rattle.std.proofs.Math.Seq.{take-append_seam}
use Rattle.std.proofs.lemmas.Bool.{eq-eqb, ne_eqb}
use Rattle.std.proofs.lemmas.List.{length-map}
use Rattle.std.specs.List.{list_any}
use Rattle.std.specs.Prelude.{codes, slice_get, ◌==◌}
use Rattle.lc_lemmas.proofs.Lists.{past_end}
use Rattle.lc_sexp.specs.TreeCode.{tree_count}
use Rattle.lc_sexp.specs.Trees.{Tree, Trees, atom, list, none, ◌▸◌, row}
use Rattle.lc_reading.specs.Listed.{place_of}
use Rattle.lc_reading.specs.Words.{is}
use Rattle.lc_term.specs.Lists.{Every}
use Rattle.lc_text.specs.Spelling.{Spelled}
use Rattle.lc_object.specs.Syntax.{Operation, Point}
use Rattle.lc_outline.specs.Development.{Outline, Development}
use Rattle.lc_object_text.proofs.BodiesHold.{at_seam, placed_at_seam, same_body}
use Rattle.lc_object_text.specs.ObjectNames.{Call, Body, first_text, call_of, call_or, call_at, name_or, points_in, body_of, bodies_from}
use Rattle.lc_object_text.specs.Objects.{Signature, operations_from, points_of}
use Rattle.lc_object_text.specs.Points.{BodyText}
use Rattle.lc_object_text.specs.Sections.{parts_in}
use Rattle.lc_outline_text.specs.Declarations.{Declarations}
use Rattle.lc_outline_text.specs.Developments.{code_of, outlines_of}
use Rattle.lc_outline_print.specs.Developments.{followed}
use Rattle.lc_outline.specs.ColumnNames.{column_names}
use Rattle.lc_outline_print.specs.Naming.{with_client, named_by, name_of_point, label}
use Rattle.lc_outline_print.specs.Objects.{named_in, point_tree, point_trees, body_tree, body_trees}
use Rattle.lc_outline_print.specs.Parts.{name_trees}
use Rattle.lc_text_laws.specs.ReadsBack.{HaveNoBinder}
use Rattle.lc_text_laws.proofs.Arrays.{at_own}
use Rattle.lc_text_laws.proofs.Heads.{Each, IsSigned, IsOperation, BodyHead, IsText}
use Rattle.lc_text_laws.proofs.Kin.{placed_trees}
use Rattle.lc_text_laws.proofs.Points.{point_with, body_variables, due_tree, ith_tree}
use Rattle.lc_text_laws.proofs.Splits.{parts_of_all}
use Rattle.lc_term.proofs.Stores.{Every-append}
use Rattle.lc_outline.proofs.Resolving.{every_weaker}

abbrev Outlined : Type 0
Outlined = Point × Outline

-- ---- lists

every_mapped : {X Y : Type 0} (P : X → Type 0) (Q : Y → Type 0) (f : X → Y) → ((x : X) → P x → Q (f x)) → (xs : List X) → Every P xs → Every Q (map f xs)
every_mapped P Q f k [] h = tt
every_mapped P Q f k (x ∷ xs) h = (k x h.0, every_mapped P Q f k xs h.1)

past : {X : Type 0} (xs ys : List X) (j : ℕ) → slice_get (xs ++ ys) (length xs + j) ≡ slice_get ys j
past [] ys j = let same : 0 + j ≡ j = omega arith in ap (slice_get ys) same
past (x ∷ xs) ys j = let same : suc (length xs) + j ≡ suc (length xs + j) = omega arith in ap (slice_get (x ∷ (xs ++ ys))) same ∙ past xs ys j

followed_none : (ts : Trees) → followed ts none ≡ ts
followed_none none = refl
followed_none (t ▸ ts) = ap (λ us. t ▸ us) (followed_none ts)

-- ---- the points of one body among all

module _ (D : Development) (by : Spelled) (k : ℕ) where
  abbrev IsOther : Point → Type 0
  IsOther q = (q.operation == k) ≡ false

  skipped : (p : ℕ) (ps qs : List Point) → Every IsOther ps → point_trees D by k p (ps ++ qs) ≡ point_trees D by k (p + length ps) qs
  skipped p [] qs h = ap (λ p. point_trees D by k p qs) (omega arith)
  skipped p (q ∷ ps) qs h =
      ap (λ b. cond b (point_tree D by q (slice_get D.outlines p) ▸ point_trees D by k (suc p) (ps ++ qs)) (point_trees D by k (suc p) (ps ++ qs))) h.0
      ∙ skipped (suc p) ps qs h.1 ∙ ap (λ p. point_trees D by k p qs) (omega arith)

  owned : (p : ℕ) (before : List Outline) (qs : List Outlined) (rest : List Outline) (others : List Point) → D.outlines ≡ before ++ (map (λ (q : Outlined). q.1) qs ++ rest) → length before ≡ p
      → Every (λ (q : Outlined). q.0.operation ≡ k) qs
      → point_trees D by k p (map (λ (q : Outlined). q.0) qs ++ others) ≡ followed (row (map (point_with D.object D.actions by) qs)) (point_trees D by k (p + length qs) others)
  owned p before [] rest others e at h = ap (λ p. point_trees D by k p others) (omega arith)
  owned p before (q ∷ qs) rest others e at h =
      let behind = map (λ (q : Outlined). q.1) qs ++ rest in
      let there : slice_get D.outlines p ≡ Some q.1 = ap₂ slice_get e (sym at) ∙ at_seam before behind q.1 in
      let more = point_trees D by k (suc p) (map (λ (q : Outlined). q.0) qs ++ others) in
      ap (λ b. cond b (point_tree D by q.0 (slice_get D.outlines p) ▸ more) more) (eq-eqb q.0.operation k h.0)
      ∙ ap₂ (λ o ts. point_tree D by q.0 o ▸ ts) there
      (owned (suc p) (before ++ q.1 ∷ []) qs rest others (e ∙ sym (append_assoc before (q.1 ∷ []) behind)) (omega (arith, at, length-append before (q.1 ∷ []))) h.1
      ∙ ap (λ p. followed (row (map (point_with D.object D.actions by) qs)) (point_trees D by k p others)) (omega arith))

  none_left : (p : ℕ) (ps : List Point) → Every IsOther ps → point_trees D by k p ps ≡ none
  none_left p ps h = ap (point_trees D by k p) (sym (append-nil ps)) ∙ skipped p ps [] h

  among_all : (before after : List Point) (first : List Outline) (qs : List Outlined) (rest : List Outline) → D.object.points ≡ before ++ (map (λ (q : Outlined). q.0) qs ++ after)
      → D.outlines ≡ first ++ (map (λ (q : Outlined). q.1) qs ++ rest) → length first ≡ length before → Every IsOther before → Every IsOther after → Every (λ (q : Outlined). q.0.operation ≡ k) qs
      → point_trees D by k 0 D.object.points ≡ row (map (point_with D.object D.actions by) qs)
  among_all before after first qs rest e f at h g own =
      ap (point_trees D by k 0) e ∙ skipped 0 before (map (λ (q : Outlined). q.0) qs ++ after) h
      ∙ owned (0 + length before) first qs rest after f (omega (arith, at)) own
      ∙ ap (followed (row (map (point_with D.object D.actions by) qs))) (none_left (0 + length before + length qs) after g)
      ∙ followed_none (row (map (point_with D.object D.actions by) qs))

-- ---- the call of a body

-- that of the operation that it names, which is at the body's own place
call_due : (names before behind : List (List ℕ)) (calls calls_before calls_behind : List Call) (k : ℕ) (w v : List ℕ) (call : Call) → names ≡ before ++ w ∷ behind → calls ≡ calls_before ++ call ∷ calls_behind
    → length before ≡ k → length calls_before ≡ k → list_any (is w) (take k names) ≡ false → v ≡ w → call_at calls (place_of names v) ≡ call
call_due names before behind calls calls_before calls_behind k w v call e f long long_too new same =
    let taken : take k names ≡ before = ap (λ n. take n names) (sym long) ∙ ap (take (length before)) e ∙ take-append_seam before (w ∷ behind) in
    let placed : place_of names v ≡ Some k =
    ap (place_of names) same ∙ ap (λ ws. place_of ws w) e ∙ placed_at_seam before behind w (sym (ap (list_any (is w)) taken) ∙ new) ∙ ap Some long in
    ap (call_at calls) placed ∙ ap call_or (ap (slice_get calls) (sym long_too) ∙ ap (λ cs. slice_get cs (length calls_before)) f ∙ at_seam calls_before calls_behind call)

-- ---- all bodies

module _ (d : Declarations) (D : Development) where
  -- a body's labels are the names of its points, and none of its variables is named as one of a quantifier is printed
  pub record Fits (b : Body) : Type 0 where
    pub labels : (w : List ℕ) (j : ℕ) → place_of b.labels w ≡ Some j → label D.object (b.first + j) ≡ w
    pub free : HaveNoBinder (body_variables b)

  abbrev operations : ℕ → List Signature → List (BodyText Outlined) → List Operation
  operations p ss xs = operations_from p ss (map code_of xs)

  abbrev bodies_at : ℕ → ℕ → ℕ → Trees → List Body
  bodies_at k p n ts = bodies_from d.declared.operations d.declared.calls k p n ts

  abbrev AreFree : List Operation → Type 0
  AreFree os = Every (λ (o : Operation). HaveNoBinder (o.arguments ++ o.locals)) os

  -- the operations and bodies from the k-th on, whose first point has the number p
  pub record Rest (k p n : ℕ) (os ts : Trees) (xs : List (BodyText Outlined)) : Type 0 where
    pub names : List (List ℕ)
    pub calls : List Call
    pub bodies : List Body
    pub points : List Point
    pub outlines : List Outline
    pub names_are : d.declared.operations ≡ names ++ map first_text (parts_of_all (codes "op") os)
    pub calls_are : d.declared.calls ≡ calls ++ map call_of (parts_of_all (codes "op") os)
    pub bodies_are : d.declared.bodies ≡ bodies ++ bodies_at k p n ts
    pub points_are : D.object.points ≡ points ++ points_of (map code_of xs)
    pub outlines_are : D.outlines ≡ outlines ++ outlines_of xs
    pub names_long : length names ≡ k
    pub calls_long : length calls ≡ k
    pub bodies_long : length bodies ≡ k
    pub points_long : length points ≡ p
    pub outlines_long : length outlines ≡ p
    pub earlier : Every (λ (q : Point). q.operation < k) points

  pub record AreJoined (k p : ℕ) (os : Trees) (bs : List Body) (ss : List Signature) (xs : List (BodyText Outlined)) : Type 0 where
    pub fits : Every Fits bs
    pub printed : body_trees D k (operations p ss xs) ≡ placed_trees (ith_tree d (column_names D) D.object D.actions) k xs
    pub names : map (λ (o : Operation). o.name) (operations p ss xs) ≡ map first_text (parts_of_all (codes "op") os)

  -- the points of later bodies
  later_points : (k i : ℕ) (ts : Trees) (xs : List (BodyText Outlined)) → k < i → Each (IsText d) i ts xs → Every (IsOther D (named_by [] []) k) (points_of (map code_of xs))
  later_points k i none [] lt h = tt
  later_points k i none (x ∷ xs) lt h = absurd h
  later_points k i (t ▸ ts) [] lt h = absurd h
  later_points k i (t ▸ ts) (x ∷ xs) lt h =
      Every-append (λ (q : Point). (q.operation == k) ≡ false) (map (λ (q : Outlined). q.0) x.points) (points_of (map code_of xs))
      (every_mapped (λ (q : Outlined). q.0.operation ≡ i) (λ (q : Point). (q.operation == k) ≡ false) (λ (q : Outlined). q.0) (λ q e. ne_eqb q.0.operation k (λ same. omega (arith, e, same, lt))) x.points h.0.head.own)
      (later_points k (i + 1) ts xs (omega (arith, lt)) h.1)

  module _ (k p n : ℕ) (o : Tree) (os : Trees) (t : Tree) (ts : Trees) (s : Signature) (ss : List Signature) (x : BodyText Outlined) (xs : List (BodyText Outlined)) (r : Rest k p (suc n) (o ▸ os) (t ▸ ts) (x ∷ xs))
      (signed : IsOperation d.declared k o s) (text : IsText d k t x) (others : Each (IsText d) (k + 1) ts xs) (free : HaveNoBinder (s.arguments ++ x.locals)) where
    abbrev uo : Trees
    uo = parts_in (codes "op") o

    abbrev us : Trees
    us = parts_in (codes "body") t

    abbrev own_body : Body
    own_body = body_of d.declared.operations d.declared.calls k p us

    abbrev own_points : List Point
    own_points = map (λ (q : Outlined). q.0) x.points

    its_signature : IsSigned d.declared k uo s
    its_signature = subst (λ ts. IsSigned d.declared k ts s) (sym (ap (parts_in (codes "op")) signed.1)) signed.2

    it_is_due : slice_get d.declared.bodies k ≡ Some own_body
    it_is_due = ap (slice_get d.declared.bodies) (sym r.bodies_long) ∙ ap (λ bs. slice_get bs (length r.bodies)) r.bodies_are ∙ at_seam r.bodies (bodies_at (k + 1) (p + length (points_in us)) n ts) own_body

    its_head : BodyHead own_body.operation k us x
    its_head =
        subst (λ (b : Body). BodyHead b.operation k us x) (same_body text.body own_body (slice_get d.declared.bodies k) text.due it_is_due)
        (subst (λ ts. BodyHead text.body.operation k ts x) (sym (ap (parts_in (codes "body")) text.form)) text.head)

    its_name : own_body.operation ≡ s.name
    its_name =
        ap name_or (ap (slice_get d.declared.operations) (sym r.names_long) ∙ ap (λ ws. slice_get ws (length r.names)) r.names_are ∙ at_seam r.names (map first_text (parts_of_all (codes "op") os)) (first_text uo))
        ∙ its_signature.name

    its_call : own_body.call ≡ call_of uo
    its_call =
        call_due d.declared.operations r.names (map first_text (parts_of_all (codes "op") os)) d.declared.calls r.calls (map call_of (parts_of_all (codes "op") os)) k (first_text uo) (first_text us) (call_of uo)
        r.names_are r.calls_are r.names_long r.calls_long
        (ap (λ w. list_any (is w) (take k d.declared.operations)) its_signature.name ∙ its_signature.new)
        (its_head.name ∙ its_name ∙ sym its_signature.name)

    its_variables : body_variables own_body ≡ s.arguments ++ x.locals
    its_variables = ap₂ (λ xs ys. xs ++ ys) (ap (λ (c : Call). c.arguments) its_call ∙ its_signature.arguments) its_head.locals

    as_many_points : length own_points ≡ length (points_in us)
    as_many_points = sym (length-map own_points (λ (p : Point). p.name)) ∙ ap length (sym its_head.labels) ∙ length-map (points_in us) first_text

    its_labels : (w : List ℕ) (j : ℕ) → place_of own_body.labels w ≡ Some j → label D.object (own_body.first + j) ≡ w
    its_labels w j e =
        ap name_of_point
        (ap₂ slice_get r.points_are (ap (λ n. n + j) (sym r.points_long)) ∙ past r.points (own_points ++ points_of (map code_of xs)) j)
        ∙ at_own (λ (p : Point). p.name) name_of_point (λ p. refl) own_points (points_of (map code_of xs)) w j (ap (λ ws. place_of ws w) (sym its_head.labels) ∙ e)

    it_fits : Fits own_body
    it_fits = record { labels = its_labels; free = subst HaveNoBinder (sym its_variables) free }

    its_points : (by : Spelled) → point_trees D by k 0 D.object.points ≡ row (map (point_with D.object D.actions by) x.points)
    its_points by =
        among_all D by k r.points (points_of (map code_of xs)) r.outlines x.points (outlines_of xs) r.points_are r.outlines_are (r.outlines_long ∙ sym r.points_long)
        (every_weaker (λ (q : Point). q.operation < k) (λ (q : Point). (q.operation == k) ≡ false) (λ q lt. ne_eqb q.operation k (λ same. omega (arith, same, lt))) r.points r.earlier)
        (later_points k (k + 1) ts xs (omega arith) others) its_head.own

    abbrev own_operation : Operation
    own_operation = record { name = s.name; arguments = s.arguments; replies = s.replies; locals = x.locals; entry = p }

    it_is_printed : body_tree D k own_operation ≡ ith_tree d (column_names D) D.object D.actions k x
    it_is_printed =
        ap (λ ts. list (atom (codes "body") ▸ atom s.name ▸ list (name_trees x.locals) ▸ ts)) (its_points (named_in (column_names D) own_operation))
        ∙ ap₂ (λ w vs. list (atom (codes "body") ▸ atom w ▸ list (name_trees x.locals) ▸ row (map (point_with D.object D.actions (named_by (column_names D) (with_client vs))) x.points))) (sym its_name) (sym its_variables)
        ∙ ap (λ o. due_tree d (column_names D) D.object D.actions o x) (sym it_is_due)

    rest_behind : Rest (k + 1) (p + length own_points) n os ts xs
    rest_behind = record {
      names = r.names ++ first_text uo ∷ [];
      calls = r.calls ++ call_of uo ∷ [];
      bodies = r.bodies ++ own_body ∷ [];
      points = r.points ++ own_points;
      outlines = r.outlines ++ map (λ (q : Outlined). q.1) x.points;
      names_are = r.names_are ∙ sym (append_assoc r.names (first_text uo ∷ []) (map first_text (parts_of_all (codes "op") os)));
      calls_are = r.calls_are ∙ sym (append_assoc r.calls (call_of uo ∷ []) (map call_of (parts_of_all (codes "op") os)));
      bodies_are = r.bodies_are ∙ ap (λ m. r.bodies ++ own_body ∷ bodies_at (k + 1) (p + m) n ts) (sym as_many_points) ∙ sym (append_assoc r.bodies (own_body ∷ []) (bodies_at (k + 1) (p + length own_points) n ts));
      points_are = r.points_are ∙ sym (append_assoc r.points own_points (points_of (map code_of xs)));
      outlines_are = r.outlines_are ∙ sym (append_assoc r.outlines (map (λ (q : Outlined). q.1) x.points) (outlines_of xs));
      names_long = omega (arith, r.names_long, length-append r.names (first_text uo ∷ []));
      calls_long = omega (arith, r.calls_long, length-append r.calls (call_of uo ∷ []));
      bodies_long = omega (arith, r.bodies_long, length-append r.bodies (own_body ∷ []));
      points_long = omega (arith, r.points_long, length-append r.points own_points);
      outlines_long = omega (arith, r.outlines_long, length-append r.outlines (map (λ (q : Outlined). q.1) x.points), length-map x.points (λ (q : Outlined). q.1), length-map x.points (λ (q : Outlined). q.0));
      earlier =
          Every-append (λ (q : Point). q.operation < k + 1) r.points own_points
          (every_weaker (λ (q : Point). q.operation < k) (λ (q : Point). q.operation < k + 1) (λ q lt. omega (arith, lt)) r.points r.earlier)
          (every_mapped (λ (q : Outlined). q.0.operation ≡ k) (λ (q : Point). q.operation < k + 1) (λ (q : Outlined). q.0) (λ q e. omega (arith, e)) x.points its_head.own);
    }

    joined_more : AreJoined (k + 1) (p + length own_points) os (bodies_at (k + 1) (p + length own_points) n ts) ss xs
        → AreJoined k p (o ▸ os) (bodies_at k p (suc n) (t ▸ ts)) (s ∷ ss) (x ∷ xs)
    joined_more j = record {
      fits = (it_fits, subst (λ m. Every Fits (bodies_at (k + 1) (p + m) n ts)) as_many_points j.fits);
      printed =
          ap₂ (λ t ts. t ▸ ts) it_is_printed
          (ap (λ i. body_trees D i (operations (p + length own_points) ss xs)) (omega arith) ∙ j.printed);
      names = ap₂ (λ w ws. w ∷ ws) (sym its_signature.name) j.names;
    }

  no_body : (k p : ℕ) (os ts : Trees) (t : Tree) (x : BodyText Outlined) (xs : List (BodyText Outlined)) → Rest k p zero os ts xs → IsText d k t x → ⊥
  no_body k p os ts t x xs r text =
      let nothing : slice_get d.declared.bodies k ≡ None = ap (slice_get d.declared.bodies) (sym r.bodies_long) ∙ ap (λ bs. slice_get bs (length r.bodies)) r.bodies_are ∙ past_end r.bodies in
      let no : None ≡ Some text.body = sym nothing ∙ text.due in
      absurd (cc)

  pub bodies_joined : (k p n : ℕ) (os ts : Trees) (ss : List Signature) (xs : List (BodyText Outlined)) → Rest k p n os ts xs → n ≡ tree_count os → n ≤ tree_count ts → Each (IsOperation d.declared) k os ss
      → Each (IsText d) k ts xs → AreFree (operations p ss xs) → AreJoined k p os (bodies_at k p n ts) ss xs
  bodies_joined k p zero none none [] [] r counted many signed texts free = record { fits = tt; printed = refl; names = refl }
  bodies_joined k p zero none none [] (x ∷ xs) r counted many signed texts free = absurd texts
  bodies_joined k p zero none (t ▸ ts) [] [] r counted many signed texts free = absurd texts
  bodies_joined k p zero none (t ▸ ts) [] (x ∷ xs) r counted many signed texts free = absurd (no_body k p none (t ▸ ts) t x (x ∷ xs) r texts.0)
  bodies_joined k p zero none ts (s ∷ ss) xs r counted many signed texts free = absurd signed
  bodies_joined k p zero (o ▸ os) ts ss xs r counted many signed texts free = absurd (omega (arith, counted))
  bodies_joined k p (suc n) none ts ss xs r counted many signed texts free = absurd (omega (arith, counted))
  bodies_joined k p (suc n) (o ▸ os) none ss xs r counted many signed texts free = absurd (omega (arith, many))
  bodies_joined k p (suc n) (o ▸ os) (t ▸ ts) [] xs r counted many signed texts free = absurd signed
  bodies_joined k p (suc n) (o ▸ os) (t ▸ ts) (s ∷ ss) [] r counted many signed texts free = absurd texts
  bodies_joined k p (suc n) (o ▸ os) (t ▸ ts) (s ∷ ss) (x ∷ xs) r counted many signed texts free =
      joined_more k p n o os t ts s ss x xs r signed.0 texts.0 texts.1 free.0
      (bodies_joined (k + 1) (p + length (map (λ (q : Outlined). q.0) x.points)) n os ts ss xs (rest_behind k p n o os t ts s ss x xs r signed.0 texts.0 texts.1 free.0) (omega (arith, counted)) (omega (arith, many))
      signed.1 texts.1 free.1)
