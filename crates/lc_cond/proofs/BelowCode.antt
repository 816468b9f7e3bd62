-- Variables below a count: the edges of an object's code, which have only the variables of their operation.
use Rattle.std.proofs.Common.{◌≡◌, ℕ, zero, suc, ◌+◌, ◌&&◌, true, List, [], ◌∷◌, Some, IsTrue, refl, sym, subst, ap, ◌∙◌, arith}
use Rattle.std.specs.Prelude.{nat_lt, slice_get}
use Rattle.std.specs.List.{list_all}
use Rattle.std.proofs.lemmas.Bool.{and_from}
use Rattle.std.proofs.lemmas.Option.{same_Some}
use Rattle.lc_lemmas.proofs.Booleans.{left_true, right_true}
use Rattle.lc_lemmas.proofs.Lists.{at_all}
use Rattle.lc_term.specs.Lists.{Every}
use Rattle.lc_term.specs.Syntax.{Term, Number, Variable, Bound, Add, Subtract, Multiply, Read}
use Rattle.lc_term.specs.Syntax.{Formula, Le, Eq, Not, And, Or, Implies, Forall, Exists, Formulas, none, more}
use Rattle.lc_term.specs.Places.{all_pass}
use Rattle.lc_term.proofs.Stores.{Every-append, Every-map}
use Rattle.lc_object.specs.Syntax.{Instr, Load, Store, Cas, Set, Faa, If, Return, Operation, Point, Object}
use Rattle.lc_object.specs.Edges.{Edge, array_columns, reads, row_updates, row_sums, row_facts, edges_at, edges_from, edges}
use Rattle.lc_object.specs.WellFormed.{variable_count, has_limits, is_code_term, are_code_terms, is_code_formula, are_code_formulas, passes_at, is_instruction, is_point, is_object}
use Rattle.lc_kernel.specs.Below.{below, term_below, formula_below}
use Rattle.lc_cond.proofs.Below.{TermsBelow, FormulasBelow}
use Rattle.lc_cond.proofs.BelowStores.{UpdateBelow}
use Rattle.lc_cond.proofs.BelowPaths.{formulas-below}

-- ---- terms and formulas of instructions

code_term-below : (n : ℕ) (t : Term) → is_code_term n t ≡ true → IsTrue (term_below n t)
code_term-below n (Number k) h = refl
code_term-below n (Variable k) h = right_true (nat_lt 0 k) (nat_lt k n) h
code_term-below n (Bound k) h = refl
code_term-below n (Add t u) h = and_from _ _ (code_term-below n t (left_true _ (is_code_term n u) h)) (code_term-below n u (right_true (is_code_term n t) _ h))
code_term-below n (Subtract t u) h = and_from _ _ (code_term-below n t (left_true _ (is_code_term n u) h)) (code_term-below n u (right_true (is_code_term n t) _ h))
code_term-below n (Multiply k t) h = code_term-below n t h
code_term-below n (Read c i) h = cc

code_terms-below : (n : ℕ) (ts : List Term) → are_code_terms n ts ≡ true → TermsBelow n ts
code_terms-below n [] h = tt
code_terms-below n (t ∷ ts) h = (code_term-below n t (left_true (is_code_term n t) (are_code_terms n ts) h), code_terms-below n ts (right_true (is_code_term n t) (are_code_terms n ts) h))

mutual
  code_formula-below : (n : ℕ) (f : Formula) → is_code_formula n f ≡ true → IsTrue (formula_below n f)
  code_formula-below n (Le t u) h = and_from _ _ (code_term-below n t (left_true _ (is_code_term n u) h)) (code_term-below n u (right_true (is_code_term n t) _ h))
  code_formula-below n (Eq t u) h = and_from _ _ (code_term-below n t (left_true _ (is_code_term n u) h)) (code_term-below n u (right_true (is_code_term n t) _ h))
  code_formula-below n (Not f) h = code_formula-below n f h
  code_formula-below n (And fs) h = code_formulas-below n fs h
  code_formula-below n (Or fs) h = code_formulas-below n fs h
  code_formula-below n (Implies f g) h =
      and_from _ _ (code_formula-below n f (left_true _ (is_code_formula n g) h)) (code_formula-below n g (right_true (is_code_formula n f) _ h))
  code_formula-below n (Forall f) h = cc
  code_formula-below n (Exists f) h = cc

  code_formulas-below : (n : ℕ) (fs : Formulas) → are_code_formulas n fs ≡ true → IsTrue (all_pass (λ k. below n) 0 fs)
  code_formulas-below n none h = refl
  code_formulas-below n (more f fs) h =
      and_from _ _ (code_formula-below n f (left_true _ (are_code_formulas n fs) h)) (code_formulas-below n fs (right_true (is_code_formula n f) _ h))

-- ---- rows

reads-below : (n : ℕ) (cs : List ℕ) (t : Term) → IsTrue (term_below n t) → TermsBelow n (reads cs t)
reads-below n [] t h = tt
reads-below n (c ∷ cs) t h = (h, reads-below n cs t h)

row_updates-below : (n : ℕ) (cs : List ℕ) (t : Term) (vs : List Term) → IsTrue (term_below n t) → TermsBelow n vs → Every (UpdateBelow n) (row_updates cs t vs)
row_updates-below n [] t vs h g = tt
row_updates-below n (c ∷ cs) t [] h g = tt
row_updates-below n (c ∷ cs) t (v ∷ vs) h g = ((h, g.0), row_updates-below n cs t vs h g.1)

row_sums-below : (n : ℕ) (cs : List ℕ) (t : Term) (ds : List Term) → IsTrue (term_below n t) → TermsBelow n ds → TermsBelow n (row_sums cs t ds)
row_sums-below n [] t ds h g = tt
row_sums-below n (c ∷ cs) t [] h g = tt
row_sums-below n (c ∷ cs) t (d ∷ ds) h g = (and_from _ _ h g.0, row_sums-below n cs t ds h g.1)

row_facts-below : (n : ℕ) (cs : List ℕ) (t : Term) (vs : List Term) → IsTrue (term_below n t) → TermsBelow n vs → FormulasBelow n (row_facts cs t vs)
row_facts-below n [] t vs h g = tt
row_facts-below n (c ∷ cs) t [] h g = tt
row_facts-below n (c ∷ cs) t (v ∷ vs) h g = (and_from _ _ h g.0, row_facts-below n cs t vs h g.1)

-- ---- edges

pub record EdgeBelow (n : ℕ) (e : Edge) : Type 0 where
  pub facts : FormulasBelow n e.facts
  pub values : TermsBelow n e.values
  pub updates : Every (UpdateBelow n) e.updates

-- an edge that leaves the point k, in the body of the operation op
abbrev LeavesBelow : Object → ℕ → ℕ → Edge → Type 0
LeavesBelow object op k e = (e.point ≡ k) × ((o : Operation) → slice_get object.operations op ≡ Some o → EdgeBelow (variable_count o) e)

edges_at-below : (object : Object) (op k : ℕ) (i : Instr) → ((o : Operation) → slice_get object.operations op ≡ Some o → is_instruction object op o i ≡ true) →
    Every (LeavesBelow object op k) (edges_at object k i)
edges_at-below object op k (Load a t rs l) h =
    ((refl, λ o is. record { facts = tt; values = reads-below (variable_count o) (array_columns object a) t (code_term-below (variable_count o) t (right_true _ _ (left_true _ _ (left_true _ _ (h o is))))); updates = tt }), tt)
edges_at-below object op k (Store a t vs l) h = (
  (
    refl,
    λ o is. record {
      facts = tt;
      values = tt;
      updates = row_updates-below (variable_count o) (array_columns object a) t vs (code_term-below (variable_count o) t (right_true _ _ (left_true _ _ (left_true _ _ (h o is)))))
          (code_terms-below (variable_count o) vs (right_true _ _ (left_true _ _ (h o is))));
    },
  ),
  tt,
)
edges_at-below object op k (Cas a t old new l m) h =
    (let index : (o : Operation) → slice_get object.operations op ≡ Some o → IsTrue (term_below (variable_count o) t) =
    λ o is. code_term-below (variable_count o) t (right_true _ _ (left_true _ _ (left_true _ _ (left_true _ _ (left_true _ _ (h o is))))))
    in
    let facts : (o : Operation) → slice_get object.operations op ≡ Some o → FormulasBelow (variable_count o) (row_facts (array_columns object a) t old) =
    λ o is. row_facts-below (variable_count o) (array_columns object a) t old (index o is) (code_terms-below (variable_count o) old (right_true _ _ (left_true _ _ (left_true _ _ (left_true _ _ (h o is))))))
    in (
      (
        refl,
        λ o is. record {
          facts = facts o is;
          values = tt;
          updates = row_updates-below (variable_count o) (array_columns object a) t new (index o is) (code_terms-below (variable_count o) new (right_true _ _ (left_true _ _ (left_true _ _ (h o is)))));
        },
      ),
      ((refl, λ o is. record { facts = (formulas-below (variable_count o) (row_facts (array_columns object a) t old) (facts o is), tt); values = tt; updates = tt }), tt),
    ))
edges_at-below object op k (Set rs vs l) h =
    ((refl, λ o is. record { facts = tt; values = code_terms-below (variable_count o) vs (right_true _ _ (left_true _ _ (h o is))); updates = tt }), tt)
edges_at-below object op k (Faa a t rs ds l) h =
    (let index : (o : Operation) → slice_get object.operations op ≡ Some o → IsTrue (term_below (variable_count o) t) =
    λ o is. code_term-below (variable_count o) t (right_true _ _ (left_true _ _ (left_true _ _ (left_true _ _ (h o is)))))
    in (
      (
        refl,
        λ o is. record {
          facts = tt;
          values = reads-below (variable_count o) (array_columns object a) t (index o is);
          updates = row_updates-below (variable_count o) (array_columns object a) t (row_sums (array_columns object a) t ds) (index o is)
              (row_sums-below (variable_count o) (array_columns object a) t ds (index o is) (code_terms-below (variable_count o) ds (right_true _ _ (left_true _ _ (h o is)))));
        },
      ),
      tt,
    ))
edges_at-below object op k (If f l m) h =
    (let condition : (o : Operation) → slice_get object.operations op ≡ Some o → IsTrue (formula_below (variable_count o) f) =
    λ o is. code_formula-below (variable_count o) f (left_true _ _ (left_true _ _ (h o is)))
    in (
      (refl, λ o is. record { facts = (condition o is, tt); values = tt; updates = tt }),
      ((refl, λ o is. record { facts = (condition o is, tt); values = tt; updates = tt }), tt),
    ))
edges_at-below object op k (Return vs) h = ((refl, λ o is. record { facts = tt; values = tt; updates = tt }), tt)

-- in the body of the operation that the edge is in
abbrev pub StandsBelow : Object → Edge → Type 0
StandsBelow object e = (point : Point) (o : Operation) → slice_get object.points e.point ≡ Some point → slice_get object.operations point.operation ≡ Some o → EdgeBelow (variable_count o) e

instruction_passes : (object : Object) (point : Point) → is_point object point ≡ true → (o : Operation) → slice_get object.operations point.operation ≡ Some o → is_instruction object point.operation o point.instruction ≡ true
instruction_passes object point h o is =
    right_true (has_limits o) (is_instruction object point.operation o point.instruction)
    (subst (λ x. passes_at (λ y. has_limits y && is_instruction object point.operation y point.instruction) x ≡ true) is h)

stands : (object : Object) (k : ℕ) (point : Point) → slice_get object.points k ≡ Some point → (e : Edge) → LeavesBelow object point.operation k e → StandsBelow object e
stands object k point at e leaves q o here is =
    let same : point ≡ q = same_Some point q (sym at ∙ sym (ap (slice_get object.points) leaves.0) ∙ here) in
    leaves.1 o (ap (λ (x : Point). slice_get object.operations x.operation) same ∙ is)

edges_from-below : (object : Object) → list_all (is_point object) object.points ≡ true → (p : ℕ) (points : List Point) →
    ((k : ℕ) (point : Point) → slice_get points k ≡ Some point → slice_get object.points (p + k) ≡ Some point) → Every (StandsBelow object) (edges_from object p points)
edges_from-below object well p [] at = tt
edges_from-below object well p (point ∷ points) at =
    let here : slice_get object.points p ≡ Some point = subst (λ j. slice_get object.points j ≡ Some point) (omega arith) (at zero point refl) in
    Every-append (StandsBelow object) (edges_at object p point.instruction) (edges_from object (suc p) points)
    (Every-map (LeavesBelow object point.operation p) (StandsBelow object) (edges_at object p point.instruction) (stands object p point here)
    (edges_at-below object point.operation p point.instruction (instruction_passes object point (at_all (is_point object) object.points p point well here))))
    (edges_from-below object well (suc p) points (λ k q e. subst (λ j. slice_get object.points j ≡ Some q) (omega arith) (at (suc k) q e)))

pub edges-below : (object : Object) → is_object object ≡ true → Every (StandsBelow object) (edges object)
edges-below object well = edges_from-below object (right_true _ _ well) 0 object.points (λ k q e. subst (λ j. slice_get object.points j ≡ Some q) (omega arith) e)
