-- Variables below a count: the paths of riders. Whatever the riders and the branches say, they are said in variables below it.
use Rattle.std.proofs.Common.{ℕ, suc, List, [], ◌∷◌, ◌++◌, map, take, Option, Some, None, IsTrue, refl}
use Rattle.std.proofs.lemmas.Bool.{and_from}
use Rattle.lc_term.specs.Lists.{Every}
use Rattle.lc_term.specs.Syntax.{Term, Column, Formula, Not, formulas}
use Rattle.lc_term.specs.Places.{all_pass}
use Rattle.lc_term.specs.Replacement.{replacing, replace_term}
use Rattle.lc_term.specs.Said.{said, told, term_at, reads}
use Rattle.lc_term.specs.SystemColumns.{pend, op_column, arg_columns}
use Rattle.lc_term.specs.Updates.{Update}
use Rattle.lc_term.proofs.Stores.{Every-append}
use Rattle.lc_seq.specs.Branches.{op_branches, arity}
use Rattle.lc_seq.specs.Sequential.{Chosen, given_in}
use Rattle.lc_seq.specs.Specification.{Branch, Operation, chosen}
use Rattle.lc_rider.specs.Rider.{Marking, Own, Other, Note, Deed, Assign, Marks, Rider}
use Rattle.lc_rider.specs.Paths.{Duty, Path, with_fact, is_empty, marked_client, marked_op, mark_updates, named_duty, observing_duty, branch_variables, mark_duties, owing}
use Rattle.lc_rider.specs.Paths.{branch_paths, choice_paths, mark_paths, deed_paths, deed_paths_where, rider_paths, paths}
use Rattle.lc_kernel.specs.Below.{below, term_below, formula_below}
use Rattle.lc_cond.proofs.Below.{ColumnsBelow, TermsBelow, FormulasBelow, told-below, told_term-below}
use Rattle.lc_cond.proofs.Elements.{Every-each}
use Rattle.lc_cond.proofs.BelowStores.{put-below, said-below, after-below, reads-below, take-below}

abbrev pub DutyBelow : ℕ → Duty → Type 0
DutyBelow n d = FormulasBelow n d.facts × IsTrue (formula_below n d.goal)

pub record PathBelow (n : ℕ) (p : Path) : Type 0 where
  pub columns : ColumnsBelow n p.columns
  pub facts : FormulasBelow n p.facts
  pub duties : Every (DutyBelow n) p.duties

-- ---- lists

pub formulas-below : (n : ℕ) (fs : List Formula) → FormulasBelow n fs → IsTrue (all_pass (λ k. below n) 0 (formulas fs))
formulas-below n [] h = refl
formulas-below n (f ∷ fs) h = and_from _ _ h.0 (formulas-below n fs h.1)

pub facts-append : (n : ℕ) (fs gs : List Formula) → FormulasBelow n fs → FormulasBelow n gs → FormulasBelow n (fs ++ gs)
facts-append n fs gs h g = Every-append (λ f. IsTrue (formula_below n f)) fs gs h g

-- ---- one more fact, one more duty

module _ (operations : List Operation) (first n : ℕ) where
  fact_more : (p : Path) (f : Formula) → PathBelow n p → IsTrue (formula_below n f) → PathBelow n (with_fact p f)
  fact_more p f h g = record { columns = h.columns; facts = facts-append n p.facts (f ∷ []) h.facts (g, tt); duties = h.duties }

  is_empty-below : (us : List Update) → IsTrue (formula_below n (is_empty us))
  is_empty-below [] = refl
  is_empty-below (u ∷ us) = refl

  named_duty-below : (j : ℕ) (k : Marking) (p : Path) (c : Term) → PathBelow n p → IsTrue (term_below n c) → Every (DutyBelow n) (named_duty operations first j k p c)
  named_duty-below j Own p c h t = tt
  named_duty-below j (Other u o) p c h t = ((h.facts, and_from _ _ (and_from _ _ (h.columns (op_column first)) t) refl), tt)
  named_duty-below j Note p c h t = tt

  observing_duty-below : (j : ℕ) (k : Marking) (facts : List Formula) (b : Branch) → FormulasBelow n facts → Every (DutyBelow n) (observing_duty operations first j k facts b)
  observing_duty-below j Own facts b h = tt
  observing_duty-below j (Other u o) facts b h = tt
  observing_duty-below j Note facts b h = ((h, is_empty-below b.updates), tt)

  variables-below : (m : ℕ) (σ : ℕ → Column) (c : Term) (ts : List Term) → ColumnsBelow n σ → IsTrue (term_below n c) → TermsBelow n ts → TermsBelow n (branch_variables σ first m c ts)
  variables-below m σ c ts h t g =
      (refl, (t, Every-append (λ u. IsTrue (term_below n u)) (take m (reads σ (arg_columns first) c)) ts (take-below n m (reads σ (arg_columns first) c) (reads-below n σ (arg_columns first) c h t)) g))

  -- ---- branches, whose variables are below

  module _ (υ : List Term) (given : TermsBelow n υ) where
    guards-below : (σ : ℕ → Column) → ColumnsBelow n σ → (bs : List Branch) → FormulasBelow n (map (λ (b : Branch). told σ υ b.guard) bs)
    guards-below σ h [] = tt
    guards-below σ h (b ∷ bs) = (told-below n σ υ h given b.guard, guards-below σ h bs)

    mark_duties-below : (j : ℕ) (k : Marking) (p : Path) (c : Term) (bs : List Branch) → PathBelow n p → IsTrue (term_below n c) → Every (DutyBelow n) (mark_duties operations first j k p c υ bs)
    mark_duties-below j k p c bs h t = (
      (h.facts, and_from _ _ (and_from _ _ (h.columns (pend first)) t) refl),
      Every-append (DutyBelow n) (named_duty operations first j k p c) _ (named_duty-below j k p c h t)
          ((h.facts, formulas-below n (map (λ (b : Branch). told p.columns υ b.guard) bs) (guards-below p.columns h.columns bs)), tt),
    )

    branch_paths-below : (j : ℕ) (k : Marking) (bs : List Branch) (p : Path) → PathBelow n p → Every (PathBelow n) (branch_paths operations first j k υ bs p)
    branch_paths-below j k [] p h = tt
    branch_paths-below j k (b ∷ bs) p h =
        let g = told-below n p.columns υ h.columns given b.guard in
        let facts = facts-append n p.facts (told p.columns υ b.guard ∷ []) h.facts (g, tt) in (
          record {
            columns = after-below n p.columns υ (mark_updates first k b) h.columns given;
            facts = facts;
            duties = Every-append (DutyBelow n) p.duties (observing_duty operations first j k (p.facts ++ told p.columns υ b.guard ∷ []) b) h.duties
                (observing_duty-below j k (p.facts ++ told p.columns υ b.guard ∷ []) b facts);
          },
          branch_paths-below j k bs (with_fact p (Not (told p.columns υ b.guard))) (fact_more p (Not (told p.columns υ b.guard)) h g),
        )

  choice_paths-below : (j o : ℕ) (k : Marking) (c : Term) (ts : List Term) (bs : List Branch) (p : Path) → PathBelow n p → IsTrue (term_below n c) → TermsBelow n ts →
      Every (PathBelow n) (choice_paths operations first j o k c ts bs p)
  choice_paths-below j o k c ts bs p h t g =
      let υ = branch_variables p.columns first (arity operations o) c ts in
      let given = variables-below (arity operations o) p.columns c ts h.columns t g in
      let duties = mark_duties operations first j k p c υ bs in
      branch_paths-below υ given j k bs (owing operations first j k c υ bs p)
      (record { columns = h.columns; facts = h.facts; duties = Every-append (DutyBelow n) p.duties duties h.duties (mark_duties-below υ given j k p c bs h t) })

  module _ (τ : List Term) (vars : TermsBelow n τ) where
    terms-below : (σ : ℕ → Column) → ColumnsBelow n σ → (ts : List Term) → TermsBelow n (map (replace_term (replacing σ (term_at τ))) ts)
    terms-below σ h [] = tt
    terms-below σ h (t ∷ ts) = (told_term-below n σ τ h vars t, terms-below σ h ts)

    mark_paths-below : (j o : ℕ) (k : Marking) (by : Chosen Term) (p : Path) → PathBelow n p → Every (PathBelow n) (mark_paths operations first j o τ k by p)
    mark_paths-below j o k by p h =
        choice_paths-below j (marked_op o k) k (replace_term (replacing p.columns (term_at τ)) (marked_client k)) (map (replace_term (replacing p.columns (term_at τ))) (given_in by))
        (chosen by (op_branches operations (marked_op o k))) p h (told_term-below n p.columns τ h.columns vars (marked_client k)) (terms-below p.columns h.columns (given_in by))

    deed_paths-below : (j o : ℕ) (d : Deed) (p : Path) → PathBelow n p → Every (PathBelow n) (deed_paths operations first j o τ d p)
    deed_paths-below j o (Assign u) p h =
        (record { columns = put-below n p.columns (said p.columns τ u) h.columns (said-below n p.columns τ h.columns vars u); facts = h.facts; duties = h.duties }, tt)
    deed_paths-below j o (Marks k by) p h = mark_paths-below j o k by p h

    deed_paths_where-below : (f : Option Formula) (j o : ℕ) (d : Deed) (p : Path) → PathBelow n p → Every (PathBelow n) (deed_paths_where operations first f j o τ d p)
    deed_paths_where-below None j o d p h = deed_paths-below j o d p h
    deed_paths_where-below (Some f) j o d p h =
        let g = told-below n p.columns τ h.columns vars f in
        let holds = with_fact p (told p.columns τ f) in
        Every-append (PathBelow n) (deed_paths operations first j o τ d holds) _ (deed_paths-below j o d holds (fact_more p (told p.columns τ f) h g)) (fact_more p (Not (told p.columns τ f)) h g, tt)

    pub paths-below : (j o : ℕ) (rs : List Rider) (p : Path) → PathBelow n p → Every (PathBelow n) (paths operations first j o τ rs p)
    paths-below j o [] p h = (h, tt)
    paths-below j o (r ∷ rs) p h =
        Every-each (PathBelow n) (PathBelow n) (paths operations first (suc j) o τ rs) (rider_paths operations first j o τ r p) (λ q g. paths-below (suc j) o rs q g)
        (deed_paths_where-below r.condition j o r.deed p h)
