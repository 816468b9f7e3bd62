-- Branches of the code that are taken, one after another.
use Rattle.std.proofs.Common.{◌≡◌, ℕ, ◌+◌, ◌<◌, List, [], ◌∷◌, ◌++◌, length, drop, get_or, refl, sym, subst, ap, ap₂, ◌∙◌, append_assoc, append-nil}
use Rattle.lc_table.specs.NodeTables.{Table}
use Rattle.lc_put.specs.PutNumbers.{terms_in, AreTerms}
use Rattle.lc_term.specs.Said.{told, after}
use Rattle.lc_term.specs.Syntax.{Term, Column, Formula, Not}
use Rattle.lc_table.specs.Tables.{term_in, formula_in, IsTerm, HasFormula, Keeps}
use Rattle.lc_term.specs.View.{formula_of}
use Rattle.lc_table.specs.declared.node.FormulaId.{FormulaId}
use Rattle.lc_table.specs.declared.node.TermId.{TermId}
use Rattle.lc_put.proofs.ByNumber.{terms_still}
use Rattle.lc_table.proofs.Later.{formula_is, term_still}
use Rattle.lc_seq.specs.Specification as Q
use Rattle.lc_seq.specs.Specification.{Operation}
use Rattle.lc_seq.specs.SpecView.{branch_of}
use Rattle.lc_seq.specs.declared.specification.Branch.{Branch}
use Rattle.lc_rider.specs.MarkView.{marking_of, branches_at, branch_path}
use Rattle.lc_rider.specs.Paths.{Path, Duty, Observing, is_empty, mark_updates, observing_duty, branch_paths, with_fact}
use Rattle.lc_rider.specs.PathView.{path_in, HasPath, with_columns, with_duty}
use Rattle.lc_rider.specs.Rider.{Marking, Note}
use Rattle.lc_rider.specs.declared.marking.Marking as M
use Rattle.lc_rider.specs.declared.marking.Marking.TheVariants as V
use Rattle.lc_rider.specs.declared.path.Path as P
use Rattle.std.specs.Borrow.{Bor}
use Rattle.std.proofs.lemmas.List.{drop_more}
use Rattle.lc_rider.proofs.PathsAdded.{has_same}

-- a guard, with the variables as they were
pub guard_still : (old new : Table) (vs : List TermId) (σ : ℕ → Column) (f : Formula) (now : Table) (guard : FormulaId) → AreTerms old vs → Keeps old new →
    HasFormula now guard (told σ (terms_in new vs) f) → HasFormula now guard (told σ (terms_in old vs) f)
guard_still old new vs σ f now guard are kept h =
    subst (λ (τ : List Term). HasFormula now guard (told σ τ f)) (terms_still old new vs are kept) h

module _ (operations : List Operation) (first n : ℕ) where
  -- a branch that is taken, with the client and the variables as they were
  pub taken_still : (m : M.Marking) (old new now : Table) (client : TermId) (vs : List TermId) (b : Q.Branch) (guard : FormulaId) (g : Formula) (p r : P.Path) (q : Path) →
      IsTerm old client → AreTerms old vs → Keeps old new → HasFormula new guard g → HasPath new p q →
      HasPath now r (branch_path operations first n (marking_of m (term_in new client)) (terms_in new vs) b (formula_in new guard) (path_in new p)) →
      HasPath now r (branch_path operations first n (marking_of m (term_in old client)) (terms_in old vs) b g q)
  taken_still m old new now client vs b guard g p r q is are kept hg hp h =
      has_same now r _ _ h (λ i. branch_path operations first n (marking_of m (term_still old new client is kept i)) (terms_still old new vs are kept i) b (formula_is new guard g hg i) (hp.path i))

  -- only a note asks that nothing be stored
  pub none_observing : (m : M.Marking) (u : Term) (facts : List Formula) (b : Q.Branch) → (m ≡ V.Note → ⊥) → observing_duty operations first n (marking_of m u) facts b ≡ []
  none_observing V.Own u facts b h = refl
  none_observing (V.Other o) u facts b h = refl
  none_observing V.Note u facts b h = absurd (h refl)

  -- a branch by which no reply is noted
  pub settled_path : (k : Marking) (p : Path) (σ : ℕ → Column) (τ : List Term) (b : Q.Branch) (g : Formula) → σ ≡ after p.columns τ (mark_updates first k b) →
      observing_duty operations first n k (p.facts ++ g ∷ []) b ≡ [] → with_fact (with_columns p σ) g ≡ branch_path operations first n k τ b g p
  settled_path k p σ τ b g stored none =
      ap₂ (λ (ρ : ℕ → Column) (ds : List Duty). (let q : Path = record { columns = ρ; facts = p.facts ++ g ∷ []; duties = ds } in q)) stored (sym (append-nil p.duties) ∙ ap (λ (ds : List Duty). p.duties ++ ds) (sym none))

  -- a branch by which replies are noted
  pub noted_path : (p : Path) (σ : ℕ → Column) (τ : List Term) (b : Q.Branch) (g : Formula) → σ ≡ after p.columns τ (mark_updates first Note b) →
      with_duty (with_fact (with_columns p σ) g) Observing n (is_empty b.updates) ≡ branch_path operations first n Note τ b g p
  noted_path p σ τ b g stored =
      ap (λ (ρ : ℕ → Column). (let q : Path = record { columns = ρ; facts = p.facts ++ g ∷ []; duties = p.duties ++ observing_duty operations first n Note (p.facts ++ g ∷ []) b } in q)) stored

module _ (operations : List Operation) (first n : ℕ) (k : Marking) (τ : List Term) where
  -- one more branch
  pub branches_step : (bs : List (Bor Branch)) (i : ℕ) (b : Bor Branch) (done : List Path) (x q r : Path) (g : Formula) (whole : List Path) →
      i < length bs → b ≡ get_or bs i b → g ≡ told q.columns τ (formula_of b.now.guard) → x ≡ branch_path operations first n k τ (branch_of b.now) g q → r ≡ with_fact q (Not g) →
      done ++ branch_paths operations first n k τ (branches_at (drop i bs)) q ≡ whole →
      (done ++ x ∷ []) ++ branch_paths operations first n k τ (branches_at (drop (i + 1) bs)) r ≡ whole
  branches_step bs i b done x q r g whole h e guard ex er before =
      let rest = branch_paths operations first n k τ (branches_at (drop (i + 1) bs)) r in
      let f : Formula = told q.columns τ (formula_of b.now.guard) in
      let one : x ≡ branch_path operations first n k τ (branch_of b.now) f q = ex ∙ ap (λ (y : Formula). branch_path operations first n k τ (branch_of b.now) y q) guard in
      let others : rest ≡ branch_paths operations first n k τ (branches_at (drop (i + 1) bs)) (with_fact q (Not f)) =
      ap (branch_paths operations first n k τ (branches_at (drop (i + 1) bs))) (er ∙ ap (λ (y : Formula). with_fact q (Not y)) guard) in
      let split : drop i bs ≡ b ∷ drop (i + 1) bs = drop_more bs i b h ∙ ap (λ (y : Bor Branch). y ∷ drop (i + 1) bs) (sym e) in
      append_assoc done (x ∷ []) rest
      ∙ (ap₂ (λ (y : Path) (ys : List Path). done ++ y ∷ ys) one others
      ∙ (ap (λ (ys : List (Bor Branch)). done ++ branch_paths operations first n k τ (branches_at ys) q) (sym split) ∙ before))
