-- Marks of the code, one branch after another.
use Rattle.std.proofs.Common.{◌≡◌, ℕ, zero, suc, ◌+◌, List, [], ◌∷◌, ◌++◌, take, min, map, pos, refl, sym, ap, ap₂, ◌∙◌, arith, append_assoc}
use Rattle.std.proofs.lemmas.List.{take-map, take_all}
use Rattle.lc_base.specs.declared.ids.ColId.{ColId}
use Rattle.lc_term.specs.Said.{reads}
use Rattle.lc_term.specs.Syntax.{Term, Number, Read, Column, Formula}
use Rattle.lc_term.specs.SystemColumns.{arg_columns}
use Rattle.lc_seq.specs.Specification.{Operation}
use Rattle.lc_rider.specs.Rider.{Marking, Own, Other, Note}
use Rattle.lc_rider.specs.Paths as S
use Rattle.lc_rider.specs.Paths.{Owing, Duty, Pending, Enabled, named_duty, with_fact}
use Rattle.lc_rider.specs.MarkView.{with_duties}
use Rattle.lc_rider.specs.PathView.{with_duty}

-- ---- operations

-- ---- variables

three : {A : Type 0} (n : ℕ) (a b c : A) → take (min n 3) (a ∷ b ∷ c ∷ []) ≡ take n (a ∷ b ∷ c ∷ [])
three zero a b c = refl
three (suc zero) a b c = refl
three (suc (suc zero)) a b c = refl
three (suc (suc (suc n))) a b c =
    let all : min (suc (suc (suc n))) 3 ≡ 3 = omega arith in
    ap (λ k. take k (a ∷ b ∷ c ∷ [])) all ∙ sym (take_all (suc (suc (suc n))) (a ∷ b ∷ c ∷ []) (omega arith))

-- the client, and its arguments in these columns
pub call_is : (σ ρ : ℕ → Column) (first n k : ℕ) (args cells : List ColId) (c d : Term) (before after : List Term) →
    map (λ (x : ColId). x.0) args ≡ arg_columns first → k ≡ min n 3 → cells ≡ take k args → ρ ≡ σ → d ≡ c → before ≡ Number (pos 0) ∷ c ∷ [] →
    (ts whole : List Term) → after ≡ before ++ reads ρ (map (λ (x : ColId). x.0) cells) d → whole ≡ after ++ ts → whole ≡ S.branch_variables σ first n c ts
call_is σ ρ first n k args cells c d before after ea ek ec er ed eb ts whole e ew =
    let numbers : map (λ (x : ColId). x.0) cells ≡ take (min n 3) (arg_columns first) =
    ap (map (λ (x : ColId). x.0)) ec ∙ (sym (take-map (λ (x : ColId). x.0) k args) ∙ ap₂ (λ (j : ℕ) (xs : List ℕ). take j xs) ek ea) in
    let cell : ℕ → Term = λ j. Read (σ j) c in
    let seen : reads ρ (map (λ (x : ColId). x.0) cells) d ≡ take n (reads σ (arg_columns first) c) =
    ap₂ (λ (τ : ℕ → Column) (xs : List ℕ). reads τ xs d) er numbers
    ∙ ap (reads σ (take (min n 3) (arg_columns first))) ed
    ∙ (sym (take-map cell (min n 3) (arg_columns first)) ∙ three n (cell (2 + first)) (cell (3 + first)) (cell (4 + first))) in
    ew ∙ ap (λ (xs : List Term). xs ++ ts) (e ∙ ap₂ (λ (xs ys : List Term). xs ++ ys) eb seen)

module _ (operations : List Operation) (first n : ℕ) (k : Marking) (c : Term) where
  -- ---- duties

  named_kept : (p : S.Path) (kind : Owing) (g : Formula) → named_duty operations first n k (with_duty p kind n g) c ≡ named_duty operations first n k p c
  named_kept p kind g = (elim k as (λ m. named_duty operations first n m (with_duty p kind n g) c ≡ named_duty operations first n m p c) [ Own ↦ refl | Other t a ↦ refl | Note ↦ refl ])

  -- what a mark asks for, one thing after another
  pub duties_in_turn : (p a b r : S.Path) (pending enabled : Formula) → a ≡ with_duty p Pending n pending → b ≡ with_duties a (named_duty operations first n k a c) → r ≡ with_duty b Enabled n enabled →
      r ≡ with_duties p (record { kind = Pending; rider = n; facts = p.facts; goal = pending } ∷ named_duty operations first n k p c ++ (record { kind = Enabled; rider = n; facts = p.facts; goal = enabled } ∷ []))
  duties_in_turn p a b r pending enabled ea eb er =
      let d : Duty = record { kind = Pending; rider = n; facts = p.facts; goal = pending } in
      let e : Duty = record { kind = Enabled; rider = n; facts = p.facts; goal = enabled } in
      let named = named_duty operations first n k p c in
      let b_is : b ≡ with_duties (with_duty p Pending n pending) named =
      eb ∙ (ap (λ (x : S.Path). with_duties x (named_duty operations first n k x c)) ea ∙ ap (with_duties (with_duty p Pending n pending)) (named_kept p Pending pending)) in
      er ∙ (ap (λ (x : S.Path). with_duty x Enabled n enabled) b_is
      ∙ ap (λ (ds : List Duty). record p { duties = ds }) (append_assoc (p.duties ++ d ∷ []) named (e ∷ []) ∙ append_assoc p.duties (d ∷ []) (named ++ e ∷ [])))
