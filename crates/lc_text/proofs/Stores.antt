-- The text of a chain of stores: their words, what is stored to, and what is stored, the innermost first.
use Rattle.std.proofs.Common.{◌≡◌, ℕ, zero, suc, arith, List, [], ◌∷◌, ◌++◌, length, append_assoc, append-nil, refl, sym, ap, ◌∙◌}
use Rattle.std.specs.Prelude.{codes}
use Rattle.std.proofs.lemmas.List.{length-append}
use Rattle.lc_term.specs.Chains.{with_stores, stores_of}
use Rattle.lc_term.specs.Syntax as S
use Rattle.lc_term.specs.View.{term_of}
use Rattle.lc_term.specs.declared.chain.StoreAt.{StoreAt}
use Rattle.lc_term.proofs.Chained.{StandsIn, put_round}
use Rattle.lc_text.specs.Spelled.{spelled_term, spelled_column}
use Rattle.lc_text.specs.Spelling.{Spelled}

-- the words of this many stores
abbrev pub opened : ℕ → List ℕ
opened zero = []
opened (suc n) = opened n ++ codes "(store "

-- the words of the stores that are left are written, and a column expression inside them
pub record IsWritten (by : Spelled) (d : ℕ) (old new : List ℕ) (whole : S.Column) (ss : List StoreAt) : Type 0 where
  pub inner : S.Column
  pub stands : StandsIn whole inner ss
  pub text : new ≡ (old ++ opened (length ss)) ++ spelled_column by d inner

regroup : (x s c p i q v e : List ℕ) → ((((((x ++ s) ++ c) ++ p) ++ i) ++ q) ++ v) ++ e ≡ x ++ ((((s ++ c) ++ (p ++ i)) ++ (q ++ v)) ++ e)
regroup x s c p i q v e = simp append_assoc

-- a store more is written
pub one_written : (by : Spelled) (d : ℕ) (old l0 l1 l2 l3 l4 l5 : List ℕ) (whole : S.Column) (all ss : List StoreAt) (s : StoreAt) → all ≡ ss ++ s ∷ [] → IsWritten by d old l0 whole all →
    l1 ≡ l0 ++ codes " " → l2 ≡ l1 ++ spelled_term by d (term_of s.index.now) → l3 ≡ l2 ++ codes " " → l4 ≡ l3 ++ spelled_term by d (term_of s.value.now) → l5 ≡ l4 ++ codes ")" →
    IsWritten by d old l5 whole ss
one_written by d old l0 l1 l2 l3 l4 l5 whole all ss s items h e1 e2 e3 e4 e5 =
    let i = spelled_term by d (term_of s.index.now) in
    let v = spelled_term by d (term_of s.value.now) in
    let c = spelled_column by d h.inner in
    let count : length all ≡ suc (length ss) = ap length items ∙ length-append ss (s ∷ []) ∙ (omega arith) in
    record {
      inner = S.Store h.inner (term_of s.index.now) (term_of s.value.now);
      stands = put_round whole h.inner _ _ all ss s items refl refl h.stands;
      text =
          let whole_text : l5 ≡ (((((l0 ++ codes " ") ++ i) ++ codes " ") ++ v) ++ codes ")") = cc in
          let start : l0 ≡ (old ++ opened (length ss)) ++ codes "(store " ++ c =
          h.text ∙ ap (λ n. (old ++ opened n) ++ c) count ∙ ap (λ l. l ++ c) (sym (append_assoc old (opened (length ss)) (codes "(store "))) in
          whole_text ∙ ap (λ l. ((((l ++ codes " ") ++ i) ++ codes " ") ++ v) ++ codes ")") start
          ∙ regroup (old ++ opened (length ss)) (codes "(store ") c (codes " ") i (codes " ") v (codes ")");
    }

-- all is written
pub all_written : (by : Spelled) (d : ℕ) (old new : List ℕ) (whole : S.Column) (ss : List StoreAt) → ss ≡ [] → IsWritten by d old new whole ss → new ≡ old ++ spelled_column by d whole
all_written by d old new whole ss none h =
    let same : h.inner ≡ whole = sym (h.stands ∙ ap (λ l. with_stores h.inner (stores_of l)) none) in
    h.text ∙ ap (λ l. (old ++ opened (length l)) ++ spelled_column by d h.inner) none
    ∙ ap (λ l. l ++ spelled_column by d h.inner) (append-nil old) ∙ ap (λ c. old ++ spelled_column by d c) same
