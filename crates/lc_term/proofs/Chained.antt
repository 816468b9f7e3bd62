-- Stores taken from a column expression one after another, and put back.
use Rattle.std.proofs.Common.{◌≡◌, ◌<◌, Bool, true, false, ◌&&◌, IsTrue, List, [], ◌∷◌, ◌++◌, map, refl, sym, ap, ap₂, subst, ◌∙◌}
use Rattle.std.proofs.lemmas.Bool.{and_parts}
use Rattle.std.proofs.lemmas.List.{map-append}
use Rattle.lc_term.specs.Chains.{Stored, with_stores, stored_of, stores_of, AreInside}
use Rattle.lc_term.specs.declared.chain.StoreAt.{StoreAt}
use Rattle.lc_term.specs.declared.term.ColExpr.{ColExpr, size-ColExpr}
use Rattle.lc_term.specs.declared.term.Term.{size-Term}
use Rattle.lc_term.specs.View.{term_of}
use Rattle.lc_term.specs.Lists.{Every}
use Rattle.lc_term.specs.Places.{Test, term_passes, column_passes}
use Rattle.lc_term.specs.Replacement.{Replacement, replace_term, replace_column}
use Rattle.lc_term.specs.Equal.{term_eq, column_eq}
use Rattle.lc_term.specs.Syntax.{Term, Column, Store}

-- the innermost store, after the others
pub innermost_store : (c : Column) (ws : List Stored) (w : Stored) → with_stores c (ws ++ w ∷ []) ≡ with_stores (Store c w.index w.value) ws
innermost_store c [] w = refl
innermost_store c (v ∷ ws) w = ap (λ d. Store d v.index v.value) (innermost_store c ws w)

pub every_one_more : {A : Type 0} (P : A → Type 0) (xs : List A) (x : A) → Every P xs → P x → Every P (xs ++ x ∷ [])
every_one_more P [] x h k = (k, tt)
every_one_more P (y ∷ xs) x h k = (h.0, every_one_more P xs x h.1 k)

pub every_but_last : {A : Type 0} (P : A → Type 0) (xs : List A) (x : A) → Every P (xs ++ x ∷ []) → Every P xs × P x
every_but_last P [] x h = (tt, h.0)
every_but_last P (y ∷ xs) x h = let rest = every_but_last P xs x h.1 in ((h.0, rest.0), rest.1)

-- a store with both terms replaced
abbrev pub replace_stored : Replacement → Stored → Stored
replace_stored r w = record { index = replace_term r w.index; value = replace_term r w.value }

pub replace_chain : (r : Replacement) (c : Column) (ws : List Stored) → replace_column r (with_stores c ws) ≡ with_stores (replace_column r c) (map (replace_stored r) ws)
replace_chain r c [] = refl
replace_chain r c (w ∷ ws) = ap (λ d. Store d (replace_term r w.index) (replace_term r w.value)) (replace_chain r c ws)

-- both terms pass
abbrev pub StorePasses : Test → Stored → Type 0
StorePasses p w = IsTrue (term_passes p w.index) × IsTrue (term_passes p w.value)

pub chain_passes : (p : Test) (c : Column) (ws : List Stored) → IsTrue (column_passes p (with_stores c ws)) → IsTrue (column_passes p c) × Every (StorePasses p) ws
chain_passes p c [] h = (h, tt)
chain_passes p c (w ∷ ws) h =
    let outer = and_parts (column_passes p (with_stores c ws) && term_passes p w.index) (term_passes p w.value) h in
    let inner = and_parts (column_passes p (with_stores c ws)) (term_passes p w.index) outer.0 in
    let rest = chain_passes p c ws inner.0 in
    (rest.0, ((inner.1, outer.1), rest.1))

both_true : (b : Bool) → (b && true && true) ≡ b
both_true true = refl
both_true false = refl

-- if the terms of two stores are the same, what is stored to decides
pub same_store : (c d : Column) (i j v w : Term) → term_eq i j ≡ true → term_eq v w ≡ true → column_eq (Store c i v) (Store d j w) ≡ column_eq c d
same_store c d i j v w hi hv = ap₂ (λ x y. column_eq c d && x && y) hi hv ∙ both_true (column_eq c d)

-- the stores in the list are still to be put around the column expression
abbrev pub StandsIn : Column → Column → List StoreAt → Type 0
StandsIn whole c ss = whole ≡ with_stores c (stores_of ss)

stores_more : (c : Column) (ss : List StoreAt) (s : StoreAt) → with_stores c (stores_of (ss ++ s ∷ [])) ≡ with_stores (Store c (term_of s.index.now) (term_of s.value.now)) (stores_of ss)
stores_more c ss s = ap (with_stores c) (map-append stored_of ss (s ∷ [])) ∙ innermost_store c (stores_of ss) (stored_of s)

-- the last of them is put around it
pub put_round : (whole c : Column) (i v : Term) (all ss : List StoreAt) (s : StoreAt) → all ≡ ss ++ s ∷ [] → i ≡ term_of s.index.now → v ≡ term_of s.value.now →
    StandsIn whole c all → StandsIn whole (Store c i v) ss
put_round whole c i v all ss s items ei ev h =
    h ∙ ap (λ l. with_stores c (stores_of l)) items ∙ stores_more c ss s ∙ sym (ap₂ (λ x y. with_stores (Store c x y) (stores_of ss)) ei ev)

-- the stores of these are still to be replaced and put round what is replaced already, and their terms pass
pub record ReplacedIn (p : Test) (r : Replacement) (whole c : Column) (ss : List StoreAt) : Type 0 where
  pub same : replace_column r whole ≡ with_stores c (map (replace_stored r) (stores_of ss))
  pub pass : Every (StorePasses p) (stores_of ss)

module _ (p : Test) (r : Replacement) (whole : Column) where
  pub replaced_none : (base c : Column) (ss : List StoreAt) → StandsIn whole base ss → (IsTrue (column_passes p base) → c ≡ replace_column r base) →
      IsTrue (column_passes p whole) → ReplacedIn p r whole c ss
  replaced_none base c ss h is passes =
      let parts = chain_passes p base (stores_of ss) (subst (λ d. IsTrue (column_passes p d)) h passes) in
      record {
        same = ap (replace_column r) h ∙ replace_chain r base (stores_of ss) ∙ ap (λ d. with_stores d (map (replace_stored r) (stores_of ss))) (sym (is parts.0));
        pass = parts.1;
      }

  pub replaced_round : (c : Column) (i v : Term) (all ss : List StoreAt) (s : StoreAt) → all ≡ ss ++ s ∷ [] →
      (IsTrue (term_passes p (term_of s.index.now)) → i ≡ replace_term r (term_of s.index.now)) →
      (IsTrue (term_passes p (term_of s.value.now)) → v ≡ replace_term r (term_of s.value.now)) →
      ReplacedIn p r whole c all → ReplacedIn p r whole (Store c i v) ss
  replaced_round c i v all ss s items is vs h =
      let seen : stores_of all ≡ stores_of ss ++ stored_of s ∷ [] = ap stores_of items ∙ map-append stored_of ss (s ∷ []) in
      let parts = every_but_last (StorePasses p) (stores_of ss) (stored_of s) (subst (Every (StorePasses p)) seen h.pass) in
      record {
        same = h.same ∙ ap (λ ws. with_stores c (map (replace_stored r) ws)) seen ∙
            ap (with_stores c) (map-append (replace_stored r) (stores_of ss) (stored_of s ∷ [])) ∙
            innermost_store c (map (replace_stored r) (stores_of ss)) (replace_stored r (stored_of s)) ∙
            sym (ap₂ (λ x y. with_stores (Store c x y) (map (replace_stored r) (stores_of ss))) (is parts.1.0) (vs parts.1.1));
        pass = parts.0;
      }

  pub all_replaced : (c : Column) (ss : List StoreAt) → ss ≡ [] → ReplacedIn p r whole c ss → c ≡ replace_column r whole
  all_replaced c ss none h = sym (h.same ∙ ap (λ l. with_stores c (map (replace_stored r) (stores_of l))) none)

-- the terms of one of the stores are inside, and so are those of the others
pub store_inside : (whole : ColExpr) (all ss : List StoreAt) (s : StoreAt) → all ≡ ss ++ s ∷ [] → AreInside whole all →
    (size-Term s.index.now < size-ColExpr whole) × (size-Term s.value.now < size-ColExpr whole)
store_inside whole all ss s items h =
    (every_but_last (λ x. (size-Term x.index.now < size-ColExpr whole) × (size-Term x.value.now < size-ColExpr whole)) ss s (subst (AreInside whole) items h)).1

pub rest_inside : (whole : ColExpr) (all ss : List StoreAt) (s : StoreAt) → all ≡ ss ++ s ∷ [] → AreInside whole all → AreInside whole ss
rest_inside whole all ss s items h =
    (every_but_last (λ x. (size-Term x.index.now < size-ColExpr whole) × (size-Term x.value.now < size-ColExpr whole)) ss s (subst (AreInside whole) items h)).0
