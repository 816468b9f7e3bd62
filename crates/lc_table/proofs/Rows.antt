-- One node more in a table of nodes, whatever the nodes are.
use Rattle.std.proofs.Common.{true≢false, if◌then◌else◌, ◌≡◌, inl, inr, Bool, true, false, ℕ, zero, suc, ◌+◌, ◌<◌, List, [], ◌∷◌, ◌++◌, length, slice_get, Some, refl, sym, ap, ◌∙◌, subst, arith, length-append, append_assoc, append-nil}
use Rattle.std.proofs.lemmas.Option.{slice_get_within, same_Some}
use Rattle.std.proofs.lemmas.Map.Keys.{any_passes_from_place}
use Rattle.std.specs.List.{list_any}
use Rattle.indexmap.specs.IndexSet.{insert_key}
use Rattle.lc_lemmas.proofs.Lists.{kept_left, get_last, get_in_longer, element_within}
use Rattle.lc_table.specs.Rows.{grow, trees, Built, AreDistinct, IsTable, Extends}

pub distinct-push : {T : Type 0} (ts : List T) (x : T) → AreDistinct ts → ((j : ℕ) → slice_get ts j ≡ Some x → ⊥) → AreDistinct (ts ++ x ∷ [])
distinct-push ts x d fresh i j t at_i at_j =
    elim (get_in_longer ts x i t at_i) [
      | inl a ↦ elim (get_in_longer ts x j t at_j) [ inl b ↦ d i j t a b | inr b ↦ absurd (fresh i (a ∙ ap Some b.1)) ]
      | inr a ↦ elim (get_in_longer ts x j t at_j) [ inl b ↦ absurd (fresh j (b ∙ ap Some a.1)) | inr b ↦ a.0 ∙ sym b.0 ]
    ]

module _ {N T : Type 0} (build : List T → N → T) (Fits : List T → N → Type 0)
    (build-kept : (ts us : List T) (n : N) → Fits ts n → build (ts ++ us) n ≡ build ts n)
    (fits-kept : (ts us : List T) (n : N) → Fits ts n → Fits (ts ++ us) n) where
  -- one node more is one tree more
  pub grow-push : (ts : List T) (ns : List N) (n : N) → grow build ts (ns ++ n ∷ []) ≡ grow build ts ns ++ build (grow build ts ns) n ∷ []
  grow-push ts [] n = refl
  grow-push ts (m ∷ ns) n = grow-push (ts ++ build ts m ∷ []) ns n

  pub grow-extends : (ts : List T) (ns : List N) → Extends ts (grow build ts ns)
  grow-extends ts [] = ([], sym (append-nil ts))
  grow-extends ts (n ∷ ns) =
      let e = grow-extends (ts ++ build ts n ∷ []) ns in
      (build ts n ∷ e.0, e.1 ∙ append_assoc ts (build ts n ∷ []) e.0)

  pub length-grow : (ts : List T) (ns : List N) → length (grow build ts ns) ≡ length ts + length ns
  length-grow ts [] = omega arith
  length-grow ts (m ∷ ns) = omega (arith, length-grow (ts ++ build ts m ∷ []) ns, length-append ts (build ts m ∷ []))

  pub built-push : (ts : List T) (ns : List N) (n : N) → Built build Fits ts ns → Fits (grow build ts ns) n → Built build Fits ts (ns ++ n ∷ [])
  built-push ts [] n all here = (here, tt)
  built-push ts (m ∷ ns) n all here = (all.0, built-push (ts ++ build ts m ∷ []) ns n all.1 here)

  -- what node i stands for, seen from the end
  abbrev Stands : List T → ℕ → N → Type 0
  Stands us i n = (slice_get us i ≡ Some (build us n)) × Fits us n

  stands : (ts : List T) (ns : List N) (i : ℕ) (n : N) → Built build Fits ts ns → slice_get ns i ≡ Some n → Stands (grow build ts ns) (length ts + i) n
  stands ts [] i n all h = absurd (omega (arith, slice_get_within [] i n h))
  stands ts (m ∷ ns) zero n all h =
      let same : m ≡ n = same_Some m n h in
      let us = grow build ts (m ∷ ns) in
      let e = grow-extends ts (m ∷ ns) in
      let x = grow-extends (ts ++ build ts m ∷ []) ns in
      let here : slice_get us (length ts) ≡ Some (build ts m) = ap (λ l. slice_get l (length ts)) x.1 ∙ kept_left _ x.0 (length ts) _ (get_last ts (build ts m)) in
      let now : build us m ≡ build ts m = ap (λ l. build l m) e.1 ∙ build-kept ts e.0 m all.0 in
      let z : length ts + 0 ≡ length ts = omega arith in
      (ap (slice_get us) z ∙ here ∙ ap Some (sym now ∙ ap (build us) same), subst (Fits us) same (subst (λ l. Fits l m) (sym e.1) (fits-kept ts e.0 m all.0)))
  stands ts (m ∷ ns) (suc i) n all h =
      let r = stands (ts ++ build ts m ∷ []) ns i n all.1 h in
      let z : length (ts ++ build ts m ∷ []) + i ≡ length ts + suc i = omega (arith, length-append ts (build ts m ∷ [])) in
      (ap (slice_get _) (sym z) ∙ r.0, r.1)

  pub stands-at : (ns : List N) (i : ℕ) (n : N) → Built build Fits [] ns → slice_get ns i ≡ Some n → Stands (trees build ns) i n
  stands-at ns i n all h = let z : 0 + i ≡ i = omega arith in let s = stands [] ns i n all h in (ap (slice_get (trees build ns)) (sym z) ∙ s.0, s.1)

  -- the trees that stood before node i
  pub before : (ts : List T) (ns : List N) (i : ℕ) (n : N) → Built build Fits ts ns → slice_get ns i ≡ Some n → (us : List T) × (length us ≡ length ts + i) × Fits us n
  before ts [] i n all h = absurd (omega (arith, slice_get_within [] i n h))
  before ts (m ∷ ns) zero n all h = (ts, omega arith, subst (Fits ts) (same_Some m n h) all.0)
  before ts (m ∷ ns) (suc i) n all h =
      let r = before (ts ++ build ts m ∷ []) ns i n all.1 h in
      (r.0, let e = r.1 in omega (arith, length-append ts (build ts m ∷ [])), r.2)

  pub length-trees : (ns : List N) → length (trees build ns) ≡ length ns
  length-trees ns = length-grow [] ns ∙ omega arith

  module _ (eq : N → N → Bool)
      (eq-build : (ts : List T) (m n : N) → eq m n ≡ true → build ts m ≡ build ts n)
      (eq-from : (ts : List T) (m n : N) → AreDistinct ts → Fits ts m → Fits ts n → build ts m ≡ build ts n → eq m n ≡ true) where
    -- what an insert leaves
    pub record Entered (ns ms : List N) (n : N) (k : ℕ) : Type 0 where
      pub table : IsTable build Fits ms
      pub here : slice_get (trees build ms) k ≡ Some (build (trees build ns) n)
      pub kept : Extends (trees build ns) (trees build ms)

    entered_at : (ns ms : List N) (n m : N) (k : ℕ) → Fits (trees build ns) n → IsTable build Fits ms → Extends (trees build ns) (trees build ms)
        → slice_get ms k ≡ Some m → eq n m ≡ true → Entered ns ms n k
    entered_at ns ms n m k fits table kept at is =
        let now : build (trees build ms) n ≡ build (trees build ns) n = ap (λ l. build l n) kept.1 ∙ build-kept (trees build ns) kept.0 n fits in
        record {
          table = table;
          here = (stands-at ms k m table.built at).0 ∙ ap Some (sym (eq-build (trees build ms) n m is) ∙ now);
          kept = kept;
        }

    -- a node that is not among those of a table has a tree that is not among theirs
    fresh : (ns : List N) (n : N) → IsTable build Fits ns → Fits (trees build ns) n → list_any (eq n) ns ≡ false
        → (j : ℕ) → slice_get (trees build ns) j ≡ Some (build (trees build ns) n) → ⊥
    fresh ns n ok fits none j h =
        let lt : j < length ns = omega (arith, slice_get_within (trees build ns) j _ h, length-trees ns) in
        let at = element_within ns j lt in
        let s = stands-at ns j at.0 ok.built at.1 in
        let same = same_Some _ _ (sym h ∙ s.0) in
        let is = eq-from (trees build ns) n at.0 ok.distinct fits s.1 same in
        absurd (true≢false (sym (any_passes_from_place (eq n) ns j at.0 at.1 is) ∙ none))

    pub entered : (ns ms : List N) (n m : N) (k : ℕ) → IsTable build Fits ns → Fits (trees build ns) n → ms ≡ insert_key eq ns n
        → slice_get ms k ≡ Some m → eq n m ≡ true → Entered ns ms n k
    entered ns ms n m k ok fits keys at is = by (list_any (eq n) ns) refl
      where
        by : (b : Bool) → list_any (eq n) ns ≡ b → Entered ns ms n k
        by true e =
            let old : ms ≡ ns = keys ∙ ap (λ b. if b then ns else ns ++ n ∷ []) e in
            entered_at ns ms n m k fits (subst (IsTable build Fits) (sym old) ok) ([], ap (trees build) old ∙ sym (append-nil (trees build ns))) at is
        by false e =
            let new : ms ≡ ns ++ n ∷ [] = keys ∙ ap (λ b. if b then ns else ns ++ n ∷ []) e in
            let pushed = grow-push [] ns n in
            let table : IsTable build Fits (ns ++ n ∷ []) = record {
              built = built-push [] ns n ok.built fits;
              distinct = subst AreDistinct (sym pushed) (distinct-push (trees build ns) (build (trees build ns) n) ok.distinct (fresh ns n ok fits e));
            } in
            entered_at ns ms n m k fits (subst (IsTable build Fits) (sym new) table) (build (trees build ns) n ∷ [], ap (trees build) new ∙ pushed) at is
