-- Cells that are written, no two of them the same.
use Rattle.std.proofs.Common.{◌≡◌, ℕ, ◌+◌, ◌<◌, List, [], ◌∷◌, ◌++◌, ℤ, length, get_or, refl, sym, ap, ◌∙◌, inl, inr, below_more, length-append}
use Rattle.std.specs.Prelude.{pos, Result, Ok, Err, IfOk}
use Rattle.std.proofs.Math.IntN.{zero-*ℤ}
use Rattle.std.proofs.lemmas.Bool.Decides.{eqb_tells}
use Rattle.std.proofs.lemmas.List.{get_or-map, get_or_append_left, get_or_at}
use Rattle.lc_term.specs.Lists.{Every}
use Rattle.lc_term.specs.Meaning.{State, affine}
use Rattle.lc_term.specs.State.{initial_state, state_of, with_cell}
use Rattle.lc_term.specs.Updates.{Write, stored_all, AreWithin}
use Rattle.lc_term.specs.declared.state.State as St
use Rattle.lc_term.proofs.Stores.{Every-append, cell_away, cell_other, cell_same, stored_here}
use Rattle.lc_proof_state.specs.Situation.{AreApart, AreCells, AreNumbers, IsBlank, IsElsewhere, IsOf, IsThere, content_of, numbers_of}
use Rattle.lc_proof_state.specs.declared.situation.Content.{Content}
use Rattle.lc_proof_state.specs.declared.situation.Content.TheVariants.{Zero, Spread}

-- ---- one more

within-more : (count : ℕ) (ws : List Write) (w : Write) → AreWithin count ws → w.column < count → AreWithin count (ws ++ w ∷ [])
within-more count [] w h below = (below, tt)
within-more count (v ∷ vs) w h below = (h.0, within-more count vs w h.1 below)

apart-more : (ws : List Write) (w : Write) → AreApart ws → Every (IsElsewhere w.column w.index) ws → AreApart (ws ++ w ∷ [])
apart-more [] w apart away = (tt, tt)
apart-more (v ∷ vs) w apart away = (
  Every-append (IsElsewhere v.column v.index) vs (w ∷ []) apart.0 ((λ p q. away.0 (sym p) (sym q)), tt),
  apart-more vs w apart.1 away.1,
)

pub cells-more : (count : ℕ) (ws : List Write) (w : Write) → AreCells count ws → w.column < count → Every (IsElsewhere w.column w.index) ws → AreCells count (ws ++ w ∷ [])
cells-more count ws w cells below away = record { within = within-more count ws w cells.within below; apart = apart-more ws w cells.apart away }

-- ---- what is written

cell_elsewhere : (s : State) (c d : ℕ) (i j v : ℤ) → (c ≡ d → i ≡ j → ⊥) → with_cell s c i v d j ≡ s d j
cell_elsewhere s c d i j v h =
    elim (eqb_tells c d) [ inl e ↦ cell_away s c d i j v (λ p. h e.1 p) | inr e ↦ ap (λ (f : ℤ → ℤ). f j) (cell_other s c d i v e.1) ]

elsewhere : (s : State) (ws : List Write) (c : ℕ) (i : ℤ) → Every (IsElsewhere c i) ws → stored_all s ws c i ≡ s c i
elsewhere s [] c i h = refl
elsewhere s (w ∷ ws) c i h = elsewhere (with_cell s w.column w.index w.value) ws c i h.1 ∙ cell_elsewhere s w.column c w.index i w.value h.0

there : (s : State) (ws : List Write) → AreApart ws → Every (IsThere (stored_all s ws)) ws
there s [] apart = tt
there s (w ∷ ws) apart =
    let next = with_cell s w.column w.index w.value in (
      elsewhere next ws w.column w.index apart.0 ∙ ap (λ (f : ℤ → ℤ). f w.index) (cell_same s w.column w.index w.value) ∙ stored_here (s w.column) w.index w.value,
      there next ws apart.1,
    )

-- the cells that are written when there was this content in each
pub written-is : (content : Content) (n : ℕ) (first s : State) (ws : List Write) → IsBlank content n first → AreApart ws → s ≡ stored_all first ws → IsOf content n s ws
written-is content n first s ws blank apart is = record {
  shown = rw is (there first ws apart);
  others = λ c i below h. ap (λ (t : State). t c i) is ∙ elsewhere first ws c i h ∙ blank c i below;
}

-- ---- the state in which nothing is written

cell-is : (content : Content) (c : ℕ) (i : ℤ) → affine (numbers_of content c).0 (numbers_of content c).1 i ≡ content_of content c i
cell-is Zero c i = rw zero-*ℤ
cell-is Spread c i = refl

-- the cells of columns with these numbers
blank-is : (content : Content) (n : ℕ) (numbers : List (ℤ × ℤ)) → AreNumbers content n numbers → IsBlank content n (initial_state numbers)
blank-is content n numbers are c i below =
    let there : c < length numbers = rw are.count below in
    ap (λ (f : ℤ → ℤ). f i) (get_or-map (λ (p : ℤ × ℤ). affine p.0 p.1) numbers c (pos 0, pos 0) (λ (j : ℤ). pos 0) there) ∙
    ap (λ (p : ℤ × ℤ). affine p.0 p.1 i) (are.each c below) ∙
    cell-is content c i

-- one column more
pub numbers-more : (content : Content) (n : ℕ) (before after : List (ℤ × ℤ)) (more : ℤ × ℤ) → AreNumbers content n before → more ≡ numbers_of content n →
    after ≡ before ++ more ∷ [] → AreNumbers content (n + 1) after
numbers-more content n before after more are is e = record {
  count = ap length e ∙ length-append before (more ∷ []) ∙ ap (λ (k : ℕ). k + 1) are.count;
  each = λ c below. rw e (each-more c below);
}
  where
    each-more : (c : ℕ) → c < n + 1 → get_or (before ++ more ∷ []) c (pos 0, pos 0) ≡ numbers_of content c
    each-more = below_more (λ (c : ℕ). get_or (before ++ more ∷ []) c (pos 0, pos 0) ≡ numbers_of content c) n
        (λ c h. get_or_append_left before (more ∷ []) (pos 0, pos 0) c (rw are.count h) ∙ are.each c h)
        (get_or_at before more [] (pos 0, pos 0) n are.count ∙ is)

-- a state of columns with these numbers
pub all-blank : {E : Type 0} (content : Content) (n : ℕ) (given numbers : List (ℤ × ℤ)) (r : Result St.State E) → numbers ≡ given → AreNumbers content n given →
    IfOk r (λ s. state_of s ≡ initial_state numbers) → IfOk r (λ s. IsBlank content n (state_of s))
all-blank content n given numbers (Ok s) e are is = λ c i below. ap (λ (t : State). t c i) (is ∙ ap initial_state e) ∙ blank-is content n given are c i below
all-blank content n given numbers (Err f) e are is = tt
