-- What is stored by actions, branches and choices, at their places.
use Rattle.std.proofs.Common.{◌≡◌, ℕ, zero, suc, ◌+◌, ◌-◌, ◌<◌, ◌≤◌, Bool, true, false, List, [], ◌∷◌, ◌++◌, map, length, take, drop, get_or, Option, Some, None, refl, sym, ap, ◌∙◌, arith}
use Rattle.std.proofs.lemmas.List.{map-append}
use Rattle.std.proofs.lemmas.Option.{slice_get-map}
use Rattle.std.specs.Prelude.{codes, option_map, slice_get, slice_index_or, Vec}
use Rattle.std.specs.declared.alloc.Global.{Global}
use Rattle.lc_lemmas.proofs.Lists.{seen_at}
use Rattle.lc_base.specs.declared.ids.ColId.{ColId}
use Rattle.lc_sexp.specs.Trees.{Trees, none, ◌▸◌}
use Rattle.lc_object.specs.View.{columns_of}
use Rattle.lc_object_text.specs.ObjectNames.{first_text, later}
use Rattle.lc_object_text.specs.Sections.{parts_in}
use Rattle.lc_reading.specs.TableView.{listed}
use Rattle.lc_rider_text.specs.Known as K
use Rattle.lc_rider_text.specs.KnownView.{ways_view}
use Rattle.lc_rider_text.specs.declared.known.Ways.{Ways}
use Rattle.lc_outline_text.specs.Declarations.{branches_in, choices_in, ways_in, or_nothing, form_at}
use Rattle.lc_outline_text.specs.Paths.{stands, way_kept, ways_kept}
use Rattle.lc_outline.specs.Sizes.{Way, no_way}
use Rattle.lc_outline_text.specs.Sizes.{mark_ways, text_at}
use Rattle.lc_outline_text.specs.StoredView.{row_way, rows_kept, acted_kept, kept_at, marked_kept, marked_in, marked_at, both_kept, branch_parts, behind_parameters, by_branches, by_choices}
use Rattle.lc_outline_text.specs.Views.{columns_marked}

-- `asked` conditions are asked on each way
abbrev pub with_asked : ℕ → (ℕ → Bool) → ℕ × (ℕ → Bool)
with_asked asked kept = (asked, kept)

pub rows_ways : (asked : ℕ) (rows : List (Vec ColId Global)) → ways_kept (map (row_way asked) rows) ≡ map (with_asked asked) (rows_kept rows)
rows_ways asked [] = refl
rows_ways asked (row ∷ rows) = ap (λ l. (asked, stands (columns_of row.items)) ∷ l) (rows_ways asked rows)

pub branches_ways : (asked : ℕ) (is_note : Bool) (columns : List (List ℕ)) (bs : Trees) → ways_kept (mark_ways (columns_marked is_note columns) asked bs) ≡ map (with_asked asked) (map (marked_kept is_note columns) (branch_parts bs))
branches_ways asked is_note columns none = refl
branches_ways asked is_note columns (b ▸ bs) = ap (λ l. (asked, marked_kept is_note columns (parts_in (codes "branch") b)) ∷ l) (branches_ways asked is_note columns bs)

pub both_in : (is_note : Bool) (columns : List (List ℕ)) (forms : List Trees) → marked_in is_note (both_kept columns forms) ≡ map (marked_kept is_note columns) forms
both_in true columns forms = refl
both_in false columns forms = refl

-- ---- at places

-- what is kept of a form at a place is what is kept of the form there
index_form : {Y : Type 0} (f : Trees → Y) (d : Y) → d ≡ f none → (ts : List Trees) (k : ℕ) → slice_index_or (map f ts) k d ≡ f (form_at ts (Some k))
index_form f d e [] k = e
index_form f d e (t ∷ ts) zero = refl
index_form f d e (t ∷ ts) (suc k) = index_form f d e ts k

pub acted_at : (columns : List (List ℕ)) (actions : List Trees) (o : Option ℕ) → kept_at (map (acted_kept columns) actions) o ≡ acted_kept columns (form_at actions o)
acted_at columns actions None = refl
acted_at columns actions (Some k) = index_form (acted_kept columns) (stands []) refl actions k

pub branches_at : (is_note : Bool) (columns : List (List ℕ)) (operations : List Trees) (o : Option ℕ)
    → marked_at is_note (map (by_branches columns) operations) o ≡ map (marked_kept is_note columns) (branch_parts (branches_in (form_at operations o)))
branches_at is_note columns operations None = refl
branches_at is_note columns operations (Some k) =
    ap (marked_in is_note) (index_form (by_branches columns) ([], []) refl operations k) ∙ both_in is_note columns (branch_parts (branches_in (form_at operations (Some k))))

abbrev chosen_by : List (List ℕ) → Trees → List (ℕ → Bool) × List (ℕ → Bool)
chosen_by columns operation = by_choices columns (choices_in operation)

pub choices_at : (is_note : Bool) (columns : List (List ℕ)) (operations : List Trees) (o : Option ℕ)
    → marked_at is_note (map (λ operation. by_choices columns (choices_in operation)) operations) o ≡ map (marked_kept is_note columns) (map behind_parameters (choices_in (form_at operations o)))
choices_at is_note columns operations None = refl
choices_at is_note columns operations (Some k) =
    ap (marked_in is_note) (index_form (chosen_by columns) ([], []) refl operations k) ∙ both_in is_note columns (map behind_parameters (choices_in (form_at operations (Some k))))

-- what is kept of each list that is read off a form
pub chosen_each : (columns : List (List ℕ)) (operations : List Trees) → map (by_choices columns) (map choices_in operations) ≡ map (λ operation. by_choices columns (choices_in operation)) operations
chosen_each columns [] = refl
chosen_each columns (t ∷ ts) = ap (λ l. by_choices columns (choices_in t) ∷ l) (chosen_each columns ts)

-- ---- the choice of a name

names_in : (o : Option Trees) (ways : K.Ways) → option_map ways_in o ≡ Some ways → ways.choices ≡ map first_text (choices_in (or_nothing o))
names_in None ways e = absurd (cc)
names_in (Some f) ways e =
    let same : ways_in f ≡ ways = cc in
    sym (ap (λ (w : K.Ways). w.choices) same)

-- the names of an operation's choices are those in the ways in which it goes
pub names_there : (operations : List Trees) (ways : List Ways) (k : ℕ) (w : Ways) → map ways_view ways ≡ map ways_in operations → k < length ways → w ≡ get_or ways k w
    → listed w.choices ≡ map first_text (choices_in (form_at operations (Some k)))
names_there operations ways k w counted few at = names_in (slice_get operations k) (ways_view w) (sym (slice_get-map ways_in operations k) ∙ seen_at ways_view ways (map ways_in operations) k w counted few at)

-- the one row at a choice's place
one_row : (asked : ℕ) (g : Trees → ℕ → Bool) (rows : List (Vec ColId Global)) (choices : List Trees) (k : ℕ) → rows_kept rows ≡ map g (map behind_parameters choices) → k < length rows
    → ways_kept (map (row_way asked) (take 1 (drop k rows))) ≡ (asked, g (behind_parameters (form_at choices (Some k)))) ∷ []
one_row asked g [] choices k e below = absurd (omega (arith, below))
one_row asked g (row ∷ rows) [] k e below = absurd (cc)
one_row asked g (row ∷ rows) (t ∷ ts) zero e below =
    let same : stands (columns_of row.items) ≡ g (behind_parameters t) = cc in
    ap (λ kept. (asked, kept) ∷ []) same
one_row asked g (row ∷ rows) (t ∷ ts) (suc k) e below = one_row asked g rows ts k (cc) (omega (arith, below))

pub chosen_row : (asked : ℕ) (g : Trees → ℕ → Bool) (rows : List (Vec ColId Global)) (choices : List Trees) (k : ℕ) → rows_kept rows ≡ map g (map behind_parameters choices) → k < length rows
    → ways_kept (map (row_way asked) (take (k + 1 - k) (drop k rows))) ≡ (asked, g (behind_parameters (form_at choices (Some k)))) ∷ []
chosen_row asked g rows choices k e below =
    let one : k + 1 - k ≡ 1 = omega arith in
    ap (λ n. ways_kept (map (row_way asked) (take n (drop k rows)))) one ∙ one_row asked g rows choices k e below

-- there is no choice beyond the rows
pub no_choice : (g : Trees → ℕ → Bool) (rows : List (Vec ColId Global)) (choices : List Trees) (k : ℕ) → rows_kept rows ≡ map g (map behind_parameters choices) → length rows ≤ k → form_at choices (Some k) ≡ none
no_choice g rows [] k e past = refl
no_choice g [] (t ∷ ts) k e past = absurd (cc)
no_choice g (row ∷ rows) (t ∷ ts) zero e past = absurd (omega (arith, past))
no_choice g (row ∷ rows) (t ∷ ts) (suc k) e past = no_choice g rows ts k (cc) (omega (arith, past))

-- ---- a rider's condition

pub or_none : (ws vs : List Way) → ways_kept ws ≡ ways_kept vs → ways_kept (ws ++ no_way ∷ []) ≡ ways_kept (vs ++ no_way ∷ [])
or_none ws vs e = map-append way_kept ws (no_way ∷ []) ∙ ap (λ kept. kept ++ way_kept no_way ∷ []) e ∙ sym (map-append way_kept vs (no_way ∷ []))

-- ---- the text of an instruction

pub text_next : (n : ℕ) (ts : Trees) → text_at (suc n) ts ≡ text_at n (later ts)
text_next n none = nothing n where
  nothing : (n : ℕ) → text_at (suc n) none ≡ text_at n none
  nothing zero = refl
  nothing (suc n) = refl
text_next n (t ▸ ts) = refl
