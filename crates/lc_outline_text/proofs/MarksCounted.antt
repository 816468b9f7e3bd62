-- A mark is passed in the ways that the text of its operation says: one for each branch, or the one of the choice that is named.
use Rattle.std.proofs.Common.{◌≡◌, ℕ, zero, suc, ◌<◌, true, false, List, [], ◌∷◌, map, length, Option, Some, None, refl, sym, ap, ap₂, ◌∙◌, subst, arith}
use Rattle.std.proofs.lemmas.Bool.{eqb-true}
use Rattle.std.proofs.lemmas.List.{length-map}
use Rattle.std.specs.Prelude.{codes, slice_get}
use Rattle.lc_lemmas.proofs.Lists.{mapped_get, element_within}
use Rattle.lc_lemmas.proofs.Booleans.{not_true}
use Rattle.lc_sexp.specs.Trees.{Trees, none, ◌▸◌}
use Rattle.lc_reading.proofs.Places.{place_below}
use Rattle.lc_reading.specs.Listed.{place_of}
use Rattle.lc_term.specs.Syntax.{Term}
use Rattle.lc_seq.specs.Branches.{op_branches}
use Rattle.lc_seq.specs.Sequential.{Chosen, InOrder, ByName}
use Rattle.lc_seq.specs.Specification.{Branch, Operation, chosen}
use Rattle.lc_object_text.specs.ObjectNames.{first_text, later}
use Rattle.lc_object_text.specs.Sections.{parts_in}
use Rattle.lc_rider.specs.Paths.{mark_updates}
use Rattle.lc_rider.specs.Rider.{Marking}
use Rattle.lc_rider_text.proofs.ChoicesKnown.{is_due, is_choice_at, is_choosing, IsInOrder}
use Rattle.lc_rider_text.specs.Counted.{GoesSo}
use Rattle.lc_rider_text.specs.Known.{Ways, has_choices}
use Rattle.lc_spec_text.proofs.Ways.{IsLeft}
use Rattle.lc_outline.specs.Development.{Development, first_system}
use Rattle.lc_outline.specs.Sizes as C
use Rattle.lc_outline_text.proofs.Agreed.{AllGo}
use Rattle.lc_outline_text.proofs.Going.{AreWaysOf, none_first, left_at, goes_so}
use Rattle.lc_outline_text.specs.Declarations.{Declarations, branches_in, choices_in, ways_in, known_of, parameter_count, or_nothing, form_at}
use Rattle.lc_outline_text.specs.Sizes.{mark_ways, choice_named, choice_ways}
use Rattle.lc_outline_text.proofs.BranchesCounted.{AreBranchesOf, AreWaysSaid, IsOperationOf}
use Rattle.lc_outline_text.proofs.RowsCounted.{Alike}
use Rattle.lc_outline_text.proofs.UpdatesCounted.{stored_by, marked_columns}

-- ---- an operation at its place

-- its text, which its branches are read from
record IsAt (all : List (List ℕ)) (fs : List Trees) (qs : List Operation) (k : ℕ) : Type 0 where
  form : Trees
  there : slice_get fs k ≡ Some form
  ways : AreWaysOf (branches_in form) (op_branches qs k)
  said : AreWaysSaid all (branches_in form) (op_branches qs k)

operation_at : (all : List (List ℕ)) (fs : List Trees) (qs : List Operation) (k : ℕ) → AllGo fs qs → Alike (IsOperationOf all) fs qs → k < length fs → IsAt all fs qs k
operation_at all [] qs k h g few = absurd (omega (arith, few))
operation_at all (f ∷ fs) [] k h g few = absurd h
operation_at all (f ∷ fs) (q ∷ qs) zero h g few = record { form = f; there = refl; ways = h.0; said = g.0 }
operation_at all (f ∷ fs) (q ∷ qs) (suc k) h g few =
    let r = operation_at all fs qs k h.1 g.1 (omega (arith, few)) in
    record { form = r.form; there = r.there; ways = r.ways; said = r.said }

-- ---- the branches in order

marked : (all : List (List ℕ)) (k : Marking) (ts : Trees) (bs : List Branch) → AreBranchesOf all ts bs → map (C.mark_way (length all) k) bs ≡ mark_ways (stored_by all k) (C.asked_of k) ts
marked all k none [] h = refl
marked all k none (b ∷ bs) h = absurd h
marked all k (t ▸ ts) [] h = absurd h
marked all k (t ▸ ts) (b ∷ bs) h = ap₂ (λ x xs. x ∷ xs) (ap way (marked_columns all k (parts_in (codes "branch") t) b h.0)) (marked all k ts bs h.1) where
  way : List ℕ → C.Way
  way cs = record { asked = C.asked_of k; columns = cs }

-- all are left if no choice is named
all_left : (w : Ways) (bs : List Branch) → GoesSo w bs → (by : Chosen Term) → IsInOrder (Some w) by → (has_choices w ≡ false) × (chosen by bs ≡ bs)
all_left w bs h InOrder (e, g) = let no = not_true (has_choices w) g in (no, h.in_order no)
all_left w bs h (ByName name terms) (e, g) = absurd (cc)

-- ---- the branch of a choice

-- a name has a place among the choices of this text, and the branch there is the one that it leaves
record IsTaken (name : List ℕ) (terms : List Term) (fs : List Trees) (bs : List Branch) : Type 0 where
  place : ℕ
  form : Trees
  named : place_of (map first_text fs) name ≡ Some place
  text : slice_get fs place ≡ Some form
  left : IsLeft bs (ByName name terms) place

taken : (name : List ℕ) (terms : List Term) (f : Trees) (bs : List Branch) → AreWaysOf (branches_in f) bs → is_choosing (Some (ways_in f)) (ByName name terms) ≡ true → IsTaken name terms (choices_in f) bs
taken name terms f bs h e = by_place (place_of (map first_text (choices_in f)) name) refl e where
  by_place : (o : Option ℕ) → place_of (map first_text (choices_in f)) name ≡ o → is_choice_at (ways_in f) (length terms) o ≡ true → IsTaken name terms (choices_in f) bs
  by_place None at e = absurd (cc)
  by_place (Some j) at e =
      let fs = choices_in f in
      let few : j < length fs = subst (λ n. j < n) (length-map fs first_text) (place_below (map first_text fs) name j at) in
      let (form, text) = element_within fs j few in
      let count = mapped_get parameter_count fs j form text in
      let due : length terms ≡ parameter_count form = eqb-true (length terms) (parameter_count form) (sym (ap (λ o. is_due o (length terms)) count) ∙ e) in
      record {
        place = j;
        form = form;
        named = at;
        text = text;
        left = left_at (branches_in f) bs h name terms j (parameter_count form) at count due;
      }

-- ---- marks

module _ (d : Declarations) (D : Development) (first : first_system D ≡ length d.declared.columns) (same : length d.declared.operations ≡ length d.operations)
    (go : AllGo d.operations D.specification.operations) (said : Alike (IsOperationOf d.declared.columns) d.operations D.specification.operations) where
  at : (o : ℕ) → o < length d.declared.operations → IsAt d.declared.columns d.operations D.specification.operations o
  at o few = operation_at d.declared.columns d.operations D.specification.operations o go said (omega (arith, few, same))

  pub in_order_said : (k : Marking) (o : ℕ) → o < length d.declared.operations → (by : Chosen Term) → IsInOrder (slice_get (known_of d).ways o) by
      → map (C.mark_way (first_system D) k) (chosen by (op_branches D.specification.operations o)) ≡ mark_ways (stored_by d.declared.columns k) (C.asked_of k) (branches_in (form_at d.operations (Some o)))
  in_order_said k o few by h =
      let x = at o few in
      let bs = op_branches D.specification.operations o in
      let known : slice_get (known_of d).ways o ≡ Some (ways_in x.form) = mapped_get ways_in d.operations o x.form x.there in
      let (unnamed, left) = all_left (ways_in x.form) bs (goes_so (branches_in x.form) bs x.ways) by (subst (λ w. IsInOrder w by) known h) in
      ap₂ (λ n xs. map (C.mark_way n k) xs) first left ∙ marked d.declared.columns k (branches_in x.form) bs (x.said.branches (none_first (branches_in x.form) bs x.ways unnamed))
      ∙ ap (λ f. mark_ways (stored_by d.declared.columns k) (C.asked_of k) (branches_in (or_nothing f))) (sym x.there)

  pub by_name_said : (k : Marking) (o : ℕ) → o < length d.declared.operations → (name : List ℕ) (terms : List Term) → is_choosing (slice_get (known_of d).ways o) (ByName name terms) ≡ true
      → map (C.mark_way (first_system D) k) (chosen (ByName name terms) (op_branches D.specification.operations o))
      ≡ choice_ways (stored_by d.declared.columns k) (C.asked_of k) (choice_named (form_at d.operations (Some o)) name)
  by_name_said k o few name terms h =
      let x = at o few in
      let known : slice_get (known_of d).ways o ≡ Some (ways_in x.form) = mapped_get ways_in d.operations o x.form x.there in
      let y = taken name terms x.form (op_branches D.specification.operations o) x.ways (subst (λ w. is_choosing w (ByName name terms) ≡ true) known h) in
      let b = y.left.branch in
      let stored : C.columns_of (mark_updates (length d.declared.columns) k b) ≡ stored_by d.declared.columns k (later (later y.form)) = marked_columns d.declared.columns k (later (later y.form)) b (x.said.choices y.place y.form b y.text y.left.there) in
      let text : choice_named (form_at d.operations (Some o)) name ≡ later (later y.form) =
      ap (λ f. choice_named (or_nothing f) name) x.there ∙ ap (λ p. later (later (form_at (choices_in x.form) p))) y.named ∙ ap (λ f. later (later (or_nothing f))) y.text in
      ap₂ (λ n xs. map (C.mark_way n k) xs) first y.left.alone ∙ ap one_way (stored ∙ ap (stored_by d.declared.columns k) (sym text)) where
        one_way : List ℕ → List C.Way
        one_way cs = record { asked = C.asked_of k; columns = cs } ∷ []
