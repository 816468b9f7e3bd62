-- Each instruction does as it is defined.
use Rattle.std.proofs.Common.{◌≡◌, ℕ, ℤ, ◌≤◌, Bool, true, false, List, [], length, Some, Ok, refl, sym, ap, ap₂, ◌∙◌, subst, inl, inr, arith}
use Rattle.std.proofs.lemmas.List.{length-map}
use Rattle.std.specs.Ordering.{int_eq}
use Rattle.std.specs.Cmp.Lexicographic.{pointwise}
use Rattle.std.specs.Cmp.Rules.{signed_items}
use Rattle.lc_term.specs.Syntax.{Term}
use Rattle.lc_term.specs.Meaning.{State}
use Rattle.lc_term.specs.Reached.{TermFits, TermsFit}
use Rattle.lc_term.specs.Updates.{Write, cell_writes, stored_all, AreWithin}
use Rattle.lc_object.specs.Syntax.{Instr, Load, Store, Cas, Set, Faa, Return, Object}
use Rattle.lc_object.specs.declared.instr.EdgeKind.{EdgeKind}
use Rattle.lc_object.specs.declared.instr.EdgeKind.TheVariants.{Next, Then, Else}
use Rattle.lc_machine.specs.World.{variable, initial_numbers}
use Rattle.lc_machine.specs.Step.{number, numbers, row, with_row, sums, assigned, Does, Outcome, Goes, Answers}
use Rattle.lc_object.specs.Edges.{array_columns}
use Rattle.lc_machine.specs.Fits.{RowFits, ComparisonFits, NumbersFit, InstructionFits}
use Rattle.lc_machine.specs.Effects.{writes_in, HasParts, IsEffect, IsReached}
use Rattle.lc_machine.specs.MayRun.{variables_at}
use Rattle.lc_machine.specs.Below.{AreBelow}
use Rattle.lc_machine.specs.declared.effects.Effect.{Effect}
use Rattle.lc_machine.proofs.Lengths.{assigned_length}
use Rattle.lc_machine.proofs.RowWrites.{row_within, row_stored}

-- an effect of these parts is that of an instruction that does so
pub effect_is : (object : Object) (i : Instr) (s : State) (vs : List ℤ) (edge : EdgeKind) (ws : List Write) (outcome : Outcome) (e : Effect) → HasParts edge ws outcome e →
    InstructionFits object s vs i → Does object s vs i edge (stored_all s ws) outcome → IsReached object outcome → AreWithin (length (initial_numbers object)) ws → IsEffect object i s vs (Ok e)
effect_is object i s vs edge ws outcome e parts fits does reached within = (
  fits,
  subst (λ o. Does object s vs i e.edge (stored_all s (writes_in e)) o) (sym parts.2)
      (subst (λ us. Does object s vs i e.edge (stored_all s us) outcome) (sym parts.1) (subst (λ k. Does object s vs i k (stored_all s ws) outcome) (sym parts.0) does)),
  subst (IsReached object) (sym parts.2) reached,
  subst (AreWithin (length (initial_numbers object))) (sym parts.1) within,
)

-- what is read fits
pub load_fits : (object : Object) (s : State) (vs : List ℤ) (a : ℕ) (t : Term) (rs : List ℕ) (l : ℕ) (i : ℤ) (cs : List ℕ) →
    TermFits s (variable vs) t → i ≡ number s vs t → cs ≡ array_columns object a → RowFits s cs i → InstructionFits object s vs (Load a t rs l)
load_fits object s vs a t rs l i cs fits index columns row_fits = (fits, subst (λ x. x) (ap₂ (RowFits s) columns index) row_fits)

pub effect_of_load : (object : Object) (s : State) (vs : List ℤ) (a : ℕ) (t : Term) (rs : List ℕ) (l : ℕ) (i : ℤ) (cs : List ℕ) (ns : List ℤ) (e : Effect) →
    TermFits s (variable vs) t → i ≡ number s vs t → cs ≡ array_columns object a → RowFits s cs i → ns ≡ row s cs i → variables_at object l ≡ Some (length vs) →
    HasParts Next [] (Goes l (assigned vs rs ns)) e → IsEffect object (Load a t rs l) s vs (Ok e)
effect_of_load object s vs a t rs l i cs ns e fits index columns row_fits read label parts =
    let cells : ns ≡ row s (array_columns object a) (number s vs t) = read ∙ ap₂ (row s) columns index in
    effect_is object (Load a t rs l) s vs Next [] (Goes l (assigned vs rs ns)) e parts (load_fits object s vs a t rs l i cs fits index columns row_fits)
    (refl, refl, ap (λ ms. Goes l (assigned vs rs ms)) cells) (label ∙ ap Some (sym (assigned_length vs rs ns))) tt

pub effect_of_store : (object : Object) (s : State) (vs : List ℤ) (a : ℕ) (t : Term) (us : List Term) (l : ℕ) (i : ℤ) (cs : List ℕ) (ns : List ℤ) (ws : List Write) (e : Effect) →
    TermFits s (variable vs) t → i ≡ number s vs t → TermsFit s (variable vs) us → ns ≡ numbers s vs us → cs ≡ array_columns object a →
    AreBelow (length (initial_numbers object)) cs → ws ≡ cell_writes cs i ns → variables_at object l ≡ Some (length vs) →
    HasParts Next ws (Goes l vs) e → IsEffect object (Store a t us l) s vs (Ok e)
effect_of_store object s vs a t us l i cs ns ws e fits index us_fit values columns there writes label parts =
    effect_is object (Store a t us l) s vs Next ws (Goes l vs) e parts (fits, us_fit)
    (refl, ap (stored_all s) writes ∙ row_stored s cs i ns ∙ (λ p. with_row s (columns p) (index p) (values p)), refl) label
    (subst (AreWithin (length (initial_numbers object))) (sym writes) (row_within (length (initial_numbers object)) cs i ns there))

pub effect_of_set : (object : Object) (s : State) (vs : List ℤ) (rs : List ℕ) (us : List Term) (l : ℕ) (ns : List ℤ) (e : Effect) →
    TermsFit s (variable vs) us → ns ≡ numbers s vs us → variables_at object l ≡ Some (length vs) → HasParts Next [] (Goes l (assigned vs rs ns)) e → IsEffect object (Set rs us l) s vs (Ok e)
effect_of_set object s vs rs us l ns e fits values label parts =
    effect_is object (Set rs us l) s vs Next [] (Goes l (assigned vs rs ns)) e parts fits
    (refl, refl, ap (λ ms. Goes l (assigned vs rs ms)) values) (label ∙ ap Some (sym (assigned_length vs rs ns))) tt

-- what is read, and what is added to it
pub adds_fits : (object : Object) (s : State) (vs : List ℤ) (a : ℕ) (t : Term) (rs : List ℕ) (ds : List Term) (l : ℕ) (i : ℤ) (cs : List ℕ) (ns ms : List ℤ) →
    TermFits s (variable vs) t → i ≡ number s vs t → TermsFit s (variable vs) ds → ms ≡ numbers s vs ds → cs ≡ array_columns object a →
    RowFits s cs i → ns ≡ row s cs i → NumbersFit (sums ns ms) → InstructionFits object s vs (Faa a t rs ds l)
adds_fits object s vs a t rs ds l i cs ns ms fits index ds_fit added columns row_fits read sums_fit = (
  fits,
  ds_fit,
  subst (λ x. x) (ap₂ (RowFits s) columns index) row_fits,
  subst NumbersFit (ap₂ sums (read ∙ ap₂ (row s) columns index) added) sums_fit,
)

pub effect_of_faa : (object : Object) (s : State) (vs : List ℤ) (a : ℕ) (t : Term) (rs : List ℕ) (ds : List Term) (l : ℕ) (i : ℤ) (cs : List ℕ) (ns ms ks : List ℤ) (ws : List Write) (e : Effect) →
    TermFits s (variable vs) t → i ≡ number s vs t → TermsFit s (variable vs) ds → ms ≡ numbers s vs ds → cs ≡ array_columns object a →
    RowFits s cs i → ns ≡ row s cs i → NumbersFit (sums ns ms) → ks ≡ sums ns ms →
    AreBelow (length (initial_numbers object)) cs → ws ≡ cell_writes cs i ks → variables_at object l ≡ Some (length vs) →
    HasParts Next ws (Goes l (assigned vs rs ns)) e → IsEffect object (Faa a t rs ds l) s vs (Ok e)
effect_of_faa object s vs a t rs ds l i cs ns ms ks ws e fits index ds_fit added columns row_fits read sums_fit total there writes label parts =
    let cells : ns ≡ row s (array_columns object a) (number s vs t) = read ∙ ap₂ (row s) columns index in
    let new : ks ≡ sums (row s (array_columns object a) (number s vs t)) (numbers s vs ds) = total ∙ ap₂ sums cells added in
    effect_is object (Faa a t rs ds l) s vs Next ws (Goes l (assigned vs rs ns)) e parts
    (adds_fits object s vs a t rs ds l i cs ns ms fits index ds_fit added columns row_fits read sums_fit)
    (refl, ap (stored_all s) writes ∙ row_stored s cs i ks ∙ (λ p. with_row s (columns p) (index p) (new p)), ap (λ xs. Goes l (assigned vs rs xs)) cells)
    (label ∙ ap Some (sym (assigned_length vs rs ns)))
    (subst (AreWithin (length (initial_numbers object))) (sym writes) (row_within (length (initial_numbers object)) cs i ks there))

pub effect_of_return : (object : Object) (s : State) (vs : List ℤ) (us : List Term) (ns : List ℤ) (e : Effect) →
    TermsFit s (variable vs) us → ns ≡ numbers s vs us → length us ≤ 3 → HasParts Next [] (Answers ns) e → IsEffect object (Return us) s vs (Ok e)
effect_of_return object s vs us ns e fits values few parts =
    let count : length ns ≡ length us = ap length values ∙ length-map us (number s vs) in
    effect_is object (Return us) s vs Next [] (Answers ns) e parts fits (refl, refl, ap Answers values) (omega (arith, count, few)) tt

-- what is compared is the row
pub row_compared : (object : Object) (s : State) (vs : List ℤ) (a : ℕ) (t : Term) (old : List Term) (i : ℤ) (cs : List ℕ) (ns : List ℤ) (b : Bool) →
    i ≡ number s vs t → cs ≡ array_columns object a → ns ≡ numbers s vs old → pointwise int_eq (row s cs i) ns ≡ b →
    pointwise int_eq (row s (array_columns object a) (number s vs t)) (numbers s vs old) ≡ b
row_compared object s vs a t old i cs ns b index columns olds e = sym (ap₂ (pointwise int_eq) (ap₂ (row s) columns index) olds) ∙ e

comparison : (object : Object) (s : State) (vs : List ℤ) (a : ℕ) (t : Term) (old : List Term) (i : ℤ) (cs : List ℕ) (ns : List ℤ) →
    i ≡ number s vs t → cs ≡ array_columns object a → ns ≡ numbers s vs old → ComparisonFits s cs i ns →
    ComparisonFits s (array_columns object a) (number s vs t) (numbers s vs old)
comparison object s vs a t old i cs ns index columns olds h = rw (← index, ← columns, ← olds) h

-- a row that differs
not_same : (object : Object) (s : State) (vs : List ℤ) (a : ℕ) (t : Term) (old : List Term) (i : ℤ) (cs : List ℕ) (ns : List ℤ) →
    i ≡ number s vs t → cs ≡ array_columns object a → ns ≡ numbers s vs old → pointwise int_eq (row s cs i) ns ≡ false →
    row s (array_columns object a) (number s vs t) ≡ numbers s vs old → ⊥
not_same object s vs a t old i cs ns index columns olds differs e =
    cc ((signed_items (row s (array_columns object a) (number s vs t)) (numbers s vs old)).1 e, row_compared object s vs a t old i cs ns false index columns olds differs)

pub keep_fits : (object : Object) (s : State) (vs : List ℤ) (a : ℕ) (t : Term) (old new : List Term) (l m : ℕ) (i : ℤ) (cs : List ℕ) (ns : List ℤ) →
    TermFits s (variable vs) t → i ≡ number s vs t → TermsFit s (variable vs) old → ns ≡ numbers s vs old → cs ≡ array_columns object a →
    ComparisonFits s cs i ns → pointwise int_eq (row s cs i) ns ≡ false → InstructionFits object s vs (Cas a t old new l m)
keep_fits object s vs a t old new l m i cs ns fits index old_fits olds columns compares differs =
    (fits, old_fits, comparison object s vs a t old i cs ns index columns olds compares, λ e. absurd (not_same object s vs a t old i cs ns index columns olds differs e))

pub effect_of_kept_cas : (object : Object) (s : State) (vs : List ℤ) (a : ℕ) (t : Term) (old new : List Term) (l m : ℕ) (i : ℤ) (cs : List ℕ) (ns : List ℤ) (e : Effect) →
    TermFits s (variable vs) t → i ≡ number s vs t → TermsFit s (variable vs) old → ns ≡ numbers s vs old → cs ≡ array_columns object a →
    ComparisonFits s cs i ns → pointwise int_eq (row s cs i) ns ≡ false → variables_at object m ≡ Some (length vs) →
    HasParts Else [] (Goes m vs) e → IsEffect object (Cas a t old new l m) s vs (Ok e)
effect_of_kept_cas object s vs a t old new l m i cs ns e fits index old_fits olds columns compares differs label parts =
    effect_is object (Cas a t old new l m) s vs Else [] (Goes m vs) e parts (keep_fits object s vs a t old new l m i cs ns fits index old_fits olds columns compares differs)
    (inr (not_same object s vs a t old i cs ns index columns olds differs, refl, refl, refl)) label tt

same_row : (object : Object) (s : State) (vs : List ℤ) (a : ℕ) (t : Term) (old : List Term) (i : ℤ) (cs : List ℕ) (ns : List ℤ) →
    i ≡ number s vs t → cs ≡ array_columns object a → ns ≡ numbers s vs old → pointwise int_eq (row s cs i) ns ≡ true →
    row s (array_columns object a) (number s vs t) ≡ numbers s vs old
same_row object s vs a t old i cs ns index columns olds e =
    (signed_items (row s (array_columns object a) (number s vs t)) (numbers s vs old)).0 (row_compared object s vs a t old i cs ns true index columns olds e)

-- a row that is the old one
pub swap_fits : (object : Object) (s : State) (vs : List ℤ) (a : ℕ) (t : Term) (old new : List Term) (l m : ℕ) (i : ℤ) (cs : List ℕ) (ns : List ℤ) →
    TermFits s (variable vs) t → i ≡ number s vs t → TermsFit s (variable vs) old → ns ≡ numbers s vs old → cs ≡ array_columns object a →
    ComparisonFits s cs i ns → TermsFit s (variable vs) new → InstructionFits object s vs (Cas a t old new l m)
swap_fits object s vs a t old new l m i cs ns fits index old_fits olds columns compares new_fits =
    (fits, old_fits, comparison object s vs a t old i cs ns index columns olds compares, λ e. new_fits)

pub effect_of_swapped_cas : (object : Object) (s : State) (vs : List ℤ) (a : ℕ) (t : Term) (old new : List Term) (l m : ℕ) (i : ℤ) (cs : List ℕ) (ns ms : List ℤ) (ws : List Write) (e : Effect) →
    TermFits s (variable vs) t → i ≡ number s vs t → TermsFit s (variable vs) old → ns ≡ numbers s vs old → cs ≡ array_columns object a →
    ComparisonFits s cs i ns → pointwise int_eq (row s cs i) ns ≡ true → TermsFit s (variable vs) new → ms ≡ numbers s vs new →
    AreBelow (length (initial_numbers object)) cs → ws ≡ cell_writes cs i ms → variables_at object l ≡ Some (length vs) →
    HasParts Then ws (Goes l vs) e → IsEffect object (Cas a t old new l m) s vs (Ok e)
effect_of_swapped_cas object s vs a t old new l m i cs ns ms ws e fits index old_fits olds columns compares same new_fits news there writes label parts =
    effect_is object (Cas a t old new l m) s vs Then ws (Goes l vs) e parts (swap_fits object s vs a t old new l m i cs ns fits index old_fits olds columns compares new_fits)
    (inl (
      same_row object s vs a t old i cs ns index columns olds same,
      refl,
      ap (stored_all s) writes ∙ row_stored s cs i ms ∙ (λ p. with_row s (columns p) (index p) (news p)),
      refl,
    )) label
    (subst (AreWithin (length (initial_numbers object))) (sym writes) (row_within (length (initial_numbers object)) cs i ms there))

-- a number of the new row that does not fit
pub not_swapped : (object : Object) (s : State) (vs : List ℤ) (a : ℕ) (t : Term) (old new : List Term) (l m : ℕ) (i : ℤ) (cs : List ℕ) (ns : List ℤ) →
    i ≡ number s vs t → ns ≡ numbers s vs old → cs ≡ array_columns object a → pointwise int_eq (row s cs i) ns ≡ true →
    (TermsFit s (variable vs) new → ⊥) → InstructionFits object s vs (Cas a t old new l m) → ⊥
not_swapped object s vs a t old new l m i cs ns index olds columns same wrong fits =
    wrong (fits.3 (same_row object s vs a t old i cs ns index columns olds same))
