-- The paths of riders are as many as their texts say.
use Rattle.std.proofs.Common.{◌≡◌, ℕ, ◌+◌, ◌*◌, Bool, true, false, cond, List, [], Option, Some, None, refl, sym, ap, ap₂, ◌∙◌, subst}
use Rattle.std.specs.Prelude.{codes, slice_get}
use Rattle.lc_sexp.specs.Trees.{Tree, Trees, atom, list, none, ◌▸◌, item_count}
use Rattle.lc_reading.proofs.Holding.{Holds, holds_of_fine, holds_unit, mapped_holds, both_holds, ended_holds, limited_holds}
use Rattle.lc_reading.specs.Readings.{mapped}
use Rattle.lc_reading.specs.Words.{is}
use Rattle.lc_outline.proofs.PathTotal.{paths_total}
use Rattle.lc_outline.specs.Limits as D
use Rattle.lc_outline.specs.Limits.{path_total}
use Rattle.lc_rider.specs.Rider.{Deed, Assign, Marks, Own, Note}
use Rattle.lc_seq.specs.Branches.{op_branches}
use Rattle.lc_seq.specs.Specification.{Operation}
use Rattle.lc_term.specs.Syntax.{Term, Formula}
use Rattle.lc_text.specs.Formulas.{formula_reading}
use Rattle.lc_text.specs.Names.{Names}
use Rattle.lc_text.specs.Terms.{pair}
use Rattle.lc_object_text.specs.Rows.{cons, placed_reading}
use Rattle.lc_rider_text.proofs.ChoicesKnown.{IsInOrder, IsByName, in_order_known, by_known, in_order_counted, by_name_counted}
use Rattle.lc_rider_text.proofs.RidersKnown.{IsOther, other_known}
use Rattle.lc_rider_text.specs.Counted.{Goes, AreBranches, PathsAreCounted}
use Rattle.lc_rider_text.specs.Heads.{head_of}
use Rattle.lc_rider_text.specs.Known.{Known, Ways}
use Rattle.lc_rider_text.specs.Paths.{mark_ways, other_ways, ways_with, deed_ways, when_ways, rider_ways, path_count}
use Rattle.lc_rider_text.specs.Riders.{ways_named, mark_of_other, lin_other_reading, lin_other_by_reading, headed_reading, deed_with, deed_reading, when_reading, always, where_holds, rider_reading, ith_rider_reading, riders_reading}
use Rattle.lc_rider_text.specs.Scopes.{quiet}
use Rattle.lc_rider_text.specs.Updates.{update_reading}
use Rattle.lc_rider_text.specs.declared.update.Stores.TheVariants.{InAuxiliary}
use Rattle.lc_rider_text.specs.declared.words.Head.{Head}
use Rattle.lc_rider_text.specs.declared.words.Head.TheVariants as H

-- ---- by their texts

-- what is read is done in as many ways as its text says
abbrev IsCounted : List Operation → ℕ → ℕ → Deed → Type 0
IsCounted operations o ways x = D.deed_ways operations o x ≡ ways

-- how the operation that is named goes
named_goes : (d : Known) (operations : List Operation) → AreBranches d operations → (u : Tree) (p : Term × ℕ) → IsOther d u p → Goes (ways_named d u) (op_branches operations p.1)
named_goes d operations agree u p h = subst (λ ways. Goes ways (op_branches operations p.1)) (sym h.1) (agree p.1 h.0)

other_counted : (d : Known) (t u : Tree) (ts : Trees) → other_ways d (t ▸ u ▸ ts) ≡ mark_ways (ways_named d u)
other_counted d t (atom w) ts = refl
other_counted d t (list us) ts = refl

lin_other_counted : (d : Known) (operations : List Operation) → AreBranches d operations → (o : ℕ) (names : Names) (n m : ℕ) (ts : Trees)
    → Holds (IsCounted operations o (other_ways d ts)) (lin_other_reading d names n m ts)
lin_other_counted d operations agree o names n m none = tt
lin_other_counted d operations agree o names n m (t ▸ none) = tt
lin_other_counted d operations agree o names n m (t ▸ u ▸ ts) =
    ended_holds (IsCounted operations o (other_ways d (t ▸ u ▸ ts))) _ ts _
    (both_holds (IsOther d u) (IsInOrder (ways_named d u)) (IsCounted operations o (other_ways d (t ▸ u ▸ ts))) mark_of_other _ _ (other_known d names m t (m + item_count t) u)
    (in_order_known (ways_named d u) n)
    (λ p by h g. in_order_counted (ways_named d u) (op_branches operations p.1) (named_goes d operations agree u p h) by g ∙ sym (other_counted d t u ts)))

lin_other_by_counted : (d : Known) (operations : List Operation) → AreBranches d operations → (o : ℕ) (names : Names) (n m : ℕ) (ts : Trees)
    → Holds (IsCounted operations o 1) (lin_other_by_reading d names n m ts)
lin_other_by_counted d operations agree o names n m none = tt
lin_other_by_counted d operations agree o names n m (t ▸ none) = tt
lin_other_by_counted d operations agree o names n m (t ▸ u ▸ ts) =
    both_holds (IsOther d u) (IsByName (ways_named d u)) (IsCounted operations o 1) mark_of_other _ _ (other_known d names m t (m + item_count t) u)
    (by_known names (ways_named d u) n (m + item_count t + item_count u) ts)
    (λ p by h g. by_name_counted (ways_named d u) (op_branches operations p.1) (named_goes d operations agree u p h) by g)

-- The body is that of the operation o, and it is known how it goes
pub record IsWithin (d : Known) (operations : List Operation) (own : Option Ways) (o : ℕ) : Type 0 where
  pub others : AreBranches d operations
  pub itself : Goes own (op_branches operations o)

headed_counted : (d : Known) (operations : List Operation) (own : Option Ways) (o : ℕ) → IsWithin d operations own o → (names : Names) (h : Head) (n m : ℕ) (ts : Trees)
    → Holds (IsCounted operations o (ways_with d own ts (Some h))) (headed_reading d names own h n m ts)
headed_counted d operations own o w names H.Set n m ts =
    mapped_holds (λ u. Unit {0}) (IsCounted operations o 1) Assign _ (holds_unit (update_reading InAuxiliary d names n m ts)) (λ u h. refl)
headed_counted d operations own o w names H.Lin n m ts =
    ended_holds (IsCounted operations o (mark_ways own)) m ts _
    (mapped_holds (IsInOrder own) (IsCounted operations o (mark_ways own)) (Marks Own) _ (in_order_known own n) (in_order_counted own (op_branches operations o) w.itself))
headed_counted d operations own o w names H.LinOther n m ts = lin_other_counted d operations w.others o names n m ts
headed_counted d operations own o w names H.Note n m ts =
    ended_holds (IsCounted operations o (mark_ways own)) m ts _
    (mapped_holds (IsInOrder own) (IsCounted operations o (mark_ways own)) (Marks Note) _ (in_order_known own n) (in_order_counted own (op_branches operations o) w.itself))
headed_counted d operations own o w names H.LinBy n m ts =
    mapped_holds (IsByName own) (IsCounted operations o 1) (Marks Own) _ (by_known names own n m ts) (by_name_counted own (op_branches operations o) w.itself)
headed_counted d operations own o w names H.LinOtherBy n m ts = lin_other_by_counted d operations w.others o names n m ts
headed_counted d operations own o w names H.NoteBy n m ts =
    mapped_holds (IsByName own) (IsCounted operations o 1) (Marks Note) _ (by_known names own n m ts) (by_name_counted own (op_branches operations o) w.itself)

begun_counted : (d : Known) (operations : List Operation) (own : Option Ways) (o : ℕ) → IsWithin d operations own o → (names : Names) (n m : ℕ) (ts : Trees) (h : Option Head)
    → Holds (IsCounted operations o (ways_with d own ts h)) (deed_with d names own n m ts h)
begun_counted d operations own o w names n m ts None = tt
begun_counted d operations own o w names n m ts (Some h) = headed_counted d operations own o w names h n m ts

read_deed_counted : (d : Known) (operations : List Operation) (own : Option Ways) (o : ℕ) → IsWithin d operations own o → (names : Names) (n : ℕ) (t : Tree)
    → Holds (IsCounted operations o (deed_ways d own t)) (deed_reading d names own n t)
read_deed_counted d operations own o w names n (atom a) = tt
read_deed_counted d operations own o w names n (list none) = tt
read_deed_counted d operations own o w names n (list (list us ▸ ts)) = tt
read_deed_counted d operations own o w names n (list (atom a ▸ ts)) = begun_counted d operations own o w names n (n + 2) ts (head_of a)

when_counted : (d : Known) (operations : List Operation) (own : Option Ways) (o : ℕ) → IsWithin d operations own o → (names : Names) (n m : ℕ) (ts : Trees)
    → Holds (λ (p : Formula × Deed). 1 + D.deed_ways operations o p.1 ≡ when_ways d own ts) (when_reading d names own n m ts)
when_counted d operations own o w names n m none = tt
when_counted d operations own o w names n m (t ▸ none) = tt
when_counted d operations own o w names n m (t ▸ u ▸ ts) =
    let ways = deed_ways d own u in
    ended_holds (λ (p : Formula × Deed). 1 + D.deed_ways operations o p.1 ≡ 1 + ways) _ ts _
    (both_holds (λ f. Unit {0}) (IsCounted operations o ways) (λ (p : Formula × Deed). 1 + D.deed_ways operations o p.1 ≡ 1 + ways) pair _ _
    (holds_unit (formula_reading (quiet names) [] m t)) (read_deed_counted d operations own o w names (m + item_count t) u) (λ f x h g. ap (λ k. 1 + k) g))

rider_counted : (d : Known) (operations : List Operation) (own : Option Ways) (o : ℕ) → IsWithin d operations own o → (names : Names) (n : ℕ) (t : Tree)
    → Holds (λ r. D.rider_ways operations o r ≡ rider_ways d own t) (rider_reading d names own n t)
rider_counted d operations own o w names n (atom a) = tt
rider_counted d operations own o w names n (list none) = tt
rider_counted d operations own o w names n (list (list us ▸ ts)) = tt
rider_counted d operations own o w names n (list (atom a ▸ ts)) = by_word (is a (codes "when")) where
  by_word : (b : Bool) → Holds (λ r. D.rider_ways operations o r ≡ cond b (when_ways d own ts) (ways_with d own ts (head_of a)))
      (cond b (mapped where_holds (when_reading d names own n (n + 2) ts)) (mapped always (deed_with d names own n (n + 2) ts (head_of a))))
  by_word true =
      mapped_holds (λ (p : Formula × Deed). 1 + D.deed_ways operations o p.1 ≡ when_ways d own ts) (λ r. D.rider_ways operations o r ≡ when_ways d own ts)
      where_holds _ (when_counted d operations own o w names n (n + 2) ts) (λ p e. e)
  by_word false =
      mapped_holds (IsCounted operations o (ways_with d own ts (head_of a))) (λ r. D.rider_ways operations o r ≡ ways_with d own ts (head_of a))
      always _ (begun_counted d operations own o w names n (n + 2) ts (head_of a)) (λ x e. e)

pub row_counted : (d : Known) (operations : List Operation) (own : Option Ways) (o : ℕ) → IsWithin d operations own o → (names : Names) (i m : ℕ) (ts : Trees)
    → Holds (λ rs. path_total operations o rs ≡ path_count d own ts) (placed_reading (ith_rider_reading d names own) i m ts)
row_counted d operations own o w names i m none = refl
row_counted d operations own o w names i m (t ▸ ts) =
    both_holds (λ r. D.rider_ways operations o r ≡ rider_ways d own t) (λ rs. path_total operations o rs ≡ path_count d own ts)
    (λ rs. path_total operations o rs ≡ rider_ways d own t * path_count d own ts) cons _ _
    (limited_holds (λ r. D.rider_ways operations o r ≡ rider_ways d own t) _ m _ (rider_counted d operations own o w names m t))
    (row_counted d operations own o w names (i + 1) (m + item_count t) ts) (λ r rs h g. ap₂ (λ a b. a * b) h g)

pub riders_counted : PathsAreCounted
riders_counted d operations agree o below names m ts riders read first n variables p =
    let own = slice_get d.ways o in
    paths_total operations first n o variables riders p
    ∙ holds_of_fine (λ rs. path_total operations o rs ≡ path_count d own ts) (riders_reading d names own m ts) riders
    (row_counted d operations own o (record { others = agree; itself = agree o below }) names 0 m ts) read
