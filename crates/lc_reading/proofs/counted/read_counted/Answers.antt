use Rattle.std.proofs.Common.{◌≡◌, ◌≢◌, ℕ, zero, suc, ◌+◌, ◌-◌, [], ◌∷◌, refl, arith}
use Rattle.lc_sexp.specs.Trees.{Tree, Trees, none, ◌▸◌, item_count}
use Rattle.lc_sexp.specs.Shown.{rest_of, number_of, owner_of}
use Rattle.lc_reading.specs.Parts.{tree_of, place_of}
use Rattle.lc_reading.specs.Readings.{Reading, fine, wrong, both}
use Rattle.lc_reading.specs.Rows.{counted_reading}
use Rattle.lc_reading.specs.declared.pass.Pass.TheVariants.{Shape}
use Rattle.lc_reading.proofs.SoFar.{so_far_push, each_end, misshapen_end}
use Rattle.lc_reading.proofs.counted.read_counted.Goals as goal

-- none is left, and none is expected
none_due : {X : Type 0} (read : ℕ → Tree → Reading X) (n k m : ℕ) (us : Trees) → us ≡ none → k ≡ 0 → counted_reading read n k m us ≡ fine []
none_due read n k m us end met = rw (end, met) refl

-- none is left, and one is expected
too_few : {X : Type 0} (read : ℕ → Tree → Reading X) (n k m : ℕ) (us : Trees) → us ≡ none → k ≢ 0 → counted_reading read n k m us ≡ wrong Shape n
too_few read n zero m us end due = absurd (due refl)
too_few read n (suc k) m us end due = rw end refl

-- one is left, and none is expected
too_many : {X : Type 0} (read : ℕ → Tree → Reading X) (n k m : ℕ) (t : Tree) (ts us : Trees) → us ≡ t ▸ ts → k ≡ 0 → counted_reading read n k m us ≡ wrong Shape m
too_many read n k m t ts us next met = rw (next, met) refl

-- after one that is expected, the others are left
one_more : {X : Type 0} (read : ℕ → Tree → Reading X) (n k l m i j : ℕ) (t : Tree) (ts us : Trees) → k ≢ 0 → us ≡ t ▸ ts → i ≡ m → j ≡ m + item_count t → l ≡ k - 1
    → counted_reading read n k m us ≡ both (λ x xs. x ∷ xs) (read i t) (counted_reading read n l j ts)
one_more read n zero l m i j t ts us due next at behind one = absurd (due refl)
one_more read n (suc k) l m i j t ts us due next at behind one =
    let left : l ≡ k = omega arith in
    rw (next, at, behind, left) refl

pub returns-then-due-eq0 : goal.returns-then-due-eq0
returns-then-due-eq0 g c =
    each_end g.R.Reads.meaning _ _ c.items.values
    (none_due (g.R.Reads.reading c.args.reader.now) (owner_of c.args.list) c.items.due (number_of c.items.rest) (rest_of c.items.rest) c.in_default.ensures.1 c.if-due-eq0.true) c.items.invariant

pub returns-else-due-eq0 : goal.returns-else-due-eq0
returns-else-due-eq0 g c =
    let read = g.R.Reads.reading c.args.reader.now in
    let n = owner_of c.args.list in
    rw (c.misshapen_too.ensures, c.owner.ensures)
    (misshapen_end g.R.Reads.meaning n _ _ c.items.values (too_few read n c.items.due (number_of c.items.rest) (rest_of c.items.rest) c.in_default.ensures.1 c.if-due-eq0.false) c.items.invariant)

pub returns-then-due-eq0-2 : goal.returns-then-due-eq0-2
returns-then-due-eq0-2 g c =
    let (at, next) = c.in-Ok.ensures in
    let read = g.R.Reads.reading c.args.reader.now in
    let n = owner_of c.args.list in
    let m = number_of c.items.rest in
    rw (c.misshapen_too-then-due-eq0-2.ensures, c.number-number.ensures)
    (misshapen_end g.R.Reads.meaning m _ _ c.items.values (too_many read n c.items.due m (tree_of c.in-Ok.part) (rest_of c.next_part.new.list) (rest_of c.items.rest) next.rest c.if-due-eq0-2.true) c.items.invariant)

pub items-preserved : goal.items-preserved
items-preserved g c =
    let (at, next) = c.in-Ok.ensures in
    let read = g.R.Reads.reading c.args.reader.now in
    let left = one_more read (owner_of c.args.list) c.items.due (c.items.due - 1) (number_of c.items.rest) (place_of c.in-Ok.part) (number_of c.next_part.new.list) (tree_of c.in-Ok.part)
    (rest_of c.next_part.new.list) (rest_of c.items.rest) c.if-due-eq0-2.false next.rest at next.number refl in
    so_far_push g.R.Reads.meaning (λ x xs. x ∷ xs) _ _ _ c.items.values c.read-value.result c.pushed-values.result
    (rw left at c.items.invariant) c.read-value.ensures c.pushed-values.ensures
