-- Names that are in a table before they are read, one after another.
use Rattle.std.proofs.Common.{◌≡◌, ℕ, ◌+◌, ◌≤◌, List, ◌∷◌, ◌++◌, length, take, refl, sym, ap, ◌∙◌, append_assoc, arith}
use Rattle.std.proofs.Math.Seq.{take-append_seam}
use Rattle.std.proofs.lemmas.List.{length-append, length-take-le}
use Rattle.lc_sexp.specs.Trees.{Tree, Trees, ◌▸◌, item_count}
use Rattle.lc_reading.specs.Readings.{Reading, both}
use Rattle.lc_reading.specs.Rows.{declared_reading}

-- the first of names, which come after these
pub first_taken : (ns before rest : List (List ℕ)) → ns ≡ before ++ rest → (take (length before) ns ≡ before) × (length before ≤ length ns)
first_taken ns before rest e =
    (ap (take (length before)) e ∙ take-append_seam before rest, omega (arith, ap (λ l. length l) e, length-append before rest))

-- after an item that declares these
pub more_taken : (ns : List (List ℕ)) (k : ℕ) (ds rest : List (List ℕ)) → k ≤ length ns → take k ns ++ (ds ++ rest) ≡ ns
    → (take (k + length ds) ns ≡ take k ns ++ ds) × (k + length ds ≤ length ns)
more_taken ns k ds rest within e =
    let all : ns ≡ (take k ns ++ ds) ++ rest = sym (append_assoc (take k ns) ds rest ∙ e) in
    let count : length (take k ns ++ ds) ≡ k + length ds = length-append (take k ns) ds ∙ ap (λ n. n + length ds) (length-take-le k ns within) in
    let taken = first_taken ns (take k ns ++ ds) rest all in
    (ap (λ n. take n ns) (sym count) ∙ taken.0, omega (arith, taken.1, count))

-- after one item, the others are left
pub one_more : {X : Type 0} (read : List (List ℕ) → ℕ → Tree → Reading X) (declares : Tree → List (List ℕ)) (before after : List (List ℕ)) (m i j : ℕ) (t : Tree) (ts us : Trees)
    → us ≡ t ▸ ts → i ≡ m → j ≡ m + item_count t → after ≡ before ++ declares t
    → declared_reading read declares before m us ≡ both (λ x xs. x ∷ xs) (read before i t) (declared_reading read declares after j ts)
one_more read declares before after m i j t ts us next at behind entered = rw (next, at, behind, entered) refl
