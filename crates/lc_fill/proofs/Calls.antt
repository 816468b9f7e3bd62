-- Calls that are put in.
use Rattle.std.proofs.Common.{◌≡◌, ℕ, Bool, true, false, List, [], ◌∷◌, refl, ap, ◌∙◌}
use Rattle.std.specs.Prelude.{if◌then◌else◌}
use Rattle.lc_sexp.specs.Trees.{Tree, Trees, atom, list, none, ◌▸◌, row}
use Rattle.lc_fill.specs.Acts.{Acts, call_at, is_lacking}
use Rattle.lc_fill.specs.Filled.{Filled, as_is, put, lacking_at}
use Rattle.lc_fill.specs.Points.{has_call, call_filled, put_call}
use Rattle.lc_fill.specs.Seen.{onto}
use Rattle.lc_fill.specs.declared.row.Row.{Row}

pub has-call : (a : Acts) (n : ℕ) (ts : Trees) → has_call a ts ≡ true → call_filled a n ts ≡ as_is ts
has-call a n ts h = rw h refl

pub no-call : (a : Acts) (n : ℕ) (ts : Trees) → has_call a ts ≡ false → call_filled a n ts ≡ put_call a n (call_at a n) (as_is ts)
no-call a n ts h = rw h refl

pub put-called : (a : Acts) (row behind : Row) (n : ℕ) (t : Tree) (b : Bool) (r : Filled Trees) → b ≡ is_lacking a n
    → ((q : Filled Trees) → onto behind q ≡ onto row (if b then lacking_at n (put n t q) else put n t q)) → onto behind r ≡ onto row (put_call a n t r)
put-called a row behind n t b r e step = step r ∙ ap (λ x. onto row (if x then lacking_at n (put n t r) else put n t r)) e

pub called-put : (a : Acts) (row behind : Row) (n : ℕ) (t : Tree) (b : Bool) (r : Filled Trees) → t ≡ call_at a n → b ≡ is_lacking a n
    → ((q : Filled Trees) → onto behind q ≡ onto row (if b then lacking_at n (put n t q) else put n t q)) → onto behind r ≡ onto row (put_call a n (call_at a n) r)
called-put a row behind n t b r same e step = put-called a row behind n t b r e step ∙ ap (λ x. onto row (put_call a n x r)) same

-- (on EDGE (ACTION ..))
pub on-line : (on word name call : Tree) (w v : List ℕ) (t : Tree) → on ≡ list (row (word ∷ name ∷ call ∷ [])) → word ≡ atom w → name ≡ atom v → call ≡ t
    → on ≡ list (atom w ▸ atom v ▸ t ▸ none)
on-line on word name call w v t e f g h = rw (e, f, g, h) refl
