-- What is read of a file up to a limit is its beginning.
use Rattle.std.proofs.Common.{◌≡◌, ℕ, ◌+◌, ◌≤◌, List, [], ◌∷◌, ◌++◌, length, take, Option, Some, None, IfSome, refl, sym, ap, ◌∙◌, subst, arith, append-nil}
use Rattle.std.specs.Io.KnownBytes.{Consumes, IsAtEnd}
use Rattle.std.proofs.lemmas.List.{take_all}
use Rattle.std.proofs.Math.Seq.{take-append_seam}
use Rattle.lincheck.specs.Reading.{OfFile}

-- if something is left, as much was read as the limit is
at_limit : (n k : ℕ) (y : ℕ) (ys : List ℕ) → k ≤ n → (k + 1 ≤ n → y ∷ ys ≡ []) → n ≡ k
at_limit n k y ys bound end = grind arith

from_parts : (bytes ys : List ℕ) (n : ℕ) → length bytes ≤ n → (length bytes + 1 ≤ n → ys ≡ []) → bytes ≡ take n (bytes ++ ys)
from_parts bytes [] n bound end = rw append-nil (sym (take_all n bytes bound))
from_parts bytes (y ∷ ys) n bound end = rw (at_limit n (length bytes) y ys bound end) (sym (take-append_seam bytes (y ∷ ys)))

taken_from : (file : List ℕ) (right : Option (List ℕ)) (bytes : List ℕ) (n : ℕ) → Consumes (Some file) right bytes
    → length bytes ≤ n → (length bytes + 1 ≤ n → IsAtEnd right) → bytes ≡ take n file
taken_from file None bytes n consumed bound end = absurd consumed
taken_from file (Some ys) bytes n consumed bound end = from_parts bytes ys n bound end ∙ ap (take n) (sym consumed)

pub consumed_is_taken : (known left right : Option (List ℕ)) (bytes : List ℕ) (n : ℕ) → IfSome known (λ file. left ≡ Some file) → Consumes left right bytes
    → length bytes ≤ n → (length bytes + 1 ≤ n → IsAtEnd right) → OfFile known (λ file. bytes ≡ take n file)
consumed_is_taken None left right bytes n opened consumed bound end = (bytes, tt, sym (take_all n bytes bound))
consumed_is_taken (Some file) left right bytes n opened consumed bound end = (file, refl, taken_from file right bytes n (subst (λ l. Consumes l right bytes) opened consumed) bound end)
