-- What holds of a file that was read, in other words.
use Rattle.std.proofs.Common.{◌≡◌, ℕ, List, Option, Some, IfSome, subst}
use Rattle.lincheck.specs.Reading.{OfFile}

pub read_so : {P Q : List ℕ → Type 0} (known : Option (List ℕ)) → OfFile known P → ((file : List ℕ) → P file → Q file) → OfFile known Q
read_so known (file, same, h) f = (file, same, f file h)

-- it holds of the bytes that are known
pub read_known : {known : Option (List ℕ)} {file : List ℕ} (P : List ℕ → Type 0) → known ≡ Some file → OfFile known P → P file
read_known P is (read, same, h) = subst P (subst (λ o. IfSome o (λ bytes. read ≡ bytes)) is same) h
