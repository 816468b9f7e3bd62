-- A file and its beginning, up to one byte beyond the file limit, have the same readings and the same first fault.
use Rattle.std.proofs.Common.{◌≡◌, ℕ, zero, suc, ◌<◌, ◌≤◌, ◌==◌, ◌||◌, if◌then◌else◌, Bool, true, false, true≢false, inl, inr, List, [], ◌∷◌, length, take, Option, Some, None, slice_get, refl, sym, ap, ap₂, ◌∙◌, subst, arith}
use Rattle.std.proofs.lemmas.List.{take_all, length-take}
use Rattle.lc_lemmas.proofs.Numbers.{below_or_from}
use Rattle.lc_sexp.specs.Reads.{ReadsAs, IsFirstFault, text_of, is_wrong_at, is_wrong, open_count}
use Rattle.lc_sexp.specs.Text.{uncommented}
use Rattle.lc_sexp.specs.Trees.{Trees}
use Rattle.lc_base.specs.declared.refusal.Refusal.{Refusal}
use Rattle.lc_base.specs.Limits.{file_limit}
use Rattle.lc_reading.specs.Files.{Says, IsFirstRefusal}
use Rattle.lc_reading.specs.Readings.{Reading}
use Rattle.lincheck.specs.Reading.{within_limit, most_bytes}
use Rattle.lc_sexp.proofs.Faults.{length-uncommented}

take-take : (k n : ℕ) (l : List ℕ) → k ≤ n → take k (take n l) ≡ take k l
take-take zero n l h = refl
take-take (suc k) zero l h = absurd (omega arith)
take-take (suc k) (suc n) [] h = refl
take-take (suc k) (suc n) (x ∷ l) h = ap (λ r. x ∷ r) (take-take k n l (omega arith))

slice_get-take : (k n : ℕ) (l : List ℕ) → k < n → slice_get (take n l) k ≡ slice_get l k
slice_get-take k zero l h = absurd (omega arith)
slice_get-take k (suc n) [] h = refl
slice_get-take zero (suc n) (x ∷ l) h = refl
slice_get-take (suc k) (suc n) (x ∷ l) h = slice_get-take k n l (omega arith)

-- one byte, and what comes after it, by whether it is in a comment
abbrev byte_before : Bool → Bool → ℕ → (Bool → List ℕ) → List ℕ
byte_before ends in_comment b rest = if ends then 10 ∷ rest false else (if in_comment then 32 ∷ rest true else b ∷ rest false)

take-byte_before : (n : ℕ) (t u : Bool) (b : ℕ) (short long : Bool → List ℕ) → ((c : Bool) → short c ≡ take n (long c))
    → byte_before t u b short ≡ take (suc n) (byte_before t u b long)
take-byte_before n true u b short long same = ap (λ r. 10 ∷ r) (same false)
take-byte_before n false true b short long same = ap (λ r. 32 ∷ r) (same true)
take-byte_before n false false b short long same = ap (λ r. b ∷ r) (same false)

-- comments run alike in a beginning
uncommented-take : (n : ℕ) (c : Bool) (bytes : List ℕ) → uncommented c (take n bytes) ≡ take n (uncommented c bytes)
uncommented-take zero c bytes = refl
uncommented-take (suc n) c [] = refl
uncommented-take (suc n) c (b ∷ s) =
    take-byte_before n (b == 10) (c || b == 59) b (λ d. uncommented d (take n s)) (λ d. uncommented d s) (λ d. uncommented-take n d s)

-- what comes before the end of a beginning is wrong in both or in none
is_wrong_at-take : (n k : ℕ) (bytes : List ℕ) → k < n → is_wrong_at (text_of (take n bytes)) k ≡ is_wrong_at (text_of bytes) k
is_wrong_at-take n k bytes h =
    let text : text_of (take n bytes) ≡ take n (text_of bytes) = uncommented-take n false bytes in
    let before : take k (text_of (take n bytes)) ≡ take k (text_of bytes) = ap (take k) text ∙ take-take k n (text_of bytes) (omega arith) in
    let here : slice_get (text_of (take n bytes)) k ≡ slice_get (text_of bytes) k = ap (λ l. slice_get l k) text ∙ slice_get-take k n (text_of bytes) h in
    ap₂ (λ d b. is_wrong k d b) (ap open_count before) here

-- the byte beyond the limit is wrong
wrong_byte : (depth : ℕ) (byte : Option ℕ) (b : ℕ) → byte ≡ Some b → is_wrong file_limit depth byte ≡ true
wrong_byte depth None b e = cc
wrong_byte depth (Some x) b e = refl

there : (l : List ℕ) (k : ℕ) → k < length l → (b : ℕ) × (slice_get l k ≡ Some b)
there [] k h = absurd (omega arith)
there (x ∷ l) zero h = (x, refl)
there (x ∷ l) (suc k) h = there l k (omega arith)

wrong_at_limit : (bytes : List ℕ) → file_limit < length bytes → is_wrong_at (text_of bytes) file_limit ≡ true
wrong_at_limit bytes h =
    let b = there (text_of bytes) file_limit (omega (arith, length-uncommented false bytes)) in
    wrong_byte (open_count (take file_limit (text_of bytes))) (slice_get (text_of bytes) file_limit) b.0 b.1

-- the first fault of a longer file is at the limit at the latest
within : (bytes : List ℕ) (offset : ℕ) → file_limit < length bytes → IsFirstFault bytes offset → offset ≤ file_limit
within bytes offset long fault = elim (below_or_from file_limit offset) [
  | inl h ↦ absurd (true≢false (sym (wrong_at_limit bytes long) ∙ fault.first file_limit h))
  | inr h ↦ h
]

-- the first fault of the beginning is that of the file
pub fault_of_whole : (n : ℕ) (bytes : List ℕ) (offset : ℕ) → n ≡ most_bytes → IsFirstFault (take n bytes) offset → IsFirstFault bytes offset
fault_of_whole n bytes offset e fault = elim (below_or_from (length bytes) n) [
  | inl h ↦ subst (λ l. IsFirstFault l offset) (take_all n bytes (omega arith)) fault
  | inr h ↦
      let long : file_limit < length (take n bytes) = omega (arith, length-take n bytes) in
      let low : offset ≤ file_limit = within (take n bytes) offset long fault in
      record {
        within = omega (arith, length-take n bytes, fault.within);
        wrong = sym (is_wrong_at-take n offset bytes (omega arith)) ∙ fault.wrong;
        first = λ k lt. sym (is_wrong_at-take n k bytes (omega arith)) ∙ fault.first k lt;
      }
]

-- what the beginning reads as is what the file reads as
pub reading_of_whole : (n : ℕ) (bytes : List ℕ) (trees : Trees) → n ≡ most_bytes → ReadsAs (take n bytes) trees → ReadsAs bytes trees
reading_of_whole n bytes trees e reads =
    let short : length bytes ≤ n = omega (arith, length-take n bytes, reads.size) in
    subst (λ l. ReadsAs l trees) (take_all n bytes short) reads

-- the file says what its beginning says, and has its first refusal
pub said_of_whole : {X : Type 0} (read : Trees → Reading X) (file : List ℕ) (x : X) → Says read (within_limit file) x → Says read file x
said_of_whole read file x (ts, reads, says) = (ts, reading_of_whole most_bytes file ts refl reads, says)

pub refusal_of_whole : {X : Type 0} (read : Trees → Reading X) (file : List ℕ) (refusal : Refusal) → IsFirstRefusal read (within_limit file) refusal → IsFirstRefusal read file refusal
refusal_of_whole read file refusal (inl (offset, is, fault)) = inl (offset, is, fault_of_whole most_bytes file offset refl fault)
refusal_of_whole read file refusal (inr (ts, flaw, reads, refused, is)) = inr (ts, flaw, reading_of_whole most_bytes file ts refl reads, refused, is)
