-- What holds of the proofs of hints that are read.
use Rattle.std.proofs.Common.{◌≡◌, ℕ, ℤ, pos, negsuc, ◌+◌, ◌<◌, ◌≤◌, ◌^◌, true, List, ◌∷◌, Option, Some, None, arith}
use Rattle.std.proofs.lemmas.Bool.{ltb-true}
use Rattle.std.specs.Prelude.{codes}
use Rattle.lc_base.specs.Limits.{file_limit}
use Rattle.lc_sexp.proofs.Items.{items_fit_lem}
use Rattle.lc_sexp.specs.Parts.{fits_i64}
use Rattle.lc_sexp.specs.Trees.{Tree, Trees, atom, list, none, ◌▸◌, item_count, item_count_of_all}
use Rattle.lc_reading.proofs.Fine.{IfFine, if_fine_unit, if_fine_weaker, mapped_fine, both_fine, ended_fine, two_fine, behind_fine, of_fine}
use Rattle.lc_reading.specs.Files.{Says}
use Rattle.lc_reading.specs.Readings.{Reading}
use Rattle.lc_reading.specs.Rows.{each_reading}
use Rattle.lc_term.specs.Lists.{Every}
use Rattle.lc_text.proofs.Kept.{number_kept}
use Rattle.lc_text.specs.Names.{Names}
use Rattle.lc_text.specs.Terms.{pair, number_reading}
use Rattle.lc_kernel.specs.Proofs.{Proof, size}
use Rattle.lc_proof_text.proofs.Founded.{proof_sized}
use Rattle.lc_proof_text.proofs.Kept.{proof_kept}
use Rattle.lc_proof_text.specs.Files.{only}
use Rattle.lc_proof_text.specs.ProofTrees.{ProofReadsBack}
use Rattle.lc_proof_text.specs.Proofs.{proof_reading}
use Rattle.lc_outline.specs.Development.{Development}
use Rattle.lc_cert.proofs.Spelled.{names_spelled}
use Rattle.lc_cert.specs.Certificates.{Entry, HaveFewSteps}
use Rattle.lc_outline.specs.ColumnNames.{column_names}
use Rattle.lc_cert.specs.ColumnNames.{names_with, spelled_with}
use Rattle.lc_cert.specs.Printed.{EntryReadsBack}
use Rattle.lc_hints.specs.Hints.{Hint, proof_offered, proofs_of}
use Rattle.lc_hints.specs.Readings.{use_hint, cut_hint, by_hint, head_of, terms_due, use_reading, cut_parts_reading, cut_reading, by_parts_reading, by_reading, hint_with, hint_reading, form_reading, hints_reading}
use Rattle.lc_hints.specs.declared.reading.Head.{Head}
use Rattle.lc_hints.specs.declared.reading.Head.TheVariants as H
use Rattle.lc_term.proofs.Lists.{every_joined}

-- what holds of each item that is read, with at most `most` items
each_fine : {X : Type 0} (P : X → Type 0) (most : ℕ) (read : ℕ → Tree → Reading X) (m : ℕ) (ts : Trees) → ((n : ℕ) (t : Tree) → item_count t ≤ most → IfFine (read n t) P)
    → item_count_of_all ts ≤ most → IfFine (each_reading read m ts) (Every P)
each_fine P most read m none one few = tt
each_fine P most read m (t ▸ ts) one few =
    both_fine P (Every P) (Every P) (λ x xs. x ∷ xs) (read m t) (each_reading read (m + item_count t) ts) (one m t (omega arith)) (each_fine P most read (m + item_count t) ts one (omega arith)) (λ x xs a b. (a, b))

module _ (names : Names) (P : Entry → Type 0) (Q : Proof → Type 0) (most : ℕ) (proof : (n : ℕ) (t : Tree) → item_count t ≤ most → IfFine (proof_reading names n t) Q)
    (good : (k : ℕ) (p : Proof) → k < 2 ^ 63 → Q p → P (record { number = k; proof = p })) where
  -- it holds of what a hint offers
  abbrev IsGood : Hint → Type 0
  IsGood h = Every P (proof_offered h.advice h.number)

  by_good : (z : ℤ) (p : Proof) → fits_i64 z ≡ true → Q p → IsGood (by_hint (z, p))
  by_good (pos k) p fits holds = (good k p (ltb-true k 9223372036854775808 fits) holds, tt)
  by_good (negsuc k) p fits holds = tt

  use_fine : (n m : ℕ) (ts : Trees) → IfFine (use_reading names n m ts) IsGood
  use_fine n m none = tt
  use_fine n m (t ▸ ts) =
      both_fine (λ z. Unit {0}) (λ us. Unit {0}) IsGood use_hint (number_reading m t) (terms_due names n (m + item_count t) ts) (if_fine_unit (number_reading m t)) (if_fine_unit (terms_due names n (m + item_count t) ts)) (λ z us a b. tt)

  cut_fine : (n m : ℕ) (ts : Trees) → IfFine (cut_reading names n m ts) IsGood
  cut_fine n m none = tt
  cut_fine n m (t ▸ none) = tt
  cut_fine n m (t ▸ u ▸ ts) =
      mapped_fine (λ p. Unit {0}) IsGood cut_hint (cut_parts_reading names n m (t ▸ u ▸ ts)) (if_fine_unit (cut_parts_reading names n m (t ▸ u ▸ ts))) (λ p a. tt)

  by_fine : (n m : ℕ) (ts : Trees) → item_count_of_all ts ≤ most → IfFine (by_reading names n m ts) IsGood
  by_fine n m none few = tt
  by_fine n m (t ▸ none) few = tt
  by_fine n m (t ▸ u ▸ ts) few =
      mapped_fine (λ p. (fits_i64 p.0 ≡ true) × Q p.1) IsGood by_hint (by_parts_reading names n m (t ▸ u ▸ ts))
      (two_fine (λ z. fits_i64 z ≡ true) Q (λ p. (fits_i64 p.0 ≡ true) × Q p.1) pair m t u ts (number_reading m t) (proof_reading names (m + item_count t) u) (number_kept m t) (proof (m + item_count t) u (omega arith)) (λ z p a b. (a, b)))
      (λ p h. by_good p.0 p.1 h.0 h.1)

  with_fine : (n m : ℕ) (ts : Trees) (o : Option Head) → item_count_of_all ts ≤ most → IfFine (hint_with names n m ts o) IsGood
  with_fine n m ts None few = tt
  with_fine n m ts (Some H.Use) few = use_fine n m ts
  with_fine n m ts (Some H.Cut) few = cut_fine n m ts
  with_fine n m ts (Some H.By) few = by_fine n m ts few

  hint_fine : (n : ℕ) (t : Tree) → item_count t ≤ most → IfFine (hint_reading names n t) IsGood
  hint_fine n (atom w) few = tt
  hint_fine n (list none) few = tt
  hint_fine n (list (list us ▸ ts)) few = tt
  hint_fine n (list (atom w ▸ ts)) few = with_fine n (n + 2) ts (head_of w) (omega arith)

  form_fine : (n : ℕ) (t : Tree) → item_count t ≤ most → IfFine (form_reading names n t) (Every IsGood)
  form_fine n t few =
      behind_fine (Every IsGood) (codes "hints") (λ n m ts. each_reading (hint_reading names) m ts) n t
      (λ m ts less. each_fine IsGood most (hint_reading names) m ts hint_fine (omega (arith, less, few)))

  file_fine : (n m : ℕ) (ts : Trees) → item_count_of_all ts ≤ most → IfFine (only (form_reading names) n m ts) (Every IsGood)
  file_fine n m none few = tt
  file_fine n m (t ▸ ts) few = ended_fine (Every IsGood) (m + item_count t) ts (form_reading names m t) (form_fine m t (omega arith))

module _ (D : Development) where
  abbrev IsProofOf : Proof → Type 0
  IsProofOf p = ProofReadsBack (names_with (column_names D)) (spelled_with (column_names D)) p

  -- each proof that is read reads back
  pub hints_kept : (bytes : List ℕ) (hs : List Hint) → Says (hints_reading D) bytes hs → Every (EntryReadsBack D) (proofs_of hs)
  hints_kept bytes hs (ts, reads, says) =
      let few = items_fit_lem bytes ts reads in
      let short = reads.size in
      let names = names_with (column_names D) in
      let proof = proof_kept names (spelled_with (column_names D)) (names_spelled (column_names D)) in
      let all = file_fine names (EntryReadsBack D) IsProofOf 4294967296 proof (λ k p small back. (small, back)) (item_count_of_all ts) 0 ts (omega (arith, few, short)) in
      every_joined (EntryReadsBack D) (λ (h : Hint). proof_offered h.advice h.number) hs (of_fine (Every (λ (h : Hint). Every (EntryReadsBack D) (proof_offered h.advice h.number))) (hints_reading D ts) hs all says)

-- no proof that is read has more steps than a file has bytes
abbrev IsSmall : Entry → Type 0
IsSmall e = size e.proof ≤ file_limit

pub hints_sized : (D : Development) (bytes : List ℕ) (hs : List Hint) → Says (hints_reading D) bytes hs → HaveFewSteps (proofs_of hs)
hints_sized D bytes hs (ts, reads, says) =
    let few = items_fit_lem bytes ts reads in
    let short = reads.size in
    let names = names_with (column_names D) in
    let proof : (n : ℕ) (t : Tree) → item_count t ≤ file_limit → IfFine (proof_reading names n t) (λ p. size p ≤ file_limit) =
    λ n t less. if_fine_weaker (λ p. size p ≤ item_count t) (λ p. size p ≤ file_limit) (proof_reading names n t) (λ p h. omega (arith, h, less)) (proof_sized names n t) in
    let all = file_fine names IsSmall (λ p. size p ≤ file_limit) file_limit proof (λ k p small h. h) (item_count_of_all ts) 0 ts (omega (arith, few, short)) in
    every_joined IsSmall (λ (h : Hint). proof_offered h.advice h.number) hs (of_fine (Every (λ (h : Hint). Every IsSmall (proof_offered h.advice h.number))) (hints_reading D ts) hs all says)
