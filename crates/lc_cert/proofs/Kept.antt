-- What is printed of a certificate that was read reads back.
use Rattle.std.proofs.Common.{◌≡◌, ℕ, ℤ, pos, negsuc, ◌+◌, ◌<◌, ◌≤◌, ◌^◌, Bool, true, false, cond, List, ◌∷◌, Option, None, arith}
use Rattle.std.proofs.lemmas.Bool.{ltb-true}
use Rattle.std.specs.Prelude.{codes}
use Rattle.lc_sexp.proofs.Items.{items_fit_lem}
use Rattle.lc_sexp.specs.Parts.{fits_i64}
use Rattle.lc_sexp.specs.Trees.{Tree, Trees, none, ◌▸◌, item_count, item_count_of_all}
use Rattle.lc_reading.proofs.Fine.{IfFine, if_fine_unit, both_fine, ended_fine, two_fine, behind_fine, of_fine}
use Rattle.lc_reading.specs.Readings.{Reading, fine, flawed, wrong}
use Rattle.lc_reading.specs.declared.pass.Pass.TheVariants.{Shape}
use Rattle.lc_term.specs.Lists.{Every}
use Rattle.lc_text.proofs.Kept.{number_kept}
use Rattle.lc_text.specs.Terms.{number_reading}
use Rattle.lc_kernel.specs.Proofs.{Proof}
use Rattle.lc_proof_text.proofs.Kept.{proof_kept}
use Rattle.lc_proof_text.specs.Files.{only}
use Rattle.lc_proof_text.specs.ProofTrees.{ProofReadsBack}
use Rattle.lc_proof_text.specs.Proofs.{proof_reading}
use Rattle.lc_outline.specs.Development.{Development}
use Rattle.lc_cert.proofs.Back.{certificate_back}
use Rattle.lc_cert.proofs.Rising.{certificate_rises}
use Rattle.lc_cert.proofs.Spelled.{names_spelled}
use Rattle.lc_cert.specs.Certificates.{Entry, is_above}
use Rattle.lc_outline.specs.ColumnNames.{column_names}
use Rattle.lc_cert.specs.ColumnNames.{names_with, spelled_with}
use Rattle.lc_cert.specs.Files.{Certifies}
use Rattle.lc_cert.specs.Printed.{certificate_line, EntryReadsBack, IsPrintable}
use Rattle.lc_cert.specs.Readings.{rising_reading, place_reading, entry, parts_reading, entry_reading, last_behind, entries_reading, name_due, named_reading, form_reading, certificate_reading}

small_place : (last : Option ℕ) (n k : ℕ) (b : Bool) → fits_i64 (pos k) ≡ true → IfFine (cond b (fine k) (wrong Shape n)) (λ k. k < 2 ^ 63)
small_place last n k true h = ltb-true k 9223372036854775808 h
small_place last n k false h = tt

place_kept : (last : Option ℕ) (n : ℕ) (r : Reading ℤ) → IfFine r (λ z. fits_i64 z ≡ true) → IfFine (rising_reading last n r) (λ k. k < 2 ^ 63)
place_kept last n (fine (pos k)) h = small_place last n k (is_above last k) h
place_kept last n (fine (negsuc k)) h = tt
place_kept last n (flawed f) h = tt

module _ (D : Development) where
  abbrev IsProofOf : Proof → Type 0
  IsProofOf p = ProofReadsBack (names_with (column_names D)) (spelled_with (column_names D)) p

  parts_kept : (last : Option ℕ) (n m : ℕ) (ts : Trees) → item_count_of_all ts ≤ 4294967296 → IfFine (parts_reading (names_with (column_names D)) last n m ts) (EntryReadsBack D)
  parts_kept last n m none small = tt
  parts_kept last n m (t ▸ none) small = tt
  parts_kept last n m (t ▸ u ▸ ts) small =
      two_fine (λ k. k < 2 ^ 63) IsProofOf (EntryReadsBack D) entry m t u ts (place_reading last m t) (proof_reading (names_with (column_names D)) (m + item_count t) u)
      (place_kept last m (number_reading m t) (number_kept m t)) (proof_kept (names_with (column_names D)) (spelled_with (column_names D)) (names_spelled (column_names D)) (m + item_count t) u (omega arith)) (λ k p a b. (a, b))

  entry_kept : (last : Option ℕ) (n : ℕ) (t : Tree) → item_count t ≤ 4294967296 → IfFine (entry_reading (names_with (column_names D)) last n t) (EntryReadsBack D)
  entry_kept last n t small =
      behind_fine (EntryReadsBack D) (codes "proof") (parts_reading (names_with (column_names D)) last) n t (λ m ts few. parts_kept last n m ts (omega (arith, few, small)))

  entries_kept : (last : Option ℕ) (m : ℕ) (ts : Trees) → item_count_of_all ts ≤ 4294967296 → IfFine (entries_reading (names_with (column_names D)) last m ts) (Every (EntryReadsBack D))
  entries_kept last m none small = tt
  entries_kept last m (t ▸ ts) small =
      let names = names_with (column_names D) in
      both_fine (EntryReadsBack D) (Every (EntryReadsBack D)) (Every (EntryReadsBack D)) (λ e es. e ∷ es) (entry_reading names last m t)
      (entries_reading names (last_behind last (entry_reading names last m t)) (m + item_count t) ts)
      (entry_kept last m t (omega arith)) (entries_kept (last_behind last (entry_reading names last m t)) (m + item_count t) ts (omega arith)) (λ e es a b. (a, b))

  named_kept : (n m : ℕ) (ts : Trees) → item_count_of_all ts ≤ 4294967296 → IfFine (named_reading (column_names D) D.object.name n m ts) (Every (EntryReadsBack D))
  named_kept n m none small = tt
  named_kept n m (t ▸ ts) small =
      both_fine (λ u. Unit {0}) (Every (EntryReadsBack D)) (Every (EntryReadsBack D)) (λ u es. es) (name_due D.object.name m t) (entries_reading (names_with (column_names D)) None (m + item_count t) ts)
      (if_fine_unit (name_due D.object.name m t)) (entries_kept None (m + item_count t) ts (omega arith)) (λ u es a b. b)

  form_kept : (n : ℕ) (t : Tree) → item_count t ≤ 4294967296 → IfFine (form_reading (column_names D) D.object.name n t) (Every (EntryReadsBack D))
  form_kept n t small =
      behind_fine (Every (EntryReadsBack D)) (codes "certificate") (named_reading (column_names D) D.object.name) n t (λ m ts few. named_kept n m ts (omega (arith, few, small)))

  file_kept : (n m : ℕ) (ts : Trees) → item_count_of_all ts ≤ 4294967296 → IfFine (only (form_reading (column_names D) D.object.name) n m ts) (Every (EntryReadsBack D))
  file_kept n m none small = tt
  file_kept n m (t ▸ ts) small = ended_fine (Every (EntryReadsBack D)) (m + item_count t) ts (form_reading (column_names D) D.object.name m t) (form_kept m t (omega arith))

  -- each proof that is read reads back
  pub certified_kept : (bytes : List ℕ) (es : List Entry) → Certifies D bytes es → Every (EntryReadsBack D) es
  certified_kept bytes es (ts, reads, says) =
      let few = items_fit_lem bytes ts reads in
      let short = reads.size in
      of_fine (Every (EntryReadsBack D)) (certificate_reading D ts) es (file_kept (item_count_of_all ts) 0 ts (omega (arith, few, short))) says

  -- what is printed of a certificate that is read is one again
  pub certified_back : (bytes : List ℕ) (es : List Entry) → Certifies D bytes es → IsPrintable D es → Certifies D (certificate_line D es) es
  certified_back bytes es h limits = certificate_back D es (certificate_rises D bytes es h) (certified_kept bytes es h) limits
