-- The numbers of a certificate that is read rise.
use Rattle.std.proofs.Common.{◌≡◌, ℕ, ◌+◌, Bool, true, false, cond, List, ◌∷◌, Option, Some, None, refl}
use Rattle.std.proofs.lemmas.Bool.{and_from}
use Rattle.std.specs.Prelude.{ℤ, pos, negsuc, codes}
use Rattle.lc_sexp.specs.Trees.{Tree, Trees, none, ◌▸◌, item_count, item_count_of_all}
use Rattle.lc_reading.proofs.Fine.{IfFine, if_fine_unit, both_fine, ended_fine, two_fine, behind_fine, of_fine}
use Rattle.lc_reading.specs.Files.{Says}
use Rattle.lc_reading.specs.Readings.{Reading, fine, flawed, wrong, both}
use Rattle.lc_reading.specs.declared.flaw.Flaw.{Flaw}
use Rattle.lc_reading.specs.declared.pass.Pass.TheVariants.{Shape}
use Rattle.lc_text.specs.Names.{Names}
use Rattle.lc_text.specs.Terms.{number_reading}
use Rattle.lc_proof_text.specs.Files.{only}
use Rattle.lc_proof_text.specs.Proofs.{proof_reading}
use Rattle.lc_outline.specs.Development.{Development}
use Rattle.lc_cert.specs.Certificates.{Entry, is_above, is_rising}
use Rattle.lc_outline.specs.ColumnNames.{column_names}
use Rattle.lc_cert.specs.ColumnNames.{names_with}
use Rattle.lc_cert.specs.Readings.{rising_reading, place_reading, entry, parts_reading, entry_reading, last_behind, entries_reading, name_due, named_reading, form_reading, certificate_reading}

above_kept : (last : Option ℕ) (n k : ℕ) (b : Bool) → is_above last k ≡ b → IfFine (cond b (fine k) (wrong Shape n)) (λ j. is_above last j ≡ true)
above_kept last n k true e = e
above_kept last n k false e = tt

number_above : (last : Option ℕ) (n : ℕ) (r : Reading ℤ) → IfFine (rising_reading last n r) (λ k. is_above last k ≡ true)
number_above last n (fine (pos k)) = above_kept last n k (is_above last k) refl
number_above last n (fine (negsuc k)) = tt
number_above last n (flawed f) = tt

parts_above : (names : Names) (last : Option ℕ) (n m : ℕ) (ts : Trees) → IfFine (parts_reading names last n m ts) (λ e. is_above last e.number ≡ true)
parts_above names last n m none = tt
parts_above names last n m (t ▸ none) = tt
parts_above names last n m (t ▸ u ▸ ts) =
    two_fine (λ k. is_above last k ≡ true) (λ p. Unit {0}) (λ e. is_above last e.number ≡ true) entry m t u ts (place_reading last m t) (proof_reading names (m + item_count t) u)
    (number_above last m (number_reading m t)) (if_fine_unit (proof_reading names (m + item_count t) u)) (λ k p h g. h)

entry_above : (names : Names) (last : Option ℕ) (n : ℕ) (t : Tree) → IfFine (entry_reading names last n t) (λ e. is_above last e.number ≡ true)
entry_above names last n t = behind_fine (λ e. is_above last e.number ≡ true) (codes "proof") (parts_reading names last) n t (λ m ts few. parts_above names last n m ts)

-- one entry before others
one_rises : (last : Option ℕ) (e : Entry) (r : Reading (List Entry)) → is_above last e.number ≡ true → IfFine r (λ es. is_rising (Some e.number) es ≡ true)
    → IfFine (both (λ (e : Entry) es. e ∷ es) (fine e) r) (λ es. is_rising last es ≡ true)
one_rises last e (fine es) h g = and_from (is_above last e.number) (is_rising (Some e.number) es) h g
one_rises last e (flawed f) h g = tt

flaw_rises : (last : Option ℕ) (f : Flaw) (r : Reading (List Entry)) → IfFine (both (λ (e : Entry) es. e ∷ es) (flawed f) r) (λ es. is_rising last es ≡ true)
flaw_rises last f (fine es) = tt
flaw_rises last f (flawed g) = tt

more_rise : (last : Option ℕ) (r : Reading Entry) (rest : Option ℕ → Reading (List Entry)) → IfFine r (λ e. is_above last e.number ≡ true)
    → ((l : Option ℕ) → IfFine (rest l) (λ es. is_rising l es ≡ true)) → IfFine (both (λ e es. e ∷ es) r (rest (last_behind last r))) (λ es. is_rising last es ≡ true)
more_rise last (fine e) rest h g = one_rises last e (rest (Some e.number)) h (g (Some e.number))
more_rise last (flawed f) rest h g = flaw_rises last f (rest last)

pub entries_rise : (names : Names) (last : Option ℕ) (m : ℕ) (ts : Trees) → IfFine (entries_reading names last m ts) (λ es. is_rising last es ≡ true)
entries_rise names last m none = refl
entries_rise names last m (t ▸ ts) =
    more_rise last (entry_reading names last m t) (λ l. entries_reading names l (m + item_count t) ts) (entry_above names last m t) (λ l. entries_rise names l (m + item_count t) ts)

named_rise : (columns : List (List ℕ)) (name : List ℕ) (n m : ℕ) (ts : Trees) → IfFine (named_reading columns name n m ts) (λ es. is_rising None es ≡ true)
named_rise columns name n m none = tt
named_rise columns name n m (t ▸ ts) =
    both_fine (λ u. Unit {0}) (λ es. is_rising None es ≡ true) (λ es. is_rising None es ≡ true) (λ u es. es) (name_due name m t) (entries_reading (names_with columns) None (m + item_count t) ts)
    (if_fine_unit (name_due name m t)) (entries_rise (names_with columns) None (m + item_count t) ts) (λ u es a h. h)

form_rises : (columns : List (List ℕ)) (name : List ℕ) (n : ℕ) (t : Tree) → IfFine (form_reading columns name n t) (λ es. is_rising None es ≡ true)
form_rises columns name n t = behind_fine (λ es. is_rising None es ≡ true) (codes "certificate") (named_reading columns name) n t (λ m ts few. named_rise columns name n m ts)

pub file_rises : (columns : List (List ℕ)) (name : List ℕ) (n m : ℕ) (ts : Trees) → IfFine (only (form_reading columns name) n m ts) (λ es. is_rising None es ≡ true)
file_rises columns name n m none = tt
file_rises columns name n m (t ▸ ts) = ended_fine (λ es. is_rising None es ≡ true) (m + item_count t) ts (form_reading columns name m t) (form_rises columns name m t)

pub certificate_rises : (D : Development) (bytes : List ℕ) (es : List Entry) → Says (certificate_reading D) bytes es → is_rising None es ≡ true
certificate_rises D bytes es (ts, reads, says) =
    of_fine (λ es. is_rising None es ≡ true) (certificate_reading D ts) es (file_rises (column_names D) D.object.name (item_count_of_all ts) 0 ts) says
