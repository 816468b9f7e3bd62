-- What a text reads as where a certificate is expected.
use Rattle.std.specs.Prelude.{ℕ, ℤ, pos, negsuc, ◌+◌, codes, if◌then◌else◌, List, [], ◌∷◌, Option, Some, None}
use Rattle.lc_sexp.specs.Trees.{Tree, Trees, atom, list, none, ◌▸◌, item_count, item_count_of_all}
use Rattle.lc_kernel.specs.Proofs.{Proof}
use Rattle.lc_reading.specs.Readings.{Reading, fine, flawed, wrong, both, two_of, behind_reading}
use Rattle.lc_reading.specs.Words.{is}
use Rattle.lc_reading.specs.declared.pass.Pass.TheVariants.{Shape}
use Rattle.lc_text.specs.Names.{Names}
use Rattle.lc_text.specs.Terms.{number_reading}
use Rattle.lc_proof_text.specs.Files.{only}
use Rattle.lc_proof_text.specs.Proofs.{proof_reading}
use Rattle.lc_outline.specs.Development.{Development}
use Rattle.lc_cert.specs.Certificates.{Entry, is_above}
use Rattle.lc_outline.specs.ColumnNames.{column_names}
use Rattle.lc_cert.specs.ColumnNames.{names_with}

-- the NUMBER at the item n, from 0 on and above the last one
abbrev pub rising_reading : Option ℕ → ℕ → Reading ℤ → Reading ℕ
rising_reading last n (fine (pos k)) = if is_above last k then fine k else wrong Shape n
rising_reading last n (fine (negsuc k)) = wrong Shape n
rising_reading last n (flawed f) = flawed f

-- K
abbrev pub place_reading : Option ℕ → ℕ → Tree → Reading ℕ
place_reading last n t = rising_reading last n (number_reading n t)

abbrev pub entry : ℕ → Proof → Entry
entry k p = record { number = k; proof = p }

-- K P: the parts of the list n, numbered from m on
abbrev pub parts_reading : Names → Option ℕ → ℕ → ℕ → Trees → Reading Entry
parts_reading names last n m (t ▸ u ▸ ts) = two_of entry m t u ts (place_reading last m t) (proof_reading names (m + item_count t) u)
parts_reading names last n m _ = wrong Shape n

-- (proof K P): the item n
abbrev pub entry_reading : Names → Option ℕ → ℕ → Tree → Reading Entry
entry_reading names last n t = behind_reading (codes "proof") (parts_reading names last) n t

-- the last number after an item. If the item is wrong, that is reported before everything that is wrong after it
abbrev pub last_behind : Option ℕ → Reading Entry → Option ℕ
last_behind last (fine e) = Some e.number
last_behind last (flawed f) = last

-- (proof K P)*: the items from m on
abbrev pub entries_reading : Names → Option ℕ → ℕ → Trees → Reading (List Entry)
entries_reading names last m none = fine []
entries_reading names last m (t ▸ ts) =
    both (λ e es. e ∷ es) (entry_reading names last m t) (entries_reading names (last_behind last (entry_reading names last m t)) (m + item_count t) ts)

-- the item n, where this name is expected
abbrev pub name_due : List ℕ → ℕ → Tree → Reading (Unit {0})
name_due name n (atom w) = if is w name then fine tt else wrong Shape n
name_due name n (list ts) = wrong Shape n

-- NAME (proof K P)*: the parts of the list n, numbered from m on
abbrev pub named_reading : List (List ℕ) → List ℕ → ℕ → ℕ → Trees → Reading (List Entry)
named_reading columns name n m none = wrong Shape n
named_reading columns name n m (t ▸ ts) = both (λ u es. es) (name_due name m t) (entries_reading (names_with columns) None (m + item_count t) ts)

-- (certificate NAME (proof K P)*): the item n
abbrev pub form_reading : List (List ℕ) → List ℕ → ℕ → Tree → Reading (List Entry)
form_reading columns name n t = behind_reading (codes "certificate") (named_reading columns name) n t

-- the form of the file, and no other. A missing one is reported at the number of items
abbrev pub file_reading : List (List ℕ) → List ℕ → Trees → Reading (List Entry)
file_reading columns name ts = only (form_reading columns name) (item_count_of_all ts) 0 ts

-- a certificate of this development
abbrev pub certificate_reading : Development → Trees → Reading (List Entry)
certificate_reading D ts = file_reading (column_names D) D.object.name ts
