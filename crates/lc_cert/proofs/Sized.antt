-- The proofs of a certificate that is read have no more steps than the file has bytes.
use Rattle.std.proofs.Common.{ℕ, ◌+◌, ◌≤◌, List, ◌∷◌, Option, None, arith}
use Rattle.std.specs.Prelude.{codes}
use Rattle.lc_base.specs.Limits.{file_limit}
use Rattle.lc_sexp.proofs.Items.{items_fit_lem}
use Rattle.lc_sexp.specs.Trees.{Tree, Trees, none, ◌▸◌, item_count, item_count_of_all}
use Rattle.lc_kernel.specs.Proofs.{size}
use Rattle.lc_reading.proofs.Fine.{IfFine, if_fine_unit, if_fine_weaker, both_fine, ended_fine, two_fine, behind_fine, of_fine}
use Rattle.lc_term.specs.Lists.{Every}
use Rattle.lc_term.proofs.Stores.{Every-map}
use Rattle.lc_text.specs.Names.{Names}
use Rattle.lc_proof_text.proofs.Founded.{proof_sized}
use Rattle.lc_proof_text.specs.Files.{only}
use Rattle.lc_proof_text.specs.Proofs.{proof_reading}
use Rattle.lc_outline.specs.Development.{Development}
use Rattle.lc_cert.specs.Certificates.{Entry, HaveFewSteps}
use Rattle.lc_outline.specs.ColumnNames.{column_names}
use Rattle.lc_cert.specs.ColumnNames.{names_with}
use Rattle.lc_cert.specs.Files.{Certifies}
use Rattle.lc_cert.specs.Readings.{place_reading, entry, parts_reading, entry_reading, last_behind, entries_reading, name_due, named_reading, form_reading, certificate_reading}

-- at most n steps
abbrev pub IsSized : ℕ → Entry → Type 0
IsSized n e = size e.proof ≤ n

abbrev AreSized : ℕ → List Entry → Type 0
AreSized n es = Every (IsSized n) es

more_items : (m n : ℕ) (es : List Entry) → m ≤ n → AreSized m es → AreSized n es
more_items m n es le h = Every-map (IsSized m) (IsSized n) es (λ e a. omega (arith, a, le)) h

parts_sized : (names : Names) (last : Option ℕ) (n m : ℕ) (ts : Trees) → IfFine (parts_reading names last n m ts) (IsSized (item_count_of_all ts))
parts_sized names last n m none = tt
parts_sized names last n m (t ▸ none) = tt
parts_sized names last n m (t ▸ u ▸ ts) =
    two_fine (λ k. Unit {0}) (λ p. size p ≤ item_count u) (IsSized (item_count_of_all (t ▸ u ▸ ts))) entry m t u ts (place_reading last m t) (proof_reading names (m + item_count t) u)
    (if_fine_unit (place_reading last m t)) (proof_sized names (m + item_count t) u) (λ k p a b. omega (arith, b))

pub entry_sized : (names : Names) (last : Option ℕ) (n : ℕ) (t : Tree) → IfFine (entry_reading names last n t) (IsSized (item_count t))
entry_sized names last n t =
    behind_fine (IsSized (item_count t)) (codes "proof") (parts_reading names last) n t
    (λ m ts few. if_fine_weaker (IsSized (item_count_of_all ts)) (IsSized (item_count t)) (parts_reading names last n m ts) (λ e a. omega (arith, a, few)) (parts_sized names last n m ts))

entries_sized : (names : Names) (last : Option ℕ) (m : ℕ) (ts : Trees) → IfFine (entries_reading names last m ts) (AreSized (item_count_of_all ts))
entries_sized names last m none = tt
entries_sized names last m (t ▸ ts) =
    let all = item_count_of_all (t ▸ ts) in
    let behind = last_behind last (entry_reading names last m t) in
    both_fine (IsSized (item_count t)) (AreSized (item_count_of_all ts)) (AreSized all) (λ e es. e ∷ es) (entry_reading names last m t) (entries_reading names behind (m + item_count t) ts)
    (entry_sized names last m t) (entries_sized names behind (m + item_count t) ts) (λ e es a b. (omega (arith, a), more_items (item_count_of_all ts) all es (omega arith) b))

named_sized : (columns : List (List ℕ)) (name : List ℕ) (n m : ℕ) (ts : Trees) → IfFine (named_reading columns name n m ts) (AreSized (item_count_of_all ts))
named_sized columns name n m none = tt
named_sized columns name n m (t ▸ ts) =
    let all = item_count_of_all (t ▸ ts) in
    both_fine (λ u. Unit {0}) (AreSized (item_count_of_all ts)) (AreSized all) (λ u es. es) (name_due name m t) (entries_reading (names_with columns) None (m + item_count t) ts)
    (if_fine_unit (name_due name m t)) (entries_sized (names_with columns) None (m + item_count t) ts) (λ u es a h. more_items (item_count_of_all ts) all es (omega arith) h)

form_sized : (columns : List (List ℕ)) (name : List ℕ) (n : ℕ) (t : Tree) → IfFine (form_reading columns name n t) (AreSized (item_count t))
form_sized columns name n t =
    behind_fine (AreSized (item_count t)) (codes "certificate") (named_reading columns name) n t
    (λ m ts few. if_fine_weaker (AreSized (item_count_of_all ts)) (AreSized (item_count t)) (named_reading columns name n m ts) (λ es a. more_items (item_count_of_all ts) (item_count t) es (omega (arith, few)) a) (named_sized columns name n m ts))

file_sized : (columns : List (List ℕ)) (name : List ℕ) (n m : ℕ) (ts : Trees) → IfFine (only (form_reading columns name) n m ts) (AreSized (item_count_of_all ts))
file_sized columns name n m none = tt
file_sized columns name n m (t ▸ ts) =
    let all = item_count_of_all (t ▸ ts) in
    ended_fine (AreSized all) (m + item_count t) ts (form_reading columns name m t)
    (if_fine_weaker (AreSized (item_count t)) (AreSized all) (form_reading columns name m t) (λ es a. more_items (item_count t) all es (omega arith) a) (form_sized columns name m t))

pub certificate_sized : (D : Development) (bytes : List ℕ) (es : List Entry) → Certifies D bytes es → HaveFewSteps es
certificate_sized D bytes es (ts, reads, says) =
    let items = of_fine (AreSized (item_count_of_all ts)) (certificate_reading D ts) es (file_sized (column_names D) D.object.name (item_count_of_all ts) 0 ts) says in
    let room = items_fit_lem bytes ts reads in
    let size = reads.size in
    more_items (item_count_of_all ts) file_limit es (omega (arith, room, size)) items
