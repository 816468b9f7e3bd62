-- What is printed of a certificate reads back.
use Rattle.std.proofs.Common.{◌≡◌, ℕ, ◌+◌, ◌<◌, ◌^◌, true, List, [], ◌∷◌, Option, Some, None, refl, ap, ap₂, ◌∙◌, pos, arith}
use Rattle.std.proofs.lemmas.Bool.{and_parts, lt-ltb, cond-true}
use Rattle.std.specs.Fmt.{decimal}
use Rattle.lc_base.specs.NameText.{is_name}
use Rattle.lc_sexp.specs.Parts.{fits_i64}
use Rattle.lc_sexp.specs.Printed.{HaveAtoms}
use Rattle.lc_sexp.specs.Text.{class_of}
use Rattle.lc_sexp.specs.Trees.{Trees, atom, none, ◌▸◌, item_count}
use Rattle.lc_sexp.proofs.PrintedLemmas.{printed_reads}
use Rattle.lc_reading.specs.Readings.{Reading, fine, wrong, both}
use Rattle.lc_reading.specs.Words.{is}
use Rattle.lc_reading.specs.declared.pass.Pass.TheVariants.{Shape}
use Rattle.lc_term.specs.Lists.{Every}
use Rattle.lc_text.specs.Names.{Names}
use Rattle.lc_text.specs.Spelling.{Spelled}
use Rattle.lc_text.specs.Terms.{fit_reading}
use Rattle.lc_text.proofs.Numerals.{integer_fit-signed}
use Rattle.lc_proof_text.proofs.ProofsBack.{proof_back}
use Rattle.lc_proof_text.specs.ProofTrees.{ProofReadsBack}
use Rattle.lc_outline.specs.Development.{Development}
use Rattle.lc_cert.proofs.Atoms.{name_atom, number_atom}
use Rattle.lc_cert.proofs.ProofAtoms.{proof_atoms}
use Rattle.lc_cert.specs.Certificates.{Entry, is_above, is_rising}
use Rattle.lc_outline.specs.ColumnNames.{column_names}
use Rattle.lc_cert.specs.ColumnNames.{names_with, spelled_with}
use Rattle.lc_cert.specs.Files.{Certifies}
use Rattle.lc_cert.specs.Printed.{entry_tree, entry_trees, certificate_tree, certificate_line, EntryReadsBack, IsPrintable}
use Rattle.lc_cert.specs.Readings.{rising_reading, place_reading, entry, entry_reading, last_behind, entries_reading, certificate_reading}
use Rattle.lc_text.proofs.Printed.{same_refl}

fits_number : (k : ℕ) → k < 2 ^ 63 → fits_i64 (pos k) ≡ true
fits_number k h = lt-ltb k 9223372036854775808 h

-- the number
place_back : (last : Option ℕ) (n k : ℕ) → is_above last k ≡ true → k < 2 ^ 63 → place_reading last n (atom (decimal k)) ≡ fine k
place_back last n k h small =
    ap (λ f. rising_reading last n (fit_reading n f)) (integer_fit-signed (pos k) (fits_number k small)) ∙ cond-true (is_above last k) (fine k) (wrong Shape n) h

-- one entry
entry_back : (names : Names) (by : Spelled) (last : Option ℕ) (n : ℕ) (e : Entry) → is_above last e.number ≡ true → e.number < 2 ^ 63 → ProofReadsBack names by e.proof
    → entry_reading names last n (entry_tree by e) ≡ fine e
entry_back names by last n e h small r = ap₂ (both entry) (place_back last (n + 2) e.number h small) (proof_back names by (n + 2 + 1) e.proof r)

one_before : (names : Names) (last : Option ℕ) (m : ℕ) (ts : Trees) (e : Entry) (es : List Entry) (r : Reading Entry) → r ≡ fine e → entries_reading names (Some e.number) m ts ≡ fine es
    → both (λ e es. e ∷ es) r (entries_reading names (last_behind last r) m ts) ≡ fine (e ∷ es)
one_before names last m ts e es r is h = ap (λ q. both (λ e es. e ∷ es) q (entries_reading names (last_behind last q) m ts)) is ∙ ap (both (λ e es. e ∷ es) (fine e)) h

entries_back : (D : Development) (last : Option ℕ) (m : ℕ) (es : List Entry) → is_rising last es ≡ true → Every (EntryReadsBack D) es
    → entries_reading (names_with (column_names D)) last m (entry_trees (spelled_with (column_names D)) es) ≡ fine es
entries_back D last m [] h r = refl
entries_back D last m (e ∷ es) h r =
    let names = names_with (column_names D) in
    let by = spelled_with (column_names D) in
    let p = and_parts (is_above last e.number) (is_rising (Some e.number) es) h in
    one_before names last (m + item_count (entry_tree by e)) (entry_trees by es) e es (entry_reading names last m (entry_tree by e))
    (entry_back names by last m e p.0 r.0.0 r.0.1) (entries_back D (Some e.number) (m + item_count (entry_tree by e)) es p.1 r.1)

file_back : (D : Development) (es : List Entry) → is_rising None es ≡ true → Every (EntryReadsBack D) es → certificate_reading D (certificate_tree D es ▸ none) ≡ fine es
file_back D es h r = ap₂ (both (λ (u : Unit {0}) (es : List Entry). es)) (cond-true (is D.object.name D.object.name) (fine tt) (wrong Shape 2) (same_refl D.object.name)) (entries_back D None _ es h r)

entries_atoms : (D : Development) (es : List Entry) → Every (EntryReadsBack D) es → HaveAtoms (entry_trees (spelled_with (column_names D)) es)
unfolding class_of
entries_atoms D [] r = tt
entries_atoms D (e ∷ es) r =
    let by = spelled_with (column_names D) in
    ((refl, (number_atom (pos e.number) (fits_number e.number r.0.0), (proof_atoms (names_with (column_names D)) by e.proof r.0.1, tt))), entries_atoms D es r.1)

tree_atoms : (D : Development) (es : List Entry) → is_name D.object.name ≡ true → Every (EntryReadsBack D) es → HaveAtoms (certificate_tree D es ▸ none)
unfolding class_of
tree_atoms D es name r = ((refl, (name_atom D.object.name name, entries_atoms D es r)), tt)

pub certificate_back : (D : Development) (es : List Entry) → is_rising None es ≡ true → Every (EntryReadsBack D) es → IsPrintable D es → Certifies D (certificate_line D es) es
certificate_back D es rising r limits =
    (certificate_tree D es ▸ none, printed_reads (certificate_tree D es ▸ none) (tree_atoms D es limits.name r) (omega (arith, limits.nesting)) limits.size, file_back D es rising r)
