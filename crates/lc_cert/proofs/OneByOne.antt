-- Entries of a certificate that are read one by one.
use Rattle.std.proofs.Common.{◌≡◌, ℕ, suc, ◌+◌, ◌-◌, ◌≤◌, true, if◌then◌else◌, codes, List, [], ◌∷◌, ◌++◌, length, take, drop, None, Some, refl, sym, ap, ◌∙◌, subst, arith, append_assoc}
use Rattle.std.proofs.lemmas.List.{take-append-drop, drop-drop}
use Rattle.lc_base.specs.Limits.{file_limit}
use Rattle.lc_sexp.proofs.Cutting.{pieces_read}
use Rattle.lc_sexp.specs.CutFiles.{AreJoined, BeginsOpen}
use Rattle.lc_sexp.specs.Reads.{ReadsAs}
use Rattle.lc_sexp.specs.Trees.{Tree, Trees, atom, list, none, ◌▸◌, item_count}
use Rattle.lc_reading.specs.Readings.{fine, wrong, both}
use Rattle.lc_reading.specs.Words.{is}
use Rattle.lc_reading.specs.declared.pass.Pass.TheVariants.{Shape}
use Rattle.lc_text.specs.Names.{Names}
use Rattle.lc_outline.specs.Development.{Development}
use Rattle.lc_cert.specs.Certificates.{Entry}
use Rattle.lc_outline.specs.ColumnNames.{column_names}
use Rattle.lc_cert.specs.ColumnNames.{names_with}
use Rattle.lc_cert.specs.OneByOne.{number_before, piece_at, AreReadAlone, ReadAloneIsReadWhole}
use Rattle.lc_cert.specs.Readings.{entry_reading, entries_reading, last_behind, named_reading, certificate_reading}

-- an entry that reads fine, before others that do
entry_first : (names : Names) (k m : ℕ) (e : Entry) (es : List Entry) (t : Tree) (ts : Trees) → entry_reading names (number_before k) m t ≡ fine e → e.number ≡ k
    → entries_reading names (number_before (suc k)) (m + item_count t) ts ≡ fine es → entries_reading names (number_before k) m (t ▸ ts) ≡ fine (e ∷ es)
entry_first names k m e es t ts reads number rest =
    ap (λ r. both (λ x xs. x ∷ xs) r (entries_reading names (last_behind (number_before k) r) (m + item_count t) ts)) reads
    ∙ ap (λ n. both (λ x xs. x ∷ xs) (fine e) (entries_reading names (Some n) (m + item_count t) ts)) number
    ∙ ap (λ r. both (λ x xs. x ∷ xs) (fine e) r) rest

-- the text from a place on is its piece, and the text from the next place on
piece_first : (file : List ℕ) (at : ℕ → ℕ) (k : ℕ) → at k ≤ at (suc k) → drop (at k) file ≡ piece_at file at k ++ drop (at (suc k)) file
piece_first file at k order =
    let e : at k + (at (suc k) - at k) ≡ at (suc k) = omega (arith, order) in
    sym (take-append-drop (at (suc k) - at k) (drop (at k) file))
    ∙ ap (λ x. piece_at file at k ++ x) (drop-drop (at (suc k) - at k) (at k) file ∙ ap (λ i. drop i file) e)

-- The file from the k-th place up to the one after the entries is pieces, which read as these entries.
record AreGathered (names : Names) (file : List ℕ) (at items : ℕ → ℕ) (k : ℕ) (es : List Entry) : Type 0 where
  body : List ℕ
  trees : Trees
  text : drop (at k) file ≡ body ++ drop (at (length es + k)) file
  joined : AreJoined body trees
  read : entries_reading names (number_before k) (items k) trees ≡ fine es

gathered : (names : Names) (file : List ℕ) (at items : ℕ → ℕ) (k : ℕ) (es : List Entry) → AreReadAlone names file at items k es → AreGathered names file at items k es
gathered names file at items k [] h =
    let here : k ≡ length {A = Entry} [] + k = omega arith in
    record { body = []; trees = none; text = ap (λ i. drop (at i) file) here; joined = refl; read = refl }
gathered names file at items k (e ∷ es) h =
    let rest = gathered names file at items (suc k) es h.1 in
    let end : length es + suc k ≡ length (e ∷ es) + k = omega arith in
    record {
      body = piece_at file at k ++ rest.body;
      trees = h.0.tree ▸ rest.trees;
      text = piece_first file at k h.0.order
          ∙ ap (λ x. piece_at file at k ++ x) (rest.text ∙ ap (λ i. rest.body ++ drop (at i) file) end)
          ∙ sym (append_assoc (piece_at file at k) rest.body (drop (at (length (e ∷ es) + k)) file));
      joined = (piece_at file at k, rest.body, refl, h.0.piece, rest.joined);
      read = entry_first names k (items k) e es h.0.tree rest.trees h.0.reads h.0.number
          (subst (λ m. entries_reading names (number_before (suc k)) m rest.trees ≡ fine es) h.0.follows rest.read);
    }

-- what the form reads as, if its word and name are right
form_reads : (D : Development) (word name : List ℕ) (ts : Trees) (es : List Entry) → is word (codes "certificate") ≡ true → is name D.object.name ≡ true
    → entries_reading (names_with (column_names D)) None 3 ts ≡ fine es → certificate_reading D (list (atom word ▸ (atom name ▸ ts)) ▸ none) ≡ fine es
form_reads D word name ts es w n reads =
    ap (λ b. if b then named_reading (column_names D) D.object.name 0 2 (atom name ▸ ts) else wrong Shape 0) w
    ∙ ap (λ b. both (λ (u : Unit {0}) xs. xs) (if b then fine tt else wrong Shape 2) (entries_reading (names_with (column_names D)) None 3 ts)) n
    ∙ ap (λ r. both (λ (u : Unit {0}) xs. xs) (fine tt) r) reads

pub read_alone_is_read_whole : ReadAloneIsReadWhole
read_alone_is_read_whole D file at items es frame first alone =
    let names = names_with (column_names D) in
    let g = gathered names file at items 0 es alone in
    let end : length es + 0 ≡ length es = omega arith in
    let text : drop (at 0) file ≡ g.body ++ drop (at (length es)) file = g.text ∙ ap (λ i. g.body ++ drop (at i) file) end in
    let whole : take (at 0) file ++ (g.body ++ drop (at (length es)) file) ≡ file = ap (λ x. take (at 0) file ++ x) (sym text) ∙ take-append-drop (at 0) file in
    let opens : BeginsOpen (g.body ++ drop (at (length es)) file) = subst BeginsOpen text frame.opens in
    let size : length (take (at 0) file ++ (g.body ++ drop (at (length es)) file)) ≤ file_limit = subst (λ x. length x ≤ file_limit) (sym whole) frame.size in
    let reads = pieces_read (take (at 0) file) g.body (drop (at (length es)) file) (atom frame.word ▸ (atom frame.name ▸ none)) g.trees frame.head opens g.joined frame.tail size in
    let entries : entries_reading names None 3 g.trees ≡ fine es = subst (λ m. entries_reading names None m g.trees ≡ fine es) first g.read in (
      list (atom frame.word ▸ (atom frame.name ▸ g.trees)) ▸ none,
      subst (λ x. ReadsAs x (list (atom frame.word ▸ (atom frame.name ▸ g.trees)) ▸ none)) whole reads,
      form_reads D frame.word frame.name g.trees es frame.is_word frame.is_name entries,
    )
