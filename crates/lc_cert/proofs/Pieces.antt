-- What is returned for a certificate that is read piece by piece.
use Rattle.std.proofs.Common.{◌≡◌, ℕ, ◌+◌, inl, false, List, [], ◌++◌, length, Option, Some, None, refl, sym, ap, ◌∙◌, subst, append_assoc}
use Rattle.std.specs.Prelude.{Result, Ok, Err, IfSome, IfNone}
use Rattle.lc_base.specs.declared.refusal.Fault.{Fault}
use Rattle.lc_base.specs.declared.refusal.Fault.TheVariants.{Refused, OutOfMemory}
use Rattle.lc_sexp.proofs.Whole.{whole_parts, taken_first}
use Rattle.lc_sexp.specs.Answers.{IsAnswerWithout}
use Rattle.lc_sexp.specs.Begins.{AreAllParts}
use Rattle.lc_sexp.specs.Reads.{ReadsAs}
use Rattle.lc_sexp.specs.TreeCode.{joined_rows}
use Rattle.lc_sexp.specs.Trees.{Trees, atom, list, none, ◌▸◌, item_count_of_all}
use Rattle.lc_sexp.specs.Takes.{parts_of, without}
use Rattle.lc_sexp.specs.declared.part.Part.{Part}
use Rattle.lc_reading.proofs.Files.{says_one}
use Rattle.lc_reading.specs.Readings.{Reading, fine, flawed, wrong, both, ended}
use Rattle.lc_reading.specs.Results.{IsReading}
use Rattle.lc_reading.specs.declared.flaw.Flaw.{Flaw}
use Rattle.lc_reading.specs.declared.flaw.ReadFault.{ReadFault}
use Rattle.lc_reading.specs.declared.pass.Pass.TheVariants.{Shape}
use Rattle.lc_outline.specs.Development.{Development}
use Rattle.lc_cert.proofs.FormSteps.{in_first_joined, first_of_list}
use Rattle.lc_cert.proofs.Refusals.{text_refused, trees_refused, not_read_and_refused, refused_once}
use Rattle.lc_cert.specs.Answers.{text_told, trees_told}
use Rattle.lc_cert.specs.CertificateView.{entries_in}
use Rattle.lc_cert.specs.Certificates.{Entry, HaveFewSteps}
use Rattle.lc_outline.specs.ColumnNames.{column_names}
use Rattle.lc_cert.specs.Files.{Certifies, IsAnswerTo}
use Rattle.lc_cert.specs.Pieces.{read_so_far, due_reading, waiting_in, in_first, waiting, IsForm, IsUnderWay, IsAfterTaking, IsAnswerOf, AreSame}
use Rattle.lc_cert.specs.Readings.{form_reading, file_reading, certificate_reading}
use Rattle.lc_cert.specs.declared.cert_reader.CertReader.{CertReader}
use Rattle.lc_cert.specs.declared.certificate.Certificate.{Certificate}
use Rattle.lc_cert.specs.declared.form_reader.FormReader.{FormReader}

-- the proofs that were taken have no more steps than a file has bytes
pub few_taken : (D : Development) (fed : List ℕ) (taken : List Entry) (r : CertReader) → IsAfterTaking D fed taken r → HaveFewSteps taken
few_taken D fed taken r h = h.form.few_taken

-- nothing has ended in no bytes
pub nothing_ended : AreAllParts [] []
nothing_ended = record {
  read = [];
  unread = [];
  joined = refl;
  stops = inl refl;
  forms = none;
  rows = [];
  begins = record { word = []; in_comment = false; letters = refl; tokens = λ rest. refl };
  all = refl;
}

pub if_some : {T : Type 0} (o : Option T) (P Q : T → Type 0) → ((x : T) → P x → Q x) → IfSome o P → IfSome o Q
if_some None P Q f h = tt
if_some (Some x) P Q f h = f x h

pub if_none : {T : Type 0} (o : Option T) (P Q : Type 0) → (P → Q) → IfNone o P → IfNone o Q
if_none None P Q f h = f h
if_none (Some x) P Q f h = tt

-- entries were taken of the form
pub under_way_with : (columns : List (List ℕ)) (name fed : List ℕ) (taken others : List Entry) (r : CertReader) (f : FormReader) → ((parts : List Part) → IsForm columns name parts taken r.form → IsForm columns name parts others f)
    → IsUnderWay columns name fed taken r → IsUnderWay columns name fed others (record r { form = f })
under_way_with columns name fed taken others r f g h = record { parts = h.parts; all = h.all; read = h.read; form = g h.parts h.form }

-- the names known otherwise
pub form_named : (columns others : List (List ℕ)) (name other : List ℕ) (parts : List Part) (taken : List Entry) (f : FormReader) → columns ≡ others → name ≡ other → IsForm others other parts taken f → IsForm columns name parts taken f
form_named columns others name other parts taken f c n h = subst (λ x. IsForm columns x parts taken f) (sym n) (subst (λ x. IsForm x other parts taken f) (sym c) h)

pub under_way_named : (columns others : List (List ℕ)) (name other fed : List ℕ) (taken : List Entry) (r : CertReader) → columns ≡ others → name ≡ other → IsUnderWay columns name fed taken r → IsUnderWay others other fed taken r
under_way_named columns others name other fed taken r c n h = subst (λ x. IsUnderWay others x fed taken r) n (subst (λ x. IsUnderWay x name fed taken r) c h)

-- a refusal is the same in pieces
refused_alike : (D : Development) (bytes : List ℕ) (es : List Entry) (fault : Fault) → IsAnswerTo D bytes (Err fault) → IsAnswerOf D bytes es (Err fault)
refused_alike D bytes es (Refused refusal) h = h
refused_alike D bytes es OutOfMemory h = h

-- a fault of the text
pub text_answer : (D : Development) (fed : List ℕ) (parts : List Part) (es : List Entry) (fault : Fault) → IsAnswerWithout fed parts (Err fault) → IsAnswerOf D fed es (Err (text_told fault))
text_answer D fed parts es fault h = refused_alike D fed es (text_told fault) (text_refused D fed fault h)

-- what is reported about the file
abbrev pub answered : Result (Unit {0}) ReadFault → Result (Unit {0}) Fault
answered (Ok u) = Ok u
answered (Err fault) = Err (trees_told fault)

of_trees : (D : Development) (bytes : List ℕ) (es : List Entry) (ts : Trees) (told : Result (Unit {0}) ReadFault) → ReadsAs bytes ts → IsReading (λ (u : Unit {0}). es) (certificate_reading D ts) told
    → IsAnswerOf D bytes es (answered told)
of_trees D bytes es ts (Ok u) reads h = (ts, reads, h)
of_trees D bytes es ts (Err fault) reads h = refused_alike D bytes es (trees_told fault) (trees_refused D bytes ts fault reads h)

-- the trees without the parts that were taken
pub trees_answer : (D : Development) (fed : List ℕ) (taken : List Entry) (r : CertReader) (forms : Trees) (told : Result (Unit {0}) ReadFault) (h : IsAfterTaking D fed taken r) → IsAnswerWithout fed h.parts (Ok forms)
    → ((ts : Trees) (n : ℕ) → IsForm (column_names D) D.object.name (parts_of ts) taken r.form → forms ≡ without n ts → IsReading (λ (u : Unit {0}). taken ++ waiting r) (certificate_reading D ts) told)
    → IsAnswerOf D fed (taken ++ waiting r) (answered told)
trees_answer D fed taken r forms told h (ts, reads, first, rest) read =
    let all : h.parts ≡ parts_of ts = whole_parts fed ts h.parts reads h.all in
    of_trees D fed (taken ++ waiting r) ts told reads (read ts (length h.parts) (subst (λ ps. IsForm (column_names D) D.object.name ps taken r.form) all h.form) rest)

-- what is read begins with what was read so far
read_first : (flaw : Option Flaw) (es fs : List Entry) (r : Reading (List Entry)) → both (λ es fs. es ++ fs) (read_so_far flaw es) r ≡ fine fs → (others : List Entry) × (fs ≡ es ++ others)
read_first None es fs (fine gs) e = (gs, cc)
read_first None es fs (flawed g) e = absurd (cc)
read_first (Some f) es fs (fine gs) e = absurd (cc)
read_first (Some f) es fs (flawed g) e = absurd (cc)

ended_is : {X : Type 0} (m : ℕ) (ts : Trees) (r : Reading X) (x : X) → ended m ts r ≡ fine x → r ≡ fine x
ended_is m none r x e = e
ended_is m (t ▸ ts) (fine y) x e = absurd (cc)
ended_is m (t ▸ ts) (flawed f) x e = absurd (cc)

wrong_is_not : {X : Type 0} (x : X) → wrong Shape 0 ≡ fine x → ⊥
wrong_is_not x e = cc

form_first : (columns : List (List ℕ)) (name : List ℕ) (ts : Trees) (parts others : List Part) (taken es : List Entry) (f : FormReader) → parts_of ts ≡ parts ++ others → IsForm columns name parts taken f
    → file_reading columns name ts ≡ fine es → (others : List Entry) × (es ≡ taken ++ others)
form_first columns name none parts others taken es f p h e = absurd (wrong_is_not es e)
form_first columns name (atom w ▸ ts) parts others taken es f p h e = absurd (wrong_is_not es (ended_is (0 + 1) ts (wrong Shape 0) es e))
form_first columns name (list vs ▸ ts) parts others taken es f p h e =
    let items : joined_rows (in_first parts) (in_first others) ≡ vs = sym (in_first_joined parts others) ∙ ap in_first (sym p) ∙ first_of_list vs ts in
    let read = h.reads (in_first others) ∙ ap (λ us. form_reading columns name 0 (list us)) items ∙ ended_is (0 + (item_count_of_all vs + 1)) ts (form_reading columns name 0 (list vs)) es e in
    let found = read_first f.flaw (taken ++ waiting_in f) es (due_reading columns name f.due f.number (in_first others)) read in
    (waiting_in f ++ found.0, found.1 ∙ append_assoc taken (waiting_in f) found.0)

-- the proofs that were taken are the first of the whole
pub entries_first : (D : Development) (fed more : List ℕ) (taken es : List Entry) (r : CertReader) → IsAfterTaking D fed taken r → Certifies D (fed ++ more) es → (others : List Entry) × (es ≡ taken ++ others)
entries_first D fed more taken es r h (ts, reads, says) =
    let parts = taken_first fed more h.parts r.reader ts h.read reads in
    form_first (column_names D) D.object.name ts h.parts parts.0 taken es r.form parts.1 h.form says

-- in pieces and whole the same is returned
pub pieces_same : (D : Development) (bytes : List ℕ) (es : List Entry) (whole : Result Certificate Fault) (told : Result (Unit {0}) Fault) → IsAnswerTo D bytes whole → IsAnswerOf D bytes es told → AreSame es whole told
pieces_same D bytes es (Ok c) (Ok u) h k = says_one (certificate_reading D) bytes (entries_in c) es h k
pieces_same D bytes es (Ok c) (Err (Refused s)) h k = not_read_and_refused D bytes (entries_in c) s h k
pieces_same D bytes es (Ok c) (Err OutOfMemory) h k = tt
pieces_same D bytes es (Err (Refused r)) (Ok u) h k = not_read_and_refused D bytes es r k h
pieces_same D bytes es (Err (Refused r)) (Err (Refused s)) h k = refused_once D bytes r s h k
pieces_same D bytes es (Err (Refused r)) (Err OutOfMemory) h k = tt
pieces_same D bytes es (Err OutOfMemory) told h k = tt
