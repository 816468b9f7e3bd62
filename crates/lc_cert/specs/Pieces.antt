-- Certificates that are read piece by piece.
use Rattle.std.specs.Prelude.{◌≡◌, ℕ, ◌+◌, Bool, false, ◌==◌, if◌then◌else◌, codes, List, [], ◌∷◌, ◌++◌, Option, Some, None, Result, Ok, Err}
use Rattle.lc_base.specs.declared.refusal.Fault.{Fault}
use Rattle.lc_base.specs.declared.refusal.Fault.TheVariants.{Refused, OutOfMemory}
use Rattle.lc_sexp.specs.Trees.{Tree, Trees, atom, list, none, ◌▸◌, item_count, item_count_of_all}
use Rattle.lc_sexp.specs.TreeCode.{joined_rows}
use Rattle.lc_sexp.specs.Begins.{AreAllParts}
use Rattle.lc_sexp.specs.Reading as R
use Rattle.lc_sexp.specs.declared.part.Part.{Part}
use Rattle.lc_reading.specs.Flaws.{at, lesser}
use Rattle.lc_reading.specs.Readings.{Reading, fine, flawed, wrong, both}
use Rattle.lc_reading.specs.Results.{IsReading}
use Rattle.lc_reading.specs.Words.{is}
use Rattle.lc_reading.specs.declared.flaw.Flaw.{Flaw}
use Rattle.lc_reading.specs.declared.flaw.ReadFault.{ReadFault}
use Rattle.lc_reading.specs.declared.flaw.ReadFault.TheVariants.{Flawed, OutOfMemory as Unread}
use Rattle.lc_reading.specs.declared.pass.Pass.TheVariants.{Shape}
use Rattle.lc_outline.specs.Development.{Development}
use Rattle.lc_cert.specs.CertificateView.{entries_in}
use Rattle.lc_cert.specs.Certificates.{Entry, HaveFewSteps}
use Rattle.lc_outline.specs.ColumnNames.{column_names}
use Rattle.lc_cert.specs.ColumnNames.{names_with}
use Rattle.lc_cert.specs.EntryView.{entries_of}
use Rattle.lc_cert.specs.Files.{Certifies, IsFirstRefusal}
use Rattle.lc_cert.specs.Readings.{entries_reading, named_reading, form_reading}
use Rattle.lc_cert.specs.declared.certificate.Certificate.{Certificate}
use Rattle.lc_cert.specs.declared.form_reader.Due.{Due}
use Rattle.lc_cert.specs.declared.form_reader.Due.TheVariants.{Word, Name, Proofs, Nothing}
use Rattle.lc_cert.specs.declared.form_reader.FormReader.{FormReader}
use Rattle.lc_cert.specs.declared.cert_reader.CertReader.{CertReader}

-- the item is this word
abbrev pub is_word : List ℕ → Tree → Bool
is_word word (atom w) = is w word
is_word word (list ts) = false

-- the item that begins the form, from m on, and those after it
abbrev pub word_reading : List (List ℕ) → List ℕ → ℕ → Trees → Reading (List Entry)
word_reading columns name m none = wrong Shape 0
word_reading columns name m (t ▸ ts) = if is_word (codes "certificate") t then named_reading columns name 0 (m + item_count t) ts else wrong Shape 0

-- the items of the form that are to come, from m on, by what is expected
abbrev pub due_reading : List (List ℕ) → List ℕ → Due → ℕ → Trees → Reading (List Entry)
due_reading columns name Word m ts = word_reading columns name m ts
due_reading columns name Name m ts = named_reading columns name 0 m ts
due_reading columns name (Proofs last) m ts = entries_reading (names_with columns) last m ts
due_reading columns name Nothing m ts = fine []

-- these entries are read, unless something is wrong
abbrev pub read_so_far : Option Flaw → List Entry → Reading (List Entry)
read_so_far None es = fine es
read_so_far (Some f) es = flawed f

-- with one flaw more
abbrev pub noted : Option Flaw → Flaw → Option Flaw
noted None g = Some g
noted (Some f) g = Some (lesser f g)

-- with one entry more, unless something is wrong
abbrev pub kept : Option Flaw → List Entry → Entry → List Entry
kept None es e = es ++ (e ∷ [])
kept (Some f) es e = es

-- what is wrong was noted
abbrev pub IsNoted : FormReader → ReadFault → FormReader → Type 0
IsNoted old (Flawed f) new = new ≡ record old { flaw = noted old.flaw f }
IsNoted old Unread new = ⊥

-- the entries that were read and not taken
abbrev pub waiting_in : FormReader → List Entry
waiting_in f = entries_of f.ready.items

-- what the form reads as from which these entries were taken: the items that were read, and those to come, from m on
abbrev pub form_due : List (List ℕ) → List ℕ → List Entry → FormReader → Due → ℕ → Trees → Reading (List Entry)
form_due columns name taken f due m ts = both (λ es fs. es ++ fs) (read_so_far f.flaw (taken ++ waiting_in f)) (due_reading columns name due m ts)

abbrev pub form_from : List (List ℕ) → List ℕ → List Entry → FormReader → ℕ → Trees → Reading (List Entry)
form_from columns name taken f m ts = form_due columns name taken f f.due m ts

-- the items among these parts of a file that are in its first form
abbrev pub in_first : List Part → Trees
in_first [] = none
in_first (p ∷ ps) = if p.form == 0 then (p.sexp ▸ in_first ps) else in_first ps

-- The reader of the form has read these parts of a file, and these entries were taken: whatever comes next, with it they are what the form reads as.
pub record IsForm (columns : List (List ℕ)) (name : List ℕ) (parts : List Part) (taken : List Entry) (f : FormReader) : Type 0 where
  pub number : f.number ≡ 1 + item_count_of_all (in_first parts)
  pub reads : (ts : Trees) → form_from columns name taken f f.number ts ≡ form_reading columns name 0 (list (joined_rows (in_first parts) ts))
  pub few_taken : HaveFewSteps taken
  pub few_waiting : HaveFewSteps (waiting_in f)

-- what is reported about a form that reads so, with these entries: an atom is wrong
abbrev pub IsTold : Reading (List Entry) → List Entry → Tree → Result (Unit {0}) ReadFault → Type 0
IsTold read es (atom w) told = told ≡ Err (Flawed (at Shape 0))
IsTold read es (list ts) told = IsReading (λ (u : Unit {0}). es) read told

-- All parts that have ended in these bytes were read, and these entries were taken.
pub record IsUnderWay (columns : List (List ℕ)) (name : List ℕ) (fed : List ℕ) (taken : List Entry) (r : CertReader) : Type 0 where
  pub parts : List Part
  pub all : AreAllParts fed parts
  pub read : R.IsAfterTaking fed parts r.reader
  pub form : IsForm columns name parts taken r.form

-- the reader of a certificate of this development has been fed these bytes, and these entries were taken of it
abbrev pub IsAfterTaking : Development → List ℕ → List Entry → CertReader → Type 0
IsAfterTaking D fed taken r = IsUnderWay (column_names D) D.object.name fed taken r

-- the entries that may be taken
abbrev pub waiting : CertReader → List Entry
waiting r = waiting_in r.form

-- it is out of memory, so the reader returns nothing else any more
abbrev pub is_spent : CertReader → Bool
is_spent r = r.out_of_memory

-- the answer to the bytes of a certificate with these entries; else its first refusal, or out of memory
abbrev pub IsAnswerOf : Development → List ℕ → List Entry → Result (Unit {0}) Fault → Type 0
IsAnswerOf D bytes es (Ok u) = Certifies D bytes es
IsAnswerOf D bytes es (Err (Refused refusal)) = IsFirstRefusal D bytes refusal
IsAnswerOf D bytes es (Err OutOfMemory) = Unit {0}

-- A certificate that was read whole, and its answer in pieces with these entries, are alike: the same entries, or the same refusal, if memory
-- sufficed.
abbrev pub AreSame : List Entry → Result Certificate Fault → Result (Unit {0}) Fault → Type 0
AreSame es (Ok certificate) (Ok u) = entries_in certificate ≡ es
AreSame es (Ok certificate) (Err (Refused refusal)) = ⊥
AreSame es (Ok certificate) (Err OutOfMemory) = Unit {0}
AreSame es (Err (Refused refusal)) (Ok u) = ⊥
AreSame es (Err (Refused refusal)) (Err (Refused other)) = refusal ≡ other
AreSame es (Err (Refused refusal)) (Err OutOfMemory) = Unit {0}
AreSame es (Err OutOfMemory) told = Unit {0}
