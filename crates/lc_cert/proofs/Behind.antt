-- Entries that are read one after another.
use Rattle.std.proofs.Common.{◌≡◌, ℕ, ◌+◌, List, ◌∷◌, Option, None, Ok, Err, refl, sym, ap, ◌∙◌, subst}
use Rattle.std.specs.Prelude.{Result, Vec}
use Rattle.std.specs.declared.alloc.Global.{Global}
use Rattle.lc_sexp.specs.Trees.{Tree, Trees, ◌▸◌, item_count, item_count_of_all}
use Rattle.lc_sexp.specs.Shown.{rest_of, number_of, owner_of}
use Rattle.lc_sexp.specs.declared.cursor.Cursor.{Cursor}
use Rattle.lc_reading.proofs.Combined.{both_read}
use Rattle.lc_reading.proofs.SoFar.{IsSoFar, so_far_push}
use Rattle.lc_reading.specs.Parts.{IsBehind, IsOne, tree_of, place_of}
use Rattle.lc_reading.specs.Readings.{Reading, both}
use Rattle.lc_reading.specs.Results.{IsReading, IsPushed, both_results}
use Rattle.lc_reading.specs.declared.flaw.ReadFault.{ReadFault}
use Rattle.lc_reading.specs.declared.flaw.ReadFault.TheVariants.{Flawed, OutOfMemory}
use Rattle.lc_reading.specs.declared.part.Part.{Part}
use Rattle.lc_text.specs.Names.{Names}
use Rattle.lc_proof_text.specs.Files.{only}
use Rattle.lc_outline.specs.Development.{Development}
use Rattle.lc_cert.specs.Answers.{last_told}
use Rattle.lc_cert.specs.Certificates as S
use Rattle.lc_outline.specs.ColumnNames.{column_names}
use Rattle.lc_cert.specs.ColumnNames.{names_with}
use Rattle.lc_cert.specs.EntryView.{entry_of, entries_of}
use Rattle.lc_cert.specs.Readings.{entry_reading, last_behind, entries_reading, name_due, named_reading, form_reading, certificate_reading}
use Rattle.lc_cert.specs.declared.entry.Entry.{Entry}

-- after the item i, the others are left, from m on
one_more_at : (names : Names) (last : Option ℕ) (n i m : ℕ) (t : Tree) (ts us : Trees) → i ≡ n → us ≡ t ▸ ts → m ≡ n + item_count t
    → entries_reading names last n us ≡ both (λ e es. e ∷ es) (entry_reading names last i t) (entries_reading names (last_behind last (entry_reading names last i t)) m ts)
one_more_at names last n i m t ts us at rest number = rw (rest, at, number) refl

-- one entry after those that are read
pushed_at : (names : Names) (last after : Option ℕ) (whole : Reading (List S.Entry)) (r : Reading S.Entry) (m : ℕ) (ts : Trees)
    (values c : Result (Vec Entry Global) ReadFault) (a : Result Entry ReadFault)
    → IsReading entry_of r a → after ≡ last_told last a → IsPushed values a c
    → IsSoFar entry_of (λ e es. e ∷ es) whole (both (λ e es. e ∷ es) r (entries_reading names (last_behind last r) m ts)) values
    → IsSoFar entry_of (λ e es. e ∷ es) whole (entries_reading names after m ts) c
pushed_at names last after whole r m ts values c (Ok e) read is p h =
    let same : last_behind last r ≡ after = ap (last_behind last) read ∙ sym is in
    so_far_push entry_of (λ e es. e ∷ es) whole r (entries_reading names after m ts) values (Ok e) c
    (subst (λ l. IsSoFar entry_of (λ e es. e ∷ es) whole (both (λ e es. e ∷ es) r (entries_reading names l m ts)) values) same h) read p
pushed_at names last after whole r m ts values c (Err (Flawed f)) read is p h =
    let same : last_behind last r ≡ after = ap (last_behind last) read ∙ sym is in
    so_far_push entry_of (λ e es. e ∷ es) whole r (entries_reading names after m ts) values (Err (Flawed f)) c
    (subst (λ l. IsSoFar entry_of (λ e es. e ∷ es) whole (both (λ e es. e ∷ es) r (entries_reading names l m ts)) values) same h) read p
pushed_at names last after whole r m ts (Ok es) c (Err OutOfMemory) read is p h = subst (IsSoFar entry_of (λ e es. e ∷ es) whole (entries_reading names after m ts)) (sym p) tt
pushed_at names last after whole r m ts (Err (Flawed f)) c (Err OutOfMemory) read is p h = subst (IsSoFar entry_of (λ e es. e ∷ es) whole (entries_reading names after m ts)) (sym p) tt
pushed_at names last after whole r m ts (Err OutOfMemory) c (Err OutOfMemory) read is p h = subst (IsSoFar entry_of (λ e es. e ∷ es) whole (entries_reading names after m ts)) (sym p) tt

pub entry_pushed : (names : Names) (last after : Option ℕ) (whole : Reading (List S.Entry)) (l behind : Cursor) (part : Part)
    (values c : Result (Vec Entry Global) ReadFault) (a : Result Entry ReadFault)
    → place_of part ≡ number_of l → IsBehind l (tree_of part) behind
    → IsReading entry_of (entry_reading names last (place_of part) (tree_of part)) a → after ≡ last_told last a → IsPushed values a c
    → IsSoFar entry_of (λ e es. e ∷ es) whole (entries_reading names last (number_of l) (rest_of l)) values
    → IsSoFar entry_of (λ e es. e ∷ es) whole (entries_reading names after (number_of behind) (rest_of behind)) c
entry_pushed names last after whole l behind part values c a at next read is p h =
    pushed_at names last after whole (entry_reading names last (place_of part) (tree_of part)) (number_of behind) (rest_of behind) values c a read is p
    (subst (λ r. IsSoFar entry_of (λ e es. e ∷ es) whole r values)
    (one_more_at names last (number_of l) (place_of part) (number_of behind) (tree_of part) (rest_of behind) (rest_of l) at next.rest next.number) h)

-- the name, and the entries after it
named_at : (columns : List (List ℕ)) (name : List ℕ) (n m i k : ℕ) (t : Tree) (ts us : Trees) (a : Result (Unit {0}) ReadFault) (b : Result (Vec Entry Global) ReadFault) (c : Result (Unit {0} × Vec Entry Global) ReadFault)
    → us ≡ t ▸ ts → i ≡ m → k ≡ m + item_count t
    → IsReading (λ (u : Unit {0}). u) (name_due name i t) a → IsReading (λ (es : Vec Entry Global). entries_of es.items) (entries_reading (names_with columns) None k ts) b → c ≡ both_results a b
    → IsReading (λ (p : Unit {0} × Vec Entry Global). entries_of p.1.items) (named_reading columns name n m us) c
named_at columns name n m i k t ts us a b c rest at number due read together =
    rw (together, rest)
    (both_read (λ (u : Unit {0}). u) (λ (es : Vec Entry Global). entries_of es.items) (λ u es. es) _ _ a b
    (subst (λ j. IsReading (λ (u : Unit {0}). u) (name_due name j t) a) at due)
    (subst (λ j. IsReading (λ (es : Vec Entry Global). entries_of es.items) (entries_reading (names_with columns) None j ts) b) number read))

pub named_read : (columns : List (List ℕ)) (name : List ℕ) (l rest : Cursor) (first : Part) (a : Result (Unit {0}) ReadFault) (b : Result (Vec Entry Global) ReadFault) (c : Result (Unit {0} × Vec Entry Global) ReadFault)
    → IsOne l (Ok (first, rest)) → IsReading (λ (u : Unit {0}). u) (name_due name (place_of first) (tree_of first)) a
    → IsReading (λ (es : Vec Entry Global). entries_of es.items) (entries_reading (names_with columns) None (number_of rest) (rest_of rest)) b → c ≡ both_results a b
    → IsReading (λ (p : Unit {0} × Vec Entry Global). entries_of p.1.items) (named_reading columns name (owner_of l) (number_of l) (rest_of l)) c
named_read columns name l rest first a b c (same, at, behind) due read together =
    named_at columns name (owner_of l) (number_of l) (place_of first) (number_of rest) (tree_of first) (rest_of rest) (rest_of l) a b c same at behind due read together

-- the whole file
pub file_at : (D : Development) (n m : ℕ) (ts us : Trees) (columns : List (List ℕ)) (name : List ℕ) → n ≡ item_count_of_all us → m ≡ 0 → ts ≡ us → columns ≡ column_names D → name ≡ D.object.name
    → only (form_reading columns name) n m ts ≡ certificate_reading D us
file_at D n m ts us columns name owner number rest named object = rw (owner, number, rest, named, object) refl
