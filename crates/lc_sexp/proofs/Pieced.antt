-- A piece of a file that is read by itself.
use Rattle.std.proofs.Common.{◌≡◌, ℕ, Bool, true, false, ◌==◌, List, [], ◌∷◌, ◌++◌, Option, Some, None, Result, Ok, Err, IfOk, refl, sym, ap, ◌∙◌, subst, arith, append_assoc, append-nil, vec_len}
use Rattle.std.specs.List.{remove}
use Rattle.std.proofs.lemmas.Bool.Decides.{nat_tests}
use Rattle.std.specs.Prelude.{MatchBool}
use Rattle.lc_lemmas.proofs.Booleans.{and_parts}
use Rattle.lc_base.specs.declared.refusal.Fault.TheVariants.{Refused}
use Rattle.lc_base.specs.declared.refusal.Refusal.{Refusal}
use Rattle.lc_base.specs.declared.refusal.Refusal.TheVariants.{Text}
use Rattle.lc_sexp.proofs.Builds.{one_from}
use Rattle.lc_sexp.proofs.Faults.{no_fault_lem, found_fault}
use Rattle.lc_sexp.proofs.Runs.{same_last}
use Rattle.lc_sexp.proofs.Unique.{one_reading_lem}
use Rattle.lc_sexp.specs.Answers.{IsTextFault}
use Rattle.lc_sexp.specs.CutFiles.{ends_in_comment, bracketed, IsClosed, IsOnly, IsPieceOf, IsPieceRead}
use Rattle.lc_sexp.specs.Entries.{entries_of, entries_of_all}
use Rattle.lc_sexp.specs.Flat.{entry_of, entries, trees_of, IsFlat, IsOne}
use Rattle.lc_sexp.specs.Parts.{list_fit}
use Rattle.lc_sexp.specs.Pieces.{HasTaken}
use Rattle.lc_sexp.specs.Progress.{told, fault_from}
use Rattle.lc_sexp.specs.Reads.{ReadsAs, IsFirstFault}
use Rattle.lc_sexp.specs.Shown.{rest_of, part_count, IsWithin, IsPart, GivesPart}
use Rattle.lc_sexp.specs.Text.{lexed, uncommented}
use Rattle.lc_sexp.specs.TreeCode.{head_tree}
use Rattle.lc_sexp.specs.Trees.{Tree, Trees, atom, list, none, ◌▸◌}
use Rattle.lc_sexp.specs.declared.cursor.Cursor.{Cursor}
use Rattle.lc_sexp.specs.declared.machine.Machine.{Machine}
use Rattle.lc_sexp.specs.declared.node.Node.{Node}
use Rattle.lc_sexp.specs.declared.misfit.Misfit.{Misfit}

-- a text is closed if its last byte is that bracket
pub closed_by : (text rest : List ℕ) (x : ℕ) → text ≡ rest ++ (x ∷ []) → MatchBool (x == 41) (IsClosed text) (IsClosed text → ⊥)
closed_by text rest x e = at (x == 41) refl where
  at : (b : Bool) → (x == 41) ≡ b → MatchBool b (IsClosed text) (IsClosed text → ⊥)
  at true is = let same : x ≡ 41 = grind (arith, nat_tests) in (rest, e ∙ ap (λ y. rest ++ (y ∷ [])) same)
  at false is = λ c. let same = same_last rest c.0 x 41 (sym e ∙ c.1) in absurd (grind (arith, nat_tests))

pub gave_list : (r : Result Cursor Misfit) (old new inner : Cursor) → r ≡ Ok inner → GivesPart list_fit IsWithin old r new → rest_of old ≡ list (rest_of inner) ▸ rest_of new
gave_list r old new inner e h = at (rest_of old) (subst (λ x. GivesPart list_fit IsWithin old x new) e h) where
  at : (ts : Trees) → IsPart list_fit IsWithin old ts (Ok inner) new → ts ≡ list (rest_of inner) ▸ rest_of new
  at none h = absurd (let e = h.0 in cc)
  at (atom w ▸ ts) h = absurd (let e = h.0 in cc)
  at (list us ▸ ts) h = ap (λ x. list x ▸ ts) (sym h.0.rest) ∙ ap (λ x. list (rest_of inner) ▸ x) (sym h.1.rest)

pub none_left : (ts : Trees) → (part_count ts == 0) ≡ true → ts ≡ none
none_left none h = refl
none_left (t ▸ ts) h = absurd (grind (arith, nat_tests))

-- the single item of a single list
pub stands_alone : (whole inner behind left : Trees) (t : Tree) → whole ≡ list inner ▸ behind → inner ≡ t ▸ left → (part_count left == 0) ≡ true → (part_count behind == 0) ≡ true → whole ≡ list (t ▸ none) ▸ none
stands_alone whole inner behind left t outer within l b =
    outer ∙ ap (λ x. list x ▸ behind) (within ∙ ap (λ x. t ▸ x) (none_left left l)) ∙ ap (λ x. list (t ▸ none) ▸ x) (none_left behind b)

pub piece_read : (text : List ℕ) (forms : Trees) (part : Option Tree) → IsClosed text → ends_in_comment false text ≡ false → ReadsAs (bracketed text) forms → IsOnly forms part → IsPieceRead text part
piece_read text forms (Some t) closed outside reads only = record { closed = closed; outside = outside; reads = subst (ReadsAs (bracketed text)) only reads }
piece_read text forms None closed outside reads only = λ t p. only t (one_reading_lem (bracketed text) forms (list (t ▸ none) ▸ none) reads p.reads)

pub no_piece : (text : List ℕ) (refusal : Refusal) → IsTextFault (Refused refusal) (IsFirstFault (bracketed text)) → (t : Tree) → IsPieceOf t text → ⊥
no_piece text (Text offset) fault t p = no_fault_lem (bracketed text) (list (t ▸ none) ▸ none) offset p.reads fault
no_piece text _ fault t p = absurd fault

-- bytes that were taken after others
pub taken_after_others : (m m' : Machine) (fed bytes : List ℕ) → HasTaken None m fed
    → ((rest : List ℕ) → told m'.text.items m'.start m'.nodes.items (uncommented m'.in_comment rest) ≡ told m.text.items m.start m.nodes.items (uncommented m.in_comment (bytes ++ rest)))
    → ((rest : List ℕ) → fault_from m'.offset (vec_len m'.holes) (uncommented m'.in_comment rest) ≡ fault_from m.offset (vec_len m.holes) (uncommented m.in_comment (bytes ++ rest)))
    → HasTaken None m' (fed ++ bytes)
taken_after_others m m' fed bytes h tells faults = (
  λ rest. tells rest ∙ h.0 (bytes ++ rest) ∙ ap (λ x. lexed (uncommented false x)) (sym (append_assoc fed bytes rest)),
  λ rest. faults rest ∙ h.1 (bytes ++ rest) ∙ ap (λ x. fault_from 0 0 (uncommented false x)) (sym (append_assoc fed bytes rest)),
)

-- bytes that cannot be taken after others
pub stopped_no_piece : (m : Machine) (o : ℕ) (fed bytes more text : List ℕ) → HasTaken None m fed
    → ((rest : List ℕ) → fault_from m.offset (vec_len m.holes) (uncommented m.in_comment (bytes ++ rest)) ≡ Some o)
    → bracketed text ≡ fed ++ (bytes ++ more) → (t : Tree) → IsPieceOf t text → ⊥
stopped_no_piece m o fed bytes more text h wrong e t p =
    no_fault_lem (bracketed text) (list (t ▸ none) ▸ none) o p.reads
    (found_fault (bracketed text) o (ap (λ x. fault_from 0 0 (uncommented false x)) e ∙ sym (h.1 (bytes ++ more)) ∙ wrong more))

-- the single item of a single list, when the trees lie flat
pub one_part : (text : List ℕ) (nodes : List Node) (t : Tree) → IsFlat text nodes → trees_of text nodes ≡ list (t ▸ none) ▸ none
    → IsOne text (remove nodes 0) × (head_tree (trees_of text (remove nodes 0)) ≡ t)
one_part text [] t h e = absurd (let whole : entries_of_all (list (t ▸ none) ▸ none) ≡ [] = ap entries_of_all (sym e) ∙ h.whole in cc)
one_part text (x ∷ nodes) t h e =
    let whole : entries_of_all (list (t ▸ none) ▸ none) ≡ entry_of text x ∷ entries text nodes = ap entries_of_all (sym e) ∙ h.whole in
    let back : (entries_of t ++ []) ++ [] ≡ entries text nodes = cc in
    one_from text nodes t (sym back ∙ append-nil (entries_of t ++ []) ∙ append-nil (entries_of t)) (and_parts _ _ h.within).1 h.letters

-- what two clauses say of a result
pub if_both : {X E : Type 0} (x : Result X E) (P Q R : X → Type 0) → ((v : X) → P v → Q v → R v) → IfOk x P → IfOk x Q → IfOk x R
if_both (Ok v) P Q R f p q = f v p q
if_both (Err e) P Q R f p q = tt
