-- The form of a certificate, read item by item.
use Rattle.std.proofs.Common.{◌≡◌, ◌≢◌, ℕ, ◌+◌, ◌-◌, ◌≤◌, Bool, true, false, cond, List, [], ◌∷◌, ◌++◌, Option, Some, None, refl, sym, ap, ◌∙◌, subst, arith}
use Rattle.std.specs.Prelude.{◌==◌, Result, Err}
use Rattle.std.proofs.lemmas.Bool.Decides.{nat_tests}
use Rattle.lc_base.specs.Limits.{file_limit}
use Rattle.lc_sexp.proofs.Rows.{count_joined}
use Rattle.lc_sexp.specs.Trees.{Tree, Trees, atom, list, none, ◌▸◌, item_count, item_count_of_all}
use Rattle.lc_sexp.specs.TreeCode.{tree_count, behind_first, joined_rows, joined-none}
use Rattle.lc_sexp.specs.Takes.{parts_in, parts_from, parts_of, without}
use Rattle.lc_sexp.specs.declared.part.Part.{Part}
use Rattle.lc_kernel.specs.Proofs.{size}
use Rattle.lc_term.proofs.Stores.{Every-append}
use Rattle.lc_reading.proofs.Combined.{ended_read}
use Rattle.lc_reading.proofs.Fine.{of_fine}
use Rattle.lc_reading.proofs.Order.{lesser_assoc}
use Rattle.lc_reading.proofs.SoFar.{flawed_before}
use Rattle.lc_reading.specs.Flaws.{at}
use Rattle.lc_reading.specs.Readings.{Reading, fine, flawed, wrong, both}
use Rattle.lc_reading.specs.Results.{IsReading, ended_result}
use Rattle.lc_reading.specs.declared.flaw.Flaw.{Flaw}
use Rattle.lc_reading.specs.declared.flaw.ReadFault.{ReadFault}
use Rattle.lc_reading.specs.declared.flaw.ReadFault.TheVariants.{Flawed, OutOfMemory}
use Rattle.lc_reading.specs.declared.pass.Pass.TheVariants.{Shape}
use Rattle.lc_text.specs.Names.{Names}
use Rattle.lc_cert.proofs.Sized.{IsSized, entry_sized}
use Rattle.lc_cert.specs.Certificates.{Entry, HaveFewSteps}
use Rattle.lc_cert.specs.Pieces.{due_reading, read_so_far, noted, kept, waiting_in, form_due, form_from, IsNoted, in_first, IsForm, IsTold}
use Rattle.lc_cert.specs.Readings.{entry_reading, last_behind, entries_reading, form_reading, file_reading}
use Rattle.lc_cert.specs.declared.form_reader.Due.{Due}
use Rattle.lc_cert.specs.declared.form_reader.FormReader.{FormReader}

-- one thing more is wrong
noted_more : (flaw : Option Flaw) (g : Flaw) (es fs : List Entry) (r : Reading (List Entry))
    → both (λ es fs. es ++ fs) (read_so_far (noted flaw g) fs) r ≡ both (λ es fs. es ++ fs) (read_so_far flaw es) (flawed_before g r)
noted_more None g es fs (fine x) = refl
noted_more None g es fs (flawed h) = refl
noted_more (Some f) g es fs (fine x) = refl
noted_more (Some f) g es fs (flawed h) = ap flawed (sym (lesser_assoc f g h))

pub form_noted : (columns : List (List ℕ)) (name : List ℕ) (taken : List Entry) (old new : FormReader) (fault : ReadFault) (due : Due) (m k : ℕ) (ts us : Trees) → IsNoted old fault new
    → ((f : Flaw) → fault ≡ Flawed f → due_reading columns name due k us ≡ flawed_before f (due_reading columns name old.due m ts))
    → form_from columns name taken new m ts ≡ form_due columns name taken old due k us
form_noted columns name taken old new (Flawed f) due m k ts us is h =
    ap (λ n. form_from columns name taken n m ts) is
    ∙ noted_more old.flaw f (taken ++ waiting_in old) (taken ++ waiting_in old) (due_reading columns name old.due m ts)
    ∙ ap (both (λ es fs. es ++ fs) (read_so_far old.flaw (taken ++ waiting_in old))) (sym (h f refl))
form_noted columns name taken old new OutOfMemory due m k ts us is h = absurd is

-- an entry
entry_flawed : (f : Flaw) (r : Reading (List Entry)) → both (λ (e : Entry) es. e ∷ es) (flawed f) r ≡ flawed_before f r
entry_flawed f (fine es) = refl
entry_flawed f (flawed g) = refl

pub entry_other : (names : Names) (last : Option ℕ) (m : ℕ) (t : Tree) (ts : Trees) (f : Flaw) → entry_reading names last m t ≡ flawed f
    → entries_reading names last m (t ▸ ts) ≡ flawed_before f (entries_reading names last (m + item_count t) ts)
entry_other names last m t ts f e =
    ap (λ r. both (λ e es. e ∷ es) r (entries_reading names (last_behind last r) (m + item_count t) ts)) e ∙ entry_flawed f _

-- rows
pub joined_on : (ts : Trees) (t : Tree) (us : Trees) → joined_rows (joined_rows ts (t ▸ none)) us ≡ joined_rows ts (t ▸ us)
joined_on none t us = refl
joined_on (u ▸ ts) t us = ap (λ x. u ▸ x) (joined_on ts t us)

cond_joined : (b : Bool) (p : Tree) (ts us vs : Trees) → ts ≡ joined_rows us vs → cond b (p ▸ ts) ts ≡ joined_rows (cond b (p ▸ us) us) vs
cond_joined true p ts us vs e = ap (λ x. p ▸ x) e
cond_joined false p ts us vs e = e

pub in_first_joined : (ps qs : List Part) → in_first (ps ++ qs) ≡ joined_rows (in_first ps) (in_first qs)
in_first_joined [] qs = refl
in_first_joined (p ∷ ps) qs = cond_joined (p.form == 0) p.sexp (in_first (ps ++ qs)) (in_first ps) (in_first qs) (in_first_joined ps qs)

-- one part more
pub first_more : (ps : List Part) (p : Part) → p.form ≡ 0 → in_first (ps ++ (p ∷ [])) ≡ joined_rows (in_first ps) (p.sexp ▸ none)
first_more ps p e = in_first_joined ps (p ∷ []) ∙ ap (λ f. joined_rows (in_first ps) (cond (f == 0) (p.sexp ▸ none) none)) e

pub first_same : (ps : List Part) (p : Part) → (p.form == 0) ≡ false → in_first (ps ++ (p ∷ [])) ≡ in_first ps
first_same ps p e = in_first_joined ps (p ∷ []) ∙ ap (λ b. joined_rows (in_first ps) (cond b (p.sexp ▸ none) none)) e ∙ joined-none (in_first ps)

-- the parts of a file that are in its first form
in_first_list : (us : Trees) (i : ℕ) (ps : List Part) → in_first (parts_in 0 i us ++ ps) ≡ joined_rows us (in_first ps)
in_first_list none i ps = refl
in_first_list (t ▸ us) i ps = ap (λ x. t ▸ x) (in_first_list us (i + item_count t) ps)

in_later_list : (us : Trees) (f i : ℕ) (ps : List Part) → (f == 0) ≡ false → in_first (parts_in f i us ++ ps) ≡ in_first ps
in_later_list none f i ps e = refl
in_later_list (t ▸ us) f i ps e = ap (λ b. cond b (t ▸ in_first (parts_in f (i + item_count t) us ++ ps)) (in_first (parts_in f (i + item_count t) us ++ ps))) e ∙ in_later_list us f (i + item_count t) ps e

later_form : (f : ℕ) → ((f + 1) == 0) ≡ false
later_form f = grind (arith, nat_tests)

in_later : (ts : Trees) (f i : ℕ) → (f == 0) ≡ false → in_first (parts_from f i ts) ≡ none
in_later none f i e = refl
in_later (atom w ▸ ts) f i e = in_later ts (f + 1) (i + 1) (later_form f)
in_later (list us ▸ ts) f i e =
    in_later_list us f (i + 1) (parts_from (f + 1) (i + 1 + item_count_of_all us) ts) e ∙ in_later ts (f + 1) (i + 1 + item_count_of_all us) (later_form f)

pub first_of_list : (us ts : Trees) → in_first (parts_of (list us ▸ ts)) ≡ us
first_of_list us ts =
    in_first_list us 1 (parts_from 1 (0 + 1 + item_count_of_all us) ts) ∙ ap (joined_rows us) (in_later ts 1 (0 + 1 + item_count_of_all us) refl) ∙ joined-none us

pub first_of_atom : (w : List ℕ) (ts : Trees) → in_first (parts_of (atom w ▸ ts)) ≡ none
first_of_atom w ts = in_later ts 1 1 refl

-- no more steps than a file has bytes
abbrev IsFew : Entry → Type 0
IsFew e = size e.proof ≤ file_limit

pub kept_few : (flaw : Option Flaw) (es : List Entry) (e : Entry) → HaveFewSteps es → size e.proof ≤ file_limit → HaveFewSteps (kept flaw es e)
kept_few None es e h few = Every-append IsFew es (e ∷ []) h (few, tt)
kept_few (Some f) es e h few = h

pub entry_few : (names : Names) (last : Option ℕ) (n : ℕ) (t : Tree) (flaw : Option Flaw) (es : List Entry) (e : Entry) → entry_reading names last n t ≡ fine e → item_count t ≤ file_limit → HaveFewSteps es → HaveFewSteps (kept flaw es e)
entry_few names last n t flaw es e read room h =
    let sized = of_fine (IsSized (item_count t)) (entry_reading names last n t) e (entry_sized names last n t) read in
    kept_few flaw es e h (omega (arith, sized, room))

-- an item more was read
pub form_step : (columns : List (List ℕ)) (name : List ℕ) (parts : List Part) (p : Part) (taken : List Entry) (old mid new : FormReader) (t : Tree) (n : ℕ)
    → p.form ≡ 0 → p.sexp ≡ t → n ≡ old.number → new ≡ record mid { number = new.number } → new.number ≡ old.number + item_count t
    → ((taken : List Entry) (ts : Trees) → form_from columns name taken mid (n + item_count t) ts ≡ form_from columns name taken old n (t ▸ ts))
    → (item_count t ≤ file_limit → HaveFewSteps (waiting_in old) → HaveFewSteps (waiting_in mid)) → item_count t ≤ file_limit
    → IsForm columns name parts taken old → IsForm columns name (parts ++ (p ∷ [])) taken new
form_step columns name parts p taken old mid new t n first is place same count step few room h =
    let more : in_first (parts ++ (p ∷ [])) ≡ joined_rows (in_first parts) (t ▸ none) = first_more parts p first ∙ ap (λ x. joined_rows (in_first parts) (x ▸ none)) is in
    let behind : new.number ≡ n + item_count t = count ∙ ap (λ k. k + item_count t) (sym place) in
    record {
      number = omega (arith, count, h.number, ap item_count_of_all more, count_joined (in_first parts) (t ▸ none));
      reads = λ ts.
          ap (λ x. form_from columns name taken x new.number ts) same
          ∙ ap (λ k. form_from columns name taken mid k ts) behind
          ∙ step taken ts
          ∙ ap (λ k. form_from columns name taken old k (t ▸ ts)) place
          ∙ h.reads (t ▸ ts)
          ∙ ap (λ us. form_reading columns name 0 (list us)) (sym (ap (λ us. joined_rows us ts) more ∙ joined_on (in_first parts) t ts));
      few_taken = h.few_taken;
      few_waiting = subst HaveFewSteps (sym (ap waiting_in same)) (few room h.few_waiting);
    }

-- the same if other parts of the file were read
form_other : (columns : List (List ℕ)) (name : List ℕ) (parts others : List Part) (taken : List Entry) (f : FormReader) → in_first others ≡ in_first parts → IsForm columns name parts taken f → IsForm columns name others taken f
form_other columns name parts others taken f same h = record {
  number = h.number ∙ ap (λ us. 1 + item_count_of_all us) (sym same);
  reads = λ ts. h.reads ts ∙ ap (λ us. form_reading columns name 0 (list (joined_rows us ts))) (sym same);
  few_taken = h.few_taken;
  few_waiting = h.few_waiting;
}

pub other_form : (n : ℕ) → n ≢ 0 → (n == 0) ≡ false
other_form n some = grind (arith, nat_tests)

-- a part of another form
pub form_same : (columns : List (List ℕ)) (name : List ℕ) (parts : List Part) (p : Part) (taken : List Entry) (f : FormReader) → (p.form == 0) ≡ false → IsForm columns name parts taken f → IsForm columns name (parts ++ (p ∷ [])) taken f
form_same columns name parts p taken f later h = form_other columns name parts (parts ++ (p ∷ [])) taken f (first_same parts p later) h

ended_without : (m n : ℕ) (ts : Trees) (a : Result (Unit {0}) ReadFault) → ended_result m (without n ts) a ≡ ended_result m ts a
ended_without m n none a = refl
ended_without m n (atom w ▸ ts) a = refl
ended_without m n (list us ▸ ts) a = refl

pub first_tree : (t u : Tree) (ts us : Trees) → t ▸ ts ≡ u ▸ us → t ≡ u
first_tree t u ts us e = cc

other_trees : (t u : Tree) (ts us : Trees) → t ▸ ts ≡ u ▸ us → ts ≡ us
other_trees t u ts us e = cc

-- a form is there, and no other
pub one_form : (columns : List (List ℕ)) (name : List ℕ) (taken : List Entry) (f : FormReader) (n : ℕ) (ts : Trees) (t : Tree) (us : Trees) (told : Result (Unit {0}) ReadFault) → t ▸ us ≡ without n ts
    → IsForm columns name (parts_of ts) taken f → IsTold (form_from columns name taken f f.number none) (taken ++ waiting_in f) t told
    → IsReading (λ (u : Unit {0}). taken ++ waiting_in f) (file_reading columns name ts) (ended_result f.number us told)
one_form columns name taken f n none t us told e h r = absurd (cc)
one_form columns name taken f n (atom w ▸ ts) t us told e h r =
    let is : t ≡ atom w = first_tree t (atom w) us (without n ts) e in
    let said : told ≡ Err (Flawed (at Shape 0)) = subst (λ t. IsTold (form_from columns name taken f f.number none) (taken ++ waiting_in f) t told) is r in
    let number : f.number ≡ 0 + 1 = h.number ∙ ap (λ us. 1 + item_count_of_all us) (first_of_atom w ts) in
    subst (IsReading (λ (u : Unit {0}). taken ++ waiting_in f) (file_reading columns name (atom w ▸ ts)))
    (sym (ap (λ us. ended_result f.number us told) (other_trees t (atom w) us (without n ts) e) ∙ ended_without f.number n ts told ∙ ap (λ k. ended_result k ts told) number ∙ ap (ended_result (0 + 1) ts) said))
    (ended_read (λ (u : Unit {0}). taken ++ waiting_in f) (0 + 1) ts (wrong Shape 0) (Err (Flawed (at Shape 0))) refl)
one_form columns name taken f n (list vs ▸ ts) t us told e h r =
    let k : ℕ = n - tree_count vs in
    let is : t ≡ list (behind_first n vs) = first_tree t (list (behind_first n vs)) us (without k ts) e in
    let said : IsReading (λ (u : Unit {0}). taken ++ waiting_in f) (form_from columns name taken f f.number none) told = subst (λ t. IsTold (form_from columns name taken f f.number none) (taken ++ waiting_in f) t told) is r in
    let items : joined_rows (in_first (parts_of (list vs ▸ ts))) none ≡ vs = joined-none (in_first (parts_of (list vs ▸ ts))) ∙ first_of_list vs ts in
    let whole : form_from columns name taken f f.number none ≡ form_reading columns name 0 (list vs) = h.reads none ∙ ap (λ us. form_reading columns name 0 (list us)) items in
    let number : f.number ≡ 0 + (item_count_of_all vs + 1) = omega (arith, h.number, ap item_count_of_all (first_of_list vs ts)) in
    subst (IsReading (λ (u : Unit {0}). taken ++ waiting_in f) (file_reading columns name (list vs ▸ ts)))
    (sym (ap (λ us. ended_result f.number us told) (other_trees t (list (behind_first n vs)) us (without k ts) e) ∙ ended_without f.number k ts told ∙ ap (λ k. ended_result k ts told) number))
    (ended_read (λ (u : Unit {0}). taken ++ waiting_in f) (0 + (item_count_of_all vs + 1)) ts (form_reading columns name 0 (list vs)) told (subst (λ r. IsReading (λ (u : Unit {0}). taken ++ waiting_in f) r told) whole said))
