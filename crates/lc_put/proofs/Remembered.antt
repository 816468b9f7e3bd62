-- What is remembered of a replacement stays so in later tables, and is added to.
use Rattle.std.proofs.Common.{◌≡◌, ℕ, ◌+◌, ◌<◌, Bool, true, false, ◌==◌, List, [], ◌∷◌, ◌++◌, length, map, take, get_or, slice_get, Some, cond, inl, inr, ◌⊎◌, refl, sym, ap, ◌∙◌, subst}
use Rattle.std.proofs.lemmas.List.{map-append}
use Rattle.std.specs.Map.{lookup}
use Rattle.std.proofs.lemmas.Bool.{and_parts}
use Rattle.std.proofs.lemmas.Bool.Decides.{Decides-eqb}
use Rattle.std.proofs.lemmas.Option.{same_Some}
use Rattle.lc_lemmas.proofs.Lists.{kept_left}
use Rattle.lc_table.specs.declared.node.TermId.{TermId}
use Rattle.lc_table.specs.declared.node.ColExprId.{ColExprId}
use Rattle.lc_table.specs.declared.node.FormulaId.{FormulaId}
use Rattle.lc_put.specs.declared.put.Occurrence.{Occurrence}
use Rattle.lc_put.specs.declared.put.ReplacedNodes.{ReplacedNodes}
use Rattle.lc_table.specs.Nodes.{term, column}
use Rattle.lc_table.specs.NodeTables.{Table}
use Rattle.lc_put.specs.NodeReplacement.{as_part, part_in, replaced_part}
use Rattle.lc_put.specs.declared.filling.Filling.{Filling}
use Rattle.lc_put.specs.declared.filling.Filling.TheVariants.{Put, Numbers, Variable, Opening, Shift}
use Rattle.lc_put.specs.Filling.{IsFilled, Stands}
use Rattle.lc_put.specs.Put.{occurrence_eq, AreRemembered, Remembers, Notes}
use Rattle.lc_term.specs.Replacement.{Replacement, replace, replace_all, replace_term, replace_column, under_many}
use Rattle.lc_table.specs.Rows.{Extends}
use Rattle.lc_term.specs.Syntax as S
use Rattle.lc_table.specs.Tables.{parts, formulas, term_in, column_in, formula_in, formulas_in, HasTerm, HasColumn, HasFormula, IsTerm, IsColumn, IsFormula, Keeps}
use Rattle.lc_table.proofs.TermNodes.{term-there, column-there}
use Rattle.lc_table.proofs.FormulaNodes.{formula-there}
use Rattle.lc_table.proofs.Later.{term_later, column_later, formula_later, formula_is, formula_still}
use Rattle.lc_table.proofs.Listed.{formulas_in-more}
use Rattle.lc_put.proofs.ByNumber.{are_columns_later, are_terms_later, replacement_still}

same_occurrence : (a b : Occurrence) → occurrence_eq a b ≡ true → a ≡ b
same_occurrence a b e =
    let both = and_parts (a.number == b.number) (a.depth == b.depth) e in
    let number = (Decides-eqb a.number b.number).0 both.0 in
    let depth = (Decides-eqb a.depth b.depth).0 both.1 in
    λ i. record { number = number i; depth = depth i }

-- in later lists
remembered_later : {T : Type 0} (f : ℕ → T → T) (old new : List T) (es : List (Occurrence × ℕ)) → AreRemembered f old es → Extends old new → AreRemembered f new es
remembered_later f old new es h kept k v found =
    let e = h k v found in
    let later = λ (j : ℕ). ap (λ l. slice_get l j) kept.1 in
    (e.0, later k.number ∙ kept_left old kept.0 k.number _ e.1, later v ∙ kept_left old kept.0 v _ e.2)

pub remembers_later : (r : Replacement) (old new : Table) (done : ReplacedNodes) → Remembers r old done → Keeps old new → Remembers r new done
remembers_later r old new done h kept = record {
  parts_done = remembered_later (λ n. replaced_part (under_many n r)) (parts old) (parts new) done.parts.entries h.parts_done kept.parts_kept;
  formulas_done = remembered_later (λ n. replace (under_many n r)) (formulas old) (formulas new) done.formulas.entries h.formulas_done kept.formulas_kept;
}

-- what is put in by number stays there
pub filled_later : (put : Filling) (old new : Table) (r : Replacement) → IsFilled put old r → Keeps old new → IsFilled put new r
filled_later (Put p) old new r h kept = h
filled_later (Numbers p) old new r h kept = (
  are_columns_later old new p.columns.now h.0 kept,
  are_terms_later old new p.variables.now h.1 kept,
  h.2 ∙ sym (replacement_still old new p.columns.now p.variables.now h.0 h.1 kept),
)
filled_later (Variable v k) old new r h kept = (h.0, term_later old new k h.0 h.1 kept, h.2)
filled_later (Opening k) old new r h kept = (h.0, term_later old new k h.0 h.1 kept, h.2)
filled_later (Shift a c) old new r h kept = h

pub stands_later : (r : Replacement) (put : Filling) (old new : Table) (done : ReplacedNodes) → Stands r old put done → Keeps old new → Stands r new put done
stands_later r put old new done h kept = record { filled = filled_later put old new r h.filled kept; remembers = remembers_later r old new done h.remembers kept }

-- what is found
found_at : {T : Type 0} (f : ℕ → T → T) (ts : List T) (es : List (Occurrence × ℕ)) (k : Occurrence) (v : ℕ) (t : T) → AreRemembered f ts es → lookup (occurrence_eq k) es ≡ Some v
    → slice_get ts k.number ≡ Some t → slice_get ts v ≡ Some (f k.depth t)
found_at f ts es k v t h found at =
    let e = h k v found in
    e.2 ∙ ap (λ x. Some (f k.depth x)) (same_Some _ _ (sym e.1 ∙ at))

pub term_remembered : (r : Replacement) (ts : Table) (done : ReplacedNodes) (k : TermId) (d v : ℕ) → Remembers r ts done → IsTerm ts k
    → lookup (occurrence_eq (record { number = k.0; depth = d })) done.parts.entries ≡ Some v → HasTerm ts (record { 0 = v }) (replace_term (under_many d r) (term_in ts k))
term_remembered r ts done k d v h is found =
    found_at (λ n. replaced_part (under_many n r)) (parts ts) done.parts.entries (record { number = k.0; depth = d }) v _ h.parts_done found (term-there (parts ts) k is)

pub column_remembered : (r : Replacement) (ts : Table) (done : ReplacedNodes) (k : ColExprId) (d v : ℕ) → Remembers r ts done → IsColumn ts k
    → lookup (occurrence_eq (record { number = k.0; depth = d })) done.parts.entries ≡ Some v → HasColumn ts (record { 0 = v }) (replace_column (under_many d r) (column_in ts k))
column_remembered r ts done k d v h is found =
    found_at (λ n. replaced_part (under_many n r)) (parts ts) done.parts.entries (record { number = k.0; depth = d }) v _ h.parts_done found (column-there (parts ts) k is)

pub formula_remembered : (r : Replacement) (ts : Table) (done : ReplacedNodes) (k : FormulaId) (d v : ℕ) → Remembers r ts done → IsFormula ts k
    → lookup (occurrence_eq (record { number = k.0; depth = d })) done.formulas.entries ≡ Some v → HasFormula ts (record { 0 = v }) (replace (under_many d r) (formula_in ts k))
formula_remembered r ts done k d v h is found =
    found_at (λ n. replace (under_many n r)) (formulas ts) done.formulas.entries (record { number = k.0; depth = d }) v _ h.formulas_done found (formula-there (formulas ts) k is)

-- one occurrence more
noted : {T : Type 0} (f : ℕ → T → T) (ts : List T) (es fs : List (Occurrence × ℕ)) (k : Occurrence) (v : ℕ) (t : T) → AreRemembered f ts es
    → slice_get ts k.number ≡ Some t → slice_get ts v ≡ Some (f k.depth t) → Notes k v es fs → AreRemembered f ts fs
noted {T} f ts es fs k v t h there here now q w found = elim (now q w found) [
  | inl old ↦ h q w old
  | inr same ↦
      subst (λ (o : Occurrence). (x : T) × (slice_get ts o.number ≡ Some x) × (slice_get ts w ≡ Some (f o.depth x))) (sym same.0) (t, there, ap (slice_get ts) same.1 ∙ here)
]

-- what is added by a map's insertion, and what is not
pub notes_inserted : (es fs : List (Occurrence × ℕ)) (k : Occurrence) (v : ℕ) → ((q : Occurrence) → lookup (occurrence_eq q) fs ≡ cond (occurrence_eq k q) (Some v) (lookup (occurrence_eq q) es)) → Notes k v es fs
notes_inserted es fs k v now q w found = by (occurrence_eq k q) refl
  where
    by : (b : Bool) → occurrence_eq k q ≡ b → (lookup (occurrence_eq q) es ≡ Some w) ⊎ ((q ≡ k) × (w ≡ v))
    by true e = inr (sym (same_occurrence k q e), same_Some w v (sym found ∙ now q ∙ ap (λ b. cond b (Some v) (lookup (occurrence_eq q) es)) e))
    by false e = inl (sym (ap (λ b. cond b (Some v) (lookup (occurrence_eq q) es)) e) ∙ sym (now q) ∙ found)

pub term_noted : (r : Replacement) (t0 ts : Table) (put : Filling) (old new : ReplacedNodes) (k : TermId) (d v : ℕ) → IsTerm t0 k → Keeps t0 ts → Stands r ts put old
    → slice_get (parts ts) v ≡ Some (replaced_part (under_many d r) (part_in t0 k.0))
    → Notes (record { number = k.0; depth = d }) v old.parts.entries new.parts.entries → new.formulas ≡ old.formulas → Stands r ts put new
term_noted r t0 ts put old new k d v is kept h at now rest = record {
  filled = h.filled;
  remembers = record {
    parts_done =
        noted (λ n. replaced_part (under_many n r)) (parts ts) old.parts.entries new.parts.entries (record { number = k.0; depth = d }) v (term (term_in t0 k)) h.remembers.parts_done
        (term_later t0 ts k _ (term-there (parts t0) k is) kept) (at ∙ ap (λ o. Some (replaced_part (under_many d r) (as_part o))) (term-there (parts t0) k is)) now;
    formulas_done = subst (λ m. AreRemembered (λ n. replace (under_many n r)) (formulas ts) m.entries) (sym rest) h.remembers.formulas_done;
  };
}

pub column_noted : (r : Replacement) (t0 ts : Table) (put : Filling) (old new : ReplacedNodes) (k : ColExprId) (d v : ℕ) → IsColumn t0 k → Keeps t0 ts → Stands r ts put old
    → slice_get (parts ts) v ≡ Some (replaced_part (under_many d r) (part_in t0 k.0))
    → Notes (record { number = k.0; depth = d }) v old.parts.entries new.parts.entries → new.formulas ≡ old.formulas → Stands r ts put new
column_noted r t0 ts put old new k d v is kept h at now rest = record {
  filled = h.filled;
  remembers = record {
    parts_done =
        noted (λ n. replaced_part (under_many n r)) (parts ts) old.parts.entries new.parts.entries (record { number = k.0; depth = d }) v (column (column_in t0 k)) h.remembers.parts_done
        (column_later t0 ts k _ (column-there (parts t0) k is) kept) (at ∙ ap (λ o. Some (replaced_part (under_many d r) (as_part o))) (column-there (parts t0) k is)) now;
    formulas_done = subst (λ m. AreRemembered (λ n. replace (under_many n r)) (formulas ts) m.entries) (sym rest) h.remembers.formulas_done;
  };
}

pub formula_noted : (r : Replacement) (t0 ts : Table) (put : Filling) (old new : ReplacedNodes) (k v : FormulaId) (d : ℕ) → IsFormula t0 k → Keeps t0 ts → Stands r ts put old
    → HasFormula ts v (replace (under_many d r) (formula_in t0 k))
    → Notes (record { number = k.0; depth = d }) v.0 old.formulas.entries new.formulas.entries → new.parts ≡ old.parts → Stands r ts put new
formula_noted r t0 ts put old new k v d is kept h at now rest = record {
  filled = h.filled;
  remembers = record {
    parts_done = subst (λ m. AreRemembered (λ n. replaced_part (under_many n r)) (parts ts) m.entries) (sym rest) h.remembers.parts_done;
    formulas_done =
        noted (λ n. replace (under_many n r)) (formulas ts) old.formulas.entries new.formulas.entries (record { number = k.0; depth = d }) v.0 (formula_in t0 k) h.remembers.formulas_done
        (formula_later t0 ts k _ (formula-there (formulas t0) k is) kept) at now;
  };
}

-- ---- a formula, from its parts, which are replaced one after another

pub first_formula : (r : Replacement) (t0 t1 t2 : Table) (a l : FormulaId) → Keeps t1 t2 → HasFormula t1 l (replace r (formula_in t0 a)) → formula_in t2 l ≡ replace r (formula_in t0 a)
first_formula r t0 t1 t2 a l kept h = formula_is t2 l _ (formula_later t1 t2 l _ h kept)

pub second_formula : (r : Replacement) (t0 t1 t2 : Table) (b m : FormulaId) → IsFormula t0 b → Keeps t0 t1 → HasFormula t2 m (replace r (formula_in t1 b)) → formula_in t2 m ≡ replace r (formula_in t0 b)
second_formula r t0 t1 t2 b m is kept h = formula_is t2 m _ h ∙ ap (replace r) (formula_still t0 t1 b is kept)

-- the parts of a conjunction or a disjunction, each replaced
pub replaced_parts : (r : Replacement) (fs : List S.Formula) → S.formulas (map (replace r) fs) ≡ replace_all r (S.formulas fs)
replaced_parts r [] = refl
replaced_parts r (f ∷ fs) = ap (S.more (replace r f)) (replaced_parts r fs)

-- one part more
pub replaced_more : (r : Replacement) (ts : Table) (ks : List FormulaId) (i : ℕ) (d : FormulaId) → i < length ks
    → map (replace r) (formulas_in ts (take (i + 1) ks)) ≡ map (replace r) (formulas_in ts (take i ks)) ++ replace r (formula_in ts (get_or ks i d)) ∷ []
replaced_more r ts ks i d lt =
    ap (map (replace r)) (formulas_in-more ts ks i d lt) ∙ map-append (replace r) (formulas_in ts (take i ks)) (formula_in ts (get_or ks i d) ∷ [])
