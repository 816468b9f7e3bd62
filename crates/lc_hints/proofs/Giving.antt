-- What hints give, if one more comes after them.
use Rattle.std.proofs.Common.{◌≡◌, ℕ, pos, Bool, true, false, cond, List, [], ◌∷◌, ◌++◌, refl, sym, ap, ◌∙◌, append-nil, map}
use Rattle.std.specs.Prelude.{◌==◌}
use Rattle.std.proofs.lemmas.List.{map-append}
use Rattle.lc_term.specs.View.{term_of, formula_of, formulas_of}
use Rattle.lc_term.specs.declared.term.Term.{Term as SeenTerm}
use Rattle.lc_term.specs.declared.formula.Formula.{Formula as SeenFormula}
use Rattle.lc_kernel.specs.View.{proof_of}
use Rattle.lc_cert.specs.EntryView.{entry_of, entries_of}
use Rattle.lc_cert.specs.declared.entry.Entry.{Entry}
use Rattle.lc_hints.proofs.Joined.{no_more}
use Rattle.lc_hints.specs.Hints.{Hint, Use, Cut, By, is_for, proof_offered, terms_offered, formula_offered}
use Rattle.lc_hints.specs.HintView.{items_at, proofs_given, terms_given, formulas_given, IsGiven}
use Rattle.lc_hints.specs.declared.given.Given.{Given}
use Rattle.lc_term.proofs.Lists.{joined_last}

-- with what one more offers
given_more : (hs : List Hint) (h : Hint) (old new : Given) → proofs_given new ≡ proofs_given old ++ proof_offered h.advice h.number
    → ((k : ℕ) → terms_given new k ≡ terms_given old k ++ cond (is_for k h.number) (terms_offered h.advice) [])
    → ((k : ℕ) → formulas_given new k ≡ formulas_given old k ++ cond (is_for k h.number) (formula_offered h.advice) [])
    → IsGiven hs old → IsGiven (hs ++ h ∷ []) new
given_more hs h old new proofs terms formulas given = record {
  proofs = proofs ∙ ap (λ r. r ++ proof_offered h.advice h.number) given.proofs ∙ sym (joined_last (λ (h : Hint). proof_offered h.advice h.number) hs h);
  terms = λ k. terms k ∙ ap (λ r. r ++ cond (is_for k h.number) (terms_offered h.advice) []) (given.terms k) ∙ sym (joined_last (λ (h : Hint). cond (is_for k h.number) (terms_offered h.advice) []) hs h);
  formulas = λ k. formulas k ∙ ap (λ r. r ++ cond (is_for k h.number) (formula_offered h.advice) []) (given.formulas k) ∙ sym (joined_last (λ (h : Hint). cond (is_for k h.number) (formula_offered h.advice) []) hs h);
}

map_if : {A B : Type 0} (f : A → B) (b : Bool) (xs : List A) → map f (cond b xs []) ≡ cond b (map f xs) []
map_if f true xs = refl
map_if f false xs = refl

mapped_more : {A B : Type 0} (f : A → B) (b : Bool) (all xs more : List A) → all ≡ xs ++ cond b more [] → map f all ≡ map f xs ++ cond b (map f more) []
mapped_more f b all xs more e = ap (map f) e ∙ map-append f xs (cond b more []) ∙ ap (λ r. map f xs ++ r) (map_if f b more)

pub given_use : (hs : List Hint) (n : ℕ) (ts : List SeenTerm) (old new : Given) → new.proofs ≡ old.proofs → new.formulas ≡ old.formulas
    → ((k : ℕ) → items_at new.terms k ≡ items_at old.terms k ++ cond (n == k) ts [])
    → IsGiven hs old → IsGiven (hs ++ record { number = pos n; advice = Use (map term_of ts) } ∷ []) new
given_use hs n ts old new proofs formulas terms given =
    given_more hs (record { number = pos n; advice = Use (map term_of ts) }) old new
    (ap (λ ps. entries_of ps.items) proofs ∙ sym (append-nil (proofs_given old)))
    (λ k. mapped_more term_of (n == k) (items_at new.terms k) (items_at old.terms k) ts (terms k))
    (λ k. ap (λ fs. formulas_of (items_at fs k)) formulas ∙ no_more (n == k) (formulas_given old k)) given

pub given_cut : (hs : List Hint) (n : ℕ) (f : SeenFormula) (fs : List SeenFormula) (old new : Given) → fs ≡ f ∷ [] → new.proofs ≡ old.proofs → new.terms ≡ old.terms
    → ((k : ℕ) → items_at new.formulas k ≡ items_at old.formulas k ++ cond (n == k) fs [])
    → IsGiven hs old → IsGiven (hs ++ record { number = pos n; advice = Cut (formula_of f) } ∷ []) new
given_cut hs n f fs old new one proofs terms formulas given =
    given_more hs (record { number = pos n; advice = Cut (formula_of f) }) old new
    (ap (λ ps. entries_of ps.items) proofs ∙ sym (append-nil (proofs_given old)))
    (λ k. ap (λ ts. map term_of (items_at ts k)) terms ∙ no_more (n == k) (terms_given old k))
    (λ k. mapped_more formula_of (n == k) (items_at new.formulas k) (items_at old.formulas k) fs (formulas k) ∙ ap (λ gs. formulas_given old k ++ cond (n == k) (map formula_of gs) []) one) given

pub given_by : (hs : List Hint) (e : Entry) (old new : Given) → new.proofs.items ≡ old.proofs.items ++ e ∷ [] → new.terms ≡ old.terms → new.formulas ≡ old.formulas
    → IsGiven hs old → IsGiven (hs ++ record { number = pos e.number; advice = By (proof_of e.proof) } ∷ []) new
given_by hs e old new proofs terms formulas given =
    given_more hs (record { number = pos e.number; advice = By (proof_of e.proof) }) old new
    (ap entries_of proofs ∙ map-append entry_of old.proofs.items (e ∷ []))
    (λ k. ap (λ ts. map term_of (items_at ts k)) terms ∙ no_more (e.number == k) (terms_given old k))
    (λ k. ap (λ fs. formulas_of (items_at fs k)) formulas ∙ no_more (e.number == k) (formulas_given old k)) given
