-- The atoms that are printed of what reads back are made of letters.
use Rattle.std.proofs.Common.{◌≡◌, ℕ, ℤ, pos, ◌+◌, ◌-◌, ◌<◌, ◌≤◌, ◌^◌, Bool, true, false, ◌&&◌, ◌==◌, cond, List, [], ◌∷◌, Option, Some, None, refl, subst, arith}
use Rattle.std.proofs.lemmas.Bool.{and_parts, and_from}
use Rattle.std.proofs.lemmas.Bool.Decides.{nat_tests}
use Rattle.std.specs.Prelude.{option_map, nat_le}
use Rattle.std.specs.List.{list_all}
use Rattle.std.specs.Fmt.{signed_decimal}
use Rattle.lc_base.specs.NameText.{is_name, begins_name, continues_name}
use Rattle.lc_sexp.specs.Numerals.{are_digits, natural_of, negative_of, integer_of, variable_of}
use Rattle.lc_sexp.specs.Parts.{fits_i64, integer_within, variable_within}
use Rattle.lc_sexp.specs.Printed.{is_atom, HasAtoms, HaveAtoms}
use Rattle.lc_sexp.specs.Text.{class_of, is_Letter, are_letters}
use Rattle.lc_reading.specs.Readings.{Reading, fine, flawed, wrong, mapped}
use Rattle.lc_reading.specs.declared.flaw.Flaw.{Flaw}
use Rattle.lc_reading.specs.declared.pass.Pass.TheVariants.{Shape}
use Rattle.lc_term.specs.Syntax as S
use Rattle.lc_term.specs.Syntax.{Term, Number, Variable, Bound, Add, Subtract, Multiply, Read, Column, Base, Store, Affine}
use Rattle.lc_term.specs.Syntax.{Formula, Le, Eq, Not, And, Or, Implies, Forall, Exists, Formulas, more}
use Rattle.lc_text.proofs.Numerals.{integer_of-signed}
use Rattle.lc_text.proofs.Printed.{binder_is_name}
use Rattle.lc_text.specs.Names.{Names}
use Rattle.lc_text.specs.Spelling.{Spelled}
use Rattle.lc_text.specs.Spelled.{binder, one_deeper}
use Rattle.lc_text.specs.SpelledTree.{term_tree, column_tree, formula_tree, formula_trees, binders, TermReadsBack, ColumnReadsBack, FormulaReadsBack, FormulasReadBack}
use Rattle.lc_text.specs.Terms.{fit_reading, numbered_reading, word_reading, number_or, atom_reading, base_reading, used}
use Rattle.lc_text.specs.declared.scope.ColumnUse.{ColumnUse}
use Rattle.lc_text.specs.declared.scope.ColumnUse.TheVariants.{Usable, Misplaced, Hidden, Undeclared}
use Rattle.lc_text.specs.declared.scope.Extra.TheVariants.{NumberedVariables}
use Rattle.lc_sexp.proofs.Text.{begins_letter, continues_letter}
use Rattle.lc_sexp.proofs.Atoms.{atom_letters}

-- ---- words

digit_letter : (b : ℕ) → (nat_le 48 b && nat_le b 57) ≡ true → is_Letter (class_of b) ≡ true
unfolding class_of
digit_letter b h = grind (arith, nat_tests)

continued_letters : (w : List ℕ) → list_all continues_name w ≡ true → are_letters w ≡ true
continued_letters [] h = refl
continued_letters (b ∷ w) h = let p = and_parts (continues_name b) (list_all continues_name w) h in and_from _ _ (continues_letter b p.0) (continued_letters w p.1)

pub name_atom : (w : List ℕ) → is_name w ≡ true → is_atom w ≡ true
name_atom [] h = h
name_atom (b ∷ w) h = let p = and_parts (begins_name b) (list_all continues_name w) h in and_from _ _ (begins_letter b p.0) (continued_letters w p.1)

digits_letters : (w : List ℕ) → are_digits w ≡ true → are_letters w ≡ true
digits_letters [] h = refl
digits_letters (b ∷ w) h = let p = and_parts (nat_le 48 b && nat_le b 57) (are_digits w) h in and_from _ _ (digit_letter b p.0) (digits_letters w p.1)

-- ---- numbers

taken : {X : Type 0} (b : Bool) (x y : X) → cond b (Some x) None ≡ Some y → b ≡ true
taken true x y e = refl
taken false x y e = absurd (cc)

natural_atom : (w : List ℕ) (n : ℕ) → natural_of w ≡ Some n → is_atom w ≡ true
natural_atom [] n e = absurd (cc)
natural_atom (b ∷ w) n e = digits_letters (b ∷ w) (and_parts (are_digits (b ∷ w)) _ (taken _ _ n e)).0

minus_letter : (b : ℕ) → (b == 45) ≡ true → is_Letter (class_of b) ≡ true
unfolding class_of
minus_letter b h = grind (arith, nat_tests)

mark_letter : (b : ℕ) → (b == 63) ≡ true → is_Letter (class_of b) ≡ true
unfolding class_of
mark_letter b h = grind (arith, nat_tests)

natural_mapped : (w : List ℕ) (o : Option ℕ) (z : ℤ) → natural_of w ≡ o → option_map pos o ≡ Some z → is_atom w ≡ true
natural_mapped w None z is e = absurd (cc)
natural_mapped w (Some n) z is e = natural_atom w n is

natural_negated : (w : List ℕ) (o : Option ℕ) (z : ℤ) → natural_of w ≡ o → negative_of o ≡ Some z → is_atom w ≡ true
natural_negated w None z is e = absurd (cc)
natural_negated w (Some n) z is e = natural_atom w n is

signed_atom : (b : ℕ) (w : List ℕ) (z : ℤ) (minus : Bool) → (b == 45) ≡ minus → cond minus (negative_of (natural_of w)) (option_map pos (natural_of (b ∷ w))) ≡ Some z → is_atom (b ∷ w) ≡ true
signed_atom b w z true is e = and_from _ _ (minus_letter b is) (atom_letters w (natural_negated w (natural_of w) z refl e))
signed_atom b w z false is e = natural_mapped (b ∷ w) (natural_of (b ∷ w)) z refl e

integer_atom : (w : List ℕ) (z : ℤ) → integer_of w ≡ Some z → is_atom w ≡ true
integer_atom [] z e = absurd (cc)
integer_atom (b ∷ w) z e = signed_atom b w z (b == 45) refl e

marked_atom : (b : ℕ) (w : List ℕ) (k : ℕ) (mark : Bool) → (b == 63) ≡ mark → cond mark (natural_of w) None ≡ Some k → is_atom (b ∷ w) ≡ true
marked_atom b w k true is e = and_from _ _ (mark_letter b is) (atom_letters w (natural_atom w k e))
marked_atom b w k false is e = absurd (cc)

variable_atom : (w : List ℕ) (k : ℕ) → variable_of w ≡ Some k → is_atom w ≡ true
variable_atom [] k e = absurd (cc)
variable_atom (b ∷ w) k e = marked_atom b w k (b == 63) refl e

pub number_atom : (z : ℤ) → fits_i64 z ≡ true → is_atom (signed_decimal z) ≡ true
number_atom z h = integer_atom (signed_decimal z) z (integer_of-signed z h)

-- ---- atoms that are read

not_fine : {X : Type 0} (f : Flaw) (x : X) → flawed f ≡ fine x → ⊥
not_fine f x e = cc

variable_read : (n : ℕ) (w : List ℕ) (t : Term) (o : Option ℕ) → variable_of w ≡ o → mapped S.Variable (fit_reading n (variable_within o)) ≡ fine t → is_atom w ≡ true
variable_read n w t None is e = absurd (not_fine _ t e)
variable_read n w t (Some k) is e = variable_atom w k is

numbered_read : (n : ℕ) (w : List ℕ) (t : Term) (b : Bool) → cond b (mapped S.Variable (fit_reading n (variable_within (variable_of w)))) (wrong Shape n) ≡ fine t → is_atom w ≡ true
numbered_read n w t true e = variable_read n w t (variable_of w) refl e
numbered_read n w t false e = absurd (not_fine _ t e)

word_read : (names : Names) (n : ℕ) (w : List ℕ) (t : Term) (r : Reading Term) (b : Bool) → is_name w ≡ b → cond b r (numbered_reading names n w) ≡ fine t → is_atom w ≡ true
word_read names n w t r true is e = name_atom w is
word_read names n w t r false is e = numbered_read n w t (names.allows NumberedVariables) e

number_read : (names : Names) (bound : List (List ℕ)) (n : ℕ) (w : List ℕ) (t : Term) (o : Option ℤ) → integer_of w ≡ o → number_or n (integer_within o) (word_reading names bound n w) ≡ fine t → is_atom w ≡ true
number_read names bound n w t None is e = word_read names n w t _ (is_name w) refl e
number_read names bound n w t (Some z) is e = integer_atom w z is

-- what reads as a term is an atom
atom_read : (names : Names) (bound : List (List ℕ)) (n : ℕ) (w : List ℕ) (t : Term) → atom_reading names bound n w ≡ fine t → is_atom w ≡ true
atom_read names bound n w t e = number_read names bound n w t (integer_of w) refl e

named_read : (n : ℕ) (w : List ℕ) (c : Column) (r : Reading Column) (b : Bool) → is_name w ≡ b → cond b r (wrong Shape n) ≡ fine c → is_atom w ≡ true
named_read n w c r true is e = name_atom w is
named_read n w c r false is e = absurd (not_fine _ c e)

used_read : (u : ColumnUse) (reader n : ℕ) (w : List ℕ) (c : Column) → used u reader n w ≡ fine c → is_atom w ≡ true
used_read Misplaced reader n w c e = absurd (not_fine _ c e)
used_read Undeclared reader n w c e = named_read n w c _ (is_name w) refl e
used_read Hidden reader n w c e = named_read n w c _ (is_name w) refl e
used_read (Usable k) reader n w c e = named_read n w c _ (is_name w) refl e

-- and so is what reads as a column
base_read : (names : Names) (reader n : ℕ) (w : List ℕ) (c : Column) → base_reading names reader n w ≡ fine c → is_atom w ≡ true
base_read names reader n w c e = used_read (names.column w) reader n w c e

-- ---- what is printed

module _ (names : Names) (by : Spelled) where
  mutual
    unfolding class_of

    pub term_atoms : (d : ℕ) (t : Term) → d ≤ 4294967296 → TermReadsBack names by d t → HasAtoms (term_tree by d t)
    term_atoms d (Number z) h r = number_atom z r
    term_atoms d (Variable k) h r = atom_read names (binders d) 0 (by.variable k) (Variable k) (r 0)
    term_atoms d (Bound k) h r = name_atom (binder (d - 1 - k)) (binder_is_name (d - 1 - k) (omega arith))
    term_atoms d (Add t u) h r = (refl, (term_atoms d t h r.0, (term_atoms d u h r.1, tt)))
    term_atoms d (Subtract t u) h r = (refl, (term_atoms d t h r.0, (term_atoms d u h r.1, tt)))
    term_atoms d (Multiply z t) h r = (refl, (number_atom z r.0, (term_atoms d t h r.1, tt)))
    term_atoms d (Read c i) h r = (refl, (column_atoms d c h r.0, (term_atoms d i h r.1, tt)))

    pub column_atoms : (d : ℕ) (c : Column) → d ≤ 4294967296 → ColumnReadsBack names by d c → HasAtoms (column_tree by d c)
    column_atoms d (Base c) h r = base_read names 0 0 (by.column c) (Base c) (r 0 0)
    column_atoms d (Store c i v) h r = (refl, (column_atoms d c h r.1, (term_atoms d i h r.2, (term_atoms d v h r.3, tt))))
    column_atoms d (Affine a b) h r = (refl, (number_atom a r.1, (number_atom b r.2, tt)))

  binder_atom : (d : ℕ) → d < 2 ^ 32 → is_atom (binder d) ≡ true
  binder_atom d h = name_atom (binder d) (binder_is_name d (omega arith))

  one_deeper_is : (d : ℕ) → d < 2 ^ 32 → d + 1 ≡ one_deeper d
  one_deeper_is d h = omega arith

  deeper : (d : ℕ) (f : Formula) → d < 2 ^ 32 → HasAtoms (formula_tree by (d + 1) f) → HasAtoms (formula_tree by (one_deeper d) f)
  deeper d f h k = subst (λ e. HasAtoms (formula_tree by e f)) (one_deeper_is d h) k

  mutual
    unfolding class_of

    pub formula_atoms : (d : ℕ) (f : Formula) → d ≤ 4294967296 → FormulaReadsBack names by d f → HasAtoms (formula_tree by d f)
    formula_atoms d (Le t u) h r = (refl, (term_atoms d t h r.0, (term_atoms d u h r.1, tt)))
    formula_atoms d (Eq t u) h r = (refl, (term_atoms d t h r.0, (term_atoms d u h r.1, tt)))
    formula_atoms d (Not f) h r = (refl, (formula_atoms d f h r, tt))
    formula_atoms d (And fs) h r = (refl, formulas_atoms d fs h r)
    formula_atoms d (Or fs) h r = (refl, formulas_atoms d fs h r)
    formula_atoms d (Implies f g) h r = (refl, (formula_atoms d f h r.0, (formula_atoms d g h r.1, tt)))
    formula_atoms d (Forall f) h r = (refl, (binder_atom d r.1, (deeper d f r.1 (formula_atoms (d + 1) f (omega arith) r.2), tt)))
    formula_atoms d (Exists f) h r = (refl, (binder_atom d r.1, (deeper d f r.1 (formula_atoms (d + 1) f (omega arith) r.2), tt)))

    formulas_atoms : (d : ℕ) (fs : Formulas) → d ≤ 4294967296 → FormulasReadBack names by d fs → HaveAtoms (formula_trees by d fs)
    formulas_atoms d S.none h r = tt
    formulas_atoms d (more f fs) h r = (formula_atoms d f h r.0, formulas_atoms d fs h r.1)
