-- Instructions and operations at their parts.
use Rattle.std.proofs.Common.{◌≡◌, ℕ, ◌+◌, Ok, refl, sym, ap, ◌∙◌, subst}
use Rattle.std.specs.Prelude.{Option, Result, [], slice_get}
use Rattle.lc_sexp.specs.Trees.{Tree, Trees, ◌▸◌, item_count}
use Rattle.lc_sexp.specs.Shown.{rest_of, number_of, owner_of}
use Rattle.lc_sexp.specs.declared.cursor.Cursor.{Cursor}
use Rattle.lc_text.specs.Names.{Names}
use Rattle.lc_text.specs.Formulas.{formula_reading}
use Rattle.lc_object.specs.View.{instruction_of}
use Rattle.lc_object.specs.declared.instr.Instr.{Instr}
use Rattle.lc_reading.specs.declared.flaw.ReadFault.{ReadFault}
use Rattle.lc_reading.specs.declared.part.Part.{Part}
use Rattle.lc_reading.specs.Parts.{IsNext, IsTwo, IsThree, tree_of, place_of}
use Rattle.lc_reading.specs.Readings.{both}
use Rattle.lc_reading.specs.Results.{IsReading}
use Rattle.lc_object_text.specs.Cells.{row_width, label_reading, assignments_reading}
use Rattle.lc_object_text.specs.CodeNames.{CodeNames}
use Rattle.lc_object_text.specs.Instructions.{place_reading, exchange_reading, cas_of, cas_reading, set_of, set_reading, adding_reading, faa_of, faa_reading, labels_reading, if_of, if_reading}
use Rattle.lc_object_text.specs.ObjectNames.{Declared, call_or}
use Rattle.lc_object_text.specs.Objects.{signature_of, call_reading, operation_name_reading, signature_parts}
use Rattle.lc_object_text.specs.Own.{IsLeft}
use Rattle.lc_object_text.specs.Texts.{signature_view}
use Rattle.lc_object_text.specs.declared.signatures.Signature.{Signature}

left_two : (m : ℕ) (a b : Tree) (us : Trees) (rest : Cursor) → us ≡ a ▸ b ▸ rest_of rest → number_of rest ≡ m + item_count a + item_count b → IsLeft 2 m us rest
left_two m a b us rest same number = subst (λ vs. IsLeft 2 m vs rest) (sym same) (number, refl)

left_six : (m : ℕ) (a t old new e d : Tree) (us : Trees) (rest : Cursor) → us ≡ a ▸ t ▸ old ▸ new ▸ e ▸ d ▸ rest_of rest
    → number_of rest ≡ m + item_count a + item_count t + item_count old + item_count new + item_count e + item_count d → IsLeft 6 m us rest
left_six m a t old new e d us rest same number = subst (λ vs. IsLeft 6 m vs rest) (sym same) (number, refl)

cas_from : (names : Names) (code : CodeNames) (n m i j k h p q : ℕ) (width : Option ℕ) (a t old new e d : Tree) (ts us : Trees)
    → us ≡ a ▸ t ▸ old ▸ new ▸ e ▸ d ▸ ts → i ≡ m → j ≡ m + item_count a → k ≡ m + item_count a + item_count t → h ≡ m + item_count a + item_count t + item_count old
    → p ≡ m + item_count a + item_count t + item_count old + item_count new → q ≡ m + item_count a + item_count t + item_count old + item_count new + item_count e → width ≡ row_width code a
    → cas_reading names code n m us ≡ both cas_of (place_reading names code i a j t) (exchange_reading names code width k old h new p e q d)
cas_from names code n m i j k h p q width a t old new e d ts us same first second third fourth fifth sixth wide = rw (same, first, second, third, fourth, fifth, sixth, wide) refl

-- the six parts of `cas`, and the rest after them
pub cas_read : (names : Names) (code : CodeNames) (l l₁ l₂ l₃ l₄ l₅ l₆ : Cursor) (a t old new e d : Part) (width : Option ℕ) (result : Result Instr ReadFault)
    → IsNext l (Ok a) l₁ → IsNext l₁ (Ok t) l₂ → IsNext l₂ (Ok old) l₃ → IsNext l₃ (Ok new) l₄ → IsNext l₄ (Ok e) l₅ → IsNext l₅ (Ok d) l₆ → width ≡ row_width code (tree_of a)
    → IsReading instruction_of (both cas_of (place_reading names code (place_of a) (tree_of a) (place_of t) (tree_of t))
    (exchange_reading names code width (place_of old) (tree_of old) (place_of new) (tree_of new) (place_of e) (tree_of e) (place_of d) (tree_of d))) result
    → IsReading instruction_of (cas_reading names code (owner_of l) (number_of l) (rest_of l)) result × IsLeft 6 (number_of l) (rest_of l) l₆
cas_read names code l l₁ l₂ l₃ l₄ l₅ l₆ a t old new e d width result (at1, b1) (at2, b2) (at3, b3) (at4, b4) (at5, b5) (at6, b6) wide h =
    let n2 : number_of l₂ ≡ number_of l + item_count (tree_of a) + item_count (tree_of t) = b2.number ∙ ap (λ m. m + item_count (tree_of t)) b1.number in
    let n3 : number_of l₃ ≡ number_of l + item_count (tree_of a) + item_count (tree_of t) + item_count (tree_of old) = b3.number ∙ ap (λ m. m + item_count (tree_of old)) n2 in
    let n4 : number_of l₄ ≡ number_of l + item_count (tree_of a) + item_count (tree_of t) + item_count (tree_of old) + item_count (tree_of new) = b4.number ∙ ap (λ m. m + item_count (tree_of new)) n3 in
    let n5 : number_of l₅ ≡ number_of l + item_count (tree_of a) + item_count (tree_of t) + item_count (tree_of old) + item_count (tree_of new) + item_count (tree_of e) =
    b5.number ∙ ap (λ m. m + item_count (tree_of e)) n4 in
    let n6 = b6.number ∙ ap (λ m. m + item_count (tree_of d)) n5 in
    let same : rest_of l ≡ tree_of a ▸ tree_of t ▸ tree_of old ▸ tree_of new ▸ tree_of e ▸ tree_of d ▸ rest_of l₆ =
    b1.rest ∙ ap (λ us. tree_of a ▸ us) (b2.rest ∙ ap (λ us. tree_of t ▸ us) (b3.rest ∙ ap (λ us. tree_of old ▸ us) (b4.rest ∙ ap (λ us. tree_of new ▸ us) (b5.rest ∙ ap (λ us. tree_of e ▸ us) b6.rest)))) in (
      subst (λ r. IsReading instruction_of r result)
          (sym (cas_from names code (owner_of l) (number_of l) (place_of a) (place_of t) (place_of old) (place_of new) (place_of e) (place_of d) width (tree_of a) (tree_of t) (tree_of old) (tree_of new) (tree_of e) (tree_of d)
          (rest_of l₆) (rest_of l) same at1 (at2 ∙ b1.number) (at3 ∙ n2) (at4 ∙ n3) (at5 ∙ n4) (at6 ∙ n5) wide))
          h,
      left_six (number_of l) (tree_of a) (tree_of t) (tree_of old) (tree_of new) (tree_of e) (tree_of d) (rest_of l) l₆ same n6,
    )

left_five : (m : ℕ) (a t r d e : Tree) (us : Trees) (rest : Cursor) → us ≡ a ▸ t ▸ r ▸ d ▸ e ▸ rest_of rest
    → number_of rest ≡ m + item_count a + item_count t + item_count r + item_count d + item_count e → IsLeft 5 m us rest
left_five m a t r d e us rest same number = subst (λ vs. IsLeft 5 m vs rest) (sym same) (number, refl)

faa_from : (names : Names) (code : CodeNames) (n m i j k h p : ℕ) (width : Option ℕ) (a t r d e : Tree) (ts us : Trees)
    → us ≡ a ▸ t ▸ r ▸ d ▸ e ▸ ts → i ≡ m → j ≡ m + item_count a → k ≡ m + item_count a + item_count t → h ≡ m + item_count a + item_count t + item_count r
    → p ≡ m + item_count a + item_count t + item_count r + item_count d → width ≡ row_width code a
    → faa_reading names code n m us ≡ both faa_of (place_reading names code i a j t) (adding_reading names code width k r h d p e)
faa_from names code n m i j k h p width a t r d e ts us same first second third fourth fifth wide = rw (same, first, second, third, fourth, fifth, wide) refl

-- the five parts of `faa`, and the rest after them
pub faa_read : (names : Names) (code : CodeNames) (l l₁ l₂ l₃ l₄ l₅ : Cursor) (a t r d e : Part) (width : Option ℕ) (result : Result Instr ReadFault)
    → IsNext l (Ok a) l₁ → IsNext l₁ (Ok t) l₂ → IsNext l₂ (Ok r) l₃ → IsNext l₃ (Ok d) l₄ → IsNext l₄ (Ok e) l₅ → width ≡ row_width code (tree_of a)
    → IsReading instruction_of (both faa_of (place_reading names code (place_of a) (tree_of a) (place_of t) (tree_of t))
    (adding_reading names code width (place_of r) (tree_of r) (place_of d) (tree_of d) (place_of e) (tree_of e))) result
    → IsReading instruction_of (faa_reading names code (owner_of l) (number_of l) (rest_of l)) result × IsLeft 5 (number_of l) (rest_of l) l₅
faa_read names code l l₁ l₂ l₃ l₄ l₅ a t r d e width result (at1, b1) (at2, b2) (at3, b3) (at4, b4) (at5, b5) wide h =
    let n2 : number_of l₂ ≡ number_of l + item_count (tree_of a) + item_count (tree_of t) = b2.number ∙ ap (λ m. m + item_count (tree_of t)) b1.number in
    let n3 : number_of l₃ ≡ number_of l + item_count (tree_of a) + item_count (tree_of t) + item_count (tree_of r) = b3.number ∙ ap (λ m. m + item_count (tree_of r)) n2 in
    let n4 : number_of l₄ ≡ number_of l + item_count (tree_of a) + item_count (tree_of t) + item_count (tree_of r) + item_count (tree_of d) = b4.number ∙ ap (λ m. m + item_count (tree_of d)) n3 in
    let n5 = b5.number ∙ ap (λ m. m + item_count (tree_of e)) n4 in
    let same : rest_of l ≡ tree_of a ▸ tree_of t ▸ tree_of r ▸ tree_of d ▸ tree_of e ▸ rest_of l₅ =
    b1.rest ∙ ap (λ us. tree_of a ▸ us) (b2.rest ∙ ap (λ us. tree_of t ▸ us) (b3.rest ∙ ap (λ us. tree_of r ▸ us) (b4.rest ∙ ap (λ us. tree_of d ▸ us) b5.rest))) in (
      subst (λ x. IsReading instruction_of x result)
          (sym (faa_from names code (owner_of l) (number_of l) (place_of a) (place_of t) (place_of r) (place_of d) (place_of e) width (tree_of a) (tree_of t) (tree_of r) (tree_of d) (tree_of e)
          (rest_of l₅) (rest_of l) same at1 (at2 ∙ b1.number) (at3 ∙ n2) (at4 ∙ n3) (at5 ∙ n4) wide))
          h,
      left_five (number_of l) (tree_of a) (tree_of t) (tree_of r) (tree_of d) (tree_of e) (rest_of l) l₅ same n5,
    )

set_from : (names : Names) (code : CodeNames) (n m i j : ℕ) (t u : Tree) (ts us : Trees) → us ≡ t ▸ u ▸ ts → i ≡ m → j ≡ m + item_count t
    → set_reading names code n m us ≡ both set_of (assignments_reading names code i t) (label_reading code j u)
set_from names code n m i j t u ts us same first second = rw (same, first, second) refl

-- the two parts of `set`, and the rest after them
pub set_read : (names : Names) (code : CodeNames) (l rest : Cursor) (cells label : Part) (result : Result Instr ReadFault) → IsTwo l (Ok (cells, label, rest))
    → IsReading instruction_of (both set_of (assignments_reading names code (place_of cells) (tree_of cells)) (label_reading code (place_of label) (tree_of label))) result
    → IsReading instruction_of (set_reading names code (owner_of l) (number_of l) (rest_of l)) result × IsLeft 2 (number_of l) (rest_of l) rest
set_read names code l rest cells label result (same, first, second, number) h = (
  subst (λ r. IsReading instruction_of r result) (sym (set_from names code (owner_of l) (number_of l) (place_of cells) (place_of label) (tree_of cells) (tree_of label) (rest_of rest) (rest_of l) same first second)) h,
  left_two (number_of l) (tree_of cells) (tree_of label) (rest_of l) rest same number,
)

left_three : (m : ℕ) (a b d : Tree) (us : Trees) (rest : Cursor) → us ≡ a ▸ b ▸ d ▸ rest_of rest → number_of rest ≡ m + item_count a + item_count b + item_count d → IsLeft 3 m us rest
left_three m a b d us rest same number = subst (λ vs. IsLeft 3 m vs rest) (sym same) (number, refl)

if_from : (names : Names) (code : CodeNames) (n m i j k : ℕ) (t u v : Tree) (ts us : Trees) → us ≡ t ▸ u ▸ v ▸ ts → i ≡ m → j ≡ m + item_count t → k ≡ m + item_count t + item_count u
    → if_reading names code n m us ≡ both if_of (formula_reading names [] i t) (labels_reading code j u k v)
if_from names code n m i j k t u v ts us same first second third = rw (same, first, second, third) refl

-- the three parts of `if`, and the rest after them
pub if_read : (names : Names) (code : CodeNames) (l rest : Cursor) (condition then otherwise : Part) (result : Result Instr ReadFault) → IsThree l (Ok (condition, then, otherwise, rest))
    → IsReading instruction_of (both if_of (formula_reading names [] (place_of condition) (tree_of condition)) (labels_reading code (place_of then) (tree_of then) (place_of otherwise) (tree_of otherwise))) result
    → IsReading instruction_of (if_reading names code (owner_of l) (number_of l) (rest_of l)) result × IsLeft 3 (number_of l) (rest_of l) rest
if_read names code l rest condition then otherwise result (same, first, second, third, number) h = (
  subst (λ r. IsReading instruction_of r result) (sym (if_from names code (owner_of l) (number_of l) (place_of condition) (place_of then) (place_of otherwise) (tree_of condition) (tree_of then) (tree_of otherwise) (rest_of rest) (rest_of l) same first second third)) h,
  left_three (number_of l) (tree_of condition) (tree_of then) (tree_of otherwise) (rest_of l) rest same number,
)

signature_from : (declared : Declared) (k n o m i j p : ℕ) (t u v : Tree) (ts us : Trees) → us ≡ t ▸ u ▸ v ▸ ts → o ≡ n → i ≡ m → j ≡ m + item_count t → p ≡ m + item_count t + item_count u
    → signature_parts declared k n m us ≡ both signature_of (operation_name_reading declared k o i t) (call_reading (call_or (slice_get declared.calls k)).arguments j u p v)
signature_from declared k n o m i j p t u v ts us same owner first second third = rw (same, owner, first, second, third) refl

-- the three parts of an operation
pub signature_read : (declared : Declared) (k owner : ℕ) (l l₁ l₂ l₃ : Cursor) (name arguments replies : Part) (result : Result Signature ReadFault)
    → IsNext l (Ok name) l₁ → IsNext l₁ (Ok arguments) l₂ → IsNext l₂ (Ok replies) l₃ → owner ≡ owner_of l
    → IsReading signature_view (both signature_of (operation_name_reading declared k owner (place_of name) (tree_of name))
    (call_reading (call_or (slice_get declared.calls k)).arguments (place_of arguments) (tree_of arguments) (place_of replies) (tree_of replies))) result
    → IsReading signature_view (signature_parts declared k (owner_of l) (number_of l) (rest_of l)) result
signature_read declared k owner l l₁ l₂ l₃ name arguments replies result (at1, b1) (at2, b2) (at3, b3) own h =
    subst (λ r. IsReading signature_view r result)
    (sym (signature_from declared k (owner_of l) owner (number_of l) (place_of name) (place_of arguments) (place_of replies) (tree_of name) (tree_of arguments) (tree_of replies) (rest_of l₃) (rest_of l)
    (b1.rest ∙ ap (λ us. tree_of name ▸ us) (b2.rest ∙ ap (λ us. tree_of arguments ▸ us) b3.rest)) own at1 (at2 ∙ b1.number) (at3 ∙ b2.number ∙ ap (λ m. m + item_count (tree_of arguments)) b1.number)))
    h
