-- Data of pages have no markup.
use Rattle.std.proofs.Common.{◌≡◌, ℕ, ◌==◌, Bool, true, false, ◌||◌, List, [], ◌∷◌, ◌++◌, Result, Ok, Err, Vec, codes, refl, ap, subst, ◌∙◌}
use Rattle.std.specs.Prelude.{if◌then◌else◌, IfOk}
use Rattle.std.specs.declared.alloc.Global.{Global}
use Rattle.lc_base.specs.declared.memory.OutOfMemory.{OutOfMemory}
use Rattle.lc_history.specs.History.{Event, Entry}
use Rattle.lc_hist.specs.JsonWritten.{history_text}
use Rattle.lc_seq.specs.Specification.{Operation}
use Rattle.lc_page.specs.Pages.{IsPage, data_text, page_with}
use Rattle.lc_page.specs.Unmarked.{has_markup, is_markup, unmarked, unmarked_byte}

joined_markup : (xs ys : List ℕ) → has_markup xs ≡ false → has_markup ys ≡ false → has_markup (xs ++ ys) ≡ false
joined_markup [] ys none also = also
joined_markup (x ∷ xs) ys none also = by (λ h. joined_markup xs ys h also) (is_markup x) refl
  where
    by : (has_markup xs ≡ false → has_markup (xs ++ ys) ≡ false) → (b : Bool) → is_markup x ≡ b → has_markup (x ∷ xs ++ ys) ≡ false
    by rest true e = absurd (let u : (true || has_markup xs) ≡ false = subst (λ t. (t || has_markup xs) ≡ false) e none in cc)
    by rest false e = ap (λ t. t || has_markup (xs ++ ys)) e ∙ rest (subst (λ t. (t || has_markup xs) ≡ false) e none)

-- the byte or its escape, by which byte of markup it is
abbrev chosen_bytes : (x y z : Bool) → ℕ → List ℕ
chosen_bytes x y z b = if x then codes "\\u0026" else (if y then codes "\\u003c" else (if z then codes "\\u003e" else b ∷ []))

-- an escape has none, nor has a byte that needs none
one_byte : (b : ℕ) → has_markup (unmarked_byte b) ≡ false
one_byte b = by (b == 38) (b == 60) (b == 62) refl refl refl
  where
    by : (x y z : Bool) → (b == 38) ≡ x → (b == 60) ≡ y → (b == 62) ≡ z → has_markup (unmarked_byte b) ≡ false
    by true y z e f g = ap (λ t. has_markup (chosen_bytes t (b == 60) (b == 62) b)) e
    by false true z e f g = ap (λ t. has_markup (chosen_bytes t (b == 60) (b == 62) b)) e ∙ ap (λ t. has_markup (chosen_bytes false t (b == 62) b)) f
    by false false true e f g =
        ap (λ t. has_markup (chosen_bytes t (b == 60) (b == 62) b)) e ∙ ap (λ t. has_markup (chosen_bytes false t (b == 62) b)) f ∙ ap (λ t. has_markup (chosen_bytes false false t b)) g
    by false false false e f g =
        ap (λ t. has_markup (chosen_bytes t (b == 60) (b == 62) b)) e ∙ ap (λ t. has_markup (chosen_bytes false t (b == 62) b)) f ∙ ap (λ t. has_markup (chosen_bytes false false t b)) g
        ∙ ap (λ t. ((t || (b == 60)) || (b == 62)) || false) e ∙ ap (λ t. ((false || t) || (b == 62)) || false) f ∙ ap (λ t. ((false || false) || t) || false) g

pub none_has_markup : (bytes : List ℕ) → has_markup (unmarked bytes) ≡ false
none_has_markup [] = refl
none_has_markup (b ∷ bytes) = joined_markup (unmarked_byte b) (unmarked bytes) (one_byte b) (none_has_markup bytes)

-- what three texts make, one after another
pub framed_text : (head middle tail a b c d : List ℕ) → a ≡ [] → b ≡ a ++ head → c ≡ b ++ middle → d ≡ c ++ tail → d ≡ head ++ middle ++ tail
framed_text head middle tail a b c d none first second third =
    third ∙ ap (λ t. t ++ tail) (second ∙ ap (λ t. t ++ middle) (first ∙ ap (λ t. t ++ head) none))

-- the page of a history, with what is said of it
pub page_said : (operations : List Operation) (events : List Event) (order : List Entry) (said json a b c d : List ℕ) (r : Result (Vec ℕ Global) OutOfMemory) → a ≡ [] → b ≡ a ++ codes "{\"history\":" → json ≡ history_text operations events order
    → c ≡ b ++ json → d ≡ c ++ said → IfOk r (λ text. text.items ≡ page_with (unmarked d)) → IfOk r (λ text. IsPage operations events order text.items)
page_said operations events order said json a b c d (Ok text) none first is second third page =
    let whole : d ≡ data_text operations events order said =
    framed_text (codes "{\"history\":") json said a b c d none first second third ∙ ap (λ j. codes "{\"history\":" ++ j ++ said) is in
    record {
      said = said;
      is = page ∙ ap (λ t. page_with (unmarked t)) whole;
      plain = none_has_markup (data_text operations events order said);
    }
page_said operations events order said json a b c d (Err e) none first is second third page = tt
