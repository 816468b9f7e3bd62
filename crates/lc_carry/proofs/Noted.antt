-- Numbers at keys are at the texts of the keys.
use Rattle.std.proofs.Common.{◌≡◌, ℕ, Bool, true, false, cond, List, [], ◌∷◌, ◌++◌, Option, Some, None, refl, sym, ap, ap₂, ◌∙◌, subst, is_some}
use Rattle.std.specs.Map.{lookup}
use Rattle.std.specs.Option.{option_or}
use Rattle.std.specs.Prelude.{Result, Ok, Err, OnOk, OnErr, Vec}
use Rattle.std.specs.declared.alloc.Global.{Global}
use Rattle.lc_lemmas.proofs.Lists.{lookup_last}
use Rattle.lc_lemmas.proofs.Booleans.{same_tests}
use Rattle.lc_reading.proofs.Words.{is-true}
use Rattle.lc_reading.specs.Words.{is}
use Rattle.lc_carry.proofs.Least.{or_none}
use Rattle.lc_carry.proofs.Keys.{text_of_key, key_later}
use Rattle.lc_carry.specs.Pieces.{pieces, key_of, joined, KeepsPieces}
use Rattle.lc_carry.specs.TextNumbers.{number_of, listed, AreKeys, noted}
use Rattle.lc_text.proofs.Printed.{same_refl}

-- two keys are the same if their texts are
same_key : (kept : List (List ℕ)) (t key other : List ℕ) → key_of kept (pieces t) ≡ Some key → key_of kept (pieces (joined kept other)) ≡ Some other → is key other ≡ is t (joined kept other)
same_key kept t key other here there =
    same_tests (is key other) (is t (joined kept other))
    (λ e. ap (λ l. is t (joined kept l)) (sym (is-true key other e)) ∙ ap (is t) (text_of_key kept t key here) ∙ same_refl t)
    (λ e.
    let same : t ≡ joined kept other = is-true t (joined kept other) e in
    let found : Some key ≡ Some other = sym here ∙ ap (λ l. key_of kept (pieces l)) same ∙ there in
    let one : key ≡ other = cc in
    ap (is key) (sym one) ∙ same_refl key)

-- a text with a piece that is not kept is that of no key
other_text : (kept : List (List ℕ)) (t other : List ℕ) (b : Bool) → key_of kept (pieces t) ≡ None → key_of kept (pieces (joined kept other)) ≡ Some other → is t (joined kept other) ≡ b → b ≡ false
other_text kept t other false none there e = refl
other_text kept t other true none there e =
    let same : t ≡ joined kept other = is-true t (joined kept other) e in
    absurd (let found : None ≡ Some other = sym none ∙ ap (λ l. key_of kept (pieces l)) same ∙ there in cc)

pub found_at : (kept : List (List ℕ)) (es : List (Vec ℕ Global × ℕ)) (t key : List ℕ) → AreKeys kept es → key_of kept (pieces t) ≡ Some key
    → lookup (λ (k : Vec ℕ Global). is key k.items) es ≡ number_of (listed kept es) t
found_at kept [] t key all here = refl
found_at kept (e ∷ es) t key all here = ap₂ (λ b o. cond b (Some e.1) o) (same_key kept t key e.0.items here all.0) (found_at kept es t key all.1 here)

pub not_found : (kept : List (List ℕ)) (es : List (Vec ℕ Global × ℕ)) (t : List ℕ) → AreKeys kept es → key_of kept (pieces t) ≡ None → number_of (listed kept es) t ≡ None
not_found kept [] t all none = refl
not_found kept (e ∷ es) t all none =
    ap₂ (λ b o. cond b (Some e.1) o) (other_text kept t e.0.items (is t (joined kept e.0.items)) none all.0 refl) (not_found kept es t all.1 none)

-- ---- more pieces

same_later : (kept now : List (List ℕ)) (key : List ℕ) → KeepsPieces kept now → key_of kept (pieces (joined kept key)) ≡ Some key → joined now key ≡ joined kept key
same_later kept now key keeps h = text_of_key now (joined kept key) key (key_later kept now (pieces (joined kept key)) key keeps h)

pub keys_later : (kept now : List (List ℕ)) (es : List (Vec ℕ Global × ℕ)) → KeepsPieces kept now → AreKeys kept es → AreKeys now es
keys_later kept now [] keeps all = tt
keys_later kept now (e ∷ es) keeps all =
    (ap (λ l. key_of now (pieces l)) (same_later kept now e.0.items keeps all.0) ∙ key_later kept now (pieces (joined kept e.0.items)) e.0.items keeps all.0, keys_later kept now es keeps all.1)

pub listed_later : (kept now : List (List ℕ)) (es : List (Vec ℕ Global × ℕ)) → KeepsPieces kept now → AreKeys kept es → listed now es ≡ listed kept es
listed_later kept now [] keeps all = refl
listed_later kept now (e ∷ es) keeps all = ap₂ (λ l r. (l, e.1) ∷ r) (same_later kept now e.0.items keeps all.0) (listed_later kept now es keeps all.1)

-- ---- one number more

keys-push : (kept : List (List ℕ)) (es : List (Vec ℕ Global × ℕ)) (key : Vec ℕ Global) (n : ℕ) → AreKeys kept es → key_of kept (pieces (joined kept key.items)) ≡ Some key.items → AreKeys kept (es ++ (key, n) ∷ [])
keys-push kept [] key n all here = (here, tt)
keys-push kept (e ∷ es) key n all here = (all.0, keys-push kept es key n all.1 here)

listed-push : (kept : List (List ℕ)) (es : List (Vec ℕ Global × ℕ)) (key : Vec ℕ Global) (n : ℕ) → listed kept (es ++ (key, n) ∷ []) ≡ listed kept es ++ (joined kept key.items, n) ∷ []
listed-push kept [] key n = refl
listed-push kept (e ∷ es) key n = ap (λ l. (joined kept e.0.items, e.1) ∷ l) (listed-push kept es key n)

-- a number at a text already stays
stays : (numbers : List (List ℕ × ℕ)) (text t : List ℕ) (n : ℕ) (b : Bool) → is t text ≡ b → is_some (number_of numbers text) ≡ true → number_of numbers t ≡ option_or (number_of numbers t) (cond b (Some n) None)
stays numbers text t n false e there = or_none (number_of numbers t)
stays numbers text t n true e there = there_already (number_of numbers t) (ap (λ l. is_some (number_of numbers l)) (is-true t text e) ∙ there)
  where
    there_already : (o : Option ℕ) → is_some o ≡ true → o ≡ option_or o (Some n)
    there_already None h = absurd (let no : false ≡ true = h in cc)
    there_already (Some a) h = refl

module _ (kept : List (List ℕ)) (es : List (Vec ℕ Global × ℕ)) (text : List ℕ) (key : Vec ℕ Global) (n : ℕ) (all : AreKeys kept es) (here : key_of kept (pieces text) ≡ Some key.items) where
  joined_here : joined kept key.items ≡ text
  joined_here = text_of_key kept text key.items here

  keys_by : (b : Bool) → AreKeys kept (cond b es (es ++ (key, n) ∷ []))
  keys_by true = all
  keys_by false = keys-push kept es key n all (ap (λ l. key_of kept (pieces l)) joined_here ∙ here)

  pub keys_noted : AreKeys kept (noted es key n)
  keys_noted = keys_by (is_some (lookup (λ (k : Vec ℕ Global). is key.items k.items) es))

  number_by : (t : List ℕ) (b : Bool) → is_some (number_of (listed kept es) text) ≡ b
      → number_of (listed kept (cond b es (es ++ (key, n) ∷ []))) t ≡ option_or (number_of (listed kept es) t) (cond (is t text) (Some n) None)
  number_by t true e = stays (listed kept es) text t n (is t text) refl e
  number_by t false e =
      ap (λ l. number_of l t) (listed-push kept es key n)
      ∙ lookup_last (is t) (listed kept es) (joined kept key.items) n
      ∙ ap (λ l. option_or (number_of (listed kept es) t) (cond (is t l) (Some n) None)) joined_here

  pub number_noted : (t : List ℕ) → number_of (listed kept (noted es key n)) t ≡ option_or (number_of (listed kept es) t) (cond (is t text) (Some n) None)
  number_noted t = number_by t (is_some (lookup (λ (k : Vec ℕ Global). is key.items k.items) es)) (sym (ap is_some (found_at kept es text key.items all here)))

-- what holds of what is noted, and of what was there, holds of what there is then
pub holds_after_noting : {T E : Type 0} (r : Result T E) (P : List (Vec ℕ Global × ℕ) → Type 0) (new now es : List (Vec ℕ Global × ℕ)) → OnOk r (new ≡ now) → OnErr r (new ≡ es) → P now → P es → P new
holds_after_noting (Ok x) P new now es is_noted same here there = subst P (sym is_noted) here
holds_after_noting (Err e) P new now es is_noted same here there = subst P (sym same) there
