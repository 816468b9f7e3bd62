-- What is seen of several formulas, one after another, and of one at several numbers.
use Rattle.std.proofs.Common.{◌≡◌, ℕ, zero, suc, ◌+◌, ◌<◌, List, [], ◌∷◌, length, drop, get_or, refl, sym, ap, ap₂, ◌∙◌, subst, add-one}
use Rattle.std.specs.Prelude.{ℤ, pos, Option}
use Rattle.std.proofs.Math.Seq.{drop-cons}
use Rattle.lc_term.specs.Meaning.{State, Env, push}
use Rattle.lc_term.specs.Syntax as S
use Rattle.lc_look.specs.Computing.{bounds_of}
use Rattle.lc_look.specs.Looking.{opposite, both, among, look_each, look_in}
use Rattle.lc_look.specs.Ranges.{range_of, premise_range, numbers_in, tried}
use Rattle.lc_look.specs.declared.range.Range.{Range}
use Rattle.lc_look.specs.declared.seen.Seen.{Seen}
use Rattle.lc_look.specs.declared.seen.Seen.TheVariants.{Yes, No, Open}

pub both-twice : (a b c : Seen) → both (both a b) c ≡ both a (both b c)
both-twice Yes b c = refl
both-twice No b c = refl
both-twice Open Yes c = refl
both-twice Open No c = refl
both-twice Open Open Yes = refl
both-twice Open Open No = refl
both-twice Open Open Open = refl

-- the numbers below one more quantifier
pub bounds-push : (x : ℤ) (bounds : List ℤ) → bounds_of (x ∷ bounds) ≡ push x (bounds_of bounds)
bounds-push x bounds = λ i k. by k i
  where
    by : (k : ℕ) → bounds_of (x ∷ bounds) k ≡ push x (bounds_of bounds) k
    by zero = refl
    by (suc k) = refl

-- what is seen where a number stands before the others
pub below-push : (ns : List ℤ) (s : State) (e : Env) (f : S.Formula) (x : ℤ) (below bounds : List ℤ) (here : Seen) → below ≡ x ∷ bounds → here ≡ look_in ns s e (bounds_of below) f → here ≡ look_in ns s e (push x (bounds_of bounds)) f
below-push ns s e f x below bounds here is h = h ∙ ap (λ (l : List ℤ). look_in ns s e (bounds_of l) f) is ∙ ap (λ (b : Env). look_in ns s e b f) (bounds-push x bounds)

-- ---- from what was seen before, and what is left, to one more

pub each-more : (p : ℤ → Seen) (xs : List ℤ) (i : ℕ) (d : ℤ) (whole seen here seen' : Seen) → i < length xs → here ≡ p (get_or xs i d) → seen' ≡ both seen here →
    whole ≡ both seen (look_each p (drop i xs)) → whole ≡ both seen' (look_each p (drop (suc i) xs))
each-more p xs i d whole seen here seen' lt is now h =
    h ∙ ap (λ l. both seen (look_each p l)) (drop-cons xs i d lt) ∙
    ap (λ m. both seen (both m (look_each p (drop (suc i) xs)))) (sym is) ∙
    sym (both-twice seen here (look_each p (drop (suc i) xs))) ∙
    ap (λ m. both m (look_each p (drop (suc i) xs))) (sym now)

-- the same of the number that stands at the place
pub each-next : (p : ℤ → Seen) (xs : List ℤ) (i : ℕ) (v : ℤ) (whole seen here seen' : Seen) → i < length xs → v ≡ get_or xs i (pos 0) → here ≡ p v → seen' ≡ both seen here →
    whole ≡ both seen (look_each p (drop i xs)) → whole ≡ both seen' (look_each p (drop (i + 1) xs))
each-next p xs i v whole seen here seen' lt at is now h =
    subst (λ (j : ℕ). whole ≡ both seen' (look_each p (drop j xs))) (sym (add-one i)) (each-more p xs i (pos 0) whole seen here seen' lt (is ∙ ap p at) now h)

-- where one was seen not to hold, the rest is of no matter
pub seen-no : (whole seen rest : Seen) → seen ≡ No → whole ≡ both seen rest → No ≡ whole
seen-no whole seen rest fails h = sym (h ∙ ap (λ m. both m rest) fails)

-- ---- quantifiers, from what is seen at the numbers that are tried

pub forall-told : (ns ts : List ℤ) (s : State) (e b : Env) (f : S.Formula) (r : Range) (range : Option (List ℤ)) (seen told : Seen) →
    r ≡ premise_range s e f → range ≡ numbers_in r → ts ≡ tried ns range → seen ≡ look_each (λ x. look_in ns s e (push x b) f) ts → told ≡ among seen range →
    told ≡ look_in ns s e b (S.Forall f)
forall-told ns ts s e b f r range seen told r-is range-is ts-is seen-is told-is =
    let q : range ≡ numbers_in (premise_range s e f) = range-is ∙ ap numbers_in r-is in
    told-is ∙ ap₂ among (seen-is ∙ ap (look_each (λ x. look_in ns s e (push x b) f)) (ts-is ∙ ap (tried ns) q)) q

pub exists-told : (ns ts : List ℤ) (s : State) (e b : Env) (f : S.Formula) (r : Range) (range : Option (List ℤ)) (seen told : Seen) →
    r ≡ range_of s e f → range ≡ numbers_in r → ts ≡ tried ns range → seen ≡ look_each (λ x. opposite (look_in ns s e (push x b) f)) ts → told ≡ among seen range →
    opposite told ≡ look_in ns s e b (S.Exists f)
exists-told ns ts s e b f r range seen told r-is range-is ts-is seen-is told-is =
    let q : range ≡ numbers_in (range_of s e f) = range-is ∙ ap numbers_in r-is in
    ap opposite (told-is ∙ ap₂ among (seen-is ∙ ap (look_each (λ x. opposite (look_in ns s e (push x b) f))) (ts-is ∙ ap (tried ns) q)) q)
