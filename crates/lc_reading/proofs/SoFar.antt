-- Readings of items one after another.
use Rattle.std.proofs.Common.{◌≡◌, ℕ, List, [], ◌∷◌, ◌++◌, Ok, Err, refl, sym, ap, ◌∙◌, subst, map}
use Rattle.std.specs.Prelude.{Result, Vec}
use Rattle.std.specs.declared.alloc.Global.{Global}
use Rattle.std.proofs.lemmas.List.{map-append}
use Rattle.lc_reading.proofs.Order.{lesser_assoc}
use Rattle.lc_reading.specs.Flaws.{at, lesser}
use Rattle.lc_reading.specs.Readings.{Reading, fine, flawed, wrong, both, mapped}
use Rattle.lc_reading.specs.Results.{IsReading, IsPushed, misshapen_too}
use Rattle.lc_reading.specs.declared.pass.Pass.TheVariants.{Shape}
use Rattle.lc_reading.specs.declared.flaw.Flaw.{Flaw}
use Rattle.lc_reading.specs.declared.flaw.ReadFault.{ReadFault}
use Rattle.lc_reading.specs.declared.flaw.ReadFault.TheVariants.{Flawed, OutOfMemory}

-- these values before others
abbrev pub front : {X L : Type 0} → (X → L → L) → List X → Reading L → Reading L
front cons [] r = r
front cons (x ∷ xs) r = mapped (cons x) (front cons xs r)

-- a flaw before others
abbrev pub flawed_before : {L : Type 0} → Flaw → Reading L → Reading L
flawed_before g (fine x) = flawed g
flawed_before g (flawed h) = flawed (lesser g h)

-- so far these are read of the whole, and the rest is left
abbrev pub IsSoFar : {T X L : Type 0} → (T → X) → (X → L → L) → Reading L → Reading L → Result (Vec T Global) ReadFault → Type 0
IsSoFar view cons whole rest (Ok xs) = whole ≡ front cons (map view xs.items) rest
IsSoFar view cons whole rest (Err (Flawed g)) = whole ≡ flawed_before g rest
IsSoFar view cons whole rest (Err OutOfMemory) = Unit {0}

front_flawed : {X L : Type 0} (cons : X → L → L) (xs : List X) (g : Flaw) → front cons xs (flawed g) ≡ flawed g
front_flawed cons [] g = refl
front_flawed cons (x ∷ xs) g = ap (mapped (cons x)) (front_flawed cons xs g)

front_push : {X L : Type 0} (cons : X → L → L) (xs : List X) (x : X) (r : Reading L) → front cons (xs ++ x ∷ []) r ≡ front cons xs (mapped (cons x) r)
front_push cons [] x r = refl
front_push cons (y ∷ xs) x r = ap (mapped (cons y)) (front_push cons xs x r)

one_first : {X L : Type 0} (cons : X → L → L) (x : X) (r : Reading L) → both cons (fine x) r ≡ mapped (cons x) r
one_first cons x (fine y) = refl
one_first cons x (flawed g) = refl

flaw_first : {X L : Type 0} (cons : X → L → L) (g : Flaw) (r : Reading L) → both cons (flawed g) r ≡ flawed_before g r
flaw_first cons g (fine y) = refl
flaw_first cons g (flawed h) = refl

front_before : {X L : Type 0} (cons : X → L → L) (xs : List X) (g : Flaw) (r : Reading L) → front cons xs (flawed_before g r) ≡ flawed_before g r
front_before cons xs g (fine y) = front_flawed cons xs g
front_before cons xs g (flawed h) = front_flawed cons xs (lesser g h)

before_mapped : {X L : Type 0} (cons : X → L → L) (x : X) (g : Flaw) (r : Reading L) → flawed_before g (mapped (cons x) r) ≡ flawed_before g r
before_mapped cons x g (fine y) = refl
before_mapped cons x g (flawed h) = refl

before_before : {L : Type 0} (f g : Flaw) (r : Reading L) → flawed_before f (flawed_before g r) ≡ flawed_before (lesser f g) r
before_before f g (fine y) = refl
before_before f g (flawed h) = ap flawed (lesser_assoc f g h)

-- one more is read
pub so_far_push : {T X L : Type 0} (view : T → X) (cons : X → L → L) (whole : Reading L) (r : Reading X) (rest : Reading L) (a : Result (Vec T Global) ReadFault) (b : Result T ReadFault) (c : Result (Vec T Global) ReadFault)
    → IsSoFar view cons whole (both cons r rest) a → IsReading view r b → IsPushed a b c → IsSoFar view cons whole rest c
so_far_push view cons whole r rest (Ok xs) (Ok x) (Ok ys) h k p =
    h ∙ ap (λ r. front cons (map view xs.items) (both cons r rest)) k ∙ ap (front cons (map view xs.items)) (one_first cons (view x) rest)
    ∙ sym (front_push cons (map view xs.items) (view x) rest) ∙ ap (λ zs. front cons zs rest) (sym (ap (map view) p ∙ map-append view xs.items (x ∷ [])))
so_far_push view cons whole r rest (Ok xs) (Ok x) (Err f) h k p = subst (λ f. IsSoFar view cons whole rest (Err f)) (sym p) tt
so_far_push view cons whole r rest (Ok xs) (Err (Flawed g)) c h k p =
    subst (IsSoFar view cons whole rest) (sym p) (h ∙ ap (λ r. front cons (map view xs.items) (both cons r rest)) k ∙ ap (front cons (map view xs.items)) (flaw_first cons g rest) ∙ front_before cons (map view xs.items) g rest)
so_far_push view cons whole r rest (Ok xs) (Err OutOfMemory) c h k p = subst (IsSoFar view cons whole rest) (sym p) tt
so_far_push view cons whole r rest (Err (Flawed f)) (Ok x) c h k p =
    subst (IsSoFar view cons whole rest) (sym p) (h ∙ ap (λ r. flawed_before f (both cons r rest)) k ∙ ap (flawed_before f) (one_first cons (view x) rest) ∙ before_mapped cons (view x) f rest)
so_far_push view cons whole r rest (Err OutOfMemory) (Ok x) c h k p = subst (IsSoFar view cons whole rest) (sym p) tt
so_far_push view cons whole r rest (Err (Flawed f)) (Err (Flawed g)) c h k p =
    subst (IsSoFar view cons whole rest) (sym p) (h ∙ ap (λ r. flawed_before f (both cons r rest)) k ∙ ap (flawed_before f) (flaw_first cons g rest) ∙ before_before f g rest)
so_far_push view cons whole r rest (Err (Flawed f)) (Err OutOfMemory) c h k p = subst (IsSoFar view cons whole rest) (sym p) tt
so_far_push view cons whole r rest (Err OutOfMemory) (Err (Flawed g)) c h k p = subst (IsSoFar view cons whole rest) (sym p) tt
so_far_push view cons whole r rest (Err OutOfMemory) (Err OutOfMemory) c h k p = subst (IsSoFar view cons whole rest) (sym p) tt

front_values : {X : Type 0} (xs : List X) → front (λ x xs. x ∷ xs) xs (fine []) ≡ fine xs
front_values [] = refl
front_values (x ∷ xs) = ap (mapped (λ ys. x ∷ ys)) (front_values xs)

-- all are read
pub each_end : {T X : Type 0} (view : T → X) (whole rest : Reading (List X)) (a : Result (Vec T Global) ReadFault) → rest ≡ fine [] → IsSoFar view (λ x xs. x ∷ xs) whole rest a
    → IsReading (λ (xs : Vec T Global). map view xs.items) whole a
each_end view whole rest (Ok xs) e h = h ∙ ap (front (λ x xs. x ∷ xs) (map view xs.items)) e ∙ front_values (map view xs.items)
each_end view whole rest (Err (Flawed g)) e h = h ∙ ap (flawed_before g) e
each_end view whole rest (Err OutOfMemory) e h = tt

-- and the next item is misshapen
pub misshapen_end : {T X : Type 0} (view : T → X) (n : ℕ) (whole rest : Reading (List X)) (a : Result (Vec T Global) ReadFault) → rest ≡ wrong Shape n → IsSoFar view (λ x xs. x ∷ xs) whole rest a
    → IsReading (λ (xs : Vec T Global). map view xs.items) whole (misshapen_too n a)
misshapen_end view n whole rest (Ok xs) e h = h ∙ ap (front (λ x xs. x ∷ xs) (map view xs.items)) e ∙ front_flawed (λ x xs. x ∷ xs) (map view xs.items) (at Shape n)
misshapen_end view n whole rest (Err (Flawed g)) e h = h ∙ ap (flawed_before g) e
misshapen_end view n whole rest (Err OutOfMemory) e h = tt
