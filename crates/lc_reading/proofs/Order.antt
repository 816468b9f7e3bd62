-- The order of flaws.
use Rattle.std.proofs.Common.{◌≡◌, ℕ, Bool, true, false, ◌||◌, ◌&&◌, refl, sym, ap, ◌∙◌, arith, cond, min}
use Rattle.std.specs.Prelude.{nat_lt, ◌==◌}
use Rattle.lc_reading.specs.declared.pass.Pass.{Pass}
use Rattle.lc_reading.specs.Flaws.{lesser, is_before, rank}
use Rattle.lc_reading.specs.declared.flaw.Flaw.{Flaw}

abbrev lex : ℕ → ℕ → ℕ → ℕ → Bool
lex a b i j = nat_lt a b || (a == b) && nat_lt i j

lex_trans : (a b c i j k : ℕ) → lex a b i j ≡ true → lex b c j k ≡ true → lex a c i k ≡ true
lex_trans a b c i j k h l = grind arith

lex_not : (a b c i j k : ℕ) → lex a b i j ≡ false → lex b c j k ≡ false → lex a c i k ≡ false
lex_not a b c i j k h l = grind arith

min_assoc : (x y z : ℕ) → min x (min y z) ≡ min (min x y) z
min_assoc x y z = omega arith

abbrev pick : {X : Type 0} → Bool → X → X → X
pick b x y = cond b x y

-- what is picked of three, from either side
picked : {X : Type 0} (a b c : Bool) (f g h : X) → (a ≡ true → b ≡ true → c ≡ true) → (a ≡ false → b ≡ false → c ≡ false)
    → pick (cond b c a) (pick b h g) f ≡ pick (cond a b c) h (pick a g f)
picked true true true f g h t n = refl
picked true true false f g h t n = let e : false ≡ true = t refl refl in cc
picked true false c f g h t n = refl
picked false true true f g h t n = refl
picked false true false f g h t n = refl
picked false false true f g h t n = let e : true ≡ false = n refl refl in cc
picked false false false f g h t n = refl

left_before : (f g h : Flaw) (b : Bool) → is_before h g ≡ b → is_before (lesser g h) f ≡ cond b (is_before h f) (is_before g f)
left_before f g h true e = rw e refl
left_before f g h false e = rw e refl

right_before : (f g h : Flaw) (a : Bool) → is_before g f ≡ a → is_before h (lesser f g) ≡ cond a (is_before h g) (is_before h f)
right_before f g h true e = rw e refl
right_before f g h false e = rw e refl

same : (p q : Pass) (i j l m : ℕ) → p ≡ q → i ≡ j → l ≡ m → (let f : Flaw = record { pass = p; item = i; least = l } in let g : Flaw = record { pass = q; item = j; least = m } in f ≡ g)
same p q i j l m e f g = rw (e, f, g) refl

pub lesser_assoc : (f g h : Flaw) → lesser f (lesser g h) ≡ lesser (lesser f g) h
lesser_assoc f g h =
    let t : is_before g f ≡ true → is_before h g ≡ true → is_before h f ≡ true = λ x y. lex_trans (rank h.pass) (rank g.pass) (rank f.pass) h.item g.item f.item y x in
    let n : is_before g f ≡ false → is_before h g ≡ false → is_before h f ≡ false = λ x y. lex_not (rank h.pass) (rank g.pass) (rank f.pass) h.item g.item f.item y x in
    let l = left_before f g h (is_before h g) refl in
    let r = right_before f g h (is_before g f) refl in
    same _ _ _ _ _ _
    (ap (λ b. cond b (lesser g h).pass f.pass) l ∙ picked (is_before g f) (is_before h g) (is_before h f) f.pass g.pass h.pass t n ∙ ap (λ b. cond b h.pass (lesser f g).pass) (sym r))
    (ap (λ b. cond b (lesser g h).item f.item) l ∙ picked (is_before g f) (is_before h g) (is_before h f) f.item g.item h.item t n ∙ ap (λ b. cond b h.item (lesser f g).item) (sym r))
    (min_assoc f.least g.least h.least)
