-- Flaws of items one after another, with no value made of them.
use Rattle.std.proofs.Common.{◌≡◌, Ok, Err, refl, ap, ◌∙◌}
use Rattle.std.specs.Prelude.{Result}
use Rattle.lc_reading.proofs.Order.{lesser_assoc}
use Rattle.lc_reading.proofs.SoFar.{flawed_before}
use Rattle.lc_reading.specs.Flaws.{lesser}
use Rattle.lc_reading.specs.Readings.{Reading, fine, flawed, both}
use Rattle.lc_reading.specs.declared.flaw.Flaw.{Flaw}
use Rattle.lc_reading.specs.Results.{IsReading, also_results}
use Rattle.lc_reading.specs.declared.flaw.ReadFault.{ReadFault}
use Rattle.lc_reading.specs.declared.flaw.ReadFault.TheVariants.{Flawed, OutOfMemory}

-- so far this is wrong in the whole, and the rest is left
abbrev pub IsNoted : Reading (Unit {0}) → Reading (Unit {0}) → Result (Unit {0}) ReadFault → Type 0
IsNoted whole rest (Ok u) = whole ≡ rest
IsNoted whole rest (Err (Flawed g)) = whole ≡ flawed_before g rest
IsNoted whole rest (Err OutOfMemory) = Unit {0}

flaw_first : (g : Flaw) (r : Reading (Unit {0})) → both (λ (x y : Unit {0}). y) (flawed g) r ≡ flawed_before g r
flaw_first g (fine y) = refl
flaw_first g (flawed h) = refl

none_first : (u : Unit {0}) (r : Reading (Unit {0})) → both (λ (x y : Unit {0}). y) (fine u) r ≡ r
none_first u (fine y) = refl
none_first u (flawed h) = refl

before_before : (f g : Flaw) (r : Reading (Unit {0})) → flawed_before f (flawed_before g r) ≡ flawed_before (lesser f g) r
before_before f g (fine y) = refl
before_before f g (flawed h) = ap flawed (lesser_assoc f g h)

-- one item more
pub noted_more : (whole r rest : Reading (Unit {0})) (a b c : Result (Unit {0}) ReadFault) → IsNoted whole (both (λ (x y : Unit {0}). y) r rest) a → IsReading (λ (u : Unit {0}). u) r b
    → c ≡ also_results a b → IsNoted whole rest c
noted_more whole r rest (Ok u) (Ok v) c h k e = rw e (h ∙ ap (λ r. both (λ (x y : Unit {0}). y) r rest) k ∙ none_first v rest)
noted_more whole r rest (Ok u) (Err (Flawed g)) c h k e = rw e (h ∙ ap (λ r. both (λ (x y : Unit {0}). y) r rest) k ∙ flaw_first g rest)
noted_more whole r rest (Ok u) (Err OutOfMemory) c h k e = rw e tt
noted_more whole r rest (Err (Flawed f)) (Ok v) c h k e = rw e (h ∙ ap (λ r. flawed_before f (both (λ (x y : Unit {0}). y) r rest)) k ∙ ap (flawed_before f) (none_first v rest))
noted_more whole r rest (Err (Flawed f)) (Err (Flawed g)) c h k e =
    rw e (h ∙ ap (λ r. flawed_before f (both (λ (x y : Unit {0}). y) r rest)) k ∙ ap (flawed_before f) (flaw_first g rest) ∙ before_before f g rest)
noted_more whole r rest (Err (Flawed f)) (Err OutOfMemory) c h k e = rw e tt
noted_more whole r rest (Err OutOfMemory) (Ok v) c h k e = rw e tt
noted_more whole r rest (Err OutOfMemory) (Err (Flawed g)) c h k e = rw e tt
noted_more whole r rest (Err OutOfMemory) (Err OutOfMemory) c h k e = rw e tt
