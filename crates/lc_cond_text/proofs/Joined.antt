-- Texts that are written one after another.
use Rattle.std.proofs.Common.{◌≡◌, ℕ, List, ◌++◌, ap, ◌∙◌, append_assoc}

-- a line of three parts, appended: the last two are what it says
pub line_joined : (c k w p q r s cv v ch f cg g ce o o1 o2 o3 : List ℕ) → o1 ≡ o ++ (c ++ k ++ w ++ (p ++ q ++ r ++ s)) → o2 ≡ o1 ++ (cv ++ v ++ ch ++ f) → o3 ≡ o2 ++ (cg ++ g ++ ce) →
    o3 ≡ o ++ (c ++ k ++ w ++ p ++ q ++ r ++ s ++ (cv ++ v ++ ch ++ f ++ cg ++ g ++ ce))
line_joined c k w p q r s cv v ch f cg g ce o o1 o2 o3 first second third =
    third ∙ ap (λ l. l ++ (cg ++ g ++ ce)) (second ∙ ap (λ l. l ++ (cv ++ v ++ ch ++ f)) first) ∙ simp append_assoc

-- four parts, appended
pub joined_four : (o a b c d p q r s : List ℕ) → p ≡ o ++ a → q ≡ p ++ b → r ≡ q ++ c → s ≡ r ++ d → s ≡ o ++ (a ++ b ++ c ++ d)
joined_four o a b c d p q r s e f g h = h ∙ ap (λ l. l ++ d) (g ∙ ap (λ l. l ++ c) (f ∙ ap (λ l. l ++ b) e)) ∙ simp append_assoc
