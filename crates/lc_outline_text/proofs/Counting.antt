-- Counts up to a cap.
use Rattle.std.proofs.Common.{rules, ◌≡◌, ℕ, ◌+◌, ◌*◌, ◌≤◌, ap, ◌∙◌, arith}
use Rattle.lc_outline_text.specs.Views.{capped, count_cap}

-- enough are counted, whatever is left
pub count_cap_reached : (n s whole : ℕ) → count_cap ≤ n → n ≤ count_cap → capped (n + s) ≡ capped whole → count_cap ≡ capped whole
count_cap_reached n s whole many few h = omega arith

-- nothing more is counted
pub count_without_rest : (n s whole : ℕ) → n ≤ count_cap → s ≡ 0 → capped (n + s) ≡ capped whole → n ≡ capped whole
count_without_rest n s whole few none h = omega arith

-- one part more
pub counted_more : (n more own rest s next whole : ℕ) → more ≡ capped own → next ≡ capped (n + more) → s ≡ own + rest → capped (n + s) ≡ capped whole → capped (next + rest) ≡ capped whole
counted_more n more own rest s next whole h g e k = omega arith

pub few_counted : (n m : ℕ) → n ≡ capped m → n ≤ count_cap
few_counted n m h = omega arith

-- a count up to the cap, n times
pub product_capped : (a n : ℕ) → capped (capped a * n) ≡ capped (a * n)
product_capped a n = search rules

-- what holds where calls begin, at the edges, and so often at the points
pub whole_counted : (i e s a n entry edges total stable first all : ℕ) → entry ≡ capped (i + e) → edges ≡ capped s → total ≡ capped a → stable ≡ capped (total * n) → first ≡ capped (entry + edges) → all ≡ capped (first + stable)
    → all ≡ capped (i + e + s + a * n)
whole_counted i e s a n entry edges total stable first all h g k l m o =
    let product : stable ≡ capped (a * n) = l ∙ ap (λ t. capped (t * n)) k ∙ product_capped a n in
    omega (arith, h, g, product, m, o)
