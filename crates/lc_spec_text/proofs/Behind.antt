-- Names that come after others, in a table of their own.
use Rattle.std.proofs.Common.{◌≡◌, ℕ, ◌+◌, List, ◌∷◌, ◌++◌, length, append_assoc, Option, None, refl, sym, ap, ◌∙◌}
use Rattle.std.specs.Option.{option_or}
use Rattle.std.specs.Prelude.{option_map}
use Rattle.lc_sexp.specs.Trees.{Tree, Trees, none, ◌▸◌, item_count}
use Rattle.lc_reading.specs.Listed.{place_of}
use Rattle.lc_reading.specs.Readings.{Reading, both}
use Rattle.lc_reading.specs.Rows.{declared_reading}
use Rattle.lc_reading.proofs.Places.{place_behind}

-- ---- places

pub placed_behind : (vs ws : List (List ℕ)) (w : List ℕ) (o : Option ℕ) → place_of vs w ≡ None → place_of ws w ≡ o → place_of (vs ++ ws) w ≡ option_map (λ k. length vs + k) o
placed_behind vs ws w o e g =
    place_behind vs ws w ∙ ap (λ p. option_or p (option_map (λ k. length vs + k) (place_of ws w))) e ∙ ap (option_map (λ k. length vs + k)) g

-- ---- declarations

-- a row of declarations
pub declared_reading-behind : {X : Type 0} (read : List (List ℕ) → ℕ → Tree → Reading X) (declares : Tree → List (List ℕ)) (vs before : List (List ℕ)) (m : ℕ) (ts : Trees)
    → declared_reading (λ ws. read (vs ++ ws)) declares before m ts ≡ declared_reading read declares (vs ++ before) m ts
declared_reading-behind read declares vs before m none = refl
declared_reading-behind read declares vs before m (t ▸ ts) =
    ap (both (λ x xs. x ∷ xs) (read (vs ++ before) m t))
    (declared_reading-behind read declares vs (before ++ declares t) (m + item_count t) ts
    ∙ ap (λ ws. declared_reading read declares ws (m + item_count t) ts) (sym (append_assoc vs before (declares t))))
