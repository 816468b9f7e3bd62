-- One condition, by its number.
use Rattle.std.specs.Prelude.{◌≡◌, ℕ, ◌⊎◌, List, [], ◌∷◌, ◌++◌, Option, Some, None, option_map, slice_get, Vec}
use Rattle.std.specs.declared.alloc.Global.{Global}
use Rattle.lc_cond.specs.Conditions.{conditions}
use Rattle.lc_cond_text.specs.ConditionText.{condition_text}
use Rattle.lc_layout.specs.Layout.{laid_out}
use Rattle.lc_outline.specs.Development.{Development}
use Rattle.lc_sexp.specs.Reads.{ReadsAs}
use Rattle.lc_sexp.specs.Trees.{Trees}

-- the line of the condition of a number, if there is one
abbrev pub line_at : Development → ℕ → Option (List ℕ)
line_at D k = option_map (condition_text D k) (slice_get (conditions D) k)

-- The line laid out over lines; or as it is, if it reads as no forms, being nested too deep or too long for a file
abbrev pub IsLaidLine : List ℕ → List ℕ → Type 0
IsLaidLine line text =
    ((forms : Trees) × ReadsAs line forms × (text ≡ laid_out forms)) ⊎ (((forms : Trees) → ReadsAs line forms → ⊥) × (text ≡ line ++ 10 ∷ []))

-- the text is the line, laid out; there is none if there is no line
abbrev pub IsLaid : Option (List ℕ) → Option (Vec ℕ Global) → Type 0
IsLaid None None = Unit {0}
IsLaid (Some line) (Some text) = IsLaidLine line text.items
IsLaid _ _ = ⊥
