-- Updates of columns, one after another.
use Rattle.std.proofs.Common.{◌≡◌, ℕ, ◌+◌, ◌<◌, List, ◌∷◌, length, drop, map, get_or, sym, ap, ◌∙◌}
use Rattle.std.proofs.lemmas.List.{drop_more}
use Rattle.lc_term.specs.Said.{put, puts, said}
use Rattle.lc_term.specs.Syntax.{Term, Column, Base}
use Rattle.lc_term.specs.UpdateView.{update_of, updates_of}
use Rattle.lc_term.specs.declared.update.Update.{Update}

-- one more update
pub puts_more : (τ : List Term) (us : List Update) (i : ℕ) (u : Update) (stored : ℕ → Column) → i < length us → u ≡ get_or us i u →
    puts stored (map (said Base τ) (updates_of (drop i us))) ≡ puts (put stored (said Base τ (update_of u))) (map (said Base τ) (updates_of (drop (i + 1) us)))
puts_more τ us i u stored h is =
    ap (λ vs. puts stored (map (said Base τ) (updates_of vs))) (drop_more us i u h ∙ ap (λ x. x ∷ drop (i + 1) us) (sym is))
