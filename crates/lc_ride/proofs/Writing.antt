-- What is written to a draft, after what was written before.
use Rattle.std.proofs.Common.{◌≡◌, ℕ, List, [], ◌∷◌, ◌++◌, sym, ap, subst, ◌∙◌}
use Rattle.std.proofs.lemmas.List.{map-append}
use Rattle.lc_term.proofs.Stores.{stored-append}
use Rattle.lc_term.specs.Drafts.{written_in_draft, saved_in_draft, draft_columns}
use Rattle.lc_term.specs.Updates as U
use Rattle.lc_term.specs.Updates.{stored_all, AreWithin}
use Rattle.lc_term.specs.UpdateView.{write_view, writes_view}
use Rattle.lc_term.specs.declared.draft.Draft.{Draft}
use Rattle.lc_term.specs.declared.update.Write.{Write}
use Rattle.lc_ride.specs.Writings.{IsWrittenBy}

both_within : (n : ℕ) (xs ys : List U.Write) → AreWithin n xs → AreWithin n ys → AreWithin n (xs ++ ys)
both_within n [] ys h k = k
both_within n (x ∷ xs) ys h k = (h.0, both_within n xs ys h.1 k)

pub written_more : (before after : Draft) (now new ws : List Write) → IsWrittenBy (writes_view now) before → AreWithin (draft_columns before) (writes_view ws) →
    written_in_draft after ≡ stored_all (written_in_draft before) (writes_view ws) → saved_in_draft after ≡ saved_in_draft before → draft_columns after ≡ draft_columns before → new ≡ now ++ ws →
    IsWrittenBy (writes_view new) after
written_more before after now new ws is within written saved columns items =
    let view : writes_view new ≡ writes_view now ++ writes_view ws = ap writes_view items ∙ map-append write_view now ws in (
      written
          ∙ (ap (λ s. stored_all s (writes_view ws)) is.0
          ∙ (sym (stored-append (saved_in_draft before) (writes_view now) (writes_view ws))
          ∙ ((λ i. stored_all (sym saved i) (sym view i))))),
      subst (λ n. AreWithin n (writes_view new)) (sym columns) (subst (AreWithin (draft_columns before)) (sym view) (both_within (draft_columns before) (writes_view now) (writes_view ws) is.1 within)),
    )
