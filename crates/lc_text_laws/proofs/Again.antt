-- Lists after a word that read back as printed; conjuncts and actions.
use Rattle.std.proofs.Common.{◌≡◌, ℕ, ◌+◌, ◌≤◌, Bool, true, false, cond, List, map, refl, sym, ap, ◌∙◌, subst, arith}
use Rattle.lc_sexp.specs.Trees.{Tree, Trees, atom, list, none, ◌▸◌, item_count, row}
use Rattle.lc_reading.proofs.Fine.{IfFine, if_fine_weaker}
use Rattle.lc_reading.proofs.Words.{is-true}
use Rattle.lc_reading.specs.Readings.{Reading, fine, flawed, wrong, behind_reading}
use Rattle.lc_reading.specs.Rows.{each_reading}
use Rattle.lc_reading.specs.Words.{is}
use Rattle.lc_reading.specs.declared.pass.Pass.TheVariants.{Shape}
use Rattle.lc_text_laws.proofs.Alike.{Alike, Readable}
use Rattle.lc_text_laws.proofs.Formulas.{RowAgain, each_again}

-- what holds of a value, with what was read
pub with_reading : {X : Type 0} (P : X → Type 0) (r : Reading X) → IfFine r P → IfFine r (λ x. P x × (r ≡ fine x))
with_reading P (fine x) h = (h, refl)
with_reading P (flawed f) h = tt

-- ---- what is in a list after a word

module _ {X : Type 0} (tree : X → Tree) (read : ℕ → Tree → Reading X) (word : List ℕ) where
  pub record FormAgain (n : ℕ) (t : Tree) (xs : List X) : Type 0 where
    pub parts : Trees
    pub shape : t ≡ list (atom word ▸ parts)
    pub again : RowAgain tree read (n + 2) parts xs

  form_at : (n : ℕ) (w : List ℕ) (ts : Trees) (b : Bool) → is w word ≡ b → IfFine (each_reading read (n + 2) ts) (RowAgain tree read (n + 2) ts)
      → IfFine (cond b (each_reading read (n + 2) ts) (wrong Shape n)) (FormAgain n (list (atom w ▸ ts)))
  form_at n w ts true is h =
      if_fine_weaker (RowAgain tree read (n + 2) ts) (FormAgain n (list (atom w ▸ ts))) (each_reading read (n + 2) ts)
      (λ xs a. record { parts = ts; shape = ap (λ v. list (atom v ▸ ts)) (is-true w word is); again = a }) h
  form_at n w ts false is h = tt

  pub form_again : ((n : ℕ) (t : Tree) → item_count t ≤ 4294967296 → IfFine (read n t) (λ x. Alike Readable (tree x) t × (read n (tree x) ≡ fine x)))
      → (n : ℕ) (t : Tree) → item_count t ≤ 4294967296 → IfFine (behind_reading word (λ n. each_reading read) n t) (FormAgain n t)
  form_again h n (atom w) small = tt
  form_again h n (list none) small = tt
  form_again h n (list (list us ▸ ts)) small = tt
  form_again h n (list (atom w ▸ ts)) small = form_at n w ts (is w word) refl (each_again tree read h (n + 2) ts (omega arith))

  -- the same after the word again
  pub form_reads : is word word ≡ true → (n : ℕ) (t : Tree) (xs : List X) → FormAgain n t xs → behind_reading word (λ n. each_reading read) n (list (atom word ▸ row (map tree xs))) ≡ fine xs
  form_reads own n t xs a = ap (λ b. cond b (each_reading read (n + 2) (row (map tree xs))) (wrong Shape n)) own ∙ a.again.reads

  pub form_alike : (n : ℕ) (t : Tree) (xs : List X) → FormAgain n t xs → Alike Readable (list (atom word ▸ row (map tree xs))) t
  form_alike n t xs a = subst (λ t. Alike Readable (list (atom word ▸ row (map tree xs))) t) (sym a.shape) (λ h. h, a.again.alike)
