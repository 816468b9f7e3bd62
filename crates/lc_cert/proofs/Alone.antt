-- An entry that is read alone.
use Rattle.std.proofs.Common.{◌≡◌, ◌≢◌, ℕ, zero, suc, ◌-◌, ◌<◌, ◌≤◌, List, Option, Some, None, refl, sym, ap, ◌∙◌, subst, arith}
use Rattle.lc_base.specs.Limits.{file_limit}
use Rattle.lc_kernel.specs.Proofs.{size}
use Rattle.lc_reading.proofs.Fine.{of_fine}
use Rattle.lc_reading.specs.Readings.{Reading, fine, flawed}
use Rattle.lc_reading.specs.declared.flaw.Flaw.{Flaw}
use Rattle.lc_sexp.proofs.Items.{items_fit_lem}
use Rattle.lc_sexp.proofs.Unique.{one_reading_lem}
use Rattle.lc_sexp.specs.CutFiles.{bracketed, IsPieceOf}
use Rattle.lc_sexp.specs.Trees.{Tree, list, none, ◌▸◌, item_count}
use Rattle.lc_text.specs.Names.{Names}
use Rattle.lc_cert.proofs.Sized.{IsSized, entry_sized}
use Rattle.lc_cert.specs.Certificates.{Entry}
use Rattle.lc_cert.specs.OneByOne.{number_before, IsGiven, IsEntryText}
use Rattle.lc_cert.specs.Readings.{entry_reading}
use Rattle.lc_cert.specs.declared.entry.Entry.{Entry as Read}

pub before_is : (n : ℕ) → 0 < n → number_before n ≡ Some (n - 1)
before_is zero h = absurd (omega arith)
before_is (suc n) h = ap Some (omega arith)

-- a reading that is flawed gives no entry
pub not_given : (r : Reading Entry) (f : Flaw) → r ≡ flawed f → (e : Entry) → r ≢ fine e
not_given r f h e is = let both : flawed f ≡ fine e = sym h ∙ is in cc

-- if nothing is given of a reading, it is none of an entry
pub given_none : (r : Reading Entry) (given : Option Read) → ((x : Read) → given ≡ Some x → ⊥) → IsGiven r given → (e : Entry) → r ≢ fine e
given_none r None h g = g
given_none r (Some x) h g = absurd (h x refl)

-- a text is the piece of one tree
one_piece : (text : List ℕ) (t u : Tree) → IsPieceOf t text → IsPieceOf u text → t ≡ u
one_piece text t u p q = let same = one_reading_lem (bracketed text) (list (t ▸ none) ▸ none) (list (u ▸ none) ▸ none) p.reads q.reads in cc

pub no_reading : (names : Names) (text : List ℕ) (number item : ℕ) (u : Tree) → IsPieceOf u text → ((e : Entry) → entry_reading names (number_before number) item u ≢ fine e)
    → (t : Tree) (e : Entry) → IsEntryText names text number item t e → ⊥
no_reading names text number item u p other t e h = other e (ap (entry_reading names (number_before number) item) (one_piece text u t p h.piece) ∙ h.reads)

pub no_number : (names : Names) (text : List ℕ) (number item : ℕ) (u : Tree) (d : Entry) → IsPieceOf u text → entry_reading names (number_before number) item u ≡ fine d → d.number ≢ number
    → (t : Tree) (e : Entry) → IsEntryText names text number item t e → ⊥
no_number names text number item u d p reads other t e h =
    let both : fine d ≡ fine e = sym reads ∙ ap (entry_reading names (number_before number) item) (one_piece text u t p h.piece) ∙ h.reads in
    let same : d ≡ e = cc in
    other (ap (λ (x : Entry). x.number) same ∙ h.number_is)

-- an entry of a piece has no more steps than a file has bytes
pub few_steps : (names : Names) (text : List ℕ) (last : Option ℕ) (item : ℕ) (t : Tree) (e : Entry) → IsPieceOf t text → entry_reading names last item t ≡ fine e → size e.proof ≤ file_limit
few_steps names text last item t e p reads =
    let sized = of_fine (IsSized (item_count t)) (entry_reading names last item t) e (entry_sized names last item t) reads in
    let fit = items_fit_lem (bracketed text) (list (t ▸ none) ▸ none) p.reads in
    let room = p.reads.size in
    omega (arith, sized, fit, room)

-- the same tree, which is the same item, reads as the same
pub given_here : (names : Names) (last : Option ℕ) (item place : ℕ) (u t : Tree) (given : Option Read) → place ≡ item → u ≡ t
    → IsGiven (entry_reading names last place t) given → IsGiven (entry_reading names last item u) given
given_here names last item place u t given at same h =
    subst (λ r. IsGiven r given) (ap (λ n. entry_reading names last n t) at ∙ ap (entry_reading names last item) (sym same)) h
