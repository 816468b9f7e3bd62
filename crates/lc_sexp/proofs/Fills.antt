-- Parts that are put back into their lists.
use Rattle.std.proofs.Common.{◌≡◌, ℕ, ◌+◌, List, [], ◌∷◌, ◌++◌, sym, ap, ◌∙◌, subst, append_assoc}
use Rattle.lc_sexp.specs.Trees.{Trees, list, ◌▸◌, item_count_of_all}
use Rattle.lc_sexp.specs.Entries.{Entry, branch, entries_of_all}
use Rattle.lc_sexp.specs.Flat.{entry_of}
use Rattle.lc_sexp.specs.Filling.{front_of, behind_of, filled}
use Rattle.lc_sexp.specs.declared.node.Node.{Node}
use Rattle.lc_sexp.specs.declared.node.Node.TheVariants.{Atom, List as ListOf}
use Rattle.lc_sexp.specs.declared.part.Part.{Part}

-- an atom is appended
pub atom_filled : (node : Node) (start len : ℕ) → node ≡ Atom start len → (text : List ℕ) (old new : List Entry) (form : ℕ) (es : List Entry) (ps : List Part) → new ≡ old ++ (entry_of text node ∷ [])
    → new ++ entries_of_all (filled (form + 1) es ps) ≡ old ++ entries_of_all (filled form (entry_of text node ∷ es) ps)
atom_filled node start len is text old new form es ps e =
    subst (λ x. new ≡ old ++ (entry_of text x ∷ []) → new ++ entries_of_all (filled (form + 1) es ps) ≡ old ++ entries_of_all (filled form (entry_of text x ∷ es) ps)) (sym is)
    (λ f. ap (λ y. y ++ entries_of_all (filled (form + 1) es ps)) f ∙ append_assoc old (entry_of text (Atom start len) ∷ []) (entries_of_all (filled (form + 1) es ps))) e

regroup : {A : Type 0} (o u v : List A) (b : A) → ((o ++ (b ∷ [])) ++ u) ++ v ≡ o ++ ((b ∷ u) ++ v)
regroup o u v b = simp append_assoc

-- a list with parts is appended
pub list_filled : (node : Node) (inside : ℕ) → node ≡ ListOf inside → (text : List ℕ) (old mid new : List Entry) (n form : ℕ) (us : Trees) (es : List Entry) (ps ps' : List Part)
    → mid ≡ old ++ (branch n ∷ []) → new ≡ mid ++ entries_of_all us → n ≡ item_count_of_all us → us ≡ front_of form ps → ps' ≡ behind_of form ps
    → new ++ entries_of_all (filled (form + 1) es ps') ≡ old ++ entries_of_all (filled form (entry_of text node ∷ es) ps)
list_filled node inside is text old mid new n form us es ps ps' e f g h k =
    let rest : List Entry = entries_of_all (filled (form + 1) es ps') in
    ap (λ y. y ++ rest) (f ∙ ap (λ y. y ++ entries_of_all us) (e ∙ ap (λ m. old ++ (branch m ∷ [])) g))
    ∙ regroup old (entries_of_all us) rest (branch (item_count_of_all us))
    ∙ ap (λ x. old ++ entries_of_all (list x ▸ filled (form + 1) es ps')) h
    ∙ ap (λ x. old ++ entries_of_all (list (front_of form ps) ▸ filled (form + 1) es x)) k
    ∙ ap (λ x. old ++ entries_of_all (filled form (entry_of text x ∷ es) ps)) (sym is)
