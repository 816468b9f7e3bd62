-- Terms said of the state before an edge, one after another.
use Rattle.std.proofs.Common.{◌≡◌, ℕ, ◌+◌, ◌<◌, List, [], ◌∷◌, ◌++◌, length, map, drop, get_or, sym, subst, ap, ◌∙◌, append_assoc}
use Rattle.std.proofs.lemmas.List.{drop_more}
use Rattle.lc_table.specs.NodeTables.{Table}
use Rattle.lc_put.specs.PutNumbers.{terms_in, AreTerms}
use Rattle.lc_table.specs.Tables.{HasTerm, Keeps}
use Rattle.lc_table.specs.declared.node.TermId.{TermId}
use Rattle.lc_put.proofs.ByNumber.{terms_still}
use Rattle.lc_table.proofs.Later.{term_is}
use Rattle.lc_term.specs.Replacement.{replacing, replace_term}
use Rattle.lc_term.specs.Said.{term_at}
use Rattle.lc_term.specs.Syntax as S
use Rattle.lc_term.specs.View.{term_of}
use Rattle.lc_term.specs.declared.term.Term.{Term}
use Rattle.lc_rider.specs.PathView.{path_in, IsPath}
use Rattle.lc_rider.specs.declared.path.Path.{Path}
use Rattle.lc_rider.proofs.PathLater.{path_still}
use Rattle.lc_rider.proofs.Reading.{terms_pushed}

-- a term as a path and variables in a table say it
abbrev pub said_in : Table → Path → List TermId → S.Term → S.Term
said_in ts p vs t = replace_term (replacing (path_in ts p).columns (term_at (terms_in ts vs))) t

-- said by a path and variables in a later table
pub said_still : (old now new : Table) (p : Path) (vs : List TermId) (k : TermId) (t : S.Term) → IsPath old p → AreTerms old vs → Keeps old now → HasTerm new k (said_in now p vs t) → HasTerm new k (said_in old p vs t)
said_still old now new p vs k t is are kept at =
    subst (HasTerm new k) (λ i. replace_term (replacing (path_still old now p is kept i).columns (term_at (terms_still old now vs are kept i))) t) at

-- one term more
pub said_more : (now new : Table) (f : S.Term → S.Term) (ts : List Term) (i : ℕ) (t : Term) (ks more : List TermId) (k : TermId) (whole : List S.Term) → i < length ts → t ≡ get_or ts i t →
    more ≡ ks ++ k ∷ [] → AreTerms now ks → Keeps now new → HasTerm new k (f (term_of t)) →
    terms_in now ks ++ map f (map term_of (drop i ts)) ≡ whole → terms_in new more ++ map f (map term_of (drop (i + 1) ts)) ≡ whole
said_more now new f ts i t ks more k whole h is e are kept at so =
    let rest = map f (map term_of (drop (i + 1) ts)) in
    ap (λ (us : List S.Term). us ++ rest) (terms_pushed now new ks more k (f (term_of t)) e are kept (term_is new k (f (term_of t)) at))
    ∙ append_assoc (terms_in now ks) (f (term_of t) ∷ []) rest
    ∙ ap (λ (x : Term). terms_in now ks ++ f (term_of x) ∷ rest) is
    ∙ ap (λ (xs : List Term). terms_in now ks ++ map f (map term_of xs)) (sym (drop_more ts i t h))
    ∙ so
