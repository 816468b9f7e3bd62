-- Columns and terms by number, in later tables.
use Rattle.std.proofs.Common.{◌≡◌, List, [], ◌∷◌, ◌++◌, refl, ap, ap₂, ◌∙◌, map}
use Rattle.std.proofs.lemmas.List.{map-append}
use Rattle.lc_base.specs.declared.ids.ColId.{ColId}
use Rattle.lc_table.specs.declared.node.TermId.{TermId}
use Rattle.lc_table.specs.declared.node.ColExprId.{ColExprId}
use Rattle.lc_table.specs.NodeTables.{Table}
use Rattle.lc_term.specs.Entries.{column_at}
use Rattle.lc_put.specs.PutNumbers.{entry_in, columns_at, AreColumns, terms_in, AreTerms, replacement_at}
use Rattle.lc_term.specs.Replacement.{replacing}
use Rattle.lc_term.specs.Said.{term_at}
use Rattle.lc_table.specs.Nodes.{is_term, is_column}
use Rattle.lc_term.specs.Syntax as S
use Rattle.lc_table.specs.Tables.{term_in, HasTerm, HasColumn, Keeps}
use Rattle.lc_table.proofs.Later.{term_is, column_is, is_term_still, term_still, column_still, is_column_still}

pub are_columns_later : (old new : Table) (ps : List (ColId × ColExprId)) → AreColumns old ps → Keeps old new → AreColumns new ps
are_columns_later old new [] h kept = tt
are_columns_later old new (p ∷ ps) h kept = (is_column_still old new p.1 h.0 kept, are_columns_later old new ps h.1 kept)

pub entries_still : (old new : Table) (ps : List (ColId × ColExprId)) → AreColumns old ps → Keeps old new → map (entry_in new) ps ≡ map (entry_in old) ps
entries_still old new [] h kept = refl
entries_still old new (p ∷ ps) h kept = ap₂ (λ c es. (p.0.0, c) ∷ es) (column_still old new p.1 h.0 kept) (entries_still old new ps h.1 kept)

pub columns_still : (old new : Table) (ps : List (ColId × ColExprId)) → AreColumns old ps → Keeps old new → columns_at new ps ≡ columns_at old ps
columns_still old new ps h kept = ap column_at (entries_still old new ps h kept)

pub are_terms_later : (old new : Table) (ks : List TermId) → AreTerms old ks → Keeps old new → AreTerms new ks
are_terms_later old new [] h kept = tt
are_terms_later old new (k ∷ ks) h kept = (is_term_still old new k h.0 kept, are_terms_later old new ks h.1 kept)

pub terms_still : (old new : Table) (ks : List TermId) → AreTerms old ks → Keeps old new → terms_in new ks ≡ terms_in old ks
terms_still old new [] h kept = refl
terms_still old new (k ∷ ks) h kept = ap₂ ◌∷◌ (term_still old new k h.0 kept) (terms_still old new ks h.1 kept)

-- what is put in by number is the same later
pub replacement_still : (old new : Table) (ps : List (ColId × ColExprId)) (ks : List TermId) → AreColumns old ps → AreTerms old ks → Keeps old new
    → replacement_at new ps ks ≡ replacement_at old ps ks
replacement_still old new ps ks columns terms kept =
    ap₂ replacing (columns_still old new ps columns kept) (ap term_at (terms_still old new ks terms kept))

-- one term more
pub are_terms_pushed : (old new : Table) (ks : List TermId) (k : TermId) (t : S.Term) → AreTerms old ks → Keeps old new → HasTerm new k t → AreTerms new (ks ++ k ∷ [])
are_terms_pushed old new ks k t h kept at = put ks (are_terms_later old new ks h kept)
  where
    put : (ks : List TermId) → AreTerms new ks → AreTerms new (ks ++ k ∷ [])
    put [] h = (ap is_term at, tt)
    put (x ∷ xs) h = (h.0, put xs h.1)

pub terms_pushed : (old new : Table) (ks : List TermId) (k : TermId) (t : S.Term) → AreTerms old ks → Keeps old new → HasTerm new k t
    → terms_in new (ks ++ k ∷ []) ≡ terms_in old ks ++ t ∷ []
terms_pushed old new ks k t h kept at =
    map-append (term_in new) ks (k ∷ []) ∙ ap₂ (λ xs x. xs ++ x ∷ []) (terms_still old new ks h kept) (term_is new k t at)

-- one column more
pub are_columns_pushed : (old new : Table) (ps : List (ColId × ColExprId)) (p : ColId × ColExprId) (c : S.Column) → AreColumns old ps → Keeps old new → HasColumn new p.1 c
    → AreColumns new (ps ++ p ∷ [])
are_columns_pushed old new ps p c h kept at = put ps (are_columns_later old new ps h kept)
  where
    put : (ps : List (ColId × ColExprId)) → AreColumns new ps → AreColumns new (ps ++ p ∷ [])
    put [] h = (ap is_column at, tt)
    put (x ∷ xs) h = (h.0, put xs h.1)

pub entries_pushed : (old new : Table) (ps : List (ColId × ColExprId)) (p : ColId × ColExprId) (c : S.Column) → AreColumns old ps → Keeps old new → HasColumn new p.1 c
    → map (entry_in new) (ps ++ p ∷ []) ≡ map (entry_in old) ps ++ (p.0.0, c) ∷ []
entries_pushed old new ps p c h kept at =
    map-append (entry_in new) ps (p ∷ []) ∙ ap₂ (λ xs x. xs ++ (p.0.0, x) ∷ []) (entries_still old new ps h kept) (column_is new p.1 c at)
