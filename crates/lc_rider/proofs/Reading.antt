-- Terms of numbers, one after another, and what is read in columns by number.
use Rattle.std.proofs.Common.{◌≡◌, ℕ, ◌+◌, ◌<◌, List, [], ◌∷◌, ◌++◌, Some, length, map, drop, get_or, sym, subst, ap, ap₂, ◌∙◌, append_assoc}
use Rattle.std.proofs.lemmas.List.{drop_more, map-append}
use Rattle.lc_base.specs.declared.ids.ColId.{ColId}
use Rattle.lc_table.specs.NodeTables.{Table}
use Rattle.lc_table.specs.Nodes.{term, is_term}
use Rattle.lc_put.specs.PutNumbers.{columns_at, AreColumns, terms_in, AreTerms}
use Rattle.lc_term.specs.Said.{reads}
use Rattle.lc_term.specs.Syntax.{Term, Read, Column}
use Rattle.lc_table.specs.Tables.{term_in, column_in, IsTerm, HasTerm, HasColumn, Keeps}
use Rattle.lc_table.specs.declared.node.ColExprId.{ColExprId}
use Rattle.lc_table.specs.declared.node.TermId.{TermId}
use Rattle.lc_put.proofs.ByNumber.{are_terms_later, terms_still, columns_still}
use Rattle.lc_table.proofs.Later.{kept_on, term_still, column_is}

pub has_is_term : (ts : Table) (k : TermId) (t : Term) → HasTerm ts k t → IsTerm ts k
has_is_term ts k t h = ap is_term h

-- one term more
pub are_terms_pushed : (old new : Table) (ks more : List TermId) (k : TermId) → more ≡ ks ++ k ∷ [] → AreTerms old ks → Keeps old new → IsTerm new k → AreTerms new more
are_terms_pushed old new ks more k e h kept at = subst (AreTerms new) (sym e) (by ks (are_terms_later old new ks h kept))
  where
    by : (ks : List TermId) → AreTerms new ks → AreTerms new (ks ++ k ∷ [])
    by [] h = (at, tt)
    by (x ∷ xs) h = (h.0, by xs h.1)

pub are_terms_joined : (ts : Table) (ks js : List TermId) → AreTerms ts ks → AreTerms ts js → AreTerms ts (ks ++ js)
are_terms_joined ts [] js h g = g
are_terms_joined ts (k ∷ ks) js h g = (h.0, are_terms_joined ts ks js h.1 g)

pub terms_pushed : (old new : Table) (ks more : List TermId) (k : TermId) (t : Term) → more ≡ ks ++ k ∷ [] → AreTerms old ks → Keeps old new → term_in new k ≡ t → terms_in new more ≡ terms_in old ks ++ t ∷ []
terms_pushed old new ks more k t e h kept at =
    ap (terms_in new) e ∙ map-append (term_in new) ks (k ∷ []) ∙ ap₂ (λ (us : List Term) (u : Term). us ++ u ∷ []) (terms_still old new ks h kept) at

-- what a cell of columns holds, whose column expression was found in a table before
pub read_is : (old now mid new : Table) (ps : List (ColId × ColExprId)) (cell : ℕ) (k : ColExprId) (index r : TermId) → AreColumns old ps → IsTerm old index → Keeps old now → Keeps now mid →
    HasColumn mid k (columns_at now ps cell) → HasTerm new r (Read (column_in mid k) (term_in mid index)) → HasTerm new r (Read (columns_at old ps cell) (term_in old index))
read_is old now mid new ps cell k index r columns i kept more has at =
    let column : column_in mid k ≡ columns_at old ps cell = column_is mid k _ has ∙ ap (λ (σ : ℕ → Column). σ cell) (columns_still old now ps columns kept) in
    let all = kept_on old now mid kept more in
    at ∙ (λ j. Some (term (Read (column j) (term_still old mid index i all j))))

-- one cell more
pub reads_more : (σ : ℕ → Column) (c : Term) (cells : List ColId) (i : ℕ) (d : ColId) (before after whole : List Term) → i < length cells → after ≡ before ++ Read (σ (get_or cells i d).0) c ∷ [] →
    before ++ reads σ (map (λ (x : ColId). x.0) (drop i cells)) c ≡ whole → after ++ reads σ (map (λ (x : ColId). x.0) (drop (i + 1) cells)) c ≡ whole
reads_more σ c cells i d before after whole h e so =
    let cell = get_or cells i d in
    let rest = reads σ (map (λ (x : ColId). x.0) (drop (i + 1) cells)) c in
    ap (λ (us : List Term). us ++ rest) e ∙ append_assoc before (Read (σ cell.0) c ∷ []) rest
    ∙ ap (λ (cs : List ColId). before ++ reads σ (map (λ (x : ColId). x.0) cs) c) (sym (drop_more cells i d h)) ∙ so
