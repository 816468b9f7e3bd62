-- What marks store, one update after another, by number.
use Rattle.std.proofs.Common.{◌≡◌, ℕ, ◌+◌, ◌<◌, ◌≤◌, List, ◌∷◌, ◌++◌, length, map, drop, get_or, refl, sym, subst, ap, ap₂, ◌∙◌}
use Rattle.std.proofs.lemmas.List.{drop_more, map-append, drop_all}
use Rattle.lc_base.specs.declared.ids.ColId.{ColId}
use Rattle.lc_table.specs.NodeTables.{Table}
use Rattle.lc_put.specs.PutNumbers.{columns_at, AreColumns, terms_in, AreTerms, replacement_at}
use Rattle.lc_term.specs.Replacement.{replace_term}
use Rattle.lc_term.specs.Said.{put, puts, said, at_client}
use Rattle.lc_term.specs.Syntax.{Term, Variable, Column}
use Rattle.lc_table.specs.Tables.{term_in, HasTerm, Keeps}
use Rattle.lc_term.specs.UpdateView.{update_of, updates_of}
use Rattle.lc_term.specs.Updates.{Update}
use Rattle.lc_term.specs.View.{term_of}
use Rattle.lc_table.specs.declared.node.ColExprId.{ColExprId}
use Rattle.lc_table.specs.declared.node.TermId.{TermId}
use Rattle.lc_term.specs.declared.term.Term as D
use Rattle.lc_term.specs.declared.update.Update as M
use Rattle.lc_put.proofs.ByNumber.{are_columns_later, are_terms_later, columns_still, terms_still, replacement_still}
use Rattle.lc_table.proofs.Later.{kept_on, term_is}
use Rattle.lc_put.specs.declared.put_numbers.PutNumbers.{PutNumbers}
use Rattle.lc_rider.specs.MarkStores.{CanStore}
use Rattle.lc_rider.proofs.PathSteps.{puts-append}
use Rattle.lc_rider.proofs.Saying.{said_is}
use Rattle.lc_action.proofs.OwnUpdates.{no_terms}

-- stores of some updates, and of others after them
pub puts_joined : (σ ρ μ : ℕ → Column) (τ : List Term) (start : ℕ → Column) (us vs : List Update) → ρ ≡ puts start (map (said σ τ) us) → μ ≡ puts ρ (map (said σ τ) vs) → μ ≡ puts start (map (said σ τ) (us ++ vs))
puts_joined σ ρ μ τ start us vs first second =
    second ∙ ap (λ (x : ℕ → Column). puts x (map (said σ τ) vs)) first ∙ sym (puts-append start (map (said σ τ) us) (map (said σ τ) vs)) ∙ ap (puts start) (sym (map-append (said σ τ) us vs))

-- what can be stored in a table can be stored in those that keep it
pub can_store_later : (old mid : Table) (put : PutNumbers) (before now : List (ColId × ColExprId)) → CanStore old put before → Keeps old mid → AreColumns mid now → CanStore mid put now
can_store_later old mid put before now can kept are = record {
  before = are_columns_later old mid put.columns.now can.before kept;
  variables = are_terms_later old mid put.variables.now can.variables kept;
  columns = are;
}

-- one more update
pub updates_more : (σ : ℕ → Column) (τ : List Term) (us : List M.Update) (i : ℕ) (u : M.Update) (ρ μ whole : ℕ → Column) → i < length us → u ≡ get_or us i u → μ ≡ put ρ (said σ τ (update_of u)) →
    puts ρ (map (said σ τ) (updates_of (drop i us))) ≡ whole → puts μ (map (said σ τ) (updates_of (drop (i + 1) us))) ≡ whole
updates_more σ τ us i u ρ μ whole h is e so =
    ap (λ (x : ℕ → Column). puts x (map (said σ τ) (updates_of (drop (i + 1) us)))) e
    ∙ sym (ap (λ (vs : List M.Update). puts ρ (map (said σ τ) (updates_of vs))) (drop_more us i u h ∙ ap (λ (x : M.Update). x ∷ drop (i + 1) us) (sym is)))
    ∙ so

-- one more cell of the client
pub cells_more : (σ : ℕ → Column) (τ : List Term) (cells : List ColId) (values : List D.Term) (i : ℕ) (d : ColId) (v : D.Term) (ρ μ whole : ℕ → Column) → i < length cells → i < length values →
    v ≡ get_or values i v → μ ≡ put ρ (said σ τ (record { column = (get_or cells i d).0; index = Variable 1; value = term_of v })) →
    puts ρ (map (said σ τ) (at_client (map (λ (x : ColId). x.0) (drop i cells)) (map term_of (drop i values)))) ≡ whole →
    puts μ (map (said σ τ) (at_client (map (λ (x : ColId). x.0) (drop (i + 1) cells)) (map term_of (drop (i + 1) values)))) ≡ whole
cells_more σ τ cells values i d v ρ μ whole hc hv is e so =
    ap (λ (x : ℕ → Column). puts x (map (said σ τ) (at_client (map (λ (x : ColId). x.0) (drop (i + 1) cells)) (map term_of (drop (i + 1) values))))) e
    ∙ sym (ap₂ (λ (cs : List ColId) (vs : List D.Term). puts ρ (map (said σ τ) (at_client (map (λ (x : ColId). x.0) cs) (map term_of vs)))) (drop_more cells i d hc)
    (drop_more values i v hv ∙ ap (λ (x : D.Term). x ∷ drop (i + 1) values) (sym is)))
    ∙ so

pub no_values : (σ : ℕ → Column) (τ : List Term) (cells : List ColId) (values : List D.Term) (i : ℕ) (ρ whole : ℕ → Column) → length values ≤ i →
    puts ρ (map (said σ τ) (at_client (map (λ (x : ColId). x.0) (drop i cells)) (map term_of (drop i values)))) ≡ whole → ρ ≡ whole
no_values σ τ cells values i ρ whole past so =
    sym (ap (λ (vs : List D.Term). puts ρ (map (said σ τ) (at_client (map (λ (x : ColId). x.0) (drop i cells)) (map term_of vs)))) (drop_all i values past)
    ∙ ap (λ (us : List Update). puts ρ (map (said σ τ) us)) (no_terms (map (λ (x : ColId). x.0) (drop i cells))))
    ∙ so

-- an index and a value that are said by a later table, stored
pub said_stored : (old now mid : Table) (ps : List (ColId × ColExprId)) (ks : List TermId) (cs : List (ColId × ColExprId)) (column : ℕ) (k : TermId) (index : Term) (t : Term) →
    AreColumns old ps → AreTerms old ks → AreColumns now cs → Keeps old now → Keeps now mid → HasTerm mid k (replace_term (replacement_at old ps ks) index) →
    put (columns_at mid cs) (record { column = column; index = term_in mid k; value = replace_term (replacement_at mid ps ks) t })
    ≡ put (columns_at now cs) (said (columns_at old ps) (terms_in old ks) (record { column = column; index = index; value = t }))
said_stored old now mid ps ks cs column k index t columns terms stored kept more at =
    let still = replacement_still old mid ps ks columns terms (kept_on old now mid kept more) in
    λ i. put (columns_still now mid cs stored more i) (record { column = column; index = term_is mid k _ at i; value = replace_term (still i) t })

-- stores after others, with indexes and values from a later table
pub more_stored : (old mid : Table) (ps : List (ColId × ColExprId)) (ks : List TermId) → AreColumns old ps → AreTerms old ks → Keeps old mid →
    (ρ start : ℕ → Column) (us first ws vs : List Update) → ρ ≡ puts start (map (said (columns_at old ps) (terms_in old ks)) us) → us ≡ first → ws ≡ vs →
    puts ρ (map (said (columns_at mid ps) (terms_in mid ks)) ws) ≡ puts start (map (said (columns_at old ps) (terms_in old ks)) (first ++ vs))
more_stored old mid ps ks columns terms kept ρ start us first ws vs before same more =
    let σ = columns_at old ps in
    let τ = terms_in old ks in
    (λ i. puts ρ (map (said (columns_still old mid ps columns kept i) (terms_still old mid ks terms kept i)) (more i)))
    ∙ puts_joined σ ρ (puts ρ (map (said σ τ) vs)) τ start first vs (before ∙ ap (λ (xs : List Update). puts start (map (said σ τ) xs)) same) refl

-- an index that is said by a later table
pub index_said : (old mid new : Table) (ps : List (ColId × ColExprId)) (ks : List TermId) (k r : TermId) (t : Term) → AreColumns old ps → AreTerms old ks → Keeps old mid → HasTerm mid k t →
    HasTerm new r (replace_term (replacement_at mid ps ks) (term_in mid k)) → HasTerm new r (replace_term (replacement_at old ps ks) t)
index_said old mid new ps ks k r t columns terms kept has at = subst (HasTerm new r) (said_is old mid ps ps ks columns terms kept refl k t has) at
