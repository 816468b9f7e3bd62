use Rattle.std.proofs.Common.{◌≡◌}
use Rattle.std.proofs.lemmas.Result.{IfOk-weaker}
use Rattle.lc_put.specs.PutNumbers.{terms_in}
use Rattle.lc_term.specs.Replacement.{replacing, replace_term}
use Rattle.lc_term.specs.Said.{put, term_at}
use Rattle.lc_term.specs.Syntax.{Term}
use Rattle.lc_table.specs.Tables.{term_in}
use Rattle.lc_term.specs.View.{term_of}
use Rattle.lc_term.specs.Updates as U
use Rattle.lc_table.proofs.Later.{kept_on, term_later, term_is, is_term_later}
use Rattle.lc_put.proofs.ByNumber.{are_terms_later}
use Rattle.lc_rider.specs.Paths.{Path}
use Rattle.lc_rider.specs.PathView.{path_in, with_columns}
use Rattle.lc_rider.proofs.PathsAdded.{has_same}
use Rattle.lc_rider.proofs.PathLater.{is_path_later, path_still}
use Rattle.lc_rider.proofs.SaidStill.{said_still}
use Rattle.lc_rider.proofs.edge_paths.updated.Goals as goal

pub said_before-requires-2-clause-path : goal.said_before-requires-2-clause-path
said_before-requires-2-clause-path c = is_path_later c.args.terms.now c.said_before.new.terms c.args.path c.requires.path c.in_ok-index.ensures.kept

pub said_before-requires-2-clause-variables : goal.said_before-requires-2-clause-variables
said_before-requires-2-clause-variables c = are_terms_later c.args.terms.now c.said_before.new.terms c.args.variables.now c.requires.variables c.in_ok-index.ensures.kept

pub with_store-requires-clause-path : goal.with_store-requires-clause-path
with_store-requires-clause-path c =
    let t1 = c.said_before.new.terms in
    let t2 = c.said_before-2.new.terms in
    is_path_later c.args.terms.now t2 c.args.path c.requires.path (kept_on c.args.terms.now t1 t2 c.in_ok-index.ensures.kept c.in_ok-value.ensures.kept)

pub with_store-requires-clause-index : goal.with_store-requires-clause-index
with_store-requires-clause-index c = is_term_later c.said_before.new.terms c.said_before-2.new.terms c.in_ok-index.index _ c.in_ok-index.ensures.id c.in_ok-value.ensures.kept

pub returns-clause-path : goal.returns-clause-path
returns-clause-path c =
    let t0 = c.args.terms.now in
    let t1 = c.said_before.new.terms in
    let t2 = c.said_before-2.new.terms in
    let t3 = c.with_store.new.terms in
    let p = path_in t0 c.args.path in
    let τ = terms_in t0 c.args.variables.now in
    let u = c.args.update.now in
    let kept01 = c.in_ok-index.ensures.kept in
    let kept12 = c.in_ok-value.ensures.kept in
    let told : Term → Term = replace_term (replacing p.columns (term_at τ)) in
    let index : term_in t2 c.in_ok-index.index ≡ told (term_of u.index) = term_is t2 c.in_ok-index.index _ (term_later t1 t2 c.in_ok-index.index _ c.in_ok-index.ensures.id kept12) in
    let value : term_in t2 c.in_ok-value.value ≡ told (term_of u.value) =
    term_is t2 c.in_ok-value.value _ (said_still t0 t1 t2 c.args.path c.args.variables.now c.in_ok-value.value (term_of u.value) c.requires.path c.requires.variables kept01 c.in_ok-value.ensures.id) in
    let still = path_still t0 t2 c.args.path c.requires.path (kept_on t0 t1 t2 kept01 kept12) in
    let stored : (q : Path) (i v : Term) → Path = λ q i v. (let w : U.Update = record { column = u.column.0; index = i; value = v } in with_columns q (put q.columns w)) in
    IfOk-weaker c.with_store.result _ _ (λ r h. has_same t3 r _ _ h (λ i. stored (still i) (index i) (value i))) c.with_store.ensures.path
