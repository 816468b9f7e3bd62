use Rattle.std.proofs.Common.{rules, ◌≡◌, ap, sym, subst, ◌∙◌, pos}
use Rattle.lc_put.specs.PutNumbers.{AreColumns, columns_at}
use Rattle.lc_term.specs.Said.{put}
use Rattle.lc_term.specs.Syntax.{Variable, Number}
use Rattle.lc_table.specs.Tables.{term_in}
use Rattle.lc_put.proofs.ByNumber.{are_columns_later}
use Rattle.lc_table.proofs.Later.{kept_on, term_is, term_later, is_term_later}
use Rattle.lc_cond.proofs.Adding.{columns_later}
use Rattle.lc_cond.proofs.edge_conditions.at_return.Goals as goal

pub store_in-requires-clause-columns : goal.store_in-requires-clause-columns
store_in-requires-clause-columns c =
    let t0 = c.args.terms.now in
    let t2 = c.number.new.self in
    let items : c.extend_from_slice.new.self.items ≡ c.args.columns.now = search rules in
    are_columns_later t0 t2 c.extend_from_slice.new.self.items (subst (AreColumns t0) (sym items) c.requires) (kept_on t0 c.variable.new.self t2 c.in_ok-own.ensures.kept c.in_ok-none.ensures.kept)

pub store_in-requires-clause-index : goal.store_in-requires-clause-index
store_in-requires-clause-index c = is_term_later c.variable.new.self c.number.new.self c.in_ok-own.own _ c.in_ok-own.ensures.id c.in_ok-none.ensures.kept

pub returns-clause-list : goal.returns-clause-list
returns-clause-list c =
    let t0 = c.args.terms.now in
    let t1 = c.variable.new.self in
    let t2 = c.number.new.self in
    let items : c.extend_from_slice.new.self.items ≡ c.args.columns.now = search rules in
    let index : term_in t2 c.in_ok-own.own ≡ Variable 1 = term_is t2 c.in_ok-own.own _ (term_later t1 t2 c.in_ok-own.own _ c.in_ok-own.ensures.id c.in_ok-none.ensures.kept) in
    let value : term_in t2 c.in_ok-none.none ≡ Number (pos 0) = term_is t2 c.in_ok-none.none _ c.in_ok-none.ensures.id in
    λ σ columns.
    (let before : columns_at t2 c.extend_from_slice.new.self.items ≡ σ = ap (columns_at t2) items ∙ (columns_later t0 t2 c.args.columns.now σ columns (kept_on t0 t1 t2 c.in_ok-own.ensures.kept c.in_ok-none.ensures.kept)).columns in
    record {
      are = c.in_ok-store_in.ensures.are;
      columns = c.in_ok-store_in.ensures.stored ∙ (λ i. put (before i) (record { column = c.pend.ensures i; index = index i; value = value i }));
    })
