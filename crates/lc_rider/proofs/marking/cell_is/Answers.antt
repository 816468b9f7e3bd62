use Rattle.std.proofs.Common.{◌∙◌, ℕ, ℤ, w64, ap, ap₂, subst, IfOk}
use Rattle.std.proofs.lemmas.Int.{to_z-of_z}
use Rattle.lc_put.specs.PutNumbers.{columns_at}
use Rattle.lc_term.specs.Syntax.{Term, Column, Eq, Read, Number, Formula}
use Rattle.lc_table.specs.Tables.{term_in, HasTerm, HasFormula}
use Rattle.lc_table.proofs.Later.{is_term_later, is_term_still, keeps_itself, term_later, term_is}
use Rattle.lc_rider.proofs.Reading.{read_is}
use Rattle.lc_rider.proofs.marking.cell_is.Goals as goal

pub stored_column-requires : goal.stored_column-requires
stored_column-requires c = c.columns.ensures.are c.args.terms.now c.requires.path

pub read-requires-clause-index : goal.read-requires-clause-index
read-requires-clause-index c = is_term_still c.args.terms.now c.stored_column.new.table c.args.index c.requires.index c.stored_column.ensures.kept

pub eq-requires-clause-left : goal.eq-requires-clause-left
eq-requires-clause-left c = is_term_later c.read.new.self c.number.new.self c.in_ok-cell.cell _ c.in_ok-cell.ensures.id c.number.ensures.kept

pub returns-clause-id : goal.returns-clause-id
returns-clause-id c =
    let old = c.args.terms.now in
    let mid = c.stored_column.new.table in
    let new = c.read.new.self in
    let last = c.number.new.self in
    let ps = c.columns.result.now in
    let index = term_in old c.args.index in
    let there : Term = Read (columns_at old ps c.args.column.0) index in
    let has : HasTerm new c.in_ok-cell.cell there = read_is old old mid new ps c.args.column.0 c.in_ok-column.column c.args.index c.in_ok-cell.cell (c.columns.ensures.are old c.requires.path) c.requires.index (keeps_itself old)
    c.stored_column.ensures.kept c.in_ok-column.ensures.id c.in_ok-cell.ensures.id in
    let left = term_is last c.in_ok-cell.cell there (term_later new last c.in_ok-cell.cell there has c.number.ensures.kept) in
    let right = term_is last c.in_ok-number.number _ c.in_ok-number.ensures.id ∙ ap (λ (n : ℤ). Number n) (to_z-of_z w64 c.args.number c.ranges.number) in
    subst (λ (f : Formula). IfOk c.eq.result (λ k. HasFormula c.eq.new.self k f))
    (ap₂ (λ (t u : Term). Eq t u) (left ∙ ap (λ (σ : ℕ → Column). Read (σ c.args.column.0) index) (c.columns.ensures.trees old)) right)
    c.eq.ensures.id
