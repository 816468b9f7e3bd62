use Rattle.std.proofs.Common.{◌≡◌, [], ◌∷◌, ◌++◌, min, ap, ap₂, ◌∙◌, sym, subst, arith, pos}
use Rattle.std.proofs.lemmas.List.{map-append}
use Rattle.std.proofs.lemmas.Grind.{common_steps}
use Rattle.lc_put.specs.PutNumbers.{columns_at, terms_in, AreTerms}
use Rattle.lc_term.specs.Syntax.{Term, Number}
use Rattle.lc_table.specs.Tables.{term_in}
use Rattle.lc_put.proofs.ByNumber.{are_columns_later, columns_still, are_terms_later, terms_still}
use Rattle.lc_table.proofs.Later.{is_term_still, term_still, term_is, keeps_itself, kept_on}
use Rattle.lc_seq.specs.Branches.{arity}
use Rattle.lc_seq.specs.TextView.{specification_of}
use Rattle.lc_action.specs.ActionView.{first_of}
use Rattle.lc_rider.specs.PathView.{path_in}
use Rattle.lc_rider.proofs.Marked.{call_is}
use Rattle.lc_rider.proofs.Reading.{has_is_term, are_terms_pushed, are_terms_joined}
use Rattle.lc_rider.proofs.marking.call_variables.Goals as goal

pub push_reads-requires-clause-columns : goal.push_reads-requires-clause-columns
push_reads-requires-clause-columns c = are_columns_later c.args.terms.now c.number.new.self c.columns.result.now (c.columns.ensures.are c.args.terms.now c.requires.path) c.number.ensures.kept

pub push_reads-requires-clause-client : goal.push_reads-requires-clause-client
push_reads-requires-clause-client c = is_term_still c.args.terms.now c.number.new.self c.args.mark.client c.requires.client c.number.ensures.kept

pub push_reads-requires-clause-read : goal.push_reads-requires-clause-read
push_reads-requires-clause-read c =
    let ts = c.number.new.self in
    let none : AreTerms ts [] = tt in
    let first : c.push.new.self.items ≡ [] ++ c.in_ok-zero.zero ∷ [] = c.in_ok-push.ensures.items ∙ ap (λ ks. ks ++ c.in_ok-zero.zero ∷ []) c.in_ok-variables.ensures.items in
    let one : AreTerms ts c.push.new.self.items = are_terms_pushed ts ts [] c.push.new.self.items c.in_ok-zero.zero first none (keeps_itself ts) (has_is_term ts c.in_ok-zero.zero _ c.in_ok-zero.ensures.id) in
    are_terms_pushed ts ts c.push.new.self.items c.push-2.new.self.items c.args.mark.client c.in_ok-push-2.ensures.items one (keeps_itself ts)
    (is_term_still c.args.terms.now ts c.args.mark.client c.requires.client c.number.ensures.kept)

pub returns-clause-are : goal.returns-clause-are
returns-clause-are c =
    let old = c.args.terms.now in
    let new = c.push_reads.new.terms in
    subst (AreTerms new) (sym c.in_ok-extend_from_slice.ensures.items)
    (are_terms_joined new c.push_reads.new.read.items c.args.given.now c.in_ok-push_reads.ensures.are
    (are_terms_later old new c.args.given.now c.requires.given (kept_on old c.number.new.self new c.number.ensures.kept c.in_ok-push_reads.ensures.kept)))

pub returns-clause-trees : goal.returns-clause-trees
returns-clause-trees c =
    let old = c.args.terms.now in
    let ts = c.number.new.self in
    let cs = c.columns.result.now in
    let client = term_in old c.args.mark.client in
    let are = c.columns.ensures.are old c.requires.path in
    let n = arity (specification_of c.args.mark.specification.now).operations c.args.mark.operation.0 in
    let count : c.min-count.result ≡ min n 3 = cc in
    let same : term_in ts c.args.mark.client ≡ client = term_still old ts c.args.mark.client c.requires.client c.number.ensures.kept in
    let columns : columns_at ts cs ≡ (path_in old c.args.path.now).columns = columns_still old ts cs are c.number.ensures.kept ∙ c.columns.ensures.trees old in
    let items : c.push-2.new.self.items ≡ c.in_ok-zero.zero ∷ c.args.mark.client ∷ [] = grind (arith, common_steps) in
    let before : terms_in ts c.push-2.new.self.items ≡ Number (pos 0) ∷ client ∷ [] =
    ap (terms_in ts) items ∙ ap₂ (λ (t u : Term). t ∷ u ∷ []) (term_is ts c.in_ok-zero.zero (Number (pos 0)) c.in_ok-zero.ensures.id) same in
    let given : terms_in c.push_reads.new.terms c.args.given.now ≡ terms_in old c.args.given.now =
    terms_still old c.push_reads.new.terms c.args.given.now c.requires.given (kept_on old ts c.push_reads.new.terms c.number.ensures.kept c.in_ok-push_reads.ensures.kept) in
    let all : terms_in c.push_reads.new.terms c.extend_from_slice.new.self.items ≡ terms_in c.push_reads.new.terms c.push_reads.new.read.items ++ terms_in old c.args.given.now =
    ap (terms_in c.push_reads.new.terms) c.in_ok-extend_from_slice.ensures.items ∙ (map-append (term_in c.push_reads.new.terms) c.push_reads.new.read.items c.args.given.now
    ∙ ap (λ us. terms_in c.push_reads.new.terms c.push_reads.new.read.items ++ us) given) in
    call_is (path_in old c.args.path.now).columns (columns_at ts cs) (first_of c.args.mark.system) n c.min-count.result c.arguments-arguments.result _ client (term_in ts c.args.mark.client)
    (terms_in ts c.push-2.new.self.items) (terms_in c.push_reads.new.terms c.push_reads.new.read.items) c.arguments-arguments.ensures count (grind (arith, common_steps)) columns same before
    (terms_in old c.args.given.now) (terms_in c.push_reads.new.terms c.extend_from_slice.new.self.items) c.in_ok-push_reads.ensures.trees all
