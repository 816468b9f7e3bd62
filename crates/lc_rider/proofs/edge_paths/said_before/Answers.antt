use Rattle.lc_table.specs.Tables.{HasTerm}
use Rattle.lc_put.proofs.ByNumber.{are_terms_later}
use Rattle.lc_table.proofs.Later.{kept_on}
use Rattle.lc_term.specs.View.{term_of}
use Rattle.lc_rider.proofs.PathLater.{is_path_later}
use Rattle.lc_rider.proofs.Reading.{has_is_term, are_terms_pushed}
use Rattle.lc_rider.proofs.SaidTerms.{said_in, said_still, said_more}
use Rattle.lc_rider.proofs.edge_paths.said_before.Goals as goal

pub said_before-requires-clause-path : goal.said_before-requires-clause-path
said_before-requires-clause-path c = is_path_later c.args.terms.now c.loop-term.terms c.args.path.now c.requires.path c.loop-term.invariant.kept

pub said_before-requires-clause-variables : goal.said_before-requires-clause-variables
said_before-requires-clause-variables c = are_terms_later c.args.terms.now c.loop-term.terms c.args.variables.now c.requires.variables c.loop-term.invariant.kept

pub loop-term-preserved : goal.loop-term-preserved
loop-term-preserved c =
    let old = c.args.terms.now in
    let now = c.loop-term.terms in
    let new = c.said_before.new.terms in
    let p = c.args.path.now in
    let vs = c.args.variables.now in
    let t = c.term-item.result in
    let k = c.in_ok-term.term in
    let kept = c.said_before.ensures.kept in
    let at : HasTerm new k (said_in old p vs (term_of t)) = said_still old now new p vs k (term_of t) c.requires.path c.requires.variables c.loop-term.invariant.kept c.in_ok-term.ensures.id in
    record {
      kept = kept_on old now new c.loop-term.invariant.kept kept;
      are = are_terms_pushed now new c.loop-term.said.items c.push.new.self.items k c.in_ok-push.ensures.items c.loop-term.invariant.are kept (has_is_term new k (said_in old p vs (term_of t)) at);
      left = said_more now new (said_in old p vs) c.args.these.now c.loop-term.term-index t c.loop-term.said.items c.push.new.self.items k _ c.loop-term-test.true c.term-item.is c.in_ok-push.ensures.items
          c.loop-term.invariant.are kept at c.loop-term.invariant.left;
    }
