use Rattle.std.proofs.Common.{refl, sym, ◌∙◌}
use Rattle.lc_sexp.specs.Filling.{front_of}
use Rattle.lc_sexp.proofs.Walks.{handed_over, all_handed_over}
use Rattle.lc_sexp.proofs.filling.take_all_of.Goals as goal

pub loop-sexp-preserved : goal.loop-sexp-preserved
loop-sexp-preserved c =
    let e = c.in-Some.ensures in
    record {
      taken = handed_over c.loop-sexp.sexps.items c.push.new.self.items c.in-Some.sexp c.in-Some.sexp (front_of c.args.form c.loop-sexp.ready.items) (front_of c.args.form c.take_of.new.ready.items)
          (front_of c.args.form c.args.ready.now.items) c.loop-sexp.invariant.taken e.0 refl c.in_ok-push.ensures.items;
      behind = sym e.1 ∙ c.loop-sexp.invariant.behind;
    }

pub returns : goal.returns
returns c =
    let e = c.in_default.ensures in
    (all_handed_over c.loop-sexp.sexps.items (front_of c.args.form c.loop-sexp.ready.items) (front_of c.args.form c.args.ready.now.items) c.loop-sexp.invariant.taken e.0, sym e.1 ∙ c.loop-sexp.invariant.behind)
