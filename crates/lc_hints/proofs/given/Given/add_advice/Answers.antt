use Rattle.std.proofs.Common.{refl}
use Rattle.std.proofs.lemmas.Result.{on_ok_weaker}
use Rattle.lc_hints.proofs.Giving.{given_use, given_cut, given_by}
use Rattle.lc_hints.proofs.given.Given.add_advice.Goals as goal

pub returns-in-Use : goal.returns-in-Use
returns-in-Use c =
    rw c.in-Use.is
    (on_ok_weaker c.add.result (λ added hs given. given_use hs c.args.number c.in-Use.terms.items c.args.self.now _ refl refl added given) c.add.ensures)

pub returns-in_ok-formulas-in-Cut : goal.returns-in_ok-formulas-in-Cut
returns-in_ok-formulas-in-Cut c =
    rw c.in-Cut.is
    (on_ok_weaker c.add-in-Cut.result (λ added hs given. given_cut hs c.args.number c.in-Cut.formula c.in_ok-formulas-in-Cut.formulas.items c.args.self.now _ c.in_ok-formulas-in-Cut.ensures.items refl refl added given) c.add-in-Cut.ensures)

pub returns-in_ok-push-in-By : goal.returns-in_ok-push-in-By
returns-in_ok-push-in-By c =
    rw c.in-By.is
    (λ hs given. given_by hs (record { number = c.args.number; proof = c.in-By.proof }) c.args.self.now _ c.in_ok-push-in-By.ensures.items refl refl given)
