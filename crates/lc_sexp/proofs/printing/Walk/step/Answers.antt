use Rattle.std.proofs.Common.{◌≡◌, ◌++◌, ◌∷◌, [], Ok, sym, ap, ◌∙◌, append-nil}
use Rattle.lc_sexp.specs.declared.cursor.Item.TheVariants.{List as ListItem}
use Rattle.lc_sexp.proofs.Walks.{gave_item, gave_none}
use Rattle.lc_sexp.proofs.Prints.{space_before, told_open, steps_open, told_close, steps_close}
use Rattle.lc_sexp.proofs.printing.Walk.step.Goals as goal
use Rattle.lc_sexp.proofs.printing.Walk.step.Goals.{then-not-self+in_ok-push-2, else-not-self}

pub returns-in_default-clause-told : goal.returns-in_default-clause-told
returns-in_default-clause-told c =
    let w = c.args.self.now in
    told_close c.args.out.now.items c.push.new.self.items w.fresh w.rest c.in-Some.behind w.around.items c.pop.new.self.items c.pop.result
    c.in_ok-push.ensures.items (gave_none c.item.result w.rest c.item.new.self c.in_default.field-0 c.in_default.is c.item.ensures) c.pop.ensures.items c.in-Some.is

pub returns-in_default-clause-fewer : goal.returns-in_default-clause-fewer
returns-in_default-clause-fewer c = λ e.
    let w = c.args.self.now in
    steps_close w.rest c.in-Some.behind w.around.items c.pop.new.self.items c.pop.result c.pop.ensures.items c.in-Some.is

pub returns-in_ok-push-in-List-2-clause-told : goal.returns-in_ok-push-in-List-2-clause-told
returns-in_ok-push-in-List-2-clause-told c =
    let w = c.args.self.now in
    let space : c.if-not-self.out.items ≡ c.args.out.now.items ++ space_before w.fresh = elim c.if-not-self.branch [
      | then-not-self+in_ok-push-2 b ↦ ap (λ v. v.items) b.out-is ∙ b.in_ok-push-2.ensures.items ∙ ap (λ x. c.args.out.now.items ++ space_before x) (sym b.if-not-self.true)
      | else-not-self b ↦ ap (λ v. v.items) b.out-is ∙ sym (append-nil c.args.out.now.items) ∙ ap (λ x. c.args.out.now.items ++ space_before x) (sym b.if-not-self.false)
    ] in
    told_open c.args.out.now.items c.push-in-List.new.self.items w.fresh w.rest c.item.new.self c.in-List.inner w.around.items c.push-in-List-2.new.self.items
    (c.in_ok-push-in-List.ensures.items ∙ ap (λ x. x ++ (40 ∷ [])) space) (gave_item c.item.result w.rest c.item.new.self (ListItem c.in-List.inner) (c.in-Ok.is ∙ ap Ok c.in-List.is) c.item.ensures) c.in_ok-push-in-List-2.ensures.items

pub returns-in_ok-push-in-List-2-clause-fewer : goal.returns-in_ok-push-in-List-2-clause-fewer
returns-in_ok-push-in-List-2-clause-fewer c = λ e.
    let w = c.args.self.now in
    steps_open w.rest c.item.new.self c.in-List.inner w.around.items c.push-in-List-2.new.self.items
    (gave_item c.item.result w.rest c.item.new.self (ListItem c.in-List.inner) (c.in-Ok.is ∙ ap Ok c.in-List.is) c.item.ensures) c.in_ok-push-in-List-2.ensures.items
