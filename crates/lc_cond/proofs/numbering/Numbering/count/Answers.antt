use Rattle.std.proofs.Common.{◌-◌, length, slice_get, sym, ap, ◌∙◌}
use Rattle.lc_cond.proofs.Numbered.{last_found}
use Rattle.lc_cond.proofs.numbering.Numbering.count.Goals as goal

pub returns-in-Some : goal.returns-in-Some
returns-in-Some c = λ D h.
    last_found D c.args.self.now.firsts.items c.in-Some.count.now h.firsts_are h.each (sym (c.in-Some.ensures.value ∙ ap (λ l. slice_get l (length l - 1)) c.deref.ensures.value))
