use Rattle.std.proofs.Common.{◌++◌, ◌∙◌, ap₂, subst, string_bytes}
use Rattle.lc_draw.specs.Elements.{IsWellFormed, element_text}
use Rattle.lc_draw.specs.Shapes.{bar_path, class_of}
use Rattle.lc_draw.proofs.svg.write_bar_line.Goals as goal

pub returns-clause-text : goal.returns-clause-text
returns-clause-text c =
    c.in_ok-write_bar_path.ensures.text
    ∙ ap₂ (λ k z. string_bytes c.args.out.now ++ element_text (bar_path k z c.args.begins c.args.ends c.args.top)) c.class_of-class.ensures.is c.close_of-close.ensures.is

pub returns-clause-formed : goal.returns-clause-formed
returns-clause-formed c =
    subst (λ z. IsWellFormed (bar_path (class_of c.args.is_at_fault) z c.args.begins c.args.ends c.args.top)) c.close_of-close.ensures.is
    (subst (λ k. IsWellFormed (bar_path k c.close_of-close.result.now c.args.begins c.args.ends c.args.top)) c.class_of-class.ensures.is c.in_ok-write_bar_path.ensures.formed)
