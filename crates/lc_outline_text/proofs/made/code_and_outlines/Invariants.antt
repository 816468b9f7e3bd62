use Rattle.std.proofs.Common.{◌≡◌, map}
use Rattle.lc_object_text.specs.Texts.{body_texts_view}
use Rattle.lc_outline.specs.PartsView.{outline_of}
use Rattle.lc_outline_text.specs.Developments.{code_of, outlines_of}
use Rattle.lc_outline_text.specs.Views.{bodies_outlined}
use Rattle.lc_outline_text.proofs.made.code_and_outlines.Given as goal

-- the bodies so far
abbrev pub invariant-loop-body : goal.invariant-loop-body
invariant-loop-body l = record {
  code : body_texts_view l.code ≡ map code_of (bodies_outlined l.yielded);
  outlines : map outline_of l.outlines.items ≡ outlines_of (bodies_outlined l.yielded);
}
