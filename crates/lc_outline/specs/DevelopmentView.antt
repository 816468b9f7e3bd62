-- What a development stands for.
use Rattle.lc_outline.specs.Development as S
pub use Rattle.lc_outline.specs.PartsView.{on_of, outline_of, parts_view}
use Rattle.lc_outline.specs.declared.development.Development.{Development}

abbrev pub development_view : Development → S.Development
development_view d = parts_view d.parts
