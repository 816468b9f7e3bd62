-- What clauses see of a short development.
use Rattle.lc_outline.specs.DevelopmentView.{development_view}
use Rattle.lc_short.specs.Shorts as S
use Rattle.lc_short.specs.declared.short.Short.{Short}

abbrev pub short_view : Short → S.Short
short_view s = record { whole = development_view s.whole; lacking = s.lacking.items }
