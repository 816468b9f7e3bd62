-- What the values of the code stand for.
use Rattle.std.specs.Prelude.{List, option_map, map}
use Rattle.lc_term.specs.Syntax as T
use Rattle.lc_term.specs.View.{term_of, formula_of}
use Rattle.lc_term.specs.UpdateView.{update_of}
use Rattle.lc_base.specs.Name.{bytes_of}
use Rattle.lc_seq.specs.Sequential as Q
use Rattle.lc_rider.specs.Rider as S
use Rattle.lc_rider.specs.declared.rider.Choosing.{Choosing}
use Rattle.lc_rider.specs.declared.rider.Choosing.TheVariants as C
use Rattle.lc_rider.specs.declared.rider.When.{When}
use Rattle.lc_rider.specs.declared.rider.Rider.{Rider}
use Rattle.lc_rider.specs.declared.rider.Rider.TheVariants.{Assign, LinSelf, LinOther, Note}

abbrev pub formula_in : When → T.Formula
formula_in when = formula_of when.formula

abbrev pub choosing_of : Choosing → Q.Chosen T.Term
choosing_of C.First = Q.InOrder
choosing_of (C.Named name terms) = Q.ByName (bytes_of name) (map term_of terms.items)

-- what a rider does, as a record of its condition and its deed
abbrev pub rider_of : Rider → S.Rider
rider_of (Assign c u) = record { condition = option_map formula_in c; deed = S.Assign (update_of u) }
rider_of (LinSelf c by) = record { condition = option_map formula_in c; deed = S.Marks S.Own (choosing_of by) }
rider_of (LinOther c t o by) = record { condition = option_map formula_in c; deed = S.Marks (S.Other (term_of t) o.0) (choosing_of by) }
rider_of (Note c by) = record { condition = option_map formula_in c; deed = S.Marks S.Note (choosing_of by) }

abbrev pub riders_of : List Rider → List S.Rider
riders_of riders = map rider_of riders
