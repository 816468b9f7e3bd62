-- What the parts of a specification stand for.
use Rattle.std.specs.Prelude.{ℕ, List, map}
use Rattle.lc_base.specs.Name.{bytes_of}
use Rattle.lc_term.specs.View.{term_of, formula_of}
pub use Rattle.lc_term.specs.UpdateView.{update_of, updates_of}
use Rattle.lc_seq.specs.Sequential.{Call, Chosen, InOrder, ByName, Choice}
use Rattle.lc_seq.specs.Specification as S
use Rattle.lc_seq.specs.declared.choice.Label.{Label}
use Rattle.lc_seq.specs.declared.choice.Label.TheVariants as L
use Rattle.lc_seq.specs.declared.choice.Pick.{Pick}
use Rattle.lc_seq.specs.declared.choice.Pick.TheVariants as P
use Rattle.lc_seq.specs.declared.specification.Column.{Column}
use Rattle.lc_seq.specs.declared.specification.Branch.{Branch}
use Rattle.lc_seq.specs.declared.specification.Operation.{Operation}
use Rattle.lc_seq.specs.declared.text_call.TextCall.{TextCall}

abbrev pub column_of : Column → S.Column
column_of c = record { name = bytes_of c.name; slope = c.slope; start = c.start }

abbrev pub label_of : Label → Chosen (List ℕ)
label_of L.First = InOrder
label_of (L.Named name parameters) = ByName (bytes_of name) (map bytes_of parameters.items)

abbrev pub choice_of : Pick → Choice
choice_of P.First = InOrder
choice_of (P.Named name numbers) = ByName (bytes_of name) numbers.items

abbrev pub branch_of : Branch → S.Branch
branch_of b = record { label = label_of b.label; guard = formula_of b.guard; updates = map update_of b.updates.items; replies = map term_of b.replies.items }

abbrev pub operation_of : Operation → S.Operation
operation_of o = record { name = bytes_of o.name; arguments = map bytes_of o.arguments.items; replies = o.replies; branches = map branch_of o.branches.items }

abbrev pub columns_of : List Column → List S.Column
columns_of cs = map column_of cs

abbrev pub branches_of : List Branch → List S.Branch
branches_of bs = map branch_of bs

abbrev pub operations_of : List Operation → List S.Operation
operations_of os = map operation_of os

abbrev pub text_call_of : TextCall → Call
text_call_of call = record { op = call.op.0; numbers = call.numbers.items }
