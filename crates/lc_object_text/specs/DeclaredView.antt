-- What clauses see of the names that a development file declares.
use Rattle.std.specs.Prelude.{List, map, Option, Some, None}
use Rattle.std.specs.Borrow.{Bor}
use Rattle.lc_sexp.specs.Shown.{rest_of}
use Rattle.lc_reading.specs.Listed.{names_among}
use Rattle.lc_reading.specs.TableView.{listed}
use Rattle.lc_object_text.specs.ObjectNames as N
use Rattle.lc_object_text.specs.declared.declared.Span.{Span}
use Rattle.lc_object_text.specs.declared.declared.Call.{Call}
use Rattle.lc_object_text.specs.declared.declared.Body.{Body}
use Rattle.lc_object_text.specs.declared.declared.Declared.{Declared}

abbrev pub span_view : Span → N.Span
span_view span = record { first = span.first; width = span.width }

abbrev pub call_view : Call → N.Call
call_view call = record { arguments = names_among (rest_of call.arguments); replies = call.replies }

-- a call that is referred to, or none
abbrev pub call_found : Option (Bor Call) → N.Call
call_found (Some call) = call_view call.now
call_found None = N.no_call

abbrev pub body_view : Body → N.Body
body_view b = record {
  operation = b.operation.now;
  first = b.first;
  call = record { arguments = names_among (rest_of b.arguments); replies = b.replies };
  locals = listed b.locals;
  labels = listed b.labels;
}

abbrev pub spans_view : List Span → List N.Span
spans_view spans = map span_view spans

abbrev pub calls_view : List Call → List N.Call
calls_view calls = map call_view calls

abbrev pub bodies_view : List Body → List N.Body
bodies_view bodies = map body_view bodies

abbrev pub declared_view : Declared → N.Declared
declared_view d = record {
  columns = listed d.columns;
  abstracts = d.abstracts;
  auxiliaries = d.auxiliaries;
  arrays = listed d.arrays;
  spans = spans_view d.spans.items;
  operations = listed d.operations;
  calls = calls_view d.calls.items;
  points = listed d.points;
  bodies = bodies_view d.bodies.items;
}
