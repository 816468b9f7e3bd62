-- What labels of the code stand for.
use Rattle.std.specs.Prelude.{List, map}
use Rattle.lc_ride.specs.RideView.{marks_of}
use Rattle.lc_sound.specs.Instrumented as S
use Rattle.lc_steps.specs.StepView.{what_of}
use Rattle.lc_run.specs.declared.label.Label.{Label}

abbrev pub label_of : Label → S.Label
label_of l = record { client = l.client; what = what_of l.what; marks = marks_of l.marks.items }

abbrev pub labels_of : List Label → List S.Label
labels_of ls = map label_of ls
