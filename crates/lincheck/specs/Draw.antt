-- The answer to a development's file and a history's or a trace's, if that is to be drawn.
use Rattle.std.specs.Prelude.{◌≡◌, ℕ, ◌==◌, ◌&&◌, ◌⊎◌, Bool, true, false, nat_le, length, List, [], ◌∷◌, codes, ℤ, Option, Some, None, Vec}
use Rattle.std.specs.List.{starts_with}
use Rattle.std.specs.declared.alloc.Global.{Global}
use Rattle.lc_base.specs.Limits.{file_limit}
use Rattle.lc_base.specs.Line.{line_of}
use Rattle.lc_draw.specs.Drawings.{IsDrawing}
use Rattle.lc_draw.specs.Stretches.{IsDrawnRound}
use Rattle.lc_history.specs.History.{Event, Entry}
use Rattle.lc_history.specs.View.{entries_view}
use Rattle.lc_hist.specs.JsonRecorded.{SaysRecorded}
use Rattle.lc_order.specs.declared.deciding.Decision.{Decision}
use Rattle.lc_order.specs.declared.deciding.Decision.TheVariants.{Order, NotLinearizable, Unknown, Overflow, Budget}
use Rattle.lc_page.specs.Pages.{IsPage, IsTracePage}
use Rattle.lc_seq.specs.Specification.{Operation, Specification}
use Rattle.lc_seq.specs.declared.choice.Pick.{Pick}
use Rattle.lc_seq.specs.declared.text_call.TextCall.{TextCall}
use Rattle.lc_words.specs.declared.request.Shown.{Shown}
use Rattle.lc_words.specs.declared.request.Shown.TheVariants.{Whole, Page, Around}
use Rattle.lincheck.specs.Judge.{AnswersBoth}
use Rattle.lincheck.specs.Order.{IsDecision, RefusesRecorded}

-- the order that is found, if one is
abbrev pub order_found : Decision TextCall Pick (Vec ℤ Global) → List Entry
order_found (Order order) = entries_view order.items
order_found (NotLinearizable front) = []
order_found Unknown = []
order_found Overflow = []
order_found Budget = []

-- the number of first events that no order linearizes, if it is found
abbrev pub front_found : Decision TextCall Pick (Vec ℤ Global) → Option ℕ
front_found (Order order) = None
front_found (NotLinearizable front) = Some front
front_found Unknown = None
front_found Overflow = None
front_found Budget = None

-- what is drawn is printed, with status 0; or it is told that there is no mark with the place, with status 1
abbrev pub ToldRound : Option (List ℕ) → List ℕ → ℕ → Type 0
ToldRound (Some drawn) text status = (text ≡ drawn) × (status ≡ 0)
ToldRound None text status = (text ≡ line_of (codes "no-such-place") []) × (status ≡ 1)

-- the text draws a history with an order and with what no order linearizes, or is a page with history and order as its data, with
-- status 0; or it tells what is drawn round the mark of the entry at a place
abbrev pub IsShown : Shown → List Operation → List Event → List Entry → Option ℕ → List ℕ → ℕ → Type 0
IsShown Whole operations history order front text status = IsDrawing history order front text × (status ≡ 0)
IsShown Page operations history order front text status = IsPage operations history order text × (status ≡ 0)
IsShown (Around place width) operations history order front text status = (found : Option (List ℕ)) × IsDrawnRound history order place width found × ToldRound found text status

-- this shows the history with the order that is given; if none is, with what is decided of it
abbrev pub DrawsGiven : Shown → Specification → List Event → List Entry → List ℕ → ℕ → Type 0
DrawsGiven shown spec history (entry ∷ order) text status = IsShown shown spec.operations history (entry ∷ order) None text status
DrawsGiven shown spec history [] text status =
    (decision : Decision TextCall Pick (Vec ℤ Global)) × IsDecision spec history decision × IsShown shown spec.operations history (order_found decision) (front_found decision) text status

-- this shows the history that the bytes say
abbrev pub DrawsSaid : Shown → Specification → List ℕ → List ℕ → ℕ → Type 0
DrawsSaid shown spec bytes text status = (history : List Event) × (given : List Entry) × SaysRecorded spec.operations bytes history given × DrawsGiven shown spec history given text status

-- The answer to a history's file, by a specification: what is to be shown of it; or the refusal with the first item that is wrong
abbrev pub AnswersDrawn : Shown → Specification → List ℕ → List ℕ → ℕ → Type 0
AnswersDrawn shown spec file text status = DrawsSaid shown spec file text status ⊎ RefusesRecorded spec file text status

-- the bytes are drawn as a trace: a page is asked for, they begin as those of a trace do, and are within the limit of files
abbrev pub is_traced : Shown → List ℕ → Bool
is_traced Whole bytes = false
is_traced Page bytes = starts_with ◌==◌ bytes (codes "linearizable ") && nat_le (length bytes) file_limit
is_traced (Around place width) bytes = false

-- the answer to a trace's file or a history's: the page of the trace, and status 0; or what answers a history's
abbrev pub AnswersEither : (traced : Bool) → Shown → Specification → List ℕ → List ℕ → ℕ → Type 0
AnswersEither true shown spec file text status = IsTracePage file text × (status ≡ 0)
AnswersEither false shown spec file text status = AnswersDrawn shown spec file text status

abbrev pub AnswersShown : Shown → Specification → List ℕ → List ℕ → ℕ → Type 0
AnswersShown shown spec file text status = AnswersEither (is_traced shown file) shown spec file text status

-- The answer to a development's file and a history's or a trace's
abbrev pub AnswersDraw : Shown → List ℕ → Option (List ℕ) → List ℕ → ℕ → Type 0
AnswersDraw shown = AnswersBoth (AnswersShown shown)
