-- Pages of histories, and of traces.
use Rattle.std.specs.Prelude.{◌≡◌, ℕ, false, List, ◌++◌, codes}
use Rattle.lc_history.specs.History.{Event, Entry}
use Rattle.lc_hist.specs.JsonWritten.{history_text}
use Rattle.lc_seq.specs.Specification.{Operation}
use Rattle.lc_page.specs.Unmarked.{has_markup, unmarked}
use Rattle.lc_page.specs.declared.head.TheConstants.{HEAD}
use Rattle.lc_page.specs.declared.steps.TheConstants.{STEPS_TAIL}
use Rattle.lc_page.specs.declared.tail.TheConstants.{TAIL}

-- the bytes between the fixed beginning of a page and its fixed end
unfoldable pub page_with : List ℕ → List ℕ
page_with bytes = HEAD.now ++ bytes ++ TAIL.now

-- the bytes between the fixed beginning of a page and the fixed end of one of a trace
unfoldable pub trace_page_with : List ℕ → List ℕ
trace_page_with bytes = HEAD.now ++ bytes ++ STEPS_TAIL.now

-- `{"history":..`, and then what is said of it
abbrev pub data_text : List Operation → List Event → List Entry → (said : List ℕ) → List ℕ
data_text operations events order said = codes "{\"history\":" ++ history_text operations events order ++ said

-- The text is that of a page with a history and an order as data, and something that is said of them behind, without markup
pub record IsPage (operations : List Operation) (events : List Event) (order : List Entry) (text : List ℕ) : Type 0 where
  pub said : List ℕ
  pub is : text ≡ page_with (unmarked (data_text operations events order said))
  pub plain : has_markup (unmarked (data_text operations events order said)) ≡ false

-- The text is that of a page with the lines of a trace as data, without markup
pub record IsTracePage (trace text : List ℕ) : Type 0 where
  pub is : text ≡ trace_page_with (unmarked trace)
  pub plain : has_markup (unmarked trace) ≡ false
