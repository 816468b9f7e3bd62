-- Drawings of histories.
use Rattle.std.specs.Prelude.{◌≡◌, ℕ, suc, ◌&&◌, Bool, nat_lt, nat_le, cond, List, [], ◌∷◌, ◌++◌, Option, Some, None, option_map, codes, length, map}
use Rattle.std.specs.List.{flat_map}
use Rattle.std.specs.Fmt.{decimal}
use Rattle.lc_history.specs.History.{Event, Entry, count, is_call, is_of}
use Rattle.lc_history.specs.WellFormed.{begins}
use Rattle.lc_draw.specs.Elements.{Element, elements_text, AreWellFormed}
use Rattle.lc_draw.specs.Shapes.{Lane, lane_elements, Bar, bar_elements, Mark, mark_elements, Cut, cut_elements, order_element, caption_element, sheet_element, style_element}

-- what is on a sheet: a lane for each client, bars, the line from mark to mark, marks, a line behind an event, and what is said of the order
pub record Picture : Type 0 where
  pub width : ℕ
  pub height : ℕ
  pub style : List ℕ
  pub lanes : List Lane
  pub bars : List Bar
  pub points : List (ℕ × ℕ)
  pub marks : List Mark
  pub cut : Option Cut
  pub above : ℕ
  pub caption : List ℕ

abbrev pub elements_of : Picture → List Element
elements_of p =
    style_element p.style
    ∷ sheet_element p.width p.height
    ∷ flat_map lane_elements p.lanes ++ flat_map bar_elements p.bars ++ order_element p.points ∷ flat_map mark_elements p.marks ++ cut_elements p.cut ++ caption_element p.above p.caption ∷ []

-- the tag before all elements
abbrev pub opening_text : ℕ → ℕ → List ℕ
opening_text width height =
    codes "<svg xmlns=\"http://www.w3.org/2000/svg\" width=\"" ++ decimal width ++ codes "\" height=\"" ++ decimal height ++ codes "\" viewBox=\"0 0 " ++ decimal width ++ codes " " ++ decimal height
    ++ codes "\">\n"

abbrev pub picture_text : Picture → List ℕ
picture_text p = opening_text p.width p.height ++ elements_text (elements_of p) ++ codes "</svg>\n"

-- the client made so many calls that it has this one, counted from 0
abbrev pub has_call : List Event → (client turn : ℕ) → Bool
has_call events c t = nat_lt t (count (is_call c) events)

-- the places of the entries whose calls pass the test, by client and turn, if that many are before these
abbrev pub marked : (ℕ → ℕ → Bool) → List Entry → ℕ → List Entry → List ℕ
marked test before k [] = []
marked test before k (e ∷ es) =
    cond (test e.client (count (is_of e.client) before)) (k ∷ marked test (before ++ e ∷ []) (suc k) es) (marked test (before ++ e ∷ []) (suc k) es)

-- the number of an event, from 1, if the history has it
abbrev pub event_in : List Event → Option ℕ → Option ℕ
event_in events None = None
event_in events (Some n) = cond (nat_lt 0 n && nat_le n (length events)) (Some n) None

-- the text is that of a picture with so many bars, marks with these places, and a line behind this event, whose elements are well-formed
pub record Draws (bars : ℕ) (places : List ℕ) (event : Option ℕ) (text : List ℕ) : Type 0 where
  pub picture : Picture
  pub is : text ≡ picture_text picture
  pub well_formed : AreWellFormed (elements_of picture)
  pub bars_are : length picture.bars ≡ bars
  pub marks_are : map (λ (m : Mark). m.place) picture.marks ≡ places
  pub cut_is : option_map (λ (c : Cut). c.number) picture.cut ≡ event

-- The text draws a bar for each call of the history, a mark with its place for each entry of the order that has a call, and a line
-- behind the event of this number, if the history has it
abbrev pub IsDrawing : List Event → List Entry → Option ℕ → List ℕ → Type 0
IsDrawing events order event text = Draws (count begins events) (marked (has_call events) [] 0 order) (event_in events event) text
