-- What is on a drawing, and the elements that show it. Numbers say how far to the right and how far down something is.
use Rattle.std.specs.Prelude.{ℕ, Bool, if◌then◌else◌, List, [], ◌∷◌, ◌++◌, codes, Option, Some, None}
use Rattle.std.specs.List.{flat_map}
use Rattle.std.specs.Fmt.{decimal}
use Rattle.lc_draw.specs.Elements.{Element}

-- the lane of a client: its name, and a line
pub record Lane : Type 0 where
  pub client : ℕ
  pub under : ℕ
  pub middle : ℕ
  pub until : ℕ

abbrev pub lane_name : ℕ → ℕ → Element
lane_name client under = record { name = codes "text"; attributes = (codes "x", codes "8") ∷ (codes "y", decimal under) ∷ []; text = Some (codes "client " ++ decimal client) }

abbrev pub lane_line : ℕ → ℕ → Element
lane_line middle until = record { name = codes "path"; attributes = (codes "class", codes "lane") ∷ (codes "d", codes "M" ++ decimal 96 ++ codes " " ++ decimal middle ++ codes "H" ++ decimal until) ∷ []; text = None }

abbrev pub lane_elements : Lane → List Element
lane_elements l = lane_name l.client l.under ∷ lane_line l.middle l.until ∷ []

-- the bar of a call, closed at the right if it has returned, and its text
pub record Bar : Type 0 where
  pub is_at_fault : Bool
  pub is_closed : Bool
  pub begins : ℕ
  pub ends : ℕ
  pub top : ℕ
  pub from : ℕ
  pub under : ℕ
  pub text : List ℕ

abbrev pub class_of : Bool → List ℕ
class_of is_at_fault = if is_at_fault then codes "fault" else codes "bar"

abbrev pub close_of : Bool → List ℕ
close_of is_closed = if is_closed then codes "z" else []

abbrev pub bar_path : (class close : List ℕ) → (begins ends top : ℕ) → Element
bar_path class close begins ends top = record {
  name = codes "path";
  attributes = (codes "class", class)
      ∷ (codes "d", codes "M" ++ decimal ends ++ codes " " ++ decimal top ++ codes "H" ++ decimal begins ++ codes "v" ++ decimal 24 ++ codes "H" ++ decimal ends ++ close)
      ∷ [];
  text = None;
}

abbrev pub bar_line : Bool → Bool → (begins ends top : ℕ) → Element
bar_line is_at_fault is_closed = bar_path (class_of is_at_fault) (close_of is_closed)

abbrev pub bar_label : (from under : ℕ) → List ℕ → Element
bar_label from under text = record { name = codes "text"; attributes = (codes "x", decimal from) ∷ (codes "y", decimal under) ∷ []; text = Some text }

abbrev pub bar_elements : Bar → List Element
bar_elements b = bar_line b.is_at_fault b.is_closed b.begins b.ends b.top ∷ bar_label b.from b.under b.text ∷ []

-- the mark of an entry, and its place in the order over it
pub record Mark : Type 0 where
  pub place : ℕ
  pub across : ℕ
  pub top : ℕ
  pub over : ℕ

abbrev pub mark_line : ℕ → ℕ → Element
mark_line across top = record { name = codes "path"; attributes = (codes "class", codes "mark") ∷ (codes "d", codes "M" ++ decimal across ++ codes " " ++ decimal top ++ codes "v10") ∷ []; text = None }

abbrev pub mark_place : (place across over : ℕ) → Element
mark_place place across over = record { name = codes "text"; attributes = (codes "class", codes "place") ∷ (codes "x", decimal across) ∷ (codes "y", decimal over) ∷ []; text = Some (decimal place) }

abbrev pub mark_elements : Mark → List Element
mark_elements m = mark_line m.across m.top ∷ mark_place m.place m.across m.over ∷ []

-- the line from mark to mark
abbrev pub point_text : ℕ × ℕ → List ℕ
point_text p = decimal p.0 ++ codes "," ++ decimal p.1 ++ codes " "

abbrev pub order_element : List (ℕ × ℕ) → Element
order_element points = record { name = codes "polyline"; attributes = (codes "class", codes "order") ∷ (codes "points", flat_map point_text points) ∷ []; text = None }

-- the line behind an event, and the number of the event over it, from 1
pub record Cut : Type 0 where
  pub number : ℕ
  pub across : ℕ
  pub top : ℕ
  pub until : ℕ
  pub over : ℕ

abbrev pub cut_line : (across top until : ℕ) → Element
cut_line across top until = record { name = codes "path"; attributes = (codes "class", codes "fault") ∷ (codes "d", codes "M" ++ decimal across ++ codes " " ++ decimal top ++ codes "V" ++ decimal until) ∷ []; text = None }

abbrev pub cut_label : (number across over : ℕ) → Element
cut_label number across over = record { name = codes "text"; attributes = (codes "class", codes "place") ∷ (codes "x", decimal across) ∷ (codes "y", decimal over) ∷ []; text = Some (codes "event " ++ decimal number) }

abbrev pub cut_elements : Option Cut → List Element
cut_elements None = []
cut_elements (Some c) = cut_line c.across c.top c.until ∷ cut_label c.number c.across c.over ∷ []

-- what is said of the order
abbrev pub caption_element : ℕ → List ℕ → Element
caption_element above text = record { name = codes "text"; attributes = (codes "x", codes "8") ∷ (codes "y", decimal above) ∷ []; text = Some text }

abbrev pub sheet_element : ℕ → ℕ → Element
sheet_element width height =
    record { name = codes "rect"; attributes = (codes "class", codes "sheet") ∷ (codes "width", decimal width) ∷ (codes "height", decimal height) ∷ []; text = None }

-- how classes look
abbrev pub style_element : List ℕ → Element
style_element style = record { name = codes "style"; attributes = []; text = Some style }
