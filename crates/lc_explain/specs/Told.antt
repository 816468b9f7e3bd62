-- Which place in a file a refusal is about.
use Rattle.std.specs.Prelude.{ℕ, ◌≤◌, ◌<◌, ◌⊎◌, List, length}
use Rattle.lc_base.specs.declared.refusal.Refusal.{Refusal}
use Rattle.lc_base.specs.declared.refusal.Refusal.TheVariants.{Text, Shape, Unknown, Repeated, Auxiliary, Bound, CertText, CertShape, Missing, Extra, Proof, Large, HistoryShape, Order}
use Rattle.lc_sexp.specs.Reads.{text_of}
use Rattle.lc_place.specs.Items.{items_in}
use Rattle.lc_place.specs.Open.{IsInnermostOpen, AreAllClosed}
use Rattle.lc_place.specs.Place.{IsPlaceOf, IsItem, IsByte}
use Rattle.lc_place.specs.declared.place.Place.{Place}
use Rattle.lc_explain.specs.Located.{IsLocated}
use Rattle.lc_explain.specs.declared.label.Label.TheVariants.{Error}

-- The place of the end of the file
abbrev pub IsEnd : List ℕ → Place → Type 0
IsEnd bytes p = IsByte bytes (length bytes) p

-- the place of the bracket that opens the innermost list that is open at the end
abbrev pub IsOpenBracket : List ℕ → Place → Type 0
IsOpenBracket bytes p = (offset : ℕ) × IsInnermostOpen (text_of bytes) offset × IsPlaceOf bytes offset 1 p

-- The place of a fault of the text: the byte at the offset; at the end of the file the bracket that was never closed, or the end
abbrev pub IsFault : List ℕ → ℕ → Place → Type 0
IsFault bytes offset p =
    ((offset < length bytes) × IsByte bytes offset p)
    ⊎ ((length bytes ≤ offset) × (IsOpenBracket bytes p ⊎ (AreAllClosed (text_of bytes) × IsEnd bytes p)))

-- the place of the item, or the end of a file that has no such item
abbrev pub IsItemOrEnd : List ℕ → ℕ → Place → Type 0
IsItemOrEnd bytes item p = IsItem bytes item p ⊎ ((items_in bytes ≤ item) × IsEnd bytes p)

-- The place that a refusal tells of a file of s-expressions: by an offset or an item
abbrev pub IsTold : List ℕ → Refusal → Place → Type 0
IsTold bytes (Text offset) p = IsFault bytes offset p
IsTold bytes (Shape item) p = IsItemOrEnd bytes item p
IsTold bytes (Unknown item) p = IsItemOrEnd bytes item p
IsTold bytes (Repeated item) p = IsItemOrEnd bytes item p
IsTold bytes (Auxiliary item) p = IsItemOrEnd bytes item p
IsTold bytes (Bound item) p = IsItemOrEnd bytes item p
IsTold bytes (CertText offset) p = IsFault bytes offset p
IsTold bytes (CertShape item) p = IsItemOrEnd bytes item p
IsTold bytes (Missing condition) p = ⊥
IsTold bytes (Extra condition) p = ⊥
IsTold bytes (Proof condition step reason) p = ⊥
IsTold bytes (Large condition step) p = ⊥
IsTold bytes (HistoryShape item) p = ⊥
IsTold bytes (Order place reason) p = ⊥

-- it tells no offset and no item of such a file
abbrev pub TellsNoPlace : Refusal → Type 0
TellsNoPlace (Text offset) = ⊥
TellsNoPlace (Shape item) = ⊥
TellsNoPlace (Unknown item) = ⊥
TellsNoPlace (Repeated item) = ⊥
TellsNoPlace (Auxiliary item) = ⊥
TellsNoPlace (Bound item) = ⊥
TellsNoPlace (CertText offset) = ⊥
TellsNoPlace (CertShape item) = ⊥
TellsNoPlace (Missing condition) = Unit {0}
TellsNoPlace (Extra condition) = Unit {0}
TellsNoPlace (Proof condition step reason) = Unit {0}
TellsNoPlace (Large condition step) = Unit {0}
TellsNoPlace (HistoryShape item) = Unit {0}
TellsNoPlace (Order place reason) = Unit {0}

-- The text says a sentence of the place that the refusal tells, and shows its line
abbrev pub IsExplanation : List ℕ → List ℕ → Refusal → List ℕ → Type 0
IsExplanation path bytes refusal text = (p : Place) × (sentence : List ℕ) × IsTold bytes refusal p × IsLocated path bytes p Error sentence text
