-- An array has the columns that are declared of its name.
use Rattle.std.proofs.Common.{◌≡◌, ℕ, zero, suc, List, [], ◌∷◌, length, Option, Some, None, refl, sym, ap, ◌∙◌}
use Rattle.std.specs.Prelude.{option_map, slice_get}
use Rattle.lc_reading.specs.Listed.{place_of}
use Rattle.lc_object.specs.Edges.{columns_in}
use Rattle.lc_object.specs.Syntax.{Array}
use Rattle.lc_object.specs.WellFormed.{numbers_from}
use Rattle.lc_object_text.proofs.ArrayHolds.{HaveSpans}
use Rattle.lc_object_text.specs.ObjectNames.{Declared, Span, row_at}
use Rattle.lc_outline_text.specs.Sizes.{columns_of_span, span_at, array_columns}
use Rattle.lc_object_text.proofs.Distinct.{as_many}

at_span : (spans : List Span) (arrays : List Array) (k : ℕ) (span : Span) → HaveSpans spans arrays → slice_get spans k ≡ Some span → columns_in (slice_get arrays k) ≡ numbers_from span.first span.width
at_span [] arrays k span h e = absurd (cc)
at_span (s ∷ spans) [] k span h e = absurd h
at_span (s ∷ spans) (a ∷ arrays) zero span h e = let same : s ≡ span = cc in h.0 ∙ ap (λ (x : Span). numbers_from x.first x.width) same
at_span (s ∷ spans) (a ∷ arrays) (suc k) span h e = at_span spans arrays k span h.2 e

-- the columns of an array of this number and width
abbrev HasColumns : List Array → ℕ → ℕ → List ℕ → Type 0
HasColumns arrays a width cs = (columns_in (slice_get arrays a) ≡ cs) × (length cs ≡ width)

abbrev row_of : ℕ → Span → ℕ × ℕ
row_of k span = (k, span.width)

of_span : (spans : List Span) (arrays : List Array) → HaveSpans spans arrays → (k : ℕ) (span : Option Span) → slice_get spans k ≡ span → (a width : ℕ) → option_map (row_of k) span ≡ Some (a, width)
    → HasColumns arrays a width (columns_of_span span)
of_span spans arrays h k None at a width e = absurd (cc)
of_span spans arrays h k (Some span) at a width e =
    let pair : row_of k span ≡ (a, width) = cc in
    let same : k ≡ a = ap (λ (p : ℕ × ℕ). p.0) pair in
    let wide : span.width ≡ width = ap (λ (p : ℕ × ℕ). p.1) pair in
    (ap (λ n. columns_in (slice_get arrays n)) (sym same) ∙ at_span spans arrays k span h at, as_many span.first span.width ∙ wide)

of_place : (spans : List Span) (arrays : List Array) → HaveSpans spans arrays → (o : Option ℕ) (a width : ℕ) → row_at spans o ≡ Some (a, width) → HasColumns arrays a width (columns_of_span (span_at spans o))
of_place spans arrays h None a width e = absurd (cc)
of_place spans arrays h (Some k) a width e = of_span spans arrays h k (slice_get spans k) refl a width e

pub array_said : (d : Declared) (arrays : List Array) → HaveSpans d.spans arrays → (w : List ℕ) (a width : ℕ) → row_at d.spans (place_of d.arrays w) ≡ Some (a, width)
    → (columns_in (slice_get arrays a) ≡ array_columns d w) × (length (array_columns d w) ≡ width)
array_said d arrays h w a width e = of_place d.spans arrays h (place_of d.arrays w) a width e
