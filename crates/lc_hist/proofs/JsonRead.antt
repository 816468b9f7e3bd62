-- A text that is read is a document of the grammar, whose value nests within the limit.
use Rattle.std.proofs.Common.{◌≡◌, ℕ, ◌≤◌, Bool, true, false, ◌&&◌, nat_le, is_some, List, [], ◌∷◌, Option, Some, None, IsSome, option_and_then, refl, sym, ap, subst, ◌∙◌, arith, append-nil, le-leb, leb-true, true≢false}
use Rattle.json.specs.Token.{Token}
use Rattle.json.specs.Lex.{tokens}
use Rattle.json.specs.Json as json
use Rattle.json.specs.Json.{if_last, value, document}
use Rattle.json.specs.Find.{BeginsWith}
use Rattle.json.specs.Find as find
use Rattle.json.specs.Tree.{json_tokens, depth}
use Rattle.json.proofs.Found.{not_found, document-BeginsWith}
use Rattle.json.proofs.Nesting.{value-depth}
use Rattle.json.proofs.Printed.Trees.{value-json_tokens}
use Rattle.json.proofs.Unique.Spelling.{value-json_tokens_back, tokens-document}
use Rattle.serde_json.specs.Data.{Data}
use Rattle.serde_json.specs.Read.{of_json, read}
use Rattle.lc_hist.specs.JsonItems.{data_at, IsData, AreTokensOf}
use Rattle.lc_hist.specs.JsonSeen.{HasValue, IsNoJson}
use Rattle.lc_hist.proofs.JsonFound.{is_data}
use Rattle.lc_hist.proofs.JsonFits.{fits_json}

whole : (o : Option (json.Json × List Token)) (d : Data) → option_and_then of_json (option_and_then (λ p. if_last p.0 p.1) o) ≡ Some d → (j : json.Json) × (o ≡ Some (j, [])) × (of_json j ≡ Some d)
whole None d e = not_found d e
whole (Some (j, [])) d e = (j, refl, e)
whole (Some (j, t ∷ ts)) d e = not_found d e

-- the value that was read
pub record IsRead (bytes : List ℕ) (d : Data) : Type 0 where
  pub j : json.Json
  pub says : of_json j ≡ Some d
  pub within : depth j ≤ 127
  pub is : document bytes ≡ Some j

pub was_read : (bytes : List ℕ) (d : Data) → read bytes ≡ Some d → IsRead bytes d
was_read bytes d e =
    let w = whole (value 127 (tokens bytes)) d e in
    let shallow = value-depth 127 (tokens bytes) [] w.0 w.1 in
    let again = value-json_tokens w.0 128 [] (omega (arith, shallow)) in
    record {
      j = w.0;
      says = w.2;
      within = shallow;
      is = ap (option_and_then (λ p. if_last p.0 p.1)) (ap (value 128) (value-json_tokens_back 127 (tokens bytes) [] w.0 w.1) ∙ again);
    }

-- a document whose value nests within the limit is read
pub is_read : (bytes : List ℕ) (j : json.Json) → document bytes ≡ Some j → depth j ≤ 127 → read bytes ≡ of_json j
is_read bytes j e shallow =
    ap (λ o. option_and_then of_json (option_and_then (λ p. if_last p.0 p.1) o))
    (ap (value 127) (tokens-document bytes j e ∙ sym (append-nil (json_tokens j))) ∙ value-json_tokens j 127 [] shallow)

-- what is no document is not read
pub no_document : (bytes : List ℕ) → document bytes ≡ None → IsNoJson bytes
no_document bytes none d has = let r = was_read bytes d has.reads in not_found r.j (sym none ∙ r.is)

some : {A : Type 0} (o : Option A) → IsSome o → (a : A) × (o ≡ Some a)
some None is = absurd cc
some (Some a) is = (a, refl)

both : (a b : Bool) → a && b ≡ true → (a ≡ true) × (b ≡ true)
both true b e = (refl, e)
both false b e = absurd (true≢false (sym e))

said : (o : Option Data) → is_some o ≡ true → (d : Data) × (o ≡ Some d)
said None e = absurd (true≢false (sym e))
said (Some d) e = (d, refl)

-- if a value begins that fits, there is data
pub fits_data : (ts : List Token) → find.HasValue ts → ((j : json.Json) → BeginsWith ts j → true ≡ fits_json j 127) → IsData ts
fits_data ts j fits =
    let right = both (is_some (of_json j.0)) (nat_le (depth j.0) 127) (sym (fits j.0 j.1)) in
    let d = said (of_json j.0) right.0 in
    (is_data ts j.0 d.0 j.1 d.1).0

-- a document that fits is read as what is found at its front
pub fits_read : (bytes : List ℕ) (ts : List Token) → AreTokensOf bytes ts → ((j : json.Json) → BeginsWith ts j → true ≡ fits_json j 127) → HasValue bytes (data_at ts)
fits_read bytes ts are fits =
    let j = some (document bytes) are.some in
    let begins : BeginsWith ts j.0 = subst (λ us. BeginsWith us j.0) (sym are.same) (document-BeginsWith bytes j.0 j.1) in
    let right = both (is_some (of_json j.0)) (nat_le (depth j.0) 127) (sym (fits j.0 begins)) in
    let d = said (of_json j.0) right.0 in
    let shallow : depth j.0 ≤ 127 = leb-true _ _ right.1 in
    let found = is_data ts j.0 d.0 begins d.1 in
    record { limit = are.limit; utf8 = are.utf8; reads = is_read bytes j.0 j.1 shallow ∙ d.1 ∙ ap Some (sym found.1) }

-- one that does not fit is not read
pub misfit_not_read : (bytes : List ℕ) (ts : List Token) → AreTokensOf bytes ts → ((j : json.Json) → BeginsWith ts j → false ≡ fits_json j 127) → IsNoJson bytes
misfit_not_read bytes ts are fits d has =
    let r = was_read bytes d has.reads in
    let begins : BeginsWith ts r.j = subst (λ us. BeginsWith us r.j) (sym are.same) (document-BeginsWith bytes r.j r.is) in
    let right : fits_json r.j 127 ≡ true = rw (r.says, le-leb _ _ r.within) refl in
    true≢false (sym right ∙ sym (fits r.j begins))
