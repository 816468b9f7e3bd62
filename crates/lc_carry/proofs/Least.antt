-- The least numbers of conditions.
use Rattle.std.proofs.Common.{◌≡◌, ℕ, suc, ◌+◌, Bool, true, false, ◌&&◌, cond, List, [], ◌∷◌, ◌++◌, length, Option, Some, None, refl, sym, ap, ap₂, ◌∙◌, arith}
use Rattle.std.specs.Option.{option_or}
use Rattle.lc_carry.specs.Carried.{can_carry, number_here, least_number}
use Rattle.lc_cert.specs.Certificates.{Entry, proof_at}
use Rattle.lc_cond.specs.Conditions.{Condition}
use Rattle.lc_cond_text.specs.ConditionText.{statement_text}
use Rattle.lc_outline.specs.Development.{Development}
use Rattle.lc_reading.specs.Words.{is}

or_first : (here : Bool) (j : ℕ) (o : Option ℕ) → cond here (Some j) o ≡ option_or (cond here (Some j) None) o
or_first true j o = refl
or_first false j o = refl

pub or_none : (o : Option ℕ) → o ≡ option_or o None
or_none None = refl
or_none (Some j) = refl

or_assoc : (a b c : Option ℕ) → option_or (option_or a b) c ≡ option_or a (option_or b c)
or_assoc None b c = refl
or_assoc (Some j) b c = refl

module _ (D : Development) (es : List Entry) (to : ℕ → Option ℕ) (t : List ℕ) where
  -- a condition whose proof cannot be carried is not noted
  pub none_here : (j : ℕ) (c : Condition) (found : Option ℕ) → can_carry to (proof_at es j) ≡ false → found ≡ option_or found (number_here D es to t j c)
  none_here j c found not = or_none found ∙ ap (λ b. option_or found (cond (b && is t (statement_text D c)) (Some j) None)) (sym not)

  -- one whose proof can is noted by what it says
  pub one_here : (j : ℕ) (c : Condition) (found now : Option ℕ) (text : List ℕ) → can_carry to (proof_at es j) ≡ true → text ≡ statement_text D c → now ≡ option_or found (cond (is t text) (Some j) None)
      → now ≡ option_or found (number_here D es to t j c)
  one_here j c found now text can says is_now =
      is_now ∙ ap (λ l. option_or found (cond (is t l) (Some j) None)) says ∙ ap (λ b. option_or found (cond (b && is t (statement_text D c)) (Some j) None)) (sym can)

  least_first : (j : ℕ) (c : Condition) (cs : List Condition) → least_number D es to t j (c ∷ cs) ≡ option_or (number_here D es to t j c) (least_number D es to t (suc j) cs)
  least_first j c cs = or_first (can_carry to (proof_at es j) && is t (statement_text D c)) j (least_number D es to t (suc j) cs)

  least-append : (cs ds : List Condition) (j : ℕ) → least_number D es to t j (cs ++ ds) ≡ option_or (least_number D es to t j cs) (least_number D es to t (j + length cs) ds)
  least-append [] ds j = let e : j ≡ j + 0 = omega arith in ap (λ n. least_number D es to t n ds) e
  least-append (c ∷ cs) ds j =
      let e : suc j + length cs ≡ j + suc (length cs) = omega arith in
      least_first j c (cs ++ ds) ∙ ap (option_or (number_here D es to t j c)) (least-append cs ds (suc j))
      ∙ sym (or_assoc (number_here D es to t j c) (least_number D es to t (suc j) cs) (least_number D es to t (suc j + length cs) ds))
      ∙ ap₂ (λ o n. option_or o (least_number D es to t n ds)) (sym (least_first j c cs)) e

  -- one condition more is noted
  pub one_noted : (found now all : Option ℕ) (j k : ℕ) (left rest : List Condition) (c : Condition) → left ≡ c ∷ rest → k ≡ suc j → now ≡ option_or found (number_here D es to t j c)
      → option_or found (least_number D es to t j left) ≡ all → option_or now (least_number D es to t k rest) ≡ all
  one_noted found now all j k left rest c is next noted before =
      ap₂ (λ o n. option_or o (least_number D es to t n rest)) noted next
      ∙ or_assoc found (number_here D es to t j c) (least_number D es to t (suc j) rest)
      ∙ ap (option_or found) (sym (least_first j c rest))
      ∙ ap (λ l. option_or found (least_number D es to t j l)) (sym is) ∙ before

  -- the conditions of one part more are noted
  pub part_noted : (found now all : Option ℕ) (j k : ℕ) (left cs rest : List Condition) → left ≡ cs ++ rest → k ≡ j + length cs → now ≡ option_or found (least_number D es to t j cs)
      → option_or found (least_number D es to t j left) ≡ all → option_or now (least_number D es to t k rest) ≡ all
  part_noted found now all j k left cs rest is next noted before =
      ap₂ (λ o n. option_or o (least_number D es to t n rest)) noted next
      ∙ or_assoc found (least_number D es to t j cs) (least_number D es to t (j + length cs) rest)
      ∙ ap (option_or found) (sym (least-append cs rest j))
      ∙ ap (λ l. option_or found (least_number D es to t j l)) (sym is) ∙ before

  -- all conditions are noted
  pub all_noted : (found all : Option ℕ) (j : ℕ) (left : List Condition) → left ≡ [] → option_or found (least_number D es to t j left) ≡ all → found ≡ all
  all_noted found all j left none before = or_none found ∙ ap (λ l. option_or found (least_number D es to t j l)) (sym none) ∙ before
