-- What waits, one part after the other.
use Rattle.std.proofs.Common.{◌≡◌, ℕ, List, [], ◌∷◌, ◌++◌, append_assoc, append-nil, refl, sym, ap, subst, ◌∙◌}
use Rattle.lc_table.specs.declared.node.ColExprId.{ColExprId}
use Rattle.lc_table.specs.NodeTables.{Table}
use Rattle.lc_table.specs.Tables.{column_in, IsColumn}
use Rattle.lc_text.specs.Spelled.{spelled_column}
use Rattle.lc_text.specs.Spelling.{Spelled}
use Rattle.lc_cond_text.specs.declared.term_text.Waiting.{Waiting}
use Rattle.lc_cond_text.specs.declared.term_text.Waiting.TheVariants.{Column}
use Rattle.lc_cond_text.specs.Waiting.{IsWaiting, AreWaiting, part_text, waiting_text, GoesOn}

-- what waits above is written first
waiting_above : (by : Spelled) (d : ℕ) (ts : Table) (ws vs : List Waiting) → waiting_text by d ts (ws ++ vs) ≡ waiting_text by d ts vs ++ waiting_text by d ts ws
waiting_above by d ts [] vs = sym (append-nil (waiting_text by d ts vs))
waiting_above by d ts (w ∷ ws) vs =
    ap (λ l. l ++ part_text by d ts w) (waiting_above by d ts ws vs) ∙ append_assoc (waiting_text by d ts vs) (waiting_text by d ts ws) (part_text by d ts w)

more_wait : (ts : Table) (ws vs : List Waiting) → AreWaiting ts ws → AreWaiting ts vs → AreWaiting ts (ws ++ vs)
more_wait ts [] vs h k = k
more_wait ts (w ∷ ws) vs h k = (h.0, more_wait ts ws vs h.1 k)

waits_last : (ts : Table) (ws : List Waiting) (w : Waiting) → AreWaiting ts (ws ++ w ∷ []) → AreWaiting ts ws × IsWaiting ts w
waits_last ts [] w h = (tt, h.0)
waits_last ts (v ∷ ws) w h =
    let rest = waits_last ts ws w h.1 in
    ((h.0, rest.0), rest.1)

-- what waits above all, and below it
pub last_waits : (ts : Table) (vs ws : List Waiting) (w : Waiting) → vs ≡ ws ++ w ∷ [] → AreWaiting ts vs → AreWaiting ts ws × IsWaiting ts w
last_waits ts vs ws w e h = waits_last ts ws w (subst (AreWaiting ts) e h)

-- a word is written, and more waits
pub goes_on : (by : Spelled) (d : ℕ) (ts : Table) (out : List ℕ) (ws : List Waiting) (text new : List ℕ) (vs us : List Waiting) (word : List ℕ) →
    AreWaiting ts ws → AreWaiting ts us → new ≡ out ++ word → vs ≡ ws ++ us → word ++ waiting_text by d ts us ≡ text → GoesOn by d ts out ws text new vs
goes_on by d ts out ws text new vs us word h k e f g = record {
  waits = subst (AreWaiting ts) (sym f) (more_wait ts ws us h k);
  joined =
      ap (λ l. l ++ waiting_text by d ts vs) e ∙ ap (λ l. (out ++ word) ++ waiting_text by d ts l) f ∙ ap (λ l. (out ++ word) ++ l) (waiting_above by d ts ws us)
      ∙ grouped out word (waiting_text by d ts us) (waiting_text by d ts ws) ∙ ap (λ l. out ++ (l ++ waiting_text by d ts ws)) g;
}
  where
    grouped : (o w u v : List ℕ) → (o ++ w) ++ (u ++ v) ≡ o ++ ((w ++ u) ++ v)
    grouped o w u v = simp append_assoc

-- a text is written, and nothing more waits
pub written_goes_on : (by : Spelled) (d : ℕ) (ts : Table) (out : List ℕ) (ws : List Waiting) (text new : List ℕ) → AreWaiting ts ws → new ≡ out ++ text → GoesOn by d ts out ws text new ws
written_goes_on by d ts out ws text new h e = record {
  waits = h;
  joined = ap (λ l. l ++ waiting_text by d ts ws) e ∙ append_assoc out text (waiting_text by d ts ws);
}

-- a word was written before
pub behind_word : (by : Spelled) (d : ℕ) (ts : Table) (out : List ℕ) (ws : List Waiting) (word text mid new : List ℕ) (vs : List Waiting) → mid ≡ out ++ word → GoesOn by d ts mid ws text new vs
    → GoesOn by d ts out ws (word ++ text) new vs
behind_word by d ts out ws word text mid new vs e h = record {
  waits = h.waits;
  joined = h.joined ∙ ap (λ l. l ++ (text ++ waiting_text by d ts ws)) e ∙ grouped out word text (waiting_text by d ts ws);
}
  where
    grouped : (o w t v : List ℕ) → (o ++ w) ++ (t ++ v) ≡ o ++ ((w ++ t) ++ v)
    grouped o w t v = simp append_assoc

-- a column expression waits above all, and nothing is written yet
pub column_begun : (by : Spelled) (d : ℕ) (ts : Table) (out : List ℕ) (ws : List Waiting) (c : ColExprId) → AreWaiting ts ws → IsColumn ts c
    → GoesOn by d ts out ws (spelled_column by d (column_in ts c)) out (ws ++ Column c ∷ [])
column_begun by d ts out ws c h is = goes_on by d ts out ws (spelled_column by d (column_in ts c)) out (ws ++ Column c ∷ []) (Column c ∷ []) [] h (is, tt) (sym (append-nil out)) refl refl

-- what waits above all is written
pub one_more : (by : Spelled) (d : ℕ) (ts : Table) (out : List ℕ) (ws vs us xs : List Waiting) (w : Waiting) (text mid new : List ℕ) → GoesOn by d ts out ws text mid vs → vs ≡ us ++ w ∷ [] →
    GoesOn by d ts mid us (waiting_text by d ts (w ∷ [])) new xs → GoesOn by d ts out ws text new xs
one_more by d ts out ws vs us xs w text mid new h e k = record {
  waits = k.waits;
  joined = k.joined ∙ ap (λ l. mid ++ l) (sym (ap (waiting_text by d ts) e ∙ waiting_above by d ts us (w ∷ []))) ∙ h.joined;
}

-- all is written
pub all_written : (by : Spelled) (d : ℕ) (ts : Table) (out text new : List ℕ) (vs : List Waiting) → GoesOn by d ts out [] text new vs → vs ≡ [] → new ≡ out ++ text
all_written by d ts out text new vs h e =
    sym (append-nil new) ∙ ap (λ l. new ++ waiting_text by d ts l) (sym e) ∙ h.joined ∙ ap (λ l. out ++ l) (append-nil text)
