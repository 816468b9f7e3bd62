-- Texts that are cut after brackets.
use Rattle.std.proofs.Common.{◌≡◌, ℕ, ◌≤◌, Bool, true, false, ◌||◌, ◌==◌, if◌then◌else◌, List, [], ◌∷◌, ◌++◌, refl, sym, ap, ◌∙◌, arith, append_assoc, append-nil}
use Rattle.lc_sexp.specs.Trees.{Tree, Trees, Token, open_list, close_list, word, stray, list, none, ◌▸◌, tokens_of, tokens_of_all, depth_of, depth_of_all}
use Rattle.lc_sexp.specs.TreeCode.{joined_rows}
use Rattle.lc_sexp.specs.Text.{class_of, is_Letter, begins_word, lexed, before, joined, uncommented}
use Rattle.lc_sexp.specs.declared.class.Class.{Class}
use Rattle.lc_sexp.specs.declared.class.Class.TheVariants.{White, Open, Close, Letter, Other}
use Rattle.lc_sexp.specs.Reads.{text_of}
use Rattle.lc_sexp.proofs.Rows.{tokens_joined}
use Rattle.lc_sexp.specs.CutFiles.{ends_in_comment, IsPieceOf, AreJoined, IsHead, IsTail, BeginsOpen, PiecesReadAsTheWhole}

-- comments of a text, and of one after it
pub uncommented_behind : (c : Bool) (s t : List ℕ) → uncommented c (s ++ t) ≡ uncommented c s ++ uncommented (ends_in_comment c s) t
uncommented_behind c [] t = refl
uncommented_behind c (b ∷ s) t = elim (b == 10) as (λ x. (if x then 10 ∷ uncommented false (s ++ t) else (if c || b == 59 then 32 ∷ uncommented true (s ++ t) else b ∷ uncommented false (s ++ t)))
    ≡ (if x then 10 ∷ uncommented false s else (if c || b == 59 then 32 ∷ uncommented true s else b ∷ uncommented false s)) ++ uncommented (ends_in_comment (if x then false else (c || b == 59)) s) t) [
      | true ↦ ap (λ x. 10 ∷ x) (uncommented_behind false s t)
      | false ↦ elim (c || b == 59) as (λ y. (if y then 32 ∷ uncommented true (s ++ t) else b ∷ uncommented false (s ++ t))
          ≡ (if y then 32 ∷ uncommented true s else b ∷ uncommented false s) ++ uncommented (ends_in_comment y s) t) [
            | true ↦ ap (λ x. 32 ∷ x) (uncommented_behind true s t)
            | false ↦ ap (λ x. b ∷ x) (uncommented_behind false s t)
          ]
    ]

close_class : class_of 41 ≡ Close
unfolding class_of
close_class = refl

open_class : class_of 40 ≡ Open
unfolding class_of
open_class = refl

-- a byte before tokens, and before those and a bracket
joined_bracket : (b : ℕ) (x : Bool) (ts us : List Token) (tok : Token) → ((w : List ℕ) → tok ≡ word w → ⊥) → joined b x (ts ++ (tok ∷ us)) ≡ joined b x ts ++ (tok ∷ us)
joined_bracket b false ts us tok other = refl
joined_bracket b true (word w ∷ ts) us tok other = refl
joined_bracket b true (open_list ∷ ts) us tok other = refl
joined_bracket b true (close_list ∷ ts) us tok other = refl
joined_bracket b true (stray c ∷ ts) us tok other = refl
joined_bracket b true [] us open_list other = refl
joined_bracket b true [] us close_list other = refl
joined_bracket b true [] us (stray c) other = refl
joined_bracket b true [] us (word w) other = absurd (other w refl)

before_bracket : (k : Class) (b : ℕ) (x : Bool) (ts us : List Token) (tok : Token) → ((w : List ℕ) → tok ≡ word w → ⊥) → before k b x (ts ++ (tok ∷ us)) ≡ before k b x ts ++ (tok ∷ us)
before_bracket White b x ts us tok other = refl
before_bracket Open b x ts us tok other = refl
before_bracket Close b x ts us tok other = refl
before_bracket Letter b x ts us tok other = joined_bracket b x ts us tok other
before_bracket Other b x ts us tok other = refl

-- a bracket begins no word
begins_behind : (s t : List ℕ) (b : ℕ) → is_Letter (class_of b) ≡ false → begins_word (s ++ (b ∷ t)) ≡ begins_word s
begins_behind [] t b other = other
begins_behind (a ∷ s) t b other = refl

-- the tokens of a text with a bracket in it
lexed_bracket : (s t : List ℕ) (b : ℕ) (tok : Token) → ((w : List ℕ) → tok ≡ word w → ⊥) → is_Letter (class_of b) ≡ false → lexed (b ∷ t) ≡ tok ∷ lexed t → lexed (s ++ (b ∷ t)) ≡ lexed s ++ (tok ∷ lexed t)
lexed_bracket [] t b tok other letter is = is
lexed_bracket (a ∷ s) t b tok other letter is =
    ap (λ x. before (class_of a) a x (lexed (s ++ (b ∷ t)))) (begins_behind s t b letter)
    ∙ ap (λ ts. before (class_of a) a (begins_word s) ts) (lexed_bracket s t b tok other letter is)
    ∙ before_bracket (class_of a) a (begins_word s) (lexed s) (lexed t) tok other

lexed_close : (s t : List ℕ) → lexed (s ++ (41 ∷ t)) ≡ lexed s ++ (close_list ∷ lexed t)
lexed_close s t = lexed_bracket s t 41 close_list (λ w e. cc) (ap is_Letter close_class) (ap (λ k. before k 41 (begins_word t) (lexed t)) close_class)

lexed_open : (s t : List ℕ) → lexed (s ++ (40 ∷ t)) ≡ lexed s ++ (open_list ∷ lexed t)
lexed_open s t = lexed_bracket s t 40 open_list (λ w e. cc) (ap is_Letter open_class) (ap (λ k. before k 40 (begins_word t) (lexed t)) open_class)

-- the tokens of a text that ends with a bracket outside of comments, and of one after it
closed_tokens : (front t : List ℕ) → ends_in_comment false front ≡ false → lexed (uncommented false ((front ++ 41 ∷ []) ++ t)) ≡ lexed (uncommented false (front ++ 41 ∷ [])) ++ lexed (uncommented false t)
closed_tokens front t outside =
    let whole : uncommented false ((front ++ 41 ∷ []) ++ t) ≡ uncommented false front ++ (41 ∷ uncommented false t) =
    ap (uncommented false) (append_assoc front (41 ∷ []) t) ∙ uncommented_behind false front (41 ∷ t) ∙ ap (λ c. uncommented false front ++ uncommented c (41 ∷ t)) outside in
    let first : uncommented false (front ++ 41 ∷ []) ≡ uncommented false front ++ (41 ∷ []) =
    uncommented_behind false front (41 ∷ []) ∙ ap (λ c. uncommented false front ++ uncommented c (41 ∷ [])) outside in
    ap lexed whole ∙ lexed_close (uncommented false front) (uncommented false t)
    ∙ sym (append_assoc (lexed (uncommented false front)) (close_list ∷ []) (lexed (uncommented false t)))
    ∙ ap (λ x. x ++ lexed (uncommented false t)) (sym (lexed_close (uncommented false front) []) ∙ ap lexed (sym first))

-- two rows of tokens that end with the same one are the same before it
same_before : (xs ys : List Token) (t : Token) → xs ++ (t ∷ []) ≡ ys ++ (t ∷ []) → xs ≡ ys
same_before [] [] t e = refl
same_before [] (y ∷ []) t e = cc
same_before [] (y ∷ (z ∷ ys)) t e = cc
same_before (x ∷ []) [] t e = cc
same_before (x ∷ (z ∷ xs)) [] t e = cc
same_before (x ∷ xs) (y ∷ ys) t e =
    let tails : xs ++ (t ∷ []) ≡ ys ++ (t ∷ []) = cc in
    let heads : x ≡ y = cc in
    let rest = same_before xs ys t tails in
    cc

-- whether two texts end in a comment, one after the other
ends_behind : (c : Bool) (s t : List ℕ) → ends_in_comment c (s ++ t) ≡ ends_in_comment (ends_in_comment c s) t
ends_behind c [] t = refl
ends_behind c (b ∷ s) t = ends_behind (if b == 10 then false else (c || b == 59)) s t

ends_with_bracket : (c : Bool) → ends_in_comment c (41 ∷ []) ≡ false → c ≡ false
ends_with_bracket true h = h
ends_with_bracket false h = refl

-- the text before the last bracket of a piece ends outside of comments, as the piece does
front_outside : (t : Tree) (text : List ℕ) (p : IsPieceOf t text) → ends_in_comment false p.closed.0 ≡ false
front_outside t text p = ends_with_bracket (ends_in_comment false p.closed.0) (sym (ap (ends_in_comment false) p.closed.1 ∙ ends_behind false p.closed.0 (41 ∷ [])) ∙ p.outside)

-- a piece has the tokens of its tree
own_tokens : (t : Tree) (text : List ℕ) → IsPieceOf t text → lexed (text_of text) ≡ tokens_of t
own_tokens t text p =
    let own : lexed (uncommented false (text ++ (41 ∷ []))) ≡ lexed (text_of text) ++ (close_list ∷ []) =
    ap (λ x. lexed (uncommented false (x ++ (41 ∷ [])))) p.closed.1 ∙ closed_tokens p.closed.0 (41 ∷ []) (front_outside t text p)
    ∙ ap (λ x. lexed (uncommented false x) ++ lexed (uncommented false (41 ∷ []))) (sym p.closed.1)
    ∙ ap (λ x. lexed (text_of text) ++ x) (lexed_close [] []) in
    let between : (open_list ∷ lexed (text_of text)) ++ (close_list ∷ []) ≡ (open_list ∷ tokens_of t) ++ (close_list ∷ []) =
    ap (λ x. open_list ∷ x) (sym own) ∙ sym (lexed_open [] (uncommented false (text ++ (41 ∷ []))))
    ∙ p.reads.tokens ∙ append-nil (tokens_of (list (t ▸ none))) ∙ ap (λ x. open_list ∷ (x ++ (close_list ∷ []))) (append-nil (tokens_of t)) in
    let same = same_before (open_list ∷ lexed (text_of text)) (open_list ∷ tokens_of t) close_list between in
    cc

piece_tokens : (t : Tree) (text rest : List ℕ) → IsPieceOf t text → lexed (text_of (text ++ rest)) ≡ tokens_of t ++ lexed (text_of rest)
piece_tokens t text rest p =
    ap (λ x. lexed (uncommented false (x ++ rest))) p.closed.1 ∙ closed_tokens p.closed.0 rest (front_outside t text p)
    ∙ ap (λ x. lexed (uncommented false x) ++ lexed (text_of rest)) (sym p.closed.1)
    ∙ ap (λ x. x ++ lexed (text_of rest)) (own_tokens t text p)

-- the tokens of joined pieces, and of the text after them
body_tokens : (ts : Trees) (body tail : List ℕ) → AreJoined body ts → lexed (text_of (body ++ tail)) ≡ tokens_of_all ts ++ lexed (text_of tail)
body_tokens none body tail h = ap (λ x. lexed (text_of (x ++ tail))) h
body_tokens (t ▸ ts) body tail h =
    ap (λ x. lexed (text_of (x ++ tail))) h.2 ∙ ap (λ x. lexed (text_of x)) (append_assoc h.0 h.1 tail)
    ∙ piece_tokens t h.0 (h.1 ++ tail) h.3
    ∙ ap (λ x. tokens_of t ++ x) (body_tokens ts h.1 tail h.4)
    ∙ sym (append_assoc (tokens_of t) (tokens_of_all ts) (lexed (text_of tail)))

-- the tokens of the head before a bracket that opens
head_tokens : (head rest : List ℕ) → ends_in_comment false head ≡ false → BeginsOpen rest → lexed (text_of (head ++ rest)) ≡ lexed (uncommented false head) ++ lexed (text_of rest)
head_tokens head rest outside begins =
    ap (λ x. lexed (text_of (head ++ x))) begins.1
    ∙ ap lexed (uncommented_behind false head (40 ∷ begins.0) ∙ ap (λ c. uncommented false head ++ uncommented c (40 ∷ begins.0)) outside)
    ∙ lexed_open (uncommented false head) (uncommented false begins.0)
    ∙ ap (λ x. lexed (uncommented false head) ++ x) (sym (lexed_open [] (uncommented false begins.0)) ∙ ap (λ x. lexed (text_of x)) (sym begins.1))

-- the head opens a list, and begins with the list's first items
head_opens : (head : List ℕ) (front : Trees) → IsHead front head → lexed (uncommented false head) ≡ open_list ∷ tokens_of_all front
head_opens head front h =
    let tokens : lexed (uncommented false head) ++ (close_list ∷ []) ≡ (open_list ∷ tokens_of_all front) ++ (close_list ∷ []) =
    sym (lexed_close (uncommented false head) [])
    ∙ ap lexed (sym (uncommented_behind false head (41 ∷ []) ∙ ap (λ c. uncommented false head ++ uncommented c (41 ∷ [])) h.outside))
    ∙ h.reads.tokens ∙ append-nil (tokens_of (list front)) in
    same_before (lexed (uncommented false head)) (open_list ∷ tokens_of_all front) close_list tokens

-- the tail closes it
tail_closes : (tail : List ℕ) → IsTail tail → lexed (text_of tail) ≡ close_list ∷ []
tail_closes tail h =
    let tokens : open_list ∷ lexed (text_of tail) ≡ open_list ∷ (close_list ∷ []) = sym (lexed_open [] (uncommented false tail)) ∙ h.tokens in
    cc

-- how deep joined pieces nest
joined_depth : (ts : Trees) (body : List ℕ) → AreJoined body ts → depth_of_all ts ≤ 999
joined_depth none body h = omega arith
joined_depth (t ▸ ts) body h =
    let whole = h.3.reads.nesting in
    let here : depth_of t ≤ 999 = grind arith in
    let rest = joined_depth ts h.1 h.4 in
    grind arith

rows_depth : (us ts : Trees) → depth_of_all us ≤ 999 → depth_of_all ts ≤ 999 → depth_of_all (joined_rows us ts) ≤ 999
rows_depth none ts h k = k
rows_depth (u ▸ us) ts h k =
    let here : depth_of u ≤ 999 = grind arith in
    let rest : depth_of_all us ≤ 999 = grind arith in
    let more = rows_depth us ts rest k in
    grind arith

pub pieces_read : PiecesReadAsTheWhole
pieces_read head body tail front ts h begins joined ends size = record {
  tokens = head_tokens head (body ++ tail) h.outside begins
      ∙ ap (λ x. x ++ lexed (text_of (body ++ tail))) (head_opens head front h)
      ∙ ap (λ x. (open_list ∷ tokens_of_all front) ++ x) (body_tokens ts body tail joined ∙ ap (λ x. tokens_of_all ts ++ x) (tail_closes tail ends))
      ∙ sym (append_assoc (open_list ∷ tokens_of_all front) (tokens_of_all ts) (close_list ∷ []))
      ∙ ap (λ x. open_list ∷ (x ++ (close_list ∷ []))) (sym (tokens_joined front ts))
      ∙ sym (append-nil (tokens_of (list (joined_rows front ts))));
  nesting = let f : depth_of_all front ≤ 999 = (let n = h.reads.nesting in grind arith) in
      let d = rows_depth front ts f (joined_depth ts body joined) in grind arith;
  size = size;
}
