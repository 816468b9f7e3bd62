-- What runs of bytes make.
use Rattle.std.proofs.Common.{◌≡◌, ◌≢◌, ℕ, ◌+◌, ◌-◌, ◌≤◌, ◌<◌, Bool, true, false, ◌||◌, if◌then◌else◌, cond, not, List, [], ◌∷◌, ◌++◌, length, get_or, take, drop, Some, refl, sym, ap, ◌∙◌, subst, arith, append_assoc, append-nil, length-append, length-take, length-drop, map}
use Rattle.std.specs.Prelude.{◌==◌}
use Rattle.std.specs.List.{list_all}
use Rattle.std.proofs.Math.Seq.{take-add}
use Rattle.std.proofs.lemmas.Bool.Decides.{nat_tests}
use Rattle.std.proofs.lemmas.List.{take_more, take_all, length-map, take-append-drop}
use Rattle.std.proofs.lemmas.Bool.{and_from}
use Rattle.lc_lemmas.proofs.Booleans.{and_parts}
use Rattle.lc_base.specs.Limits.{file_limit}
use Rattle.lc_sexp.proofs.Tokens.{Letter-from}
use Rattle.lc_sexp.specs.Text.{class_of, is_Letter, are_letters, begins_word, lexed, before, uncommented, is_misplaced}
use Rattle.lc_sexp.specs.Progress.{told, told_tokens, fault_from, depth_behind}
use Rattle.lc_sexp.specs.Runs.{AreOf, IsCount, AreSeen, IsRun, IsBeforeWhite}
use Rattle.lc_sexp.specs.CutFiles.{ends_in_comment}
use Rattle.lc_sexp.specs.declared.node.Node.{Node}
use Rattle.lc_sexp.specs.declared.run.Run.{Run}
use Rattle.lc_sexp.specs.declared.class.Class.{Class}
use Rattle.lc_sexp.specs.declared.class.Class.TheVariants.{White, Open, Close, Letter, Other}
use Rattle.lc_sexp.proofs.Cuts.{told_ended_at}
use Rattle.lc_sexp.proofs.Cutting.{uncommented_behind}

-- letters are letters
pub letters_of : (seen : List ℕ) → AreOf Letter seen → are_letters seen ≡ true
letters_of [] h = refl
letters_of (b ∷ s) h = and_from (is_Letter (class_of b)) (are_letters s) (ap is_Letter h.0) (letters_of s h.1)

-- white bytes make no tokens
lexed_whites : (seen rest : List ℕ) → AreOf White seen → lexed (seen ++ rest) ≡ lexed rest
lexed_whites [] rest h = refl
lexed_whites (b ∷ s) rest h = ap (λ k. before k b (begins_word (s ++ rest)) (lexed (s ++ rest))) h.0 ∙ lexed_whites s rest h.1

pub told_whites : (text : List ℕ) (start : ℕ) (nodes : List Node) (seen rest : List ℕ) → start ≡ length text → AreOf White seen → told text start nodes rest ≡ told text start nodes (seen ++ rest)
told_whites text start nodes seen rest e h =
    told_ended_at text start nodes rest e ∙ ap (told_tokens text nodes) (sym (lexed_whites seen rest h)) ∙ sym (told_ended_at text start nodes (seen ++ rest) e)

-- a run whose bytes are no letters begins no word
pub begins_no_word : (k : Class) (seen rest : List ℕ) → is_Letter k ≡ false → 0 < length seen → AreOf k seen → begins_word (seen ++ rest) ≡ false
begins_no_word k [] rest e some h = absurd (omega (arith, some))
begins_no_word k (b ∷ s) rest e some h = ap is_Letter h.0 ∙ e

-- a run of one byte is that byte
pub run_of_one : (k : Class) (seen : List ℕ) → length seen ≡ 1 → AreOf k seen → (b : ℕ) × (seen ≡ b ∷ []) × (class_of b ≡ k)
run_of_one k [] e h = absurd (omega (arith, e))
run_of_one k (b ∷ []) e h = (b, refl, h.0)
run_of_one k (b ∷ c ∷ s) e h = absurd (omega (arith, e))

abbrev at_limit : ℕ → Bool
at_limit offset = offset == file_limit

below_limit : (offset n : ℕ) → offset + n ≤ file_limit → 0 < n → at_limit offset ≡ false
below_limit offset n le some = grind (arith, nat_tests)

-- one byte more without a fault
fault_byte : (k : Class) (offset depth b : ℕ) (s : List ℕ) → class_of b ≡ k → at_limit offset ≡ false → is_misplaced depth k ≡ false
    → fault_from offset depth (b ∷ s) ≡ fault_from (offset + 1) (depth_behind depth k) s
fault_byte k offset depth b s e l p =
    ap (λ j. cond (at_limit offset || is_misplaced depth j) (Some offset) (fault_from (offset + 1) (depth_behind depth j) s)) e
    ∙ ap (λ t. cond (t || is_misplaced depth k) (Some offset) (fault_from (offset + 1) (depth_behind depth k) s)) l
    ∙ ap (λ t. cond t (Some offset) (fault_from (offset + 1) (depth_behind depth k) s)) p

-- bytes that open and close nothing
fault_flat : (k : Class) (offset depth : ℕ) (seen rest : List ℕ) → depth_behind depth k ≡ depth → is_misplaced depth k ≡ false → AreOf k seen → offset + length seen ≤ file_limit
    → fault_from offset depth (seen ++ rest) ≡ fault_from (offset + length seen) depth rest
fault_flat k offset depth [] rest d p h le = ap (λ n. fault_from n depth rest) (let e : offset ≡ offset + 0 = omega arith in e)
fault_flat k offset depth (b ∷ s) rest d p h le =
    fault_byte k offset depth b (s ++ rest) h.0 (below_limit offset (length (b ∷ s)) le (omega arith)) p
    ∙ ap (λ n. fault_from (offset + 1) n (s ++ rest)) d
    ∙ fault_flat k (offset + 1) depth s rest d p h.1 (omega (arith, le))
    ∙ ap (λ n. fault_from n depth rest) (let e : (offset + 1) + length s ≡ offset + length (b ∷ s) = omega arith in e)

fault_alone : (k : Class) (offset depth : ℕ) (seen rest : List ℕ) → length seen ≡ 1 → is_misplaced depth k ≡ false → AreOf k seen → offset + length seen ≤ file_limit
    → fault_from offset depth (seen ++ rest) ≡ fault_from (offset + length seen) (depth_behind depth k) rest
fault_alone k offset depth [] rest e p h le = absurd (omega (arith, e))
fault_alone k offset depth (b ∷ []) rest e p h le = fault_byte k offset depth b rest h.0 (below_limit offset 1 le (omega arith)) p
fault_alone k offset depth (b ∷ c ∷ s) rest e p h le = absurd (omega (arith, e))

-- a run that is not misplaced
pub fault_run : (k : Class) (offset depth : ℕ) (seen rest : List ℕ) → IsCount k (length seen) → is_misplaced depth k ≡ false → AreOf k seen → offset + length seen ≤ file_limit
    → fault_from offset depth (seen ++ rest) ≡ fault_from (offset + length seen) (depth_behind depth k) rest
fault_run White offset depth seen rest n p h le = fault_flat White offset depth seen rest refl p h le
fault_run Letter offset depth seen rest n p h le = fault_flat Letter offset depth seen rest refl p h le
fault_run Open offset depth seen rest n p h le = fault_alone Open offset depth seen rest n p h le
fault_run Close offset depth seen rest n p h le = fault_alone Close offset depth seen rest n p h le
fault_run Other offset depth seen rest n p h le = fault_alone Other offset depth seen rest n p h le

or_true : (a : Bool) → (a || true) ≡ true
or_true true = refl
or_true false = refl

-- a run that is misplaced
pub fault_here : (k : Class) (offset depth : ℕ) (seen rest : List ℕ) → 0 < length seen → is_misplaced depth k ≡ true → AreOf k seen → fault_from offset depth (seen ++ rest) ≡ Some offset
fault_here k offset depth [] rest some p h = absurd (omega (arith, some))
fault_here k offset depth (b ∷ s) rest some p h =
    ap (λ j. cond (at_limit offset || is_misplaced depth j) (Some offset) (fault_from (offset + 1) (depth_behind depth j) (s ++ rest))) h.0
    ∙ ap (λ t. cond (at_limit offset || t) (Some offset) (fault_from (offset + 1) (depth_behind depth k) (s ++ rest))) p
    ∙ ap (λ t. cond t (Some offset) (fault_from (offset + 1) (depth_behind depth k) (s ++ rest))) (or_true (at_limit offset))

-- a byte beyond the file limit
pub fault_full : (c : Bool) (offset depth : ℕ) (bytes rest : List ℕ) → 0 < length bytes → offset ≡ file_limit → fault_from offset depth (uncommented c (bytes ++ rest)) ≡ Some offset
fault_full c offset depth [] rest some e = absurd (omega (arith, some))
fault_full c offset depth (b ∷ s) rest some e =
    by_tests (b == 10) (c || b == 59) (let t : at_limit offset ≡ true = grind (arith, nat_tests) in t) where
      first : (x : ℕ) (s : List ℕ) → at_limit offset ≡ true → fault_from offset depth (x ∷ s) ≡ Some offset
      first x s t = ap (λ u. cond (u || is_misplaced depth (class_of x)) (Some offset) (fault_from (offset + 1) (depth_behind depth (class_of x)) s)) t

      by_tests : (t u : Bool) → at_limit offset ≡ true
          → fault_from offset depth (cond t (10 ∷ uncommented false (s ++ rest)) (cond u (32 ∷ uncommented true (s ++ rest)) (b ∷ uncommented false (s ++ rest)))) ≡ Some offset
      by_tests true u t = first 10 (uncommented false (s ++ rest)) t
      by_tests false true t = first 32 (uncommented true (s ++ rest)) t
      by_tests false false t = first b (uncommented false (s ++ rest)) t

-- bytes of a comment that goes on after them
abbrev pub goes_on : List ℕ → Bool
goes_on w = list_all (λ b. not (b == 10)) w

-- they count as spaces
blanks : List ℕ → List ℕ
blanks w = map (λ b. 32) w

white_blanks : (w more : List ℕ) → AreOf White more → AreOf White (blanks w ++ more)
unfolding blanks class_of
white_blanks [] more h = h
white_blanks (b ∷ w) more h = (refl, white_blanks w more h)

blanked : (w rest : List ℕ) → goes_on w ≡ true → uncommented true (w ++ rest) ≡ blanks w ++ uncommented true rest
unfolding blanks
blanked [] rest h = refl
blanked (b ∷ w) rest h =
    let hs = and_parts (not (b == 10)) (goes_on w) h in
    ap (λ t. cond t (10 ∷ uncommented false (w ++ rest)) (32 ∷ uncommented true (w ++ rest))) (not_true (b == 10) hs.0)
    ∙ ap (λ x. 32 ∷ x) (blanked w rest hs.1) where
      not_true : (t : Bool) → not t ≡ true → t ≡ false
      not_true true h = cc
      not_true false h = refl

length-blanks : (w : List ℕ) → length (blanks w) ≡ length w
unfolding blanks
length-blanks w = length-map w (λ b. 32)

pub comment_open : (bytes : List ℕ) (n : ℕ) → 0 < length bytes → length bytes ≤ n → goes_on (take n bytes) ≡ true
    → IsRun true bytes (record { class = White; length = length bytes; in_comment = true })
comment_open bytes n some le h =
    let same : take (length bytes) bytes ≡ bytes = take_all (length bytes) bytes (omega arith) in
    let going : goes_on bytes ≡ true = ap goes_on (sym (take_all n bytes le)) ∙ h in
    record {
      some = some;
      within = omega arith;
      seen = blanks bytes ++ [];
      counts = record {
        of_class = white_blanks bytes [] tt;
        size = omega (arith, length-append (blanks bytes) [], length-blanks bytes, ap length same);
        count = tt;
        letters = λ k. absurd (cc);
      };
      outside = λ k. absurd (cc);
      uncomments = λ rest.
          ap (λ x. uncommented true (x ++ rest)) same
          ∙ blanked bytes rest going
          ∙ ap (λ x. x ++ uncommented true rest) (sym (append-nil (blanks bytes)));
    }

pub comment_ended : (bytes : List ℕ) (n b d : ℕ) → n < length bytes → b ≡ get_or bytes n d → b ≡ 10 → goes_on (take n bytes) ≡ true
    → IsRun true bytes (record { class = White; length = n + 1; in_comment = false })
unfolding class_of
comment_ended bytes n b d lt at e h =
    let w : List ℕ = take n bytes in
    let more : take (n + 1) bytes ≡ w ++ (10 ∷ []) = take_more bytes n d lt ∙ ap (λ x. w ++ (x ∷ [])) (sym at ∙ e) in
    record {
      some = omega arith;
      within = omega (arith, lt);
      seen = blanks w ++ (10 ∷ []);
      counts = record {
        of_class = white_blanks w (10 ∷ []) (refl, tt);
        size = omega (arith, length-append (blanks w) (10 ∷ []), length-blanks w, ap length more, length-append w (10 ∷ []));
        count = tt;
        letters = λ k. absurd (cc);
      };
      outside = λ k. refl;
      uncomments = λ rest.
          ap (λ x. uncommented true (x ++ rest)) more
          ∙ ap (uncommented true) (append_assoc w (10 ∷ []) rest)
          ∙ blanked w (10 ∷ rest) h
          ∙ sym (append_assoc (blanks w) (10 ∷ []) (uncommented false rest));
    }

-- the first byte alone
single : (bytes : List ℕ) (d : ℕ) → 0 < length bytes → take 1 bytes ≡ get_or bytes 0 d ∷ []
single [] d some = absurd (omega (arith, some))
single (b ∷ s) d some = refl

pub uncommented_plain_byte : (b : ℕ) (rest : List ℕ) → b ≢ 59 → uncommented false (b ∷ rest) ≡ b ∷ uncommented false rest
uncommented_plain_byte b rest other = by_test (b == 10) refl where
  by_test : (t : Bool) → (b == 10) ≡ t → uncommented false (b ∷ rest) ≡ b ∷ uncommented false rest
  by_test true e = let is : b ≡ 10 = grind (arith, nat_tests) in rw is refl
  by_test false e = let semi : (b == 59) ≡ false = grind (arith, nat_tests) in rw (e, semi) refl

alone_counts : (k : Class) → IsCount k 1
alone_counts White = tt
alone_counts Letter = tt
alone_counts Open = refl
alone_counts Close = refl
alone_counts Other = refl

-- a byte that begins no comment is read alone
pub byte_alone : (bytes : List ℕ) (d : ℕ) (k : Class) → 0 < length bytes → get_or bytes 0 d ≢ 59 → class_of (get_or bytes 0 d) ≡ k
    → IsRun false bytes (record { class = k; length = 1; in_comment = false })
byte_alone bytes d k some other e =
    let b : ℕ = get_or bytes 0 d in
    let same = single bytes d some in
    record {
      some = omega arith;
      within = omega (arith, some);
      seen = b ∷ [];
      counts = record { of_class = (e, tt); size = sym (ap length same); count = alone_counts k; letters = λ k. sym same };
      outside = λ k. refl;
      uncomments = λ rest. ap (λ x. uncommented false (x ++ rest)) same ∙ uncommented_plain_byte b rest other;
    }

abbrev pub is_Other : Class → Bool
is_Other Other = true
is_Other White = false
is_Other Open = false
is_Other Close = false
is_Other Letter = false

pub letter_plain : (b : ℕ) → is_Letter (class_of b) ≡ true → b ≢ 59
unfolding class_of
letter_plain b h = λ e. let f : is_Letter (class_of 59) ≡ true = ap (λ x. is_Letter (class_of x)) (sym e) ∙ h in absurd (cc)

letters_plain : (w rest : List ℕ) → are_letters w ≡ true → uncommented false (w ++ rest) ≡ w ++ uncommented false rest
letters_plain [] rest h = refl
letters_plain (b ∷ w) rest h =
    let hs = and_parts (is_Letter (class_of b)) (are_letters w) h in
    uncommented_plain_byte b (w ++ rest) (letter_plain b hs.0) ∙ ap (λ x. b ∷ x) (letters_plain w rest hs.1)

of_letters : (w : List ℕ) → are_letters w ≡ true → AreOf Letter w
of_letters [] h = tt
of_letters (b ∷ w) h = let hs = and_parts (is_Letter (class_of b)) (are_letters w) h in (Letter-from (class_of b) hs.0, of_letters w hs.1)

-- letters are read together
pub letters_together : (bytes : List ℕ) (n : ℕ) → n ≤ length bytes → 0 < n → are_letters (take n bytes) ≡ true
    → IsRun false bytes (record { class = Letter; length = n; in_comment = false })
letters_together bytes n le some h = record {
  some = some;
  within = le;
  seen = take n bytes;
  counts = record { of_class = of_letters (take n bytes) h; size = refl; count = tt; letters = λ k. refl };
  outside = λ k. refl;
  uncomments = λ rest. letters_plain (take n bytes) rest h;
}

begins_by : (bytes : List ℕ) → 0 < length bytes → Letter ≡ class_of (get_or bytes 0 0) → begins_word bytes ≡ true
begins_by [] some e = absurd (omega (arith, some))
begins_by (b ∷ s) some e = ap is_Letter (sym e)

pub letters_first : (c : Bool) (bytes : List ℕ) (n : ℕ) → c ≡ false → Letter ≡ class_of (get_or bytes 0 0) → 0 < length bytes
    → n ≤ length bytes → are_letters (take n bytes) ≡ true → (begins_word bytes ≡ true → 0 < n) → IsRun c bytes (record { class = Letter; length = n; in_comment = false })
letters_first c bytes n outside f more le h some = rw outside (letters_together bytes n le (some (begins_by bytes more f)) h)

pub alone_first : (c : Bool) (bytes : List ℕ) (k : Class) (run : Run) → c ≡ false → 0 < length bytes → get_or bytes 0 0 ≢ 59 → k ≡ class_of (get_or bytes 0 0)
    → run ≡ record { class = k; length = 1; in_comment = false } → IsRun c bytes run
alone_first c bytes k run outside some other e is = rw (outside, is) (byte_alone bytes 0 k some other (sym e))

-- a byte of a class that begins a list, ends one or is white begins no comment
pub no_comment : (b : ℕ) (k : Class) → k ≡ class_of b → is_Other k ≡ false → b ≢ 59
unfolding class_of
no_comment b k e f = λ is. let g : is_Other (class_of 59) ≡ false = ap (λ x. is_Other (class_of x)) (sym is) ∙ ap is_Other (sym e) ∙ f in absurd (cc)

-- what is known of a run by its class
pub seen_of : (class k : Class) (bytes seen : List ℕ) → class ≡ k → AreSeen class bytes seen → AreOf k seen
seen_of class k bytes seen e h = subst (λ j. AreOf j seen) e h.of_class

pub seen_letters : (class : Class) (bytes seen : List ℕ) → class ≡ Letter → AreSeen class bytes seen → are_letters bytes ≡ true
seen_letters class bytes seen e h = ap are_letters (sym (h.letters e)) ∙ letters_of seen (seen_of class Letter bytes seen e h)

pub seen_byte : (class k : Class) (bytes seen : List ℕ) → class ≡ k → ((n : ℕ) → IsCount k n → n ≡ 1) → AreSeen class bytes seen → (b : ℕ) × (seen ≡ b ∷ []) × (class_of b ≡ k)
seen_byte class k bytes seen e one h = run_of_one k seen (one (length seen) (subst (λ j. IsCount j (length seen)) e h.count)) (seen_of class k bytes seen e h)

pub seen_wordless : (class k : Class) (bytes seen rest : List ℕ) → class ≡ k → is_Letter k ≡ false → 0 < length bytes → AreSeen class bytes seen → begins_word (seen ++ rest) ≡ false
seen_wordless class k bytes seen rest e f some h = begins_no_word k seen rest f (omega (arith, some, h.size)) (seen_of class k bytes seen e h)

seen_length : (c : Bool) (bytes : List ℕ) (run : Run) → (h : IsRun c bytes run) → length h.seen ≡ run.length
seen_length c bytes run h = let within = h.within in omega (arith, h.counts.size, length-take run.length bytes)

-- a run that was taken
pub fault_taken : (c c' : Bool) (bytes : List ℕ) (run : Run) (offset offset' depth depth' : ℕ) → IsRun c bytes run → is_misplaced depth run.class ≡ false → offset + run.length ≤ file_limit
    → offset' ≡ offset + run.length → depth' ≡ depth_behind depth run.class → c' ≡ run.in_comment
    → (rest : List ℕ) → fault_from offset' depth' (uncommented c' rest) ≡ fault_from offset depth (uncommented c (take run.length bytes ++ rest))
fault_taken c c' bytes run offset offset' depth depth' h p le eo ed ec rest =
    let n = seen_length c bytes run h in
    let text : List ℕ = uncommented run.in_comment rest in
    let at : offset' ≡ offset + length h.seen = omega (arith, eo, n) in
    ap (λ b. fault_from offset' depth' (uncommented b rest)) ec
    ∙ ap (λ d. fault_from offset' d text) ed
    ∙ ap (λ o. fault_from o (depth_behind depth run.class) text) at
    ∙ sym (fault_run run.class offset depth h.seen text h.counts.count p h.counts.of_class (omega (arith, le, n)))
    ∙ ap (fault_from offset depth) (sym (h.uncomments rest))

-- a word and the white byte after it, as bytes that count
pub uncommented_word : (c : Bool) (bytes : List ℕ) (run : Run) → (h : IsRun c bytes run) → IsBeforeWhite run bytes
    → (rest : List ℕ) → uncommented c (take (run.length + 1) bytes ++ rest) ≡ h.seen ++ (get_or bytes run.length 0 ∷ uncommented false rest)
uncommented_word c bytes run h w rest =
    let b : ℕ = get_or bytes run.length 0 in
    ap (λ x. uncommented c (x ++ rest)) (take_more bytes run.length 0 w.within)
    ∙ ap (uncommented c) (append_assoc (take run.length bytes) (b ∷ []) rest)
    ∙ h.uncomments (b ∷ rest)
    ∙ ap (λ d. h.seen ++ uncommented d (b ∷ rest)) (h.outside w.word)
    ∙ ap (λ x. h.seen ++ x) (uncommented_plain_byte b rest (no_comment b White (sym w.white) refl))

pub fault_word : (c c' : Bool) (bytes : List ℕ) (run : Run) (offset offset' depth depth' : ℕ) → IsRun c bytes run → IsBeforeWhite run bytes → offset + length bytes ≤ file_limit
    → offset' ≡ offset + (run.length + 1) → depth' ≡ depth_behind depth run.class → c' ≡ false
    → (rest : List ℕ) → fault_from offset' depth' (uncommented c' rest) ≡ fault_from offset depth (uncommented c (take (run.length + 1) bytes ++ rest))
fault_word c c' bytes run offset offset' depth depth' h w le eo ed ec rest =
    let n = seen_length c bytes run h in
    let within = w.within in
    let text : List ℕ = uncommented false rest in
    let at : offset' ≡ (offset + length h.seen) + 1 = omega (arith, eo, n) in
    ap (λ d. fault_from offset' depth' (uncommented d rest)) ec
    ∙ ap (λ d. fault_from offset' d text) (ed ∙ ap (depth_behind depth) w.word)
    ∙ ap (λ o. fault_from o depth text) at
    ∙ sym (fault_run White (offset + length h.seen) depth (get_or bytes run.length 0 ∷ []) text tt refl (w.white, tt) (omega (arith, le, n, within)))
    ∙ sym (fault_run Letter offset depth h.seen (get_or bytes run.length 0 ∷ text) tt refl (seen_of run.class Letter (take run.length bytes) h.seen w.word h.counts) (omega (arith, le, n, within)))
    ∙ ap (fault_from offset depth) (sym (uncommented_word c bytes run h w rest))

-- a run that is misplaced
pub fault_refused : (c : Bool) (bytes : List ℕ) (run : Run) (offset depth : ℕ) → IsRun c bytes run → is_misplaced depth run.class ≡ true
    → (rest : List ℕ) → fault_from offset depth (uncommented c (bytes ++ rest)) ≡ Some offset
fault_refused c bytes run offset depth h p rest =
    let n = seen_length c bytes run h in
    let some = h.some in
    ap (λ x. fault_from offset depth (uncommented c (x ++ rest))) (sym (take-append-drop run.length bytes))
    ∙ ap (λ x. fault_from offset depth (uncommented c x)) (append_assoc (take run.length bytes) (drop run.length bytes) rest)
    ∙ ap (fault_from offset depth) (h.uncomments (drop run.length bytes ++ rest))
    ∙ fault_here run.class offset depth h.seen (uncommented run.in_comment (drop run.length bytes ++ rest)) (omega (arith, n, some)) p h.counts.of_class

-- the bytes from an index on, as a slice has it
pub tail_of : (i : ℕ) (bytes : List ℕ) → take (length bytes - i) (drop i bytes) ≡ drop i bytes
tail_of i bytes = take_all (length bytes - i) (drop i bytes) (omega (arith, length-drop i bytes))

-- bytes in two parts
pub taken_on : (i n : ℕ) (bytes rest : List ℕ) → take i bytes ++ (take n (take (length bytes - i) (drop i bytes)) ++ rest) ≡ take (i + n) bytes ++ rest
taken_on i n bytes rest =
    ap (λ x. take i bytes ++ (take n x ++ rest)) (tail_of i bytes)
    ∙ sym (append_assoc (take i bytes) (take n (drop i bytes)) rest)
    ∙ ap (λ x. x ++ rest) (sym (take-add i n bytes))

pub bytes_parted_at : (i : ℕ) (bytes rest : List ℕ) → bytes ++ rest ≡ take i bytes ++ (take (length bytes - i) (drop i bytes) ++ rest)
bytes_parted_at i bytes rest =
    ap (λ x. x ++ rest) (sym (take-append-drop i bytes)) ∙ append_assoc (take i bytes) (drop i bytes) rest
    ∙ ap (λ x. take i bytes ++ (x ++ rest)) (sym (tail_of i bytes))

pub one_listed : (xs : List ℕ) (d : ℕ) → length xs ≡ 1 → xs ≡ get_or xs 0 d ∷ []
one_listed [] d e = absurd (omega (arith, e))
one_listed (x ∷ []) d e = refl
one_listed (x ∷ y ∷ xs) d e = absurd (omega (arith, e))

pub parted_last : (bytes within last rest : List ℕ) → bytes ≡ within ++ last → bytes ++ rest ≡ within ++ (last ++ rest)
parted_last bytes within last rest e = ap (λ x. x ++ rest) e ∙ append_assoc within last rest

pub all_taken : (i : ℕ) (bytes : List ℕ) → length bytes ≤ i → take i bytes ≡ bytes
all_taken i bytes le = take_all i bytes le

-- bytes some of which are beyond the file limit
pub cut_short : (bytes within last : List ℕ) → bytes ≡ within ++ last → length within ≢ length bytes → (0 < length last) × (length within < length bytes)
cut_short bytes within last e cut =
    let n : length bytes ≡ length within + length last = ap length e ∙ length-append within last in
    (omega (arith, n, cut), omega (arith, n, cut))

pub eq_false_differ : (m n : ℕ) → (m == n) ≡ false → m ≢ n
eq_false_differ m n h = grind (arith, nat_tests)

pub same_last : (xs ys : List ℕ) (x y : ℕ) → xs ++ (x ∷ []) ≡ ys ++ (y ∷ []) → x ≡ y
same_last [] [] x y e = cc
same_last [] (b ∷ []) x y e = cc
same_last [] (b ∷ (d ∷ ys)) x y e = cc
same_last (a ∷ []) [] x y e = cc
same_last (a ∷ (d ∷ xs)) [] x y e = cc
same_last (a ∷ xs) (b ∷ ys) x y e = let tails : xs ++ (x ∷ []) ≡ ys ++ (y ∷ []) = cc in same_last xs ys x y tails

-- a letter in a comment or outside
shown : Bool → ℕ
shown true = 32
shown false = 97

shows : (c : Bool) → uncommented c (97 ∷ []) ≡ shown c ∷ []
unfolding shown
shows true = refl
shows false = refl

told_apart : (c : Bool) → (shown c == 32) ≡ c
unfolding shown
told_apart true = refl
told_apart false = refl

shown_is_injective : (c d : Bool) → shown c ≡ shown d → c ≡ d
shown_is_injective c d e = sym (told_apart c) ∙ ap (λ x. x == 32) e ∙ told_apart d

-- whether a comment goes on after bytes
comment_behind : (c d : Bool) (w seen : List ℕ) → ((rest : List ℕ) → uncommented c (w ++ rest) ≡ seen ++ uncommented d rest) → d ≡ ends_in_comment c w
comment_behind c d w seen u =
    shown_is_injective d (ends_in_comment c w)
    (same_last seen (uncommented c w) (shown d) (shown (ends_in_comment c w))
    (ap (λ x. seen ++ x) (sym (shows d)) ∙ sym (u (97 ∷ [])) ∙ uncommented_behind c w (97 ∷ [])
    ∙ ap (λ x. uncommented c w ++ x) (shows (ends_in_comment c w))))

pub run_comment : (c : Bool) (bytes : List ℕ) (run : Run) → IsRun c bytes run → run.in_comment ≡ ends_in_comment c (take run.length bytes)
run_comment c bytes run h = comment_behind c run.in_comment (take run.length bytes) h.seen h.uncomments

pub word_comment : (c : Bool) (bytes : List ℕ) (run : Run) → IsRun c bytes run → IsBeforeWhite run bytes → false ≡ ends_in_comment c (take (run.length + 1) bytes)
word_comment c bytes run h w =
    let b : ℕ = get_or bytes run.length 0 in
    comment_behind c false (take (run.length + 1) bytes) (h.seen ++ (b ∷ [])) (λ rest. uncommented_word c bytes run h w rest ∙ sym (append_assoc h.seen (b ∷ []) (uncommented false rest)))

-- a comment over a text and one after it
ends_behind : (s : List ℕ) (c : Bool) (t : List ℕ) → ends_in_comment (ends_in_comment c s) t ≡ ends_in_comment c (s ++ t)
ends_behind [] c t = refl
ends_behind (b ∷ s) c t = ends_behind s (if b == 10 then false else (c || b == 59)) t

pub comment_on : (c : Bool) (i n : ℕ) (bytes : List ℕ) → ends_in_comment (ends_in_comment c (take i bytes)) (take n (take (length bytes - i) (drop i bytes))) ≡ ends_in_comment c (take (i + n) bytes)
comment_on c i n bytes =
    ends_behind (take i bytes) c (take n (take (length bytes - i) (drop i bytes)))
    ∙ ap (λ x. ends_in_comment c (take i bytes ++ take n x)) (tail_of i bytes)
    ∙ ap (ends_in_comment c) (sym (take-add i n bytes))
