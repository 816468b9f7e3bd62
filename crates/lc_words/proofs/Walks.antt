-- What clap reads in words some of which are known and the others plain: a plain word is not looked into.
use Rattle.std.proofs.Common.{◌≡◌, ℕ, ◌==◌, Bool, true, false, not, ◌&&◌, ◌||◌, true≢false, codes, List, [], ◌∷◌, ◌++◌, map, Option, Some, None, is_some, option_map, refl, sym, ◌∙◌, ap, ap₂, append_assoc}
use Rattle.std.proofs.Math.Bool.{and-true}
use Rattle.std.proofs.lemmas.List.{append-nil}
use Rattle.std.specs.Str.{bytes_eq}
use Rattle.std.specs.Prelude.{find, fold, if◌then◌else◌}
use Rattle.std.specs.List.{list_all}
use Rattle.std.specs.Option.{option_map_or}
use Rattle.clap.specs.Words.{App, Row, Rule, Shape, Text, built, is_simple, subcommand_of, takes}
use Rattle.clap.specs.Simple.{entered, label_of, names_of, rows_at}
use Rattle.clap.specs.Takes.{built_takes, default_passes, entered_passes, is_valid, level_passes, other_passes, settle_passes, step_passes, turn_passes, walk_passes, word_passes}
use Rattle.clap.specs.Walk.{Held, Names, Step, Waiting, Walk, after_step, answers_to, finished, idle, nothing_held, option, plain_word, positional, rows_after, stop_after, subcommand_met, subcommand_or_other, value, walk_from, walked, walked_from, word_met}
use Rattle.lc_words.specs.Tasks.{is_plain}

is_other : (b : ℕ) → not (b == 45) ≡ true → (b == 45) ≡ false
is_other b plain = by (b == 45) refl plain
  where
    by : (t : Bool) → b == 45 ≡ t → not t ≡ true → t ≡ false
    by true e plain = absurd (true≢false (sym plain))
    by false e plain = refl

-- a word of a command: one that is known, or one that is plain
pub data Piece : Type 0 where
  known : (word : Text) → Piece
  plain : (word : Text) (is : is_plain word ≡ true) → Piece

-- the word
abbrev pub word_of : Piece → Text
word_of (known word) = word
word_of (plain word is) = word

abbrev pub words_of : List Piece → List Text
words_of = map word_of

-- ---- what is read

-- a plain word is a value, of an option that waits for one or of the next argument
abbrev pub met : List Rule → Bool → Waiting → ℕ → Piece → Held → Held × Step
met c is_trailing waiting position (known word) h = word_met c [] is_trailing waiting position word h
met c is_trailing waiting position (plain word is) h = if is_trailing then (h, value) else plain_word c waiting word h

plain_met : (c : List Rule) (is_trailing : Bool) (waiting : Waiting) (position : ℕ) (word : Text) (h : Held) → is_plain word ≡ true
    → word_met c [] is_trailing waiting position word h ≡ (if is_trailing then (h, value) else plain_word c waiting word h)
plain_met c true waiting position word h is = refl
plain_met c false idle position [] h is = refl
plain_met c false (option id) position [] h is = refl
plain_met c false positional position [] h is = refl
plain_met c false idle position (b ∷ word) h is = let e = is_other b is in simp e refl
plain_met c false (option id) position (b ∷ word) h is = let e = is_other b is in simp e refl
plain_met c false positional position (b ∷ word) h is = let e = is_other b is in simp e refl

pub word_is_met : (c : List Rule) (is_trailing : Bool) (waiting : Waiting) (position : ℕ) (p : Piece) (h : Held)
    → word_met c [] is_trailing waiting position (word_of p) h ≡ met c is_trailing waiting position p h
word_is_met c is_trailing waiting position (known word) h = refl
word_is_met c is_trailing waiting position (plain word is) h = plain_met c is_trailing waiting position word h is

-- the walk after one more word
abbrev pub stepped_from : List Rule → Option (Text × List Text) → Walk → Piece → Walk
stepped_from c (Some s) w p = record w { stopped = Some (s.0, s.1 ++ word_of p ∷ []) }
stepped_from c None w p =
    let m = met c w.is_trailing w.waiting w.position p w.held in
    after_step c (word_of p) w m.0 m.1

abbrev pub stepped : List Rule → Walk → Piece → Walk
stepped c w p = stepped_from c w.stopped w p

step_is : (c : List Rule) (stop : Option (Text × List Text)) (w : Walk) (p : Piece) → walked_from c [] stop w (word_of p) ≡ stepped_from c stop w p
step_is c (Some s) w p = refl
step_is c None w p = ap (λ (m : Held × Step). after_step c (word_of p) w m.0 m.1) (word_is_met c w.is_trailing w.waiting w.position p w.held)

walked_is : (c : List Rule) (w : Walk) (p : Piece) → walked c [] w (word_of p) ≡ stepped c w p
unfolding walked
walked_is c w p = step_is c w.stopped w p

-- the walk over all words
abbrev pub walk_over : List Rule → Walk → List Piece → Walk
walk_over c w ps = fold (stepped c) w ps

walk_is : (c : List Rule) (w : Walk) (ps : List Piece) → fold (walked c []) w (words_of ps) ≡ walk_over c w ps
walk_is c w [] = refl
walk_is c w (p ∷ ps) = ap (λ (v : Walk). fold (walked c []) v (words_of ps)) (walked_is c w p) ∙ walk_is c (stepped c w p) ps

-- what a command reads in them
abbrev pub rows_over : List Rule → List Piece → List Row
rows_over c ps = finished c (walk_over c (walk_from nothing_held) ps).held

rows_are : (c : List Rule) (ps : List Piece) → rows_after c [] (words_of ps) ≡ rows_over c ps
rows_are c ps = ap (λ (w : Walk). finished c w.held) (walk_is c (walk_from nothing_held) ps)

-- ---- that nothing is wrong

-- nothing is wrong in a plain word
plain_passes : (s : Shape) (is_trailing : Bool) (waiting : Waiting) (word : Text) (h : Held) → is_plain word ≡ true → word_passes s [] is_trailing waiting word h ≡ true
plain_passes s true waiting word h is = refl
plain_passes s false idle [] h is = refl
plain_passes s false (option id) [] h is = refl
plain_passes s false positional [] h is = refl
plain_passes s false idle (b ∷ word) h is = let e = is_other b is in simp e refl
plain_passes s false (option id) (b ∷ word) h is = let e = is_other b is in simp e refl
plain_passes s false positional (b ∷ word) h is = let e = is_other b is in simp e refl

abbrev pub piece_passes : Shape → Bool → Waiting → Piece → Held → Bool
piece_passes s is_trailing waiting (known word) h = word_passes s [] is_trailing waiting word h
piece_passes s is_trailing waiting (plain word is) h = true

piece_is : (s : Shape) (is_trailing : Bool) (waiting : Waiting) (p : Piece) (h : Held) → word_passes s [] is_trailing waiting (word_of p) h ≡ piece_passes s is_trailing waiting p h
piece_is s is_trailing waiting (known word) h = refl
piece_is s is_trailing waiting (plain word is) h = plain_passes s is_trailing waiting word h is

abbrev pub step_over : Shape → Walk → Piece → Bool
step_over s w p =
    let m = met s.rules w.is_trailing w.waiting w.position p w.held in
    is_some w.stopped || (piece_passes s w.is_trailing w.waiting p w.held && step_passes s w.position m.0 m.1)

turn_is : (s : Shape) (w : Walk) (p : Piece) → turn_passes s [] w (word_of p) ≡ step_over s w p
turn_is s w p =
    ap₂ (λ (b : Bool) (m : Held × Step). is_some w.stopped || (b && step_passes s w.position m.0 m.1)) (piece_is s w.is_trailing w.waiting p w.held)
    (word_is_met s.rules w.is_trailing w.waiting w.position p w.held)

abbrev pub all_over : Shape → Walk → List Piece → Bool
all_over s w [] = true
all_over s w (p ∷ ps) = step_over s w p && all_over s (stepped s.rules w p) ps

all_is : (s : Shape) (w : Walk) (ps : List Piece) → walk_passes s [] w (words_of ps) ≡ all_over s w ps
unfolding walk_passes
all_is s w [] = refl
all_is s w (p ∷ ps) =
    ap₂ ◌&&◌ (turn_is s w p) (ap (λ (v : Walk). walk_passes s [] v (words_of ps)) (walked_is s.rules w p) ∙ all_is s (stepped s.rules w p) ps)

-- nothing is wrong in the words of a command
abbrev pub level_over : Shape → List Piece → Bool
level_over s ps =
    let end = (walk_over s.rules (walk_from nothing_held) ps).held in
    all_over s (walk_from nothing_held) ps && (settle_passes s.rules s.args_override_self end
    && (list_all default_passes s.rules && is_valid s (finished s.rules end) false))

level_is : (s : Shape) (ps : List Piece) → level_passes s [] nothing_held (words_of ps) false ≡ level_over s ps
level_is s ps =
    ap₂ (λ (b : Bool) (w : Walk). b && (settle_passes s.rules s.args_override_self w.held && (list_all default_passes s.rules && is_valid s (finished s.rules w.held) false)))
    (all_is s (walk_from nothing_held) ps) (walk_is s.rules (walk_from nothing_held) ps)

-- ---- the command

-- after the name of a command, all words are its own
words_go_on : (c : List Rule) (names : Names) (w : Walk) (name : Text) (before words : List Text)
    → fold (walked c names) (record w { stopped = Some (name, before) }) words ≡ record w { stopped = Some (name, before ++ words) }
unfolding walked
words_go_on c names w name before [] = ap (λ (ws : List Text). record w { stopped = Some (name, ws) }) (sym (append-nil before))
words_go_on c names w name before (word ∷ words) =
    words_go_on c names w name (before ++ word ∷ []) words ∙ ap (λ (ws : List Text). record w { stopped = Some (name, ws) }) (append_assoc before (word ∷ []) words)

words_pass : (s : Shape) (names : Names) (w : Walk) (name : Text) (before words : List Text) → walk_passes s names (record w { stopped = Some (name, before) }) words ≡ true
unfolding walked walk_passes
words_pass s names w name before [] = refl
words_pass s names w name before (word ∷ words) = words_pass s names w name (before ++ word ∷ []) words

-- the walk stops at the name of a command
name_is : (c : List Rule) (names : Names) (word name : Text) → subcommand_met names idle word ≡ Some name
    → walked c names (walk_from nothing_held) word ≡ record (walk_from nothing_held) { stopped = Some (name, []) }
unfolding walked
name_is c names word name is =
    ap (λ (o : Option Text). after_step c word (walk_from nothing_held) (subcommand_or_other c o idle 1 word nothing_held).0 (subcommand_or_other c o idle 1 word nothing_held).1) is

stop_is : (c : List Rule) (names : Names) (word name : Text) (words : List Text) → subcommand_met names idle word ≡ Some name
    → fold (walked c names) (walk_from nothing_held) (word ∷ words) ≡ record (walk_from nothing_held) { stopped = Some (name, words) }
stop_is c names word name words is =
    ap (λ (w : Walk). fold (walked c names) w words) (name_is c names word name is) ∙ words_go_on c names (walk_from nothing_held) name [] words

-- the command of this name
abbrev pub command_in : App → Text → Option Shape
command_in b name = find (λ s. answers_to name (label_of s)) b.subs

-- the command with what it reads
abbrev pub command_over : App → Text → List Piece → Option (Text × List Row)
command_over b name ps = option_map (λ s. (s.name, rows_over s.rules ps)) (command_in b name)

entered_is : (found : Option Shape) (ps : List Piece) → option_map (λ s. rows_at s (words_of ps)) found ≡ option_map (λ s. (s.name, rows_over s.rules ps)) found
entered_is None ps = refl
entered_is (Some s) ps = ap (λ (rows : List Row). Some (s.name, rows)) (rows_are s.rules ps)

built_is_read : (b : App) (word name : Text) (ps : List Piece) → subcommand_met (names_of b) idle word ≡ Some name
    → entered b (stop_after b.top.rules (names_of b) (word ∷ words_of ps)) ≡ command_over b name ps
built_is_read b word name ps is =
    ap (λ (w : Walk). entered b w.stopped) (stop_is b.top.rules (names_of b) word name (words_of ps) is) ∙ entered_is (command_in b name) ps

pub command_is_read : (a : App) (program word name : Text) (ps : List Piece) → a.top.no_binary_name ≡ false → subcommand_met (names_of (built a)) idle word ≡ Some name
    → subcommand_of a (program ∷ word ∷ words_of ps) ≡ command_over (built a) name ps
command_is_read a program word name ps named is =
    ap (λ (b : Bool). entered (built a) (stop_after (built a).top.rules (names_of (built a)) (if b then program ∷ word ∷ words_of ps else word ∷ words_of ps))) named
    ∙ built_is_read (built a) word name ps is

-- nothing is wrong in the name of a command and in its words
abbrev pub built_over : App → Text → List Piece → Bool
built_over b name ps =
    option_map_or (λ s. level_over s ps) (command_in b name) true && ((not (bytes_eq name (codes "help")) || b.top.disable_help_subcommand)
    && (list_all default_passes b.top.rules && is_valid b.top (finished b.top.rules nothing_held) (is_some (command_over b name ps))))

levels_are : (found : Option Shape) (ps : List Piece)
    → option_map_or (λ s. level_passes s [] nothing_held (words_of ps) false) found true ≡ option_map_or (λ s. level_over s ps) found true
levels_are None ps = refl
levels_are (Some s) ps = level_is s ps

-- the name passes, and so do the words after it
top_passes : (s : Shape) (names : Names) (word name : Text) (words : List Text) → subcommand_met names idle word ≡ Some name
    → walk_passes s names (walk_from nothing_held) (word ∷ words) ≡ (not (bytes_eq name (codes "help")) || s.disable_help_subcommand)
unfolding walk_passes
top_passes s names word name words is =
    let passes = not (bytes_eq name (codes "help")) || s.disable_help_subcommand in
    ap (λ (o : Option Text). (other_passes s o word nothing_held && step_passes s 1 (subcommand_or_other s.rules o idle 1 word nothing_held).0 (subcommand_or_other s.rules o idle 1 word nothing_held).1)
    && walk_passes s names (walked s.rules names (walk_from nothing_held) word) words) is
    ∙ ap (λ (w : Walk). (passes && true) && walk_passes s names w words) (name_is s.rules names word name is)
    ∙ ap (λ (b : Bool). (passes && true) && b) (words_pass s names (walk_from nothing_held) name [] words)
    ∙ and-true (passes && true) ∙ and-true passes

built_is_taken : (b : App) (word name : Text) (ps : List Piece) → subcommand_met (names_of b) idle word ≡ Some name
    → built_takes b nothing_held (word ∷ words_of ps) ≡ built_over b name ps
built_is_taken b word name ps is =
    let stops = stop_is b.top.rules (names_of b) word name (words_of ps) is in
    ap (λ (w : Walk). entered_passes b w.stopped
    && (walk_passes b.top (names_of b) (walk_from nothing_held) (word ∷ words_of ps) && (settle_passes b.top.rules b.top.args_override_self w.held
    && (list_all default_passes b.top.rules && is_valid b.top (finished b.top.rules w.held) (is_some (entered b w.stopped)))))) stops
    ∙ ap₂ (λ (below top : Bool). below && (top
    && (list_all default_passes b.top.rules && is_valid b.top (finished b.top.rules nothing_held) (is_some (entered b (Some (name, words_of ps)))))))
    (levels_are (command_in b name) ps) (top_passes b.top (names_of b) word name (words_of ps) is)
    ∙ ap (λ (found : Option (Text × List Row)). option_map_or (λ s. level_over s ps) (command_in b name) true
    && ((not (bytes_eq name (codes "help")) || b.top.disable_help_subcommand)
    && (list_all default_passes b.top.rules && is_valid b.top (finished b.top.rules nothing_held) (is_some found)))) (entered_is (command_in b name) ps)

pub command_is_taken : (a : App) (program word name : Text) (ps : List Piece) → is_simple a ≡ true → a.top.no_binary_name ≡ false
    → subcommand_met (names_of (built a)) idle word ≡ Some name → takes a (program ∷ word ∷ words_of ps) ≡ built_over (built a) name ps
command_is_taken a program word name ps simple named is =
    ap₂ (λ (b without : Bool). b && built_takes (built a) nothing_held (if without then program ∷ word ∷ words_of ps else word ∷ words_of ps)) simple named
    ∙ built_is_taken (built a) word name ps is
