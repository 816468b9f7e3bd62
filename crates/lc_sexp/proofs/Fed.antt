-- A reader that is fed bytes, and whose parts are taken.
use Rattle.std.proofs.Common.{◌≡◌, ℕ, ◌+◌, ◌-◌, Bool, true, false, List, [], ◌∷◌, ◌++◌, length, drop, Option, Some, None, Result, Ok, Err, refl, sym, ap, ◌∙◌, subst, arith, append_assoc, append-nil, length-append, length-drop, IfOk, IfErr, OnOk, ◌⊎◌, inl, inr, take}
use Rattle.std.specs.Prelude.{flat_map}
use Rattle.std.specs.Option.{IfNone, is_some, option_to_list}
use Rattle.std.specs.declared.alloc.Global.{Global}
use Rattle.std.specs.declared.collections.VecDeque.{VecDeque}
use Rattle.std.proofs.lemmas.List.{nil_from_length}
use Rattle.lc_base.specs.declared.refusal.Fault.{Fault}
use Rattle.lc_sexp.specs.Trees.{Trees, none, Token, open_list, tokens_of_all}
use Rattle.lc_sexp.specs.Text.{lexed, uncommented}
use Rattle.lc_sexp.specs.Entries.{first_row, later_rows, rows_tokens}
use Rattle.lc_sexp.specs.Flat.{entries, is_rooted}
use Rattle.lc_sexp.specs.Reads.{IsFirstFault}
use Rattle.lc_sexp.specs.Progress.{told, told_tokens, fault_from}
use Rattle.lc_sexp.specs.Takes.{parts_of, without, parts_ended}
use Rattle.lc_sexp.specs.Begins.{Begins, AreAllParts}
use Rattle.lc_sexp.specs.Splitting.{opened, front, depth_of, Splits}
use Rattle.lc_sexp.specs.Answers.{IsTextFault, IsAnswerWithout}
use Rattle.lc_sexp.specs.Reading.{fault_with, tokens_behind, IsAfterTaking}
use Rattle.lc_sexp.specs.declared.node.Node.{Node}
use Rattle.lc_sexp.specs.declared.node.Node.TheVariants.{Atom, List as ListOf, Open}
use Rattle.lc_sexp.specs.declared.part.Part.{Part}
use Rattle.lc_sexp.specs.declared.splitter.Splitter.{Splitter}
use Rattle.lc_sexp.specs.declared.reader.Reader.{Reader}
use Rattle.lc_sexp.proofs.Faults.{found_fault, found_trees}
use Rattle.lc_sexp.proofs.Nodes.{letters_drop}
use Rattle.lc_sexp.proofs.Cuts.{told_none, rooted_none}
use Rattle.lc_sexp.proofs.Runs.{taken_on, bytes_parted_at}
use Rattle.lc_sexp.proofs.Takings.{at_rests, same_parts}
use Rattle.lc_sexp.proofs.Answered.{IsTextFault-weaker}

-- the whole known otherwise
pub same_whole : (whole whole' : List ℕ → List Token) (rest : List ℕ → List ℕ) (taken : List Part) (s : Splitter) → ((x : List ℕ) → whole x ≡ whole' x) → Splits whole rest taken s → Splits whole' rest taken s
same_whole whole whole' rest taken s e h = record {
  aside = at_rests whole whole' _ _ _ s.in_list _ s.form s.item (λ x. x) e (λ x. refl) h.aside;
  rooted = h.rooted;
  outside = h.outside;
}

-- at the end
pub at_end : (whole : List ℕ → List Token) (b : Bool) (taken : List Part) (s : Splitter) → Splits whole (uncommented b) taken s → Splits (λ x. whole []) (λ x. []) taken s
at_end whole b taken s h = record {
  aside = at_rests whole (λ x. whole []) _ _ _ s.in_list _ s.form s.item (λ x. []) (λ x. refl) (λ x. refl) h.aside;
  rooted = h.rooted;
  outside = h.outside;
}

pub after_new : (r : Reader) → r.fault ≡ None → r.splitter.machine.offset ≡ 0 → depth_of r.splitter ≡ 0 → r.splitter.machine.in_comment ≡ false → Splits (tokens_behind []) (uncommented false) [] r.splitter
    → IsAfterTaking [] [] r
after_new r e o d c h = record {
  read = [];
  unread = [];
  joined = refl;
  going = λ f. refl;
  stopped = λ n f. absurd (let k : None ≡ Some n = sym e ∙ f in cc);
  offset = o;
  fault = λ rest.
      ap (λ x. fault_with x r.splitter rest) e
      ∙ ap (λ n. fault_from n (depth_of r.splitter) (uncommented r.splitter.machine.in_comment rest)) o
      ∙ ap (λ n. fault_from 0 n (uncommented r.splitter.machine.in_comment rest)) d
      ∙ ap (λ b. fault_from 0 0 (uncommented b rest)) c;
  splits = subst (λ b. Splits (tokens_behind []) (uncommented b) [] r.splitter) (sym c) h;
}

-- what is fed comes after what was fed before
behind : (fed more rest : List ℕ) → fault_from 0 0 (uncommented false (fed ++ (more ++ rest))) ≡ fault_from 0 0 (uncommented false ((fed ++ more) ++ rest))
behind fed more rest = ap (λ x. fault_from 0 0 (uncommented false x)) (sym (append_assoc fed more rest))

pub after_run : (fed : List ℕ) (taken : List Part) (run : List ℕ) (r r' : Reader) → r.fault ≡ None → r'.fault ≡ None
    → ((whole : List ℕ → List Token) → (taken : List Part) → Splits whole (uncommented r.splitter.machine.in_comment) taken r.splitter
    → Splits (λ x. whole (run ++ x)) (uncommented r'.splitter.machine.in_comment) taken r'.splitter)
    → ((rest : List ℕ) → fault_with None r'.splitter rest ≡ fault_with None r.splitter (run ++ rest))
    → r'.splitter.machine.offset ≡ r.splitter.machine.offset + length run
    → IsAfterTaking fed taken r → IsAfterTaking (fed ++ run) taken r'
after_run fed taken run r r' e e' splits fault offset h =
    let same : fed ≡ h.read = h.joined ∙ ap (λ x. h.read ++ x) (h.going e) ∙ append-nil h.read in
    record {
      read = h.read ++ run;
      unread = [];
      joined = ap (λ x. x ++ run) same ∙ sym (append-nil (h.read ++ run));
      going = λ f. refl;
      stopped = λ n f. absurd (let k : None ≡ Some n = sym e' ∙ f in cc);
      offset = omega (arith, offset, h.offset, length-append h.read run);
      fault = λ rest.
          ap (λ x. fault_with x r'.splitter rest) e' ∙ fault rest ∙ sym (ap (λ x. fault_with x r.splitter (run ++ rest)) e)
          ∙ h.fault (run ++ rest) ∙ behind fed run rest;
      splits =
          same_whole (λ x. tokens_behind h.read (run ++ x)) (tokens_behind (h.read ++ run)) _ taken r'.splitter
          (λ x. ap (λ y. lexed (uncommented false y)) (sym (append_assoc h.read run x))) (splits (tokens_behind h.read) taken h.splits);
    }

pub after_fault : (fed : List ℕ) (taken : List Part) (more : List ℕ) (r r' : Reader) → r.fault ≡ None → r'.fault ≡ Some r.splitter.machine.offset → r'.splitter ≡ r.splitter
    → ((rest : List ℕ) → fault_with None r.splitter (more ++ rest) ≡ Some r.splitter.machine.offset)
    → IsAfterTaking fed taken r → IsAfterTaking (fed ++ more) taken r'
after_fault fed taken more r r' e e' same wrong h = record {
  read = h.read;
  unread = h.unread ++ more;
  joined = ap (λ x. x ++ more) h.joined ∙ append_assoc h.read h.unread more;
  going = λ f. absurd (let k : None ≡ Some r.splitter.machine.offset = sym f ∙ e' in cc);
  stopped = λ n f. (let k : Some r.splitter.machine.offset ≡ Some n = sym e' ∙ f in let same : r.splitter.machine.offset ≡ n = cc in sym h.offset ∙ same);
  offset = ap (λ s. s.machine.offset) same ∙ h.offset;
  fault = λ rest.
      ap (λ x. fault_with x r'.splitter rest) e' ∙ sym (wrong rest) ∙ sym (ap (λ x. fault_with x r.splitter (more ++ rest)) e)
      ∙ h.fault (more ++ rest) ∙ behind fed more rest;
  splits = subst (λ s. Splits (tokens_behind h.read) (uncommented s.machine.in_comment) taken s) (sym same) h.splits;
}

pub after_more : (fed more : List ℕ) (taken : List Part) (r : Reader) (o : ℕ) → r.fault ≡ Some o → IsAfterTaking fed taken r → IsAfterTaking (fed ++ more) taken r
after_more fed more taken r o e h = record {
  read = h.read;
  unread = h.unread ++ more;
  joined = ap (λ x. x ++ more) h.joined ∙ append_assoc h.read h.unread more;
  going = λ f. absurd (let k : None ≡ Some o = sym f ∙ e in cc);
  stopped = h.stopped;
  offset = h.offset;
  fault = λ rest.
      ap (λ x. fault_with x r.splitter rest) e ∙ sym (ap (λ x. fault_with x r.splitter (more ++ rest)) e)
      ∙ h.fault (more ++ rest) ∙ behind fed more rest;
  splits = h.splits;
}

same_fault : (f : Option ℕ) (s : Splitter) (q : VecDeque Part Global) (rest : List ℕ) → fault_with f (record s { ready = q }) rest ≡ fault_with f s rest
same_fault None s q rest = refl
same_fault (Some o) s q rest = refl

-- a reader that differs only in what it knows of memory
pub same_reader : (fed : List ℕ) (taken : List Part) (r r' : Reader) → r'.splitter ≡ r.splitter → r'.fault ≡ r.fault → IsAfterTaking fed taken r → IsAfterTaking fed taken r'
same_reader fed taken r r' e f h = record {
  read = h.read;
  unread = h.unread;
  joined = h.joined;
  going = λ k. h.going (sym f ∙ k);
  stopped = λ o k. h.stopped o (sym f ∙ k);
  offset = ap (λ s. s.machine.offset) e ∙ h.offset;
  fault = λ rest. ap (λ x. fault_with x r'.splitter rest) f ∙ ap (λ s. fault_with r.fault s rest) e ∙ h.fault rest;
  splits = subst (λ s. Splits (tokens_behind h.read) (uncommented s.machine.in_comment) taken s) (sym e) h.splits;
}

-- nothing was taken
pub after_none : (fed : List ℕ) (taken : List Part) (r : Reader) (q : VecDeque Part Global) → q.items ≡ r.splitter.ready.items → IsAfterTaking fed taken r
    → IsAfterTaking fed taken (record r { splitter = record r.splitter { ready = q } })
after_none fed taken r q e h = record {
  read = h.read;
  unread = h.unread;
  joined = h.joined;
  going = h.going;
  stopped = h.stopped;
  offset = h.offset;
  fault = λ rest. same_fault r.fault r.splitter q rest ∙ h.fault rest;
  splits = record {
    aside = same_parts _ _ _ _ r.splitter.in_list _ r.splitter.form r.splitter.item (ap (λ ps. taken ++ ps) e) h.splits.aside;
    rooted = h.splits.rooted;
    outside = h.splits.outside;
  };
}

-- a queue from which none was popped is empty
pub if_none : (o : Option Part) (xs ys : List Part) (P : Type 0) → xs ≡ option_to_list o ++ ys → ys ≡ drop 1 xs → (xs ≡ [] → ys ≡ [] → P) → IfNone o P
if_none None xs ys P e d f =
    let none : xs ≡ [] = nil_from_length xs (omega (arith, ap length (e ∙ d), length-drop 1 xs)) in
    f none (sym e ∙ none)
if_none (Some p) xs ys P e d f = tt

some_fault : (o : Option ℕ) → is_some o ≡ true → (n : ℕ) × (o ≡ Some n)
some_fault None e = absurd (cc)
some_fault (Some n) e = (n, refl)

-- after a fault nothing more is read
pub after_rest : (fed piece : List ℕ) (taken : List Part) (r r' : Reader) → r'.splitter ≡ r.splitter → r'.fault ≡ r.fault → is_some r.fault ≡ true → IsAfterTaking fed taken r
    → IsAfterTaking (fed ++ piece) taken r'
after_rest fed piece taken r r' d g e h =
    let f = some_fault r.fault e in
    same_reader (fed ++ piece) taken r r' d g (after_more fed piece taken r f.0 f.1 h)

-- one run more of a piece
pub after_next : (fed piece : List ℕ) (i n : ℕ) (taken : List Part) (r : Reader) → IsAfterTaking ((fed ++ take i piece) ++ take n (take (length piece - i) (drop i piece))) taken r
    → IsAfterTaking (fed ++ take (i + n) piece) taken r
after_next fed piece i n taken r h =
    let front : List ℕ = take n (take (length piece - i) (drop i piece)) in
    let same : take i piece ++ front ≡ take (i + n) piece =
    ap (λ x. take i piece ++ x) (sym (append-nil front)) ∙ taken_on i n piece [] ∙ append-nil (take (i + n) piece) in
    subst (λ x. IsAfterTaking x taken r) (append_assoc fed (take i piece) front ∙ ap (λ x. fed ++ x) same) h

-- the rest of a piece, some of which may be beyond the file limit
pub after_last : (fed piece within last : List ℕ) (i : ℕ) (taken : List Part) (r : Reader) → piece ≡ within ++ last
    → IsAfterTaking ((fed ++ take i within) ++ (take (length within - i) (drop i within) ++ last)) taken r → IsAfterTaking (fed ++ piece) taken r
after_last fed piece within last i taken r e h =
    let tail : List ℕ = take (length within - i) (drop i within) in
    let same : take i within ++ (tail ++ last) ≡ piece = sym (bytes_parted_at i within last) ∙ sym e in
    subst (λ x. IsAfterTaking x taken r) (append_assoc fed (take i within) (tail ++ last) ∙ ap (λ x. fed ++ x) same) h

pub fault_before : (tail last rest : List ℕ) (s : Splitter) → ((rest : List ℕ) → fault_with None s (tail ++ rest) ≡ Some s.machine.offset) → fault_with None s ((tail ++ last) ++ rest) ≡ Some s.machine.offset
fault_before tail last rest s wrong = ap (fault_with None s) (append_assoc tail last rest) ∙ wrong (last ++ rest)

-- the rows in the lists that are open
abbrev rows_open : Bool → Trees → List Trees → List Trees
rows_open true items us = items ∷ us
rows_open false items us = []

rooted_first : (text : List ℕ) (nodes : List Node) → is_rooted nodes ≡ true → first_row (entries text nodes) ≡ none
rooted_first text [] r = refl
rooted_first text (Open ∷ nodes) r = refl
rooted_first text (Atom s l ∷ nodes) r = absurd (cc)
rooted_first text (ListOf n ∷ nodes) r = absurd (cc)

-- the tokens of the lists that are open
abbrev open_tokens : List Trees → List Token
open_tokens us = flat_map (λ u. open_list ∷ tokens_of_all u) us

rooted_tokens : (text : List ℕ) (nodes : List Node) (tokens : List Token) → is_rooted nodes ≡ true → told_tokens text nodes tokens ≡ open_tokens (later_rows (entries text nodes)) ++ tokens
rooted_tokens text nodes tokens r = ap (λ t. rows_tokens t (later_rows (entries text nodes)) ++ tokens) (rooted_first text nodes r)

regroup_rows : {A : Type 0} (t u m l : List A) (o : A) → (t ++ ((o ∷ u) ++ m)) ++ l ≡ (t ++ (o ∷ u)) ++ (m ++ l)
regroup_rows t u m l o = simp append_assoc

begins_by : (b : Bool) (read : List ℕ) (taken : List Part) (s : Splitter) → s.in_list ≡ b → (h : Splits (tokens_behind read) (uncommented s.machine.in_comment) taken s)
    → Begins read h.aside.forms (rows_open b h.aside.items (later_rows (entries s.machine.text.items s.machine.nodes.items)))
begins_by b read taken s e h = record {
  word = drop s.machine.start s.machine.text.items;
  in_comment = s.machine.in_comment;
  letters = letters_drop s.machine.text.items s.machine.start s.machine.letters;
  tokens = λ rest.
      by_rows b h.aside.forms h.aside.items s.machine.text.items s.machine.nodes.items (lexed (drop s.machine.start s.machine.text.items ++ uncommented s.machine.in_comment rest)) h.rooted
      (λ f. rooted_none s.machine.text.items s.machine.start s.machine.nodes.items s.machine.holes.items (h.outside (e ∙ f)) h.rooted s.machine.under_way)
      ∙ ap (λ x. front x h.aside.forms h.aside.items ++ told s.machine.text.items s.machine.start s.machine.nodes.items (uncommented s.machine.in_comment rest)) (sym e)
      ∙ h.aside.tokens rest;
} where
  by_rows : (b : Bool) (forms items : Trees) (text : List ℕ) (nodes : List Node) (tokens : List Token) → is_rooted nodes ≡ true → (b ≡ false → nodes ≡ [])
      → rows_tokens forms (rows_open b items (later_rows (entries text nodes))) ++ tokens ≡ front b forms items ++ told_tokens text nodes tokens
  by_rows true forms items text nodes tokens r empty =
      regroup_rows (tokens_of_all forms) (tokens_of_all items) (open_tokens (later_rows (entries text nodes))) tokens open_list
      ∙ ap (λ ts. front true forms items ++ ts) (sym (rooted_tokens text nodes tokens r))
  by_rows false forms items text nodes tokens r empty =
      ap (λ ts. ts ++ tokens) (append-nil (tokens_of_all forms)) ∙ ap (λ ts. tokens_of_all forms ++ ts) (sym (told_none text nodes tokens (empty refl)))

ended_by : (b : Bool) (forms items : Trees) (us : List Trees) → parts_ended forms (opened b items) ≡ parts_ended forms (rows_open b items us)
ended_by true forms items us = refl
ended_by false forms items us = refl

whole_fault : (fed : List ℕ) (taken : List Part) (r : Reader) (f o : Option ℕ) → r.fault ≡ f → fault_with f r.splitter [] ≡ o → IsAfterTaking fed taken r → fault_from 0 0 (uncommented false fed) ≡ o
whole_fault fed taken r f o e g h = ap (λ x. fault_from 0 0 (uncommented false x)) (sym (append-nil fed)) ∙ sym (h.fault []) ∙ ap (λ x. fault_with x r.splitter []) e ∙ g

-- a reader that holds a fault
pub told_fault : (r : Reader) (o : ℕ) → r.fault ≡ Some o → (fed : List ℕ) → (taken : List Part) → IsAfterTaking fed taken r → IsFirstFault fed o
told_fault r o e fed taken h = found_fault fed o (whole_fault fed taken r (Some o) (Some o) e refl h)

stops_by : (f : Option ℕ) (fed : List ℕ) (taken : List Part) (r : Reader) → r.fault ≡ f → (h : IsAfterTaking fed taken r) → (h.unread ≡ []) ⊎ IsFirstFault fed (length h.read)
stops_by None fed taken r e h = inl (h.going e)
stops_by (Some o) fed taken r e h = inr (subst (IsFirstFault fed) (sym (h.stopped o e)) (told_fault r o e fed taken h))

-- no part is ready
pub none_ready : (fed : List ℕ) (taken : List Part) (r : Reader) → r.splitter.ready.items ≡ [] → IsAfterTaking fed taken r → AreAllParts fed taken
none_ready fed taken r e h =
    let s : Splitter = r.splitter in
    record {
      read = h.read;
      unread = h.unread;
      joined = h.joined;
      stops = stops_by r.fault fed taken r refl h;
      forms = h.splits.aside.forms;
      rows = rows_open s.in_list h.splits.aside.items (later_rows (entries s.machine.text.items s.machine.nodes.items));
      begins = begins_by s.in_list h.read taken s refl h.splits;
      all = sym (append-nil taken) ∙ ap (λ ps. taken ++ ps) (sym e) ∙ h.splits.aside.parts ∙ ended_by s.in_list h.splits.aside.forms h.splits.aside.items (later_rows (entries s.machine.text.items s.machine.nodes.items));
    }

-- a reader that holds no fault
pub told_answer : (x : Result Trees Fault) (r : Reader) → r.fault ≡ None
    → IfOk x (λ forms. (whole : List Token) → (taken : List Part) → Splits (λ y. whole) (λ y. []) taken r.splitter
    → (trees : Trees) × (tokens_of_all trees ≡ whole) × (taken ≡ take (length taken) (parts_of trees)) × (forms ≡ without (length taken) trees))
    → OnOk x (fault_from r.splitter.machine.offset (depth_of r.splitter) [] ≡ None)
    → IfErr x (λ z. IsTextFault z (λ o. fault_from r.splitter.machine.offset (depth_of r.splitter) [] ≡ Some o))
    → (fed : List ℕ) → (taken : List Part) → IsAfterTaking fed taken r → IsAnswerWithout fed taken x
told_answer (Ok v) r e a f z fed taken h =
    let ans = a (tokens_behind h.read []) taken (at_end (tokens_behind h.read) r.splitter.machine.in_comment taken r.splitter h.splits) in
    let same : h.read ++ [] ≡ fed = sym (h.joined ∙ ap (λ x. h.read ++ x) (h.going e)) in
    (ans.0, found_trees fed ans.0 (ans.1 ∙ ap (λ x. lexed (uncommented false x)) same) (whole_fault fed taken r None None e f h), ans.2, ans.3)
told_answer (Err x) r e a f z fed taken h =
    IsTextFault-weaker _ (IsFirstFault fed) (λ o g. found_fault fed o (whole_fault fed taken r None (Some o) e g h)) x z
