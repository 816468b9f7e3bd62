-- What the splitter's steps keep.
use Rattle.std.proofs.Common.{◌≡◌, ℕ, ◌+◌, Bool, true, false, List, [], ◌∷◌, ◌++◌, length, take, refl, sym, ap, ◌∙◌, append_assoc, append-nil}
use Rattle.lc_sexp.specs.Trees.{Tree, Trees, item_count, Token, open_list, close_list, word, tokens_of, tokens_of_all}
use Rattle.lc_sexp.specs.Text.{lexed, uncommented}
use Rattle.lc_sexp.specs.Entries.{Entry, leaf, branch}
use Rattle.lc_sexp.specs.Flat.{is_rooted}
use Rattle.lc_sexp.specs.Built.{entries_in}
use Rattle.lc_sexp.specs.Progress.{told, told_tokens}
use Rattle.lc_sexp.specs.Takes.{parts_of, without, parts_ended}
use Rattle.lc_sexp.specs.Filling.{filled}
use Rattle.lc_sexp.specs.Splitting.{opened, front, items_before, IsSetAside, Splits}
use Rattle.lc_sexp.specs.Reading.{tokens_behind}
use Rattle.lc_sexp.specs.declared.part.Part.{Part}
use Rattle.lc_sexp.specs.declared.builder.Builder.{Builder}
use Rattle.lc_sexp.specs.declared.machine.Machine.{Machine}
use Rattle.lc_sexp.specs.declared.splitter.Splitter.{Splitter}
use Rattle.lc_sexp.proofs.Cuts.{told_none, told_ended_at, told_bracket_at, rooted_none}
use Rattle.lc_sexp.proofs.Takings.{none_aside, same_rest, at_rests, same_parts, put_part, put_atom, put_open, put_close, filled_without}
use Rattle.lc_sexp.proofs.Answered.{IsFresh, fresh_tokens}

-- the machine alone has gone on
pub machine_step : (whole : List ℕ → List Token) (rest rest' : List ℕ → List ℕ) (taken : List Part) (s : Splitter) (m : Machine)
    → ((x : List ℕ) → told m.text.items m.start m.nodes.items (rest' x) ≡ told s.machine.text.items s.machine.start s.machine.nodes.items (rest x))
    → (is_rooted s.machine.nodes.items ≡ true → is_rooted m.nodes.items ≡ true) → (s.in_list ≡ false → s.machine.holes.items ≡ [] → m.holes.items ≡ [])
    → Splits whole rest taken s → Splits whole rest' taken (record s { machine = m })
machine_step whole rest rest' taken s m t r o h = record {
  aside = same_rest whole _ _ _ s.in_list _ s.form s.item t h.aside;
  rooted = r h.rooted;
  outside = λ e. o e (h.outside e);
}

pub fresh_splits : (s : Splitter) → IsFresh s.machine → s.in_list ≡ false → s.ready.items ≡ [] → entries_in s.ended ≡ [] → s.form ≡ 0 → s.item ≡ 0 → Splits (tokens_behind []) (uncommented false) [] s
fresh_splits s m l r e f i = record {
  aside =
      at_zero s.in_list s.form s.item l f i
      (none_aside _ _ s.ready.items (entries_in s.ended)
      (λ x. sym (ap (λ b. told s.machine.text.items s.machine.start s.machine.nodes.items (uncommented b x)) m.outside) ∙ fresh_tokens s.machine x m) r e);
  rooted = ap is_rooted m.nodes;
  outside = λ h. m.holes;
} where
  at_zero : {whole rest : List ℕ → List Token} {handed : List Part} {shells : List Entry} (b : Bool) (f i : ℕ) → b ≡ false → f ≡ 0 → i ≡ 0
      → IsSetAside whole rest handed false shells 0 0 → IsSetAside whole rest handed b shells f i
  at_zero b f i e d g h = rw (e, d, g) h

-- at the end no list is open, and what was set aside is the whole
pub all_aside : (s : Splitter) (forms : Trees) (whole : List Token) (taken : List Part) → s.in_list ≡ false → s.machine.holes.items ≡ [] → s.machine.start ≡ length s.machine.text.items
    → forms ≡ filled 0 (entries_in s.ended) s.ready.items → Splits (λ x. whole) (λ x. []) taken s
    → (trees : Trees) × (tokens_of_all trees ≡ whole) × (taken ≡ take (length taken) (parts_of trees)) × (forms ≡ without (length taken) trees)
all_aside s forms whole taken l o e f h =
    let m : Machine = s.machine in
    let trees : Trees = h.aside.forms in
    let end : told m.text.items m.start m.nodes.items [] ≡ [] =
    told_ended_at m.text.items m.start m.nodes.items [] e ∙ told_none m.text.items m.nodes.items [] (rooted_none m.text.items m.start m.nodes.items m.holes.items o h.rooted m.under_way) in
    let parts = filled_without trees taken s.ready.items (entries_in s.ended) (h.aside.parts ∙ ap (λ b. parts_ended trees (opened b h.aside.items)) l) h.aside.ended in (
      trees,
      sym (append-nil (tokens_of_all trees))
          ∙ ap (λ ts. tokens_of_all trees ++ ts) (sym end)
          ∙ ap (λ b. front b trees h.aside.items ++ told m.text.items m.start m.nodes.items []) (sym l)
          ∙ h.aside.tokens [],
      parts.0,
      f ∙ parts.1,
    )

-- the same if what is set aside is known otherwise
aside_at : (whole rest rest' : List ℕ → List Token) (handed : List Part) (b b' : Bool) (shells shells' : List Entry) (f f' i i' : ℕ)
    → ((x : List ℕ) → rest' x ≡ rest x) → b' ≡ b → shells' ≡ shells → f' ≡ f → i' ≡ i → IsSetAside whole rest handed b shells f i → IsSetAside whole rest' handed b' shells' f' i'
aside_at whole rest rest' handed b b' shells shells' f f' i i' er eb es ef ei h = record {
  forms = h.forms;
  items = h.items;
  tokens = λ x. ap (λ c. front c h.forms h.items ++ rest' x) eb ∙ ap (λ ts. front b h.forms h.items ++ ts) (er x) ∙ h.tokens x;
  parts = h.parts ∙ ap (λ c. parts_ended h.forms (opened c h.items)) (sym eb);
  ended = es ∙ h.ended;
  form = ef ∙ h.form;
  item = ei ∙ h.item ∙ ap (λ c. items_before c h.forms h.items) (sym eb);
}

-- the tokens of a machine and a text to come
abbrev told_by : Machine → List ℕ → List Token
told_by m text = told m.text.items m.start m.nodes.items text

-- an item that ended directly in a form is set aside
pub part_step : (whole : List ℕ → List Token) (rest rest' : List ℕ → List ℕ) (taken : List Part) (s s' : Splitter) (m : Machine) (t : Tree) → s.in_list ≡ true
    → s'.machine ≡ m → s'.in_list ≡ s.in_list → s'.ended ≡ s.ended → s'.form ≡ s.form → s'.item ≡ s.item + item_count t
    → s'.ready.items ≡ s.ready.items ++ (record { form = s.form; item = s.item; sexp = t } ∷ [])
    → ((x : List ℕ) → told_by s.machine (rest x) ≡ tokens_of t ++ told_by m (rest' x)) → is_rooted m.nodes.items ≡ true
    → Splits whole rest taken s → Splits whole rest' taken s'
part_step whole rest rest' taken s s' m t inside em el ee ef ei er step r h =
    let before = aside_at whole _ _ _ s.in_list true _ (entries_in s.ended) s.form s.form s.item s.item (λ x. refl) (sym inside) refl refl refl h.aside in
    let more : taken ++ s'.ready.items ≡ (taken ++ s.ready.items) ++ (record { form = s.form; item = s.item; sexp = t } ∷ []) =
    ap (λ ps. taken ++ ps) er ∙ sym (append_assoc taken s.ready.items _) in
    let behind = put_part whole (λ x. told_by s.machine (rest x)) (λ x. told_by m (rest' x)) (taken ++ s.ready.items) (taken ++ s'.ready.items) (entries_in s.ended) s.form s.item s'.item t step more ei before in
    record {
      aside = aside_at whole _ _ _ true s'.in_list (entries_in s.ended) (entries_in s'.ended) s.form s'.form s'.item s'.item (λ x. ap (λ n. told_by n (rest' x)) em) (el ∙ inside) (ap entries_in ee) ef refl behind;
      rooted = ap (λ n. is_rooted n.nodes.items) em ∙ r;
      outside = λ e. absurd (let k : true ≡ false = sym (el ∙ inside) ∙ e in cc);
    }

-- an atom that is a form is set aside
pub atom_step : (whole : List ℕ → List Token) (rest : List ℕ → List ℕ) (taken : List Part) (s s' : Splitter) (w : List ℕ) → s.in_list ≡ false
    → s'.in_list ≡ s.in_list → s'.ready.items ≡ s.ready.items → entries_in s'.ended ≡ entries_in s.ended ++ (leaf w ∷ []) → s'.form ≡ s.form + 1 → s'.item ≡ s.item + 1
    → ((x : List ℕ) → told_by s.machine (rest x) ≡ word w ∷ told_by s'.machine (rest x)) → is_rooted s'.machine.nodes.items ≡ true → s'.machine.holes.items ≡ []
    → Splits whole rest taken s → Splits whole rest taken s'
atom_step whole rest taken s s' w inside el er ee ef ei step r o h =
    let before = aside_at whole _ _ _ s.in_list false _ (entries_in s.ended) s.form s.form s.item s.item (λ x. refl) (sym inside) refl refl refl h.aside in
    let behind = put_atom whole (λ x. told_by s.machine (rest x)) (λ x. told_by s'.machine (rest x)) (taken ++ s.ready.items) (entries_in s.ended) (entries_in s'.ended) s.form s'.form s.item s'.item w step ee ef ei before in
    record {
      aside = same_parts _ _ _ _ s'.in_list _ s'.form s'.item (ap (λ ps. taken ++ ps) er)
          (aside_at whole _ _ _ false s'.in_list (entries_in s'.ended) (entries_in s'.ended) s'.form s'.form s'.item s'.item (λ x. refl) (el ∙ inside) refl refl refl behind);
      rooted = r;
      outside = λ e. o;
    }

-- a form begins
pub open_step : (whole : List ℕ → List Token) (rest rest' : List ℕ → List ℕ) (taken : List Part) (s : Splitter) (n : ℕ) → s.in_list ≡ false → n ≡ s.item + 1
    → ((x : List ℕ) → told_by s.machine (rest x) ≡ open_list ∷ told_by s.machine (rest' x))
    → Splits whole rest taken s → Splits whole rest' taken (record s { in_list = true; item = n })
open_step whole rest rest' taken s n inside ei step h =
    let before = aside_at whole _ _ _ s.in_list false _ (entries_in s.ended) s.form s.form s.item s.item (λ x. refl) (sym inside) refl refl refl h.aside in
    record {
      aside = put_open whole (λ x. told_by s.machine (rest x)) (λ x. told_by s.machine (rest' x)) (taken ++ s.ready.items) (entries_in s.ended) s.form s.item n step ei before;
      rooted = h.rooted;
      outside = λ e. absurd (let k : true ≡ false = e in cc);
    }

-- a form ends
pub close_step : (whole : List ℕ → List Token) (rest rest' : List ℕ → List ℕ) (taken : List Part) (s : Splitter) (shells : Builder) (n : ℕ) → s.in_list ≡ true → s.machine.holes.items ≡ []
    → entries_in shells ≡ entries_in s.ended ++ (branch 0 ∷ []) → n ≡ s.form + 1
    → ((x : List ℕ) → told_by s.machine (rest x) ≡ close_list ∷ told_by s.machine (rest' x))
    → Splits whole rest taken s → Splits whole rest' taken (record s { in_list = false; ended = shells; form = n })
close_step whole rest rest' taken s shells n inside o ee ef step h =
    let before = aside_at whole _ _ _ s.in_list true _ (entries_in s.ended) s.form s.form s.item s.item (λ x. refl) (sym inside) refl refl refl h.aside in
    record {
      aside = put_close whole (λ x. told_by s.machine (rest x)) (λ x. told_by s.machine (rest' x)) (taken ++ s.ready.items) (entries_in s.ended) (entries_in shells) s.form n s.item step ee ef before;
      rooted = h.rooted;
      outside = λ e. o;
    }

-- a bracket that is no node, after a word that has ended
pub bracket_alone : (s : Splitter) (tok : Token) (b : ℕ) (rest : List ℕ) → s.machine.holes.items ≡ [] → is_rooted s.machine.nodes.items ≡ true → s.machine.start ≡ length s.machine.text.items → lexed (b ∷ rest) ≡ tok ∷ lexed rest
    → told_by s.machine (b ∷ rest) ≡ tok ∷ told_by s.machine rest
bracket_alone s tok b rest o r e l =
    let m : Machine = s.machine in
    let none = rooted_none m.text.items m.start m.nodes.items m.holes.items o r m.under_way in
    told_ended_at m.text.items m.start m.nodes.items (b ∷ rest) e ∙ told_none m.text.items m.nodes.items (lexed (b ∷ rest)) none ∙ l
    ∙ ap (λ ts. tok ∷ ts) (sym (told_ended_at m.text.items m.start m.nodes.items rest e ∙ told_none m.text.items m.nodes.items (lexed rest) none))

-- a bracket that the machine takes
pub bracket_taken : (m m' : Machine) (tok : Token) (b : ℕ) (rest : List ℕ) → ((tokens : List Token) → told_tokens m'.text.items m'.nodes.items tokens ≡ told_tokens m.text.items m.nodes.items (tok ∷ tokens))
    → m.start ≡ length m.text.items → m'.start ≡ length m'.text.items → lexed (b ∷ rest) ≡ tok ∷ lexed rest → told_by m' rest ≡ told_by m (b ∷ rest)
bracket_taken m m' tok b rest t e e' l =
    told_ended_at m'.text.items m'.start m'.nodes.items rest e' ∙ t (lexed rest) ∙ sym (told_bracket_at m.text.items m.start m.nodes.items tok b rest e l)

-- the one list that is open is taken out
pub list_taken : (m m' : Machine) (k : ℕ) (t : Tree) (b : ℕ) (rest : List ℕ) → ((tokens : List Token) → told_tokens m'.text.items m'.nodes.items (tokens_of t ++ tokens) ≡ told_tokens m.text.items m.nodes.items (close_list ∷ tokens))
    → m.start ≡ length m.text.items → m'.start ≡ length m'.text.items → lexed (b ∷ rest) ≡ close_list ∷ lexed rest → m'.holes.items ≡ [] → is_rooted m'.nodes.items ≡ true
    → told_by m (b ∷ rest) ≡ tokens_of t ++ told_by m' rest
list_taken m m' k t b rest told e e' l o r =
    let none = rooted_none m'.text.items m'.start m'.nodes.items m'.holes.items o r m'.under_way in
    told_bracket_at m.text.items m.start m.nodes.items close_list b rest e l
    ∙ sym (told (lexed rest))
    ∙ told_none m'.text.items m'.nodes.items (tokens_of t ++ lexed rest) none
    ∙ ap (λ ts. tokens_of t ++ ts) (sym (told_ended_at m'.text.items m'.start m'.nodes.items rest e' ∙ told_none m'.text.items m'.nodes.items (lexed rest) none))

-- bytes were counted
pub count_step : (whole : List ℕ → List Token) (rest : List ℕ → List ℕ) (taken : List Part) (s : Splitter) (m : Machine) → ((x : List ℕ) → told_by m x ≡ told_by s.machine x)
    → m.nodes ≡ s.machine.nodes → m.holes ≡ s.machine.holes → Splits whole rest taken s → Splits whole rest taken (record s { machine = m })
count_step whole rest taken s m t en eh h =
    machine_step whole rest rest taken s m (λ x. t (rest x)) (λ r. ap (λ v. is_rooted v.items) en ∙ r) (λ e o. ap (λ v. v.items) eh ∙ o) h

-- bytes of the file as the bytes that count
pub run_step : (whole : List ℕ → List Token) (taken : List Part) (s : Splitter) (bytes : List ℕ) (rest : List ℕ → List ℕ)
    → ((x : List ℕ) → uncommented s.machine.in_comment (bytes ++ x) ≡ rest x) → Splits whole (uncommented s.machine.in_comment) taken s
    → Splits (λ x. whole (bytes ++ x)) rest taken s
run_step whole taken s bytes rest u h = record {
  aside = at_rests whole (λ x. whole (bytes ++ x)) (λ x. told_by s.machine (uncommented s.machine.in_comment x)) (λ x. told_by s.machine (rest x)) _ s.in_list _ s.form s.item (λ x. bytes ++ x) (λ x. refl)
      (λ x. ap (told_by s.machine) (sym (u x)))
      h.aside;
  rooted = h.rooted;
  outside = h.outside;
}
