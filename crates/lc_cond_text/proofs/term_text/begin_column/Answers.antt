use Rattle.std.proofs.Common.{rules, ◌≡◌, ◌++◌, ◌∙◌, [], ◌∷◌, ap, ap₂, refl, sym, subst, codes, to_z, of_z, w64}
use Rattle.std.specs.Fmt.{signed_decimal}
use Rattle.std.proofs.lemmas.Result.{on_ok_weaker}
use Rattle.lc_term.specs.Syntax as S
use Rattle.lc_table.specs.Tables.{term_in, column_in, IsTerm, IsColumn}
use Rattle.lc_text.specs.Spelled.{spaced, spelled_column}
use Rattle.lc_outline.specs.DevelopmentView.{development_view}
use Rattle.lc_cond_text.specs.declared.term_text.Waiting.TheVariants.{Column}
use Rattle.lc_cond_text.specs.ConditionText.{spelled}
use Rattle.lc_cond_text.specs.Waiting.{GoesOn}
use Rattle.lc_cond_text.proofs.Waiting.{last_waits, column_begun, written_goes_on, one_more}
use Rattle.lc_cond_text.proofs.term_text.begin_column.Goals as goal

pub stores-init : goal.stores-init
stores-init c d = column_begun (spelled (development_view c.args.development.now)) d c.args.terms.now c.args.out.now.items c.args.waiting.now.items c.args.column c.requires.waiting c.requires.column

pub column_node-requires : goal.column_node-requires
column_node-requires c = (last_waits c.args.terms.now (c.stores.waiting.items ++ Column c.stores.below ∷ []) c.stores.waiting.items (Column c.stores.below) refl (c.stores.invariant 0).waits).1

pub returns-in-Base : goal.returns-in-Base
returns-in-Base c d =
    let ts = c.args.terms.now in
    let by = spelled (development_view c.args.development.now) in
    let ws = c.stores.waiting.items in
    let below = c.stores.below in
    let mid = c.stores.out.items in
    let new = c.push_text.new.out.items in
    let tree : column_in ts below ≡ S.Base c.in-Base.column.0 = search rules in
    let text = spelled_column by d (column_in ts below) in
    let are = (last_waits ts (ws ++ Column below ∷ []) ws (Column below) refl (c.stores.invariant 0).waits).0 in
    on_ok_weaker c.push_text.result
    (λ e. one_more by d ts _ _ (ws ++ Column below ∷ []) ws ws (Column below) _ mid new (c.stores.invariant d) refl
    (written_goes_on by d ts mid ws text new are (e ∙ ap (λ l. mid ++ l) (c.column_name.ensures ∙ ap (spelled_column by d) (sym tree)))))
    c.push_text.ensures

pub returns-in-Affine : goal.returns-in-Affine
returns-in-Affine c d =
    let ts = c.args.terms.now in
    let by = spelled (development_view c.args.development.now) in
    let ws = c.stores.waiting.items in
    let below = c.stores.below in
    let mid = c.stores.out.items in
    let new = c.push_affine.new.out.items in
    let tree : column_in ts below ≡ S.Affine c.in-Affine.slope c.in-Affine.start = search rules in
    let slope : to_z w64 (of_z w64 c.in-Affine.slope) ≡ c.in-Affine.slope = search rules in
    let start : to_z w64 (of_z w64 c.in-Affine.start) ≡ c.in-Affine.start = search rules in
    let text = spelled_column by d (column_in ts below) in
    let are = (last_waits ts (ws ++ Column below ∷ []) ws (Column below) refl (c.stores.invariant 0).waits).0 in
    let same = ap₂ (λ m n. mid ++ (codes "(affine " ++ signed_decimal m ++ spaced (signed_decimal n) ++ codes ")")) slope start in
    on_ok_weaker c.push_affine.result
    (λ e. one_more by d ts _ _ (ws ++ Column below ∷ []) ws ws (Column below) _ mid new (c.stores.invariant d) refl
    (written_goes_on by d ts mid ws text new are (e ∙ same ∙ ap (λ t. mid ++ spelled_column by d t) (sym tree))))
    c.push_affine.ensures

pub stores-preserved : goal.stores-preserved
stores-preserved c d =
    let ts = c.args.terms.now in
    let by = spelled (development_view c.args.development.now) in
    let ws = c.stores.waiting.items in
    let below = c.stores.below in
    let mid = c.stores.out.items in
    let new = c.begin_store.new.out.items in
    let next = c.in-Store.stored_to in
    let xs = c.begin_store.new.waiting.items ++ Column next ∷ [] in
    let tree : column_in ts below ≡ S.Store (column_in ts next) (term_in ts c.in-Store.index) (term_in ts c.in-Store.value) = search rules in
    let is : IsColumn ts next = search rules in
    let index : IsTerm ts c.in-Store.index = search rules in
    let value : IsTerm ts c.in-Store.value = search rules in
    let are = (last_waits ts (ws ++ Column below ∷ []) ws (Column below) refl (c.stores.invariant 0).waits).0 in
    one_more by d ts _ _ (ws ++ Column below ∷ []) ws xs (Column below) _ mid new (c.stores.invariant d) refl
    (subst (λ t. GoesOn by d ts mid ws (spelled_column by d t) new xs) (sym tree) (c.in_ok-begin_store-in-Store.ensures by d ts next index value is are))
