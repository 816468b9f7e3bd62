-- Lists that are joined, and lists by numbers to which more is added.
use Rattle.std.proofs.Common.{◌≡◌, Bool, true, false, cond, List, [], ◌++◌, Option, Some, None, refl, sym, ap, ◌∙◌, append-nil}
use Rattle.std.specs.Prelude.{Vec}
use Rattle.std.specs.declared.alloc.Global.{Global}
use Rattle.lc_hints.specs.HintView.{items_of}

-- nothing more
pub no_more : {A : Type 0} (b : Bool) (xs : List A) → xs ≡ xs ++ cond b [] []
no_more true xs = sym (append-nil xs)
no_more false xs = sym (append-nil xs)

-- what is found for a number, if more was added for one
pub at_added : {T : Type 0} (b : Bool) (all more : Vec T Global) (first old mid new : Option (Vec T Global)) → (b ≡ true → old ≡ first) → all.items ≡ items_of first ++ more.items
    → mid ≡ cond b None old → new ≡ cond b (Some all) mid → items_of new ≡ items_of old ++ cond b more.items []
at_added true all more first old mid new same joined taken put = ap items_of put ∙ joined ∙ ap (λ o. items_of o ++ more.items) (sym (same refl))
at_added false all more first old mid new same joined taken put = ap items_of (put ∙ taken) ∙ sym (append-nil (items_of old))
