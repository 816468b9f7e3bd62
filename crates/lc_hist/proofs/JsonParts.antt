-- What an object says by its members, some of which are still to come.
use Rattle.std.proofs.Common.{◌≡◌, ℕ, List, Option, Some, None, option_map, option_and_then, codes, refl, sym, ap, subst, ◌∙◌}
use Rattle.json.specs.Token.{Token}
use Rattle.json.specs.Json as json
use Rattle.json.specs.Find.{BeginsWith, InMembers, NextMember}
use Rattle.json.specs.Find as find
use Rattle.serde_json.specs.Data.{Data, object, Members, no_members, put}
use Rattle.serde_json.specs.Read.{of_json, of_members}
use Rattle.lc_hist.specs.JsonItems.{data_at, IsData}
use Rattle.lc_hist.specs.JsonHistories.{parts_of}
use Rattle.lc_hist.specs.JsonRecorded.{recorded_of}
use Rattle.lc_hist.specs.JsonSeen.{members_with, HasNoParts}
use Rattle.lc_hist.proofs.JsonFound.{data_has_value, is_data, members_said, some_under_map}
use Rattle.lc_hist.proofs.JsonMembers.{third_key}

events_put : (d : Data) (events order : Option Data) → put (codes "events") d (members_with events order) ≡ members_with (Some d) order
events_put d None None = refl
events_put d None (Some o) = refl
events_put d (Some e) order = refl

order_put : (d : Data) (events order : Option Data) → put (codes "order") d (members_with events order) ≡ members_with events (Some d)
order_put d None None = refl
order_put d None (Some o) = refl
order_put d (Some e) None = refl
order_put d (Some e) (Some o) = refl

-- the value is an object of members that were found, and of those that are still to come
abbrev pub Behind : List Token → Members → List Token → Type 0
Behind members before value = (ms : json.Members) × InMembers members ms × (option_map object (of_members ms before) ≡ Some (data_at value))

abbrev pub Left : List Token → Option (List Token) → Option (List Token) → List Token → Type 0
Left members events order value = Behind members (members_with (option_map data_at events) (option_map data_at order)) value

pub no_object : (value : List Token) → IsData value → ((j : json.Json) → BeginsWith value j → find.as_object j ≡ None) → HasNoParts (data_at value)
no_object value is none =
    let f = data_has_value value is in
    let said = members_said f.0 (data_at value) f.2 ∙ ap (option_and_then (λ ms. of_members ms no_members)) (none f.0 f.1) in
    (ap (option_and_then (parts_of (data_at value))) said, ap (option_and_then (recorded_of (data_at value))) said)

-- at first all members are still to come
pub all_left : (value members : List Token) → IsData value → ((j : json.Json) → BeginsWith value j → (ms : json.Members) × (j ≡ json.object ms) × InMembers members ms) → Left members None None value
all_left value members is opens =
    let f = data_has_value value is in
    let o = opens f.0 f.1 in
    (o.0, o.2, ap of_json (sym o.1) ∙ f.2)

-- the next member is one more that was found
abbrev Taken : List ℕ → List Token → List Token → Members → List Token → Type 0
Taken k ts new before value = IsData ts × Behind new (put k (data_at ts) before) value

taken : (old ts new value : List Token) (k : List ℕ) (before : Members) → Behind old before value → NextMember old (Some (k, ts)) new → Taken k ts new before value
taken old ts new value k before left next =
    let n = next left.0 left.1 in
    go n.0 n.1 n.3 n.4 (of_json n.0) refl (ap (λ ms. option_map object (of_members ms before)) (sym n.2) ∙ left.2)
  where
    go : (j : json.Json) (rest : json.Members) → BeginsWith ts j → InMembers new rest → (o : Option Data) → of_json j ≡ o
        → option_map object (option_and_then (λ d. of_members rest (put k d before)) o) ≡ Some (data_at value) → Taken k ts new before value
    go j rest begins inside None is says = absurd cc
    go j rest begins inside (Some d) is says =
        let here = is_data ts j d begins is in
        (here.0, (rest, inside, ap (λ e. option_map object (of_members rest (put k e before))) here.1 ∙ says))

module _ (old ts new value : List Token) (k : List ℕ) (events order : Option (List Token)) (left : Left old events order value) (next : NextMember old (Some (k, ts)) new) where
  -- a value begins there
  pub value_next : IsData ts
  value_next = (taken old ts new value k _ left next).0

  -- it is the last of the events so far, if the key is that
  pub events_next : k ≡ codes "events" → Left new (Some ts) order value
  events_next is =
      let t = (taken old ts new value k _ left next).1 in
      let put_in = ap (λ q. put q (data_at ts) (members_with (option_map data_at events) (option_map data_at order))) is ∙ events_put (data_at ts) (option_map data_at events) (option_map data_at order) in
      subst (λ before. Behind new before value) put_in t

  pub order_next : k ≡ codes "order" → Left new events (Some ts) value
  order_next is =
      let t = (taken old ts new value k _ left next).1 in
      let put_in = ap (λ q. put q (data_at ts) (members_with (option_map data_at events) (option_map data_at order))) is ∙ order_put (data_at ts) (option_map data_at events) (option_map data_at order) in
      subst (λ before. Behind new before value) put_in t

  -- and there are no parts, if the key is another
  pub third_next : (k ≡ codes "events" → ⊥) → (k ≡ codes "order" → ⊥) → HasNoParts (data_at value)
  third_next other another =
      let before = members_with (option_map data_at events) (option_map data_at order) in
      let t = (taken old ts new value k before left next).1 in
      let m = some_under_map object (of_members t.0 (put k (data_at ts) before)) (data_at value) t.2 in
      subst HasNoParts (sym m.1) (third_key t.0 before m.0 k (data_at ts) other another m.2)

-- if none is left, the value is an object of those that were found
pub all_found : (old new value : List Token) (events order : Option (List Token)) → Left old events order value → NextMember old None new
    → data_at value ≡ object (members_with (option_map data_at events) (option_map data_at order))
all_found old new value events order left next =
    let before = members_with (option_map data_at events) (option_map data_at order) in
    let said : Some (object before) ≡ Some (data_at value) = ap (λ ms. option_map object (of_members ms before)) (sym (next left.0 left.1)) ∙ left.2 in
    let same : data_at value ≡ object before = cc in
    same
