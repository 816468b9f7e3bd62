-- The order of a run linearizes its history.
use Rattle.std.proofs.Common.{◌≡◌, ℕ, zero, suc, ◌+◌, ◌<◌, ◌≤◌, Bool, true, false, List, ◌++◌, ℤ, pos, map, length, replicate, refl, ap, ap₂, sym, subst, ◌∙◌, arith, nat_lt, ltb-true, ltb-false}
use Rattle.std.proofs.Math.ListN.{get_or-eq_default, get_or-append}
use Rattle.std.proofs.lemmas.List.{length-append, length-map, map-append}
use mathlib.Core.Path.{fun_ext}
use Rattle.lc_term.specs.Meaning.{affine}
use Rattle.lc_term.specs.State.{column_at, initial_columns, initial_state}
use Rattle.lc_seq.specs.TextStep.{text_step, start_of}
use Rattle.lc_seq.specs.Specification as Q
use Rattle.lc_object.specs.Syntax as O
use Rattle.lc_history.specs.History.{Linearizes}
use Rattle.lc_machine.specs.World.{Idle}
use Rattle.lc_outline.specs.Development.{Development, first_system, start_columns, start_numbers}
use Rattle.lc_sound.specs.Instrumented.{start_world}
use Rattle.lc_sound.specs.Claims.{OrdersLinearize}
use Rattle.lc_sound.specs.Happening.{Happening}
use Rattle.lc_sound.specs.Order.{happenings, no_call, order}
use Rattle.lc_sound.specs.Lawful.{Free, IsLawful}
use Rattle.lc_seq.proofs.Abstract.{abstract_of, of_below}
use Rattle.lc_term.proofs.Stores.{if_false}
use Rattle.lc_sound.proofs.Linearized.{lawful_linearizes}
use Rattle.lc_sound.proofs.Book.{Tells, AllStand}
use Rattle.lc_sound.proofs.Steps.{lawful, events_are}

-- after the columns of a state there is 0
pub column_past : (ns : List (ℤ × ℤ)) (c : ℕ) → length ns ≤ c → initial_state ns c ≡ (λ i. pos 0)
column_past ns c le = get_or-eq_default (initial_columns ns) (λ i. pos 0) (let l = length-map ns (λ (p : ℤ × ℤ). affine p.0 p.1) in omega arith)

pub column_in_front : (ms ns : List (ℤ × ℤ)) (c : ℕ) → c < length ms → initial_state (ms ++ ns) c ≡ initial_state ms c
column_in_front ms ns c lt =
    ap (λ cs. column_at cs c) (map-append (λ (p : ℤ × ℤ). affine p.0 p.1) ms ns)
    ∙ get_or-append (initial_columns ms) (initial_columns ns) (λ i. pos 0) c (let l = length-map ms (λ (p : ℤ × ℤ). affine p.0 p.1) in omega arith)

pub start_count : (D : Development) → length (start_numbers D) ≡ first_system D
start_count D =
    length-append (map (λ (c : Q.Column). (c.slope, c.start)) D.specification.columns) (map (λ (c : O.Column). (c.slope, c.start)) D.object.concretes ++ map (λ (c : Q.Column). (c.slope, c.start)) D.auxiliaries)
    ∙ ap₂ (λ a b. a + b) (length-map D.specification.columns (λ (c : Q.Column). (c.slope, c.start)))
    (length-append (map (λ (c : O.Column). (c.slope, c.start)) D.object.concretes) (map (λ (c : Q.Column). (c.slope, c.start)) D.auxiliaries)
    ∙ ap₂ (λ a b. a + b) (length-map D.object.concretes (λ (c : O.Column). (c.slope, c.start))) (length-map D.auxiliaries (λ (c : Q.Column). (c.slope, c.start))))

pub system_start : (D : Development) (c : ℕ) (i : ℤ) → first_system D ≤ c → start_columns D c i ≡ pos 0
system_start D c i le = λ k. column_past (start_numbers D) c (let e = start_count D in omega arith) k i

start_abstract : (D : Development) → abstract_of (length D.specification.columns) (start_columns D) ≡ start_of D.specification.columns
start_abstract D = fun_ext (λ c. by c (nat_lt c (length D.specification.columns)) refl)
  where
    mine : List (ℤ × ℤ)
    mine = map (λ (c : Q.Column). (c.slope, c.start)) D.specification.columns

    count : length mine ≡ length D.specification.columns
    count = length-map D.specification.columns (λ (c : Q.Column). (c.slope, c.start))

    by : (c : ℕ) (b : Bool) → nat_lt c (length D.specification.columns) ≡ b → abstract_of (length D.specification.columns) (start_columns D) c ≡ start_of D.specification.columns c
    by c true e =
        let lt = ltb-true c (length D.specification.columns) e in
        of_below (length D.specification.columns) (start_columns D) c lt ∙ column_in_front mine (map (λ (c : O.Column). (c.slope, c.start)) D.object.concretes ++ map (λ (c : Q.Column). (c.slope, c.start)) D.auxiliaries) c (let k = count in omega arith)
    by c false e =
        let le = ltb-false c (length D.specification.columns) e in
        if_false (nat_lt c (length D.specification.columns)) (start_columns D c) (λ i. pos 0) e ∙ sym (column_past mine c (let k = count in omega arith))

all_idle : (object : O.Object) (clients : ℕ) → AllStand object (replicate clients Idle) (λ c. Free)
all_idle object zero d = refl
all_idle object (suc clients) zero = refl
all_idle object (suc clients) (suc d) = all_idle object clients d

pub orders_do_linearize : OrdersLinearize
orders_do_linearize D R clients labels end run =
    let hs : List Happening = happenings (λ _. no_call) labels in
    let tells : Tells D R (λ c. Free) (λ _. no_call) (start_columns D) = record { matches = λ c. system_start D (first_system D) (pos c) (omega arith); is_last = λ c call e. absurd cc } in
    let law : IsLawful (text_step D.specification.operations) (start_of D.specification.columns) (λ c. Free) hs =
    subst (λ a. IsLawful (text_step D.specification.operations) a (λ c. Free) hs) (start_abstract D)
    (lawful D R labels (λ _. no_call) (λ c. Free) (start_world D clients) end tells (all_idle D.object clients) run) in
    subst (λ h. Linearizes (text_step D.specification.operations) (start_of D.specification.columns) h (order labels)) (events_are labels (λ _. no_call))
    (lawful_linearizes (text_step D.specification.operations) (start_of D.specification.columns) hs law)
