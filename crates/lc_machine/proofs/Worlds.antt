-- Worlds: their clients, and what a client's step makes of them.
use Rattle.std.proofs.Common.{◌≡◌, ℕ, ℤ, ◌<◌, true, List, [], ◌∷◌, length, set, get_or, replicate, zero, suc, Some, refl, sym, ap, ap₂, ◌∙◌}
use Rattle.std.specs.Prelude.{slice_get, Result, Ok, Err}
use Rattle.std.specs.List.{list_all}
use Rattle.std.proofs.lemmas.List.{length-map, map-set, length-replicate}
use Rattle.std.proofs.lemmas.Option.{same_Some}
use Rattle.lc_lemmas.proofs.Lists.{viewed_at, set_there, all_set}
use Rattle.lc_term.specs.Meaning.{State}
use Rattle.lc_object.specs.Syntax.{Instr, Object}
use Rattle.lc_machine.specs.World as W
use Rattle.lc_machine.specs.World.{World}
use Rattle.lc_machine.specs.Step.{IsClient, IsRunning, after}
use Rattle.lc_machine.specs.Placed.{is_placed, are_placed}
use Rattle.lc_machine.specs.View.{client_of, clients_of}
use Rattle.lc_machine.specs.Moved.{IsAt, IsStepped}
use Rattle.lc_machine.specs.Answered.{IsAdvanced}
use Rattle.lc_machine.specs.declared.client.Client.{Client}
use Rattle.lc_machine.specs.declared.client.Moved.{Moved}
use Rattle.lc_machine.specs.declared.client.Moved.TheVariants.{Went, Returned}
use Rattle.lc_machine.specs.declared.fault.StepFault.{StepFault}
use Rattle.lc_machine.specs.declared.fault.StepFault.TheVariants.{NoClient, Busy, Idle, NoOp, Arity, Overflow, OutOfMemory}

-- ---- lists

-- an element is set to itself
pub set_again : {A : Type 0} (xs : List A) (i : ℕ) (x : A) → slice_get xs i ≡ Some x → set xs i x ≡ xs
set_again [] i x e = cc
set_again (y ∷ ys) zero x e = ap (λ z. z ∷ ys) (sym (same_Some y x e))
set_again (y ∷ ys) (suc i) x e = ap (λ zs. y ∷ zs) (set_again ys i x e)

-- ---- clients

-- the client at a place
pub client_is : (cs : List Client) (i : ℕ) (k : Client) → i < length cs → k ≡ get_or cs i k → slice_get (clients_of cs) i ≡ Some (client_of k)
client_is cs i k h e = viewed_at client_of cs i k (rw length-map h) e

-- a client that is put there
pub placed_set : (object : Object) (cs : List Client) (i : ℕ) (k : Client) → are_placed object (clients_of cs) ≡ true → is_placed object (client_of k) ≡ true →
    are_placed object (clients_of (set cs i k)) ≡ true
placed_set object cs i k e h = ap (are_placed object) (map-set client_of cs i k) ∙ all_set (is_placed object) (clients_of cs) i (client_of k) e h

-- the world with that client
pub world_set : (s : State) (cs : List Client) (i : ℕ) (k : Client) (w : World) → w.clients ≡ clients_of cs →
    (let v : World = record { columns = s; clients = clients_of (set cs i k) } in v) ≡ after w s i (client_of k)
world_set s cs i k w e =
    ap (λ ks. let v : World = record { columns = s; clients = ks } in v) (map-set client_of cs i k ∙ ap (λ ks. set ks i (client_of k)) (sym e))

-- nothing changes
same_world : (w : World) (s : State) (c : ℕ) (k k' : W.Client) → IsClient w c k → s ≡ w.columns → k' ≡ k → after w s c k' ≡ w
same_world w s c k k' is e f =
    ap₂ (λ t l. after w t c l) e f ∙ ap (λ ks. let v : World = record { columns = w.columns; clients = ks } in v) (set_again w.clients c k is)

running : (object : Object) (w : World) (c : ℕ) (k : W.Client) (p : ℕ) (variables : List ℤ) (i : Instr) → IsClient w c k → IsAt object k p variables i → IsRunning object w c p variables i
running object w c k p variables i is at = record { client = is ∙ ap Some at.client_is; code = at.code }

-- a client's step is a step of the world
pub stepped_is_advanced : (object : Object) (w : World) (c : ℕ) (k k' : W.Client) (s : State) (r : Result Moved StepFault) → IsClient w c k → IsStepped object w.columns k s k' r →
    IsAdvanced object w c (after w s c k') r
stepped_is_advanced object w c k k' s (Ok (Went point edge)) is (p, variables, i, new, at, fits, does, put) =
    let runs = running object w c k p variables i is at in (
      (p, variables, i, runs, fits),
      (p, (variables, i, runs, s, point.0, new, does, ap (after w s c) put)),
      (new, set_there w.clients c k' k is ∙ ap Some put),
    )
stepped_is_advanced object w c k k' s (Ok (Returned reply)) is (p, variables, i, edge, at, fits, does, put, few) =
    let runs = running object w c k p variables i is at in
    ((p, variables, i, runs, fits), (p, variables, i, runs, edge, s, does, ap (after w s c) put), few)
stepped_is_advanced object w c k k' s (Err Idle) is (idle, e, f) = (is ∙ ap Some idle, same_world w s c k k' is e f)
stepped_is_advanced object w c k k' s (Err Overflow) is (p, variables, i, at, no_fit, e, f) =
    ((p, variables, i, running object w c k p variables i is at, no_fit), same_world w s c k k' is e f)
stepped_is_advanced object w c k k' s (Err OutOfMemory) is (p, variables, i, at, fits, e, f) =
    ((p, variables, i, running object w c k p variables i is at, fits), same_world w s c k k' is e f)
stepped_is_advanced object w c k k' s (Err NoClient) is h = absurd h
stepped_is_advanced object w c k k' s (Err Busy) is h = h
stepped_is_advanced object w c k k' s (Err NoOp) is h = h
stepped_is_advanced object w c k k' s (Err Arity) is h = h

-- ---- clients at first

pub all_idle : (object : Object) (n : ℕ) → list_all (is_placed object) (replicate n W.Idle) ≡ true
all_idle object zero = refl
all_idle object (suc n) = all_idle object n

-- clients that are all in no call
pub idle_count : (cs : List Client) (n : ℕ) → clients_of cs ≡ replicate n W.Idle → length cs ≡ n
idle_count cs n e = sym (length-map cs client_of) ∙ ap length e ∙ length-replicate n W.Idle

pub idle_placed : (object : Object) (cs : List Client) (n : ℕ) → clients_of cs ≡ replicate n W.Idle → are_placed object (clients_of cs) ≡ true
idle_placed object cs n e = ap (are_placed object) e ∙ all_idle object n
