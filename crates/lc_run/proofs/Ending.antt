-- What is known of a run that is held, if it is finished.
use Rattle.std.proofs.Common.{◌≡◌, ℕ, ◌<◌, ◌≤◌, true, List, map, length, sym, ap, subst, ◌∙◌, arith}
use Rattle.std.specs.Prelude.{Vec, sum}
use Rattle.std.specs.declared.alloc.Global.{Global}
use Rattle.std.proofs.lemmas.List.{length-map}
use Rattle.std.proofs.Math.Logic.{∥∥₁_map}
use Rattle.std.specs.List.{list_all}
use Rattle.lc_base.specs.Limits.{seat_limit}
use Rattle.lc_seq.specs.TextStep.{text_step, start_of}
use Rattle.lc_history.specs.History as H
use Rattle.lc_history.specs.History.{Entry, Linearizes}
use Rattle.lc_history.specs.WellFormed.{IsWellFormed}
use Rattle.lc_machine.specs.World.{World}
use Rattle.lc_outline.specs.Development.{Development}
use Rattle.lc_outline.specs.Resolved.{IsResolved}
use Rattle.lc_outline.proofs.Resolving.{passed_is_resolved}
use Rattle.lc_sound.specs.Claims.{OrdersLinearize}
use Rattle.lc_sound.specs.Instrumented.{Label, IsRun, history}
use Rattle.lc_sound.specs.Order.{order}
use Rattle.lc_run.specs.Finished.{lists_in, AreOwn}
use Rattle.lc_run.specs.LabelView.{labels_of}
use Rattle.lc_run.specs.Locked.{development_held, clients_held, labels_held, world_held}
use Rattle.lc_run.specs.Ordering.{has_client, is_small}
use Rattle.lc_run.specs.declared.held.Shared.{Shared}
use Rattle.lc_run.specs.declared.label.Label as code
use Rattle.lc_run.proofs.Together.{sum_of_lengths}
use Rattle.lc_run.proofs.Turns.{held-well-formed, held-clients, held-small, held-linearizes}

module _ {J : Type 0} (s : Shared J) where
  few : clients_held s ≤ seat_limit
  few = let h = s.parts in omega arith

  is-resolved : IsResolved (development_held s)
  is-resolved = passed_is_resolved (development_held s) s.accepted.value.development.resolved

  pub in-turn : IsWellFormed (history (labels_held s))
  in-turn = held-well-formed (development_held s) (clients_held s) (labels_held s) (world_held s) few s.run

  pub clients-are : list_all (has_client (clients_held s)) (labels_held s) ≡ true
  clients-are = held-clients (development_held s) (clients_held s) (labels_held s) (world_held s) s.run

  pub small-are : OrdersLinearize → list_all is_small (order (labels_held s)) ≡ true
  small-are law = held-small (development_held s) (clients_held s) (labels_held s) (world_held s) few law is-resolved s.run

  -- its run, and its order
  pub its-run : (D : Development) (n : ℕ) (ls : List Label) → development_held s ≡ D → clients_held s ≡ n → labels_held s ≡ ls → ∥ ((w : World) × IsRun D n ls w) ∥₁
  its-run D n ls a b c =
      ∥∥₁_map s.run (λ r. (world_held s, subst (λ x. IsRun x n ls (world_held s)) a (subst (λ k. IsRun (development_held s) k ls (world_held s)) b (subst (λ xs. IsRun (development_held s) (clients_held s) xs (world_held s)) c r))))

  pub its-order : OrdersLinearize → (D : Development) (ls : List Label) (h : List H.Event) (es : List Entry) → development_held s ≡ D → labels_held s ≡ ls → h ≡ history ls → es ≡ order ls →
      ∥ Linearizes (text_step D.specification.operations) (start_of D.specification.columns) h es ∥₁
  its-order law D ls h es a b hs os =
      let mine = held-linearizes (development_held s) (clients_held s) (labels_held s) (world_held s) law is-resolved s.run in
      subst (λ x. ∥ Linearizes (text_step x.specification.operations) (start_of x.specification.columns) h es ∥₁) a
      (subst (λ ys. ∥ Linearizes (text_step (development_held s).specification.operations) (start_of (development_held s).specification.columns) h ys ∥₁) (ap order b ∙ sym os)
      (subst (λ ys. ∥ Linearizes (text_step (development_held s).specification.operations) (start_of (development_held s).specification.columns) ys (order (labels_held s)) ∥₁) (ap history b ∙ sym hs) mine))

  -- its labels are those of all lists together
  pub all-gathered : (lists : List (Vec code.Label Global)) → length lists ≡ clients_held s → AreOwn (labels_held s) (clients_held s) lists → sum (map length (lists_in lists)) ≡ length (labels_held s)
  all-gathered lists count own =
      let n = length-map lists (λ (v : Vec code.Label Global). labels_of v.items) ∙ count in
      sum_of_lengths (lists_in lists) (labels_held s) (subst (λ k. list_all (has_client k) (labels_held s) ≡ true) (sym n) clients-are) (λ c h. own c (subst (λ k. c < k) n h))
