-- Runs that are held, and one step more of them.
use Rattle.std.proofs.Common.{◌≡◌, ℕ, ◌<◌, List, [], ◌∷◌, ◌++◌, Some, length, sym, ap, subst, set, ◌∙◌, arith}
use Rattle.std.specs.Prelude.{slice_get}
use Rattle.std.proofs.Math.Logic.{∥∥₁_map}
use Rattle.std.proofs.lemmas.List.{map-append, map-set, length-map}
use Rattle.std.proofs.lemmas.Option.{slice_get_within}
use Rattle.lc_ride.specs.Drafts.{written_in_draft, saved_in_draft}
use Rattle.lc_ride.specs.declared.draft.Draft.{Draft}
use Rattle.lc_machine.specs.Step.{Event}
use Rattle.lc_machine.specs.View.{client_of, clients_of}
use Rattle.lc_machine.specs.World as W
use Rattle.lc_machine.specs.World.{World}
use Rattle.lc_machine.specs.declared.client.Client.{Client}
use Rattle.lc_outline.specs.Development.{Development}
use Rattle.lc_ride.specs.RideView.{marks_of}
use Rattle.lc_rider.specs.Rider.{Mark}
use Rattle.lc_sound.specs.Claims.{RunsExtend}
use Rattle.lc_sound.specs.Instrumented as S
use Rattle.lc_sound.specs.Instrumented.{Instrumented, IsRun, start_world}
use Rattle.lc_steps.specs.Stepping.{world_with}
use Rattle.lc_steps.specs.StepView.{what_of, world_in}
use Rattle.lc_steps.specs.declared.steps.Step.{Step}
use Rattle.lc_run.specs.LabelView.{label_of, labels_of}
use Rattle.lc_run.specs.declared.label.Label.{Label}

pub labels-more : (before after : List Label) (x : Label) → after ≡ before ++ x ∷ [] → labels_of after ≡ labels_of before ++ label_of x ∷ []
labels-more before after x e = ap labels_of e ∙ map-append label_of before (x ∷ [])

-- a run that is held, and one step more
pub runs-on : RunsExtend → (D : Development) (n : ℕ) (before after : List Label) (w v : World) (x : Label) (c : ℕ) (what : Event) (marks : List Mark) →
    after ≡ before ++ x ∷ [] → label_of x ≡ record { client = c; what = what; marks = marks } →
    ∥ IsRun D n (labels_of before) w ∥₁ → Instrumented D w c what marks v → ∥ IsRun D n (labels_of after) v ∥₁
runs-on extends D n before after w v x c what marks e is run step =
    let all : labels_of after ≡ labels_of before ++ record { client = c; what = what; marks = marks } ∷ [] = labels-more before after x e ∙ ap (λ (l : S.Label). labels_of before ++ l ∷ []) is in
    ∥∥₁_map run (λ r. subst (λ ls. IsRun D n ls v) (sym all) (extends D n (labels_of before) w v c what marks r step))

-- where nothing has run
pub start_is_run : (D : Development) (n : ℕ) (labels : List Label) (w : World) → labels ≡ [] → w ≡ start_world D n → ∥ IsRun D n (labels_of labels) w ∥₁
start_is_run D n labels w e is = ∣ subst (λ ls. IsRun D n (labels_of ls) w) (sym e) is ∣₁

-- ---- clients

-- a client that exists is one of them
pub client-below : (cs : List Client) (n c : ℕ) (k : W.Client) → length cs ≡ n → slice_get (clients_of cs) c ≡ Some k → c < n
client-below cs n c k count e = let h = slice_get_within (clients_of cs) c k e in let m = length-map cs client_of in omega arith

-- ---- a step that is kept

-- the label of a step
pub label-is : (l : Label) (c : ℕ) (t : Step) → l.client ≡ c → l.what ≡ t.what → l.marks ≡ t.marks → label_of l ≡ record { client = c; what = what_of t.what; marks = marks_of t.marks.items }
label-is l c t a b d = λ i. let s : S.Label = record { client = a i; what = what_of (b i); marks = marks_of (d i).items } in s

-- the world that it leads to, as it is held then
pub next-world : (draft draft' : Draft) (stands : List Client) (c : ℕ) (t : Step) (k : Client) → saved_in_draft draft' ≡ written_in_draft draft → k ≡ t.client →
    world_with (world_in draft stands) (written_in_draft draft) c (client_of t.client) ≡ world_in draft' (set stands c k)
next-world draft draft' stands c t k saved is =
    let clients : set (clients_of stands) c (client_of t.client) ≡ clients_of (set stands c k) = ap (λ z. set (clients_of stands) c (client_of z)) (sym is) ∙ sym (map-set client_of stands c k) in
    λ i. let u : World = record { columns = sym saved i; clients = clients i } in u

pub step_keeps_run : RunsExtend → (D : Development) (n : ℕ) (before after : List Label) (draft draft' : Draft) (stands : List Client) (l : Label) (c : ℕ) (t : Step) (k : Client) →
    after ≡ before ++ l ∷ [] → label_of l ≡ record { client = c; what = what_of t.what; marks = marks_of t.marks.items } → saved_in_draft draft' ≡ written_in_draft draft → k ≡ t.client →
    ∥ IsRun D n (labels_of before) (world_in draft stands) ∥₁ →
    Instrumented D (world_in draft stands) c (what_of t.what) (marks_of t.marks.items) (world_with (world_in draft stands) (written_in_draft draft) c (client_of t.client)) →
    ∥ IsRun D n (labels_of after) (world_in draft' (set stands c k)) ∥₁
step_keeps_run extends D n before after draft draft' stands l c t k items is saved same run step =
    runs-on extends D n before after (world_in draft stands) (world_in draft' (set stands c k)) l c (what_of t.what) (marks_of t.marks.items) items is run
    (subst (λ v. Instrumented D (world_in draft stands) c (what_of t.what) (marks_of t.marks.items) v) (next-world draft draft' stands c t k saved same) step)

-- a list, followed by the label of a step
pub labels-grow : (before after : List Label) (l : Label) (s : S.Label) → after ≡ before ++ l ∷ [] → label_of l ≡ s → labels_of after ≡ labels_of before ++ s ∷ []
labels-grow before after l s items is = labels-more before after l items ∙ ap (λ (x : S.Label). labels_of before ++ x ∷ []) is
