-- A run has one end.
use Rattle.std.proofs.Common.{◌≡◌, ℕ, zero, suc, ◌+◌, List, [], ◌∷◌, Option, Some, None, refl, sym, ap, ◌∙◌, subst}
use Rattle.ob_items.specs.Bodies.{closure_of}
use Rattle.ob_items.specs.declared.item.Closure.{Closure as Kept}
use Rattle.ob_items.specs.declared.value.Ref.{Ref}
use Rattle.ob_items.specs.declared.value.Value.{Value}
use Rattle.ob_items.specs.declared.value.Value.TheVariants as V
use Rattle.ob_values.specs.Store.{read_item}
use Rattle.ob_actions.specs.Act.{Out, Go, Threw, Refused, then_with}
use Rattle.ob_actions.specs.Calls.{Callee, invoke, pull}
use Rattle.ob_actions.specs.Core.{Core}
use Rattle.ob_actions.specs.Meters.{takes_step}
use Rattle.ob_actions.specs.Requests.{Request, Closure, Prelude, Resume, Reply, Plan, Ends, Asks}
use Rattle.ob_actions.specs.World.{World}
use Rattle.ob_code.specs.Code.{Code}
use Rattle.ob_code.specs.Codes.{Numbered}
use Rattle.ob_code.specs.Configs.{Here, Frame, Frames, frame_at, Own, Config, Running, Done, Paused, Stuck, with_frames}
use Rattle.ob_code.specs.Ends.{IsFinal, ComesToOne, CallsComeToOne, RunsEndAtOne}
use Rattle.ob_code.specs.Leaves.{given}
use Rattle.ob_code.specs.Runs.{Program, program_of, Returns, Pauses, RunsCode, RunsClosure, GoesOn, Resumes, CarriesOut, After, calls_to, prelude_here, replied, with_callers}
use Rattle.ob_code.specs.Steps.{Calls, Carries, pulled, called, each, acts, Steps, Leads, at, goes}
use Rattle.ob_code.specs.declared.chunk.Chunk.{Chunk}
use Rattle.ob_code.specs.declared.entry.Entry.{Entry}
use Rattle.ob_code.specs.declared.entry.Entry.TheVariants as entry
use Rattle.ob_code.specs.declared.op.Op.{Op}
use Rattle.ob_code.specs.declared.op.Op.TheVariants as op

carries_same : {A : Type 0} (calls : Calls) → ComesToOne calls → (plan : Plan A) (fs : Frames) (p q : Out Core A) (gs hs : Frames) → Carries calls plan fs p gs → Carries calls plan fs q hs → (p ≡ q) × (gs ≡ hs)
carries_same calls only (Ends o) fs p q gs hs h k = (h.0 ∙ sym k.0, h.1 ∙ sym k.1)
carries_same calls only (Asks request s j) fs p q gs hs h k =
    let e : (h.0 ≡ k.0) × (gs ≡ hs) = only request s fs h.0 k.0 gs hs h.1 k.1 in
    (h.2 ∙ ap (λ o. then_with o j) e.0 ∙ sym k.2, e.1)

-- a configuration that an outcome and its frames determine
both : {A : Type 0} (conf : Out Core A → Frames → Config) (p q : Out Core A) (gs hs : Frames) (c d : Config) → (p ≡ q) × (gs ≡ hs) → c ≡ conf p gs → d ≡ conf q hs → c ≡ d
both conf p q gs hs c d e h k = h ∙ ap (λ o. conf o gs) e.0 ∙ ap (conf q) e.1 ∙ sym k

module _ (world : World) (calls : Calls) (only : ComesToOne calls) (chunk : Chunk) (code : Code) (here : Here) where
  called_same : (x : Option (Callee × List Value × List Value)) (pc : ℕ) (es : List Entry) (s : Core) (o : Own) (c d : Config) → called world calls chunk code here x pc es s o c → called world calls chunk code here x pc es s o d → c ≡ d
  called_same None pc es s o c d h k = h ∙ sym k
  called_same (Some x) pc es s o c d h k =
      both (λ out frames. given world out es (with_frames frames o) (λ v t. Running (pc + 1) (v ∷ x.2) es t (with_frames frames o)))
      h.0 k.0 h.1 k.1 c d (carries_same calls only (invoke world x.0 x.1 s) o.frames h.0 k.0 h.1 k.1 h.2 k.2) h.3 k.3

  each_same : (es : List Entry) (pc : ℕ) (st : List Value) (s : Core) (o : Own) (c d : Config) → each world calls chunk code here es pc st s o c → each world calls chunk code here es pc st s o d → c ≡ d
  each_same (entry.Pulls out again r ∷ es) pc st s o c d h k =
      both (λ reply frames. given world reply es (with_frames frames o) (pulled out again r pc st es (with_frames frames o)))
      h.0 k.0 h.1 k.1 c d (carries_same calls only (pull world r V.Undefined s) o.frames h.0 k.0 h.1 k.1 h.2 k.2) h.3 k.3
  each_same [] pc st s o c d h k = h ∙ sym k
  each_same (entry.Elements out again r i ∷ es) pc st s o c d h k = h ∙ sym k
  each_same (entry.Handler a ∷ es) pc st s o c d h k = h ∙ sym k
  each_same (entry.Turn a b ∷ es) pc st s o c d h k = h ∙ sym k
  each_same (entry.Last a ∷ es) pc st s o c d h k = h ∙ sym k
  each_same (entry.After l ∷ es) pc st s o c d h k = h ∙ sym k

  acts_same : (i : Option Op) (pc : ℕ) (st : List Value) (es : List Entry) (s : Core) (o : Own) (c d : Config) → acts world calls chunk code here i pc st es s o c → acts world calls chunk code here i pc st es s o d → c ≡ d
  acts_same None pc st es s o c d h k = h ∙ sym k
  acts_same (Some (op.Call n)) pc st es s o c d h k = called_same _ pc es s o c d h k
  acts_same (Some op.Each) pc st es s o c d h k = each_same es pc st s o c d h k
  acts_same (Some i) pc st es s o c d h k = h ∙ sym k

  steps_same : (a c d : Config) → Steps world calls chunk code here a c → Steps world calls chunk code here a d → c ≡ d
  steps_same (Running pc st es s o) c d h k = acts_same _ pc st es s o c d h k
  steps_same (Done out fs) c d h k = absurd h
  steps_same (Paused v pc es s o) c d h k = absurd h
  steps_same Stuck c d h k = absurd h

  no_step : (a b : Config) → IsFinal a → Steps world calls chunk code here a b → ⊥
  no_step (Running pc st es s o) b f h = f
  no_step (Done out fs) b f h = h
  no_step (Paused v pc es s o) b f h = h
  no_step Stuck b f h = h

  leads_same : {a c d : Config} → IsFinal c → IsFinal d → Leads world calls chunk code here a c → Leads world calls chunk code here a d → c ≡ d
  leads_same f g at at = refl
  leads_same {a = a} f g at (goes {b = b} s l) = absurd (no_step a b f s)
  leads_same {a = a} f g (goes {b = b} s l) at = absurd (no_step a b g s)
  leads_same {a = a} {d = d} f g (goes {b = b} s l) (goes {b = e} t k) =
      leads_same f g l (subst (λ x. Leads world calls chunk code here x d) (steps_same a e b t s) k)

-- ---- calls

returns_final : (c : Config) (out : Out Core Value) (gs : Frames) → Returns c out gs → IsFinal c
returns_final (Running pc st es s o) out gs h = h
returns_final (Done p fs) out gs h = tt
returns_final (Paused v pc es s o) out gs h = tt
returns_final Stuck out gs h = tt

returns_same : (c : Config) (p q : Out Core Value) (gs hs : Frames) → Returns c p gs → Returns c q hs → (p ≡ q) × (gs ≡ hs)
returns_same (Running pc st es s o) p q gs hs h k = absurd h
returns_same (Done out fs) p q gs hs h k = (h.0 ∙ sym k.0, h.1 ∙ sym k.1)
returns_same (Paused v pc es s o) p q gs hs h k = (h.0 ∙ sym k.0, h.1 ∙ sym k.1)
returns_same Stuck p q gs hs h k = absurd h

module _ (here : Here) (r : Ref) (locals : List (Option Value)) where
  pauses_final : (c : Config) (p : Out Core Reply) (gs : Frames) → Pauses here r locals c p gs → IsFinal c
  pauses_final (Running pc st es s o) p gs h = h
  pauses_final (Done out fs) p gs h = tt
  pauses_final (Paused v pc es s o) p gs h = tt
  pauses_final Stuck p gs h = tt

  pauses_same : (c : Config) (p q : Out Core Reply) (gs hs : Frames) → Pauses here r locals c p gs → Pauses here r locals c q hs → (p ≡ q) × (gs ≡ hs)
  pauses_same (Running pc st es s o) p q gs hs h k = absurd h
  pauses_same (Done out fs) p q gs hs h k = (h.0 ∙ sym k.0, h.1 ∙ sym k.1)
  pauses_same (Paused v pc es s o) p q gs hs h k = (h.0 ∙ sym k.0, h.1 ∙ sym k.1)
  pauses_same Stuck p q gs hs h k = absurd h

module _ (world : World) (codes : Numbered) (calls : Calls) (only : ComesToOne calls) where
  runs_code_same : (here : Here) (x : Option Program) (args : List Value) (boxes : List Ref) (s : Core) (fs : Frames) (p q : Out Core Reply) (gs hs : Frames) → RunsCode world codes calls here x args boxes s fs p gs → RunsCode world codes calls here x args boxes s fs q hs → (p ≡ q) × (gs ≡ hs)
  runs_code_same here None args boxes s fs p q gs hs h k = (h.0 ∙ sym k.0, h.1 ∙ sym k.1)
  runs_code_same here (Some x) args boxes s fs p q gs hs h k =
      let e : h.0 ≡ k.0 = leads_same world calls only x.chunk x.code here (returns_final h.0 h.2 gs h.3) (returns_final k.0 k.2 hs k.3) h.1 k.1 in
      let o : (h.2 ≡ k.2) × (gs ≡ hs) = returns_same k.0 h.2 k.2 gs hs (subst (λ c. Returns c h.2 gs) e h.3) k.3 in
      (h.4 ∙ ap (λ out. with_callers s.locals (replied out)) o.0 ∙ sym k.4, o.1)

  goes_on_same : (r : Ref) (v : Value) (f : Frame) (x : Option Program) (s : Core) (fs : Frames) (p q : Out Core Reply) (gs hs : Frames) → GoesOn world codes calls r v f x s fs p gs → GoesOn world codes calls r v f x s fs q hs → (p ≡ q) × (gs ≡ hs)
  goes_on_same r v f None s fs p q gs hs h k = (h.0 ∙ sym k.0, h.1 ∙ sym k.1)
  goes_on_same r v f (Some x) s fs p q gs hs h k =
      let e : h.0 ≡ k.0 =
      leads_same world calls only x.chunk x.code f.here (pauses_final f.here r s.locals h.0 p gs h.2) (pauses_final f.here r s.locals k.0 q hs k.2) h.1 k.1 in
      pauses_same f.here r s.locals k.0 p q gs hs (subst (λ c. Pauses f.here r s.locals c p gs) e h.2) k.2

  resumes_same : (r : Ref) (v : Value) (f : Option Frame) (s : Core) (fs : Frames) (p q : Out Core Reply) (gs hs : Frames) → Resumes world codes calls r v f s fs p gs → Resumes world codes calls r v f s fs q hs → (p ≡ q) × (gs ≡ hs)
  resumes_same r v None s fs p q gs hs h k = (h.0 ∙ sym k.0, h.1 ∙ sym k.1)
  resumes_same r v (Some f) s fs p q gs hs h k = goes_on_same r v f (program_of codes f.here.key) s fs p q gs hs h k

  closure_same : (c : Option Kept) (args : List Value) (s : Core) (fs : Frames) (p q : Out Core Reply) (gs hs : Frames) → RunsClosure world codes calls c args s fs p gs → RunsClosure world codes calls c args s fs q hs → (p ≡ q) × (gs ≡ hs)
  closure_same None args s fs p q gs hs h k = (h.0 ∙ sym k.0, h.1 ∙ sym k.1)
  closure_same (Some c) args s fs p q gs hs h k = runs_code_same _ (program_of codes c.code) args c.boxes s fs p q gs hs h k

  carries_out_same : ComesToOne (CarriesOut world codes calls)
  carries_out_same (Closure r args) s fs p q gs hs h k = closure_same (read_item closure_of s.store r) args s fs p q gs hs h k
  carries_out_same (Prelude text args) s fs p q gs hs h k =
      runs_code_same (prelude_here world text) (program_of codes (prelude_here world text).key) args [] s fs p q gs hs h k
  carries_out_same (Resume r v) s fs p q gs hs h k = resumes_same r v (frame_at fs r) s fs p q gs hs h k

  after_same : (o : Out Core (Unit {0})) (request : Request) (fs : Frames) (p q : Out Core Reply) (gs hs : Frames) → After world codes o (λ t. CarriesOut world codes calls request t fs) fs p gs → After world codes o (λ t. CarriesOut world codes calls request t fs) fs q hs → (p ≡ q) × (gs ≡ hs)
  after_same (Go _ s) request fs p q gs hs h k = carries_out_same request s fs p q gs hs h k
  after_same (Threw v s) request fs p q gs hs h k = (h.0 ∙ sym k.0, h.1 ∙ sym k.1)
  after_same (Refused l s) request fs p q gs hs h k = (h.0 ∙ sym k.0, h.1 ∙ sym k.1)

pub calls_same : CallsComeToOne
calls_same world codes zero request s fs p q gs hs h k = (h.0 ∙ sym k.0, h.1 ∙ sym k.1)
calls_same world codes (suc depth) request s fs p q gs hs h k =
    after_same world codes (calls_to world codes depth) (calls_same world codes depth) (takes_step world s) request fs p q gs hs h k

pub runs_same : RunsEndAtOne
runs_same world codes depth chunk code here a c d f g l k =
    leads_same world (calls_to world codes depth) (calls_same world codes depth) chunk code here f g l k
