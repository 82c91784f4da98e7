-- Code that keeps the rules is never stuck.
use Rattle.std.proofs.Common.{◌≡◌, ◌≢◌, ℕ, zero, suc, ◌+◌, ◌-◌, ◌<◌, ◌≤◌, Bool, true, false, ◌&&◌, List, [], ◌∷◌, length, Option, Some, None, slice_get, refl, sym, ◌∙◌, subst, arith, nat_le, nat_lt, codes, if◌then◌else◌}
use Rattle.std.specs.Option.{option_map_or}
use Rattle.std.proofs.lemmas.List.{length-append}
use Rattle.std.proofs.lemmas.Option.{same_Some, none-some}
use Rattle.ob_items.specs.declared.thrown.Thrown.TheVariants as T
use Rattle.ob_items.specs.declared.value.Ref.{Ref}
use Rattle.ob_items.specs.declared.value.Value.{Value}
use Rattle.ob_items.specs.declared.value.Value.TheVariants as V
use Rattle.ob_actions.specs.Act.{Out, Go, Threw, Refused}
use Rattle.ob_actions.specs.Core.{Core}
use Rattle.ob_actions.specs.Meters.{takes_step, throws}
use Rattle.ob_actions.specs.World.{World}
use Rattle.ob_code.specs.Code.{Code, Site, code_of, site_of, functions_of, boxes_for_each, function_at}
use Rattle.ob_code.specs.Configs.{Here, Frames, Own, Config, Running, Done, Paused, Stuck}
use Rattle.ob_code.specs.Effects.{effect_of}
use Rattle.ob_code.specs.Fits.{IsOpenedBy, IsEntryOf, StandFor, Fits}
use Rattle.ob_code.specs.Instructions.{act, gathered, callee_of}
use Rattle.ob_code.specs.Shapes.{Shapes, shape_at, opener, locals_kept, boxes_kept, with_operands, with_locals}
use Rattle.ob_code.specs.There.{is_there}
use Rattle.ob_code.specs.Ways.{ways_by, is_empty, is_nothing, is_in, is_over, next}
use Rattle.ob_code.specs.declared.chunk.Chunk.{Chunk, out-Chunk}
use Rattle.ob_code.specs.declared.entry.Entry.{Entry}
use Rattle.ob_code.specs.declared.entry.Entry.TheVariants as entry
use Rattle.ob_code.specs.declared.entry.Leaving.TheVariants as leaving
use Rattle.ob_code.specs.declared.op.Op.{Op}
use Rattle.ob_code.specs.declared.op.Op.TheVariants as op
use Rattle.ob_code.specs.declared.shape.Open.TheVariants as open_at
use Rattle.ob_code.specs.declared.shape.Shape.{Shape}
use Rattle.ob_code.proofs.Lands.{has_of, so_parts, Looping, elements_looping, pulls_looping, land, Needs, outer, given_fits}
use Rattle.ob_code.proofs.Locals.{Left, LeftPlan, invoke_left, pull_left, then_after, step_left, throws_left}
use Rattle.ob_code.proofs.Tables.{Covered, AllCovered, both_parts, is_le, is_lt, is_eq}
use Rattle.ob_code.proofs.Plain.{found, tested_parts}
use Rattle.ob_code.proofs.Plain as plain
use Rattle.ob_code.proofs.Plain.{IsPlain, gathered_there}
use Rattle.ob_code.proofs.Controls as controls
use Rattle.ob_code.proofs.Closing as closing
use Rattle.ob_actions.specs.Calls.{invoke, pull}
use Rattle.ob_actions.specs.Requests.{Request, Closure, Prelude, Resume, Reply, Plan, Ends, Asks}
use Rattle.ob_code.specs.Codes.{Numbered}
use Rattle.ob_code.specs.Configs.{with_frames}
use Rattle.ob_code.specs.Runs.{entered, entry_boxes, Program, program_of, Pauses, RunsCode, RunsClosure, GoesOn, Resumes, CarriesOut, After, calls_to, prelude_here, replied, with_callers, ended}
use Rattle.ob_code.specs.Steps.{Calls, Carries, callee_below, callee_in, elements_in, element, called, each, acts, Steps}
use Rattle.ob_code.specs.Rules.{Walk, Keeps, Breaks, break_of, walk_function, break_in, break_in_inner, break_in_functions, spot_in, or_else, first_shape, KeepsRules}
use Rattle.ob_code.specs.Fits.{AreLocals, Finds, BeginsWell, boxes_at_entry, site_at, shapes_in, shapes_of, RulesSuffice}
use Rattle.ob_code.specs.declared.spot.Spot.{Spot}
use Rattle.ob_code.proofs.Walks.{sound}
use Rattle.ob_items.specs.Bodies.{closure_of}
use Rattle.ob_items.specs.declared.item.Closure.{Closure as KeptFunction}
use Rattle.ob_values.specs.Store.{read_item}
use Rattle.ob_code.specs.Configs.{Frame, frame_at}
use Rattle.ob_actions.specs.Core.{with_locals as core_locals}
use Rattle.ob_code.proofs.Walks.{IsSound, there}

-- the instructions that go no call deeper
abbrev NoCall : Op → Type 0
NoCall (op.Call k) = ⊥
NoCall op.Each = ⊥
NoCall _ = Unit {0}

-- what a request leaves
abbrev HasLocals : ℕ → Out Core Reply → Type 0
HasLocals n o = Left n o

LeaveLocals : Calls → Type 0
LeaveLocals calls = (request : Request) (s : Core) (fs : Frames) (p : Out Core Reply) (gs : Frames) → calls request s fs p gs → HasLocals (length s.locals) p

carried : {A : Type 0} (calls : Calls) → LeaveLocals calls → (n : ℕ) (plan : Plan A) (fs : Frames) (p : Out Core A) (gs : Frames) → LeftPlan n plan → Carries calls plan fs p gs → Left n p
unfolding LeaveLocals
carried calls keep n (Ends o) fs p gs h c = subst (λ x. Left n x) (sym c.0) h
carried calls keep n (Asks request s k) fs p gs h c =
    subst (λ x. Left n x) (sym c.2) (then_after n c.0 k (subst (λ m. Left m c.0) h.0 (keep request s fs c.0 gs c.1)) h.1)

long_entry : (nowhere : Ref) (k : ℕ) (bs : List Ref) → length (entry_boxes nowhere k bs) ≡ k
long_entry nowhere zero bs = refl
long_entry nowhere (suc k) [] = omega (arith, long_entry nowhere k [], length-append (entry_boxes nowhere k []) (nowhere ∷ []))
long_entry nowhere (suc k) (r ∷ bs) = omega (arith, long_entry nowhere k bs, length-append (entry_boxes nowhere k bs) (r ∷ []))

none_some_op : {i : Op} → None ≡ Some i → ⊥
none_some_op {i} h = none-some i h

-- only a loop over something has entries of that
abbrev NoOver : Entry → Type 0
NoOver (entry.Elements a b r i) = ⊥
NoOver (entry.Pulls a b r) = ⊥
NoOver _ = Unit {0}

over_parts : (i : Op) → is_over i ≡ true → (out : ℕ) × (again : ℕ) × (i ≡ op.Over out again)
over_parts (op.Over out again) h = (out, again, refl)
over_parts _ h = cc

not_by_over : (out again p : ℕ) (x : Entry) → NoOver x → IsOpenedBy (Some (op.Over out again)) p x → ⊥
not_by_over out again p (entry.Handler a) h g = g
not_by_over out again p (entry.Turn a b) h g = g
not_by_over out again p (entry.Last a) h g = g
not_by_over out again p (entry.After l) h g = g
not_by_over out again p (entry.Elements a b r i) h g = h
not_by_over out again p (entry.Pulls a b r) h g = h

not_over : (i : Op) → is_over i ≡ true → (p : ℕ) (x : Entry) → NoOver x → IsOpenedBy (Some i) p x → ⊥
not_over i h p x other g = let q = over_parts i h in not_by_over q.0 q.1 p x other (subst (λ y. IsOpenedBy (Some y) p x) q.2 g)

module _ (world : World) (chunk f : Chunk) (boxes : ℕ) (here : Here) (final : Shapes) (sound : IsSound (site_of (boxes_for_each (functions_of chunk)) boxes f) final) where
  abbrev site : Site
  site = site_of (boxes_for_each (functions_of chunk)) boxes f

  abbrev code : Code
  code = code_of f

  abbrev FitsHere : Config → Type 0
  FitsHere c = Fits site.ops final c

  module _ (pc : ℕ) (t : Shape) (known : shape_at final pc ≡ Some t) (s : Core) (o : Own) (enough : t.locals ≤ length s.locals) (boxed : t.boxes ≤ length o.boxes) where
    abbrev n : ℕ
    n = length s.locals

    act_fits : (i : Op) (es : List Entry) → StandFor site.ops final t.inside es → (st : List Value) → slice_get site.ops pc ≡ Some i → length st ≡ t.operands → NoCall i → FitsHere (act world chunk code here i pc st es s o)
    act_fits op.Undefined es stand st at e ne = plain.plain_fits world chunk f boxes here final sound pc t known es s o stand enough boxed op.Undefined st at e tt
    act_fits op.Null es stand st at e ne = plain.plain_fits world chunk f boxes here final sound pc t known es s o stand enough boxed op.Null st at e tt
    act_fits (op.Bool b) es stand st at e ne = plain.plain_fits world chunk f boxes here final sound pc t known es s o stand enough boxed (op.Bool b) st at e tt
    act_fits (op.Int k) es stand st at e ne = plain.plain_fits world chunk f boxes here final sound pc t known es s o stand enough boxed (op.Int k) st at e tt
    act_fits (op.Builtin k) es stand st at e ne = plain.plain_fits world chunk f boxes here final sound pc t known es s o stand enough boxed (op.Builtin k) st at e tt
    act_fits (op.Text k) es stand st at e ne = plain.plain_fits world chunk f boxes here final sound pc t known es s o stand enough boxed (op.Text k) st at e tt
    act_fits (op.GetLocal k) es stand st at e ne = plain.plain_fits world chunk f boxes here final sound pc t known es s o stand enough boxed (op.GetLocal k) st at e tt
    act_fits (op.GetBox k) es stand st at e ne = plain.plain_fits world chunk f boxes here final sound pc t known es s o stand enough boxed (op.GetBox k) st at e tt
    act_fits (op.SetLocal k) es stand st at e ne = plain.plain_fits world chunk f boxes here final sound pc t known es s o stand enough boxed (op.SetLocal k) st at e tt
    act_fits (op.SetBox k) es stand st at e ne = plain.plain_fits world chunk f boxes here final sound pc t known es s o stand enough boxed (op.SetBox k) st at e tt
    act_fits (op.InitLocal k) es stand st at e ne = plain.plain_fits world chunk f boxes here final sound pc t known es s o stand enough boxed (op.InitLocal k) st at e tt
    act_fits (op.InitBox k) es stand st at e ne = plain.plain_fits world chunk f boxes here final sound pc t known es s o stand enough boxed (op.InitBox k) st at e tt
    act_fits (op.Argument k) es stand st at e ne = plain.plain_fits world chunk f boxes here final sound pc t known es s o stand enough boxed (op.Argument k) st at e tt
    act_fits (op.Input k) es stand st at e ne = plain.plain_fits world chunk f boxes here final sound pc t known es s o stand enough boxed (op.Input k) st at e tt
    act_fits (op.Unary u) es stand st at e ne = plain.plain_fits world chunk f boxes here final sound pc t known es s o stand enough boxed (op.Unary u) st at e tt
    act_fits (op.Binary u) es stand st at e ne = plain.plain_fits world chunk f boxes here final sound pc t known es s o stand enough boxed (op.Binary u) st at e tt
    act_fits (op.Compare u) es stand st at e ne = plain.plain_fits world chunk f boxes here final sound pc t known es s o stand enough boxed (op.Compare u) st at e tt
    act_fits (op.OneMore u) es stand st at e ne = plain.plain_fits world chunk f boxes here final sound pc t known es s o stand enough boxed (op.OneMore u) st at e tt
    act_fits op.Drop es stand st at e ne = plain.plain_fits world chunk f boxes here final sound pc t known es s o stand enough boxed op.Drop st at e tt
    act_fits op.Dup es stand st at e ne = plain.plain_fits world chunk f boxes here final sound pc t known es s o stand enough boxed op.Dup st at e tt
    act_fits op.DupTwo es stand st at e ne = plain.plain_fits world chunk f boxes here final sound pc t known es s o stand enough boxed op.DupTwo st at e tt
    act_fits op.Tuck es stand st at e ne = plain.plain_fits world chunk f boxes here final sound pc t known es s o stand enough boxed op.Tuck st at e tt
    act_fits op.TuckTwo es stand st at e ne = plain.plain_fits world chunk f boxes here final sound pc t known es s o stand enough boxed op.TuckTwo st at e tt
    act_fits op.Nip es stand st at e ne = plain.plain_fits world chunk f boxes here final sound pc t known es s o stand enough boxed op.Nip st at e tt
    act_fits op.NipTwo es stand st at e ne = plain.plain_fits world chunk f boxes here final sound pc t known es s o stand enough boxed op.NipTwo st at e tt
    act_fits (op.Member k) es stand st at e ne = plain.plain_fits world chunk f boxes here final sound pc t known es s o stand enough boxed (op.Member k) st at e tt
    act_fits op.Index es stand st at e ne = plain.plain_fits world chunk f boxes here final sound pc t known es s o stand enough boxed op.Index st at e tt
    act_fits (op.SetMember k) es stand st at e ne = plain.plain_fits world chunk f boxes here final sound pc t known es s o stand enough boxed (op.SetMember k) st at e tt
    act_fits op.SetIndex es stand st at e ne = plain.plain_fits world chunk f boxes here final sound pc t known es s o stand enough boxed op.SetIndex st at e tt
    act_fits (op.Method k) es stand st at e ne = plain.plain_fits world chunk f boxes here final sound pc t known es s o stand enough boxed (op.Method k) st at e tt
    act_fits (op.New k) es stand st at e ne = plain.plain_fits world chunk f boxes here final sound pc t known es s o stand enough boxed (op.New k) st at e tt
    act_fits (op.Array k) es stand st at e ne = plain.plain_fits world chunk f boxes here final sound pc t known es s o stand enough boxed (op.Array k) st at e tt
    act_fits op.Object es stand st at e ne = plain.plain_fits world chunk f boxes here final sound pc t known es s o stand enough boxed op.Object st at e tt
    act_fits (op.SetProp k) es stand st at e ne = plain.plain_fits world chunk f boxes here final sound pc t known es s o stand enough boxed (op.SetProp k) st at e tt
    act_fits op.Key es stand st at e ne = plain.plain_fits world chunk f boxes here final sound pc t known es s o stand enough boxed op.Key st at e tt
    act_fits op.SetKey es stand st at e ne = plain.plain_fits world chunk f boxes here final sound pc t known es s o stand enough boxed op.SetKey st at e tt
    act_fits (op.Closure k) es stand st at e ne = plain.plain_fits world chunk f boxes here final sound pc t known es s o stand enough boxed (op.Closure k) st at e tt
    act_fits (op.Change u) es stand st at e ne = plain.plain_fits world chunk f boxes here final sound pc t known es s o stand enough boxed (op.Change u) st at e tt
    act_fits op.Step es stand st at e ne = plain.plain_fits world chunk f boxes here final sound pc t known es s o stand enough boxed op.Step st at e tt
    act_fits (op.BinaryInt u k) es stand st at e ne = plain.plain_fits world chunk f boxes here final sound pc t known es s o stand enough boxed (op.BinaryInt u k) st at e tt
    act_fits (op.BinaryLocal u k) es stand st at e ne = plain.plain_fits world chunk f boxes here final sound pc t known es s o stand enough boxed (op.BinaryLocal u k) st at e tt
    act_fits (op.CompareInt u k) es stand st at e ne = plain.plain_fits world chunk f boxes here final sound pc t known es s o stand enough boxed (op.CompareInt u k) st at e tt
    act_fits (op.CompareLocal u k) es stand st at e ne = plain.plain_fits world chunk f boxes here final sound pc t known es s o stand enough boxed (op.CompareLocal u k) st at e tt
    act_fits (op.UpdateLocal u k) es stand st at e ne = plain.plain_fits world chunk f boxes here final sound pc t known es s o stand enough boxed (op.UpdateLocal u k) st at e tt
    act_fits (op.StoreLocal k) es stand st at e ne = plain.plain_fits world chunk f boxes here final sound pc t known es s o stand enough boxed (op.StoreLocal k) st at e tt
    act_fits op.Length es stand st at e ne = plain.plain_fits world chunk f boxes here final sound pc t known es s o stand enough boxed op.Length st at e tt
    act_fits op.Constant es stand st at e ne = controls.constant_fits world chunk f boxes here final sound pc t known s o enough boxed es stand st
    act_fits (op.Logic l k) es stand st at e ne = controls.logic_fits world chunk f boxes here final sound pc t known s o enough boxed es stand l k st at e
    act_fits (op.Arguments a b) es stand st at e ne = controls.arguments_fits world chunk f boxes here final sound pc t known s o enough boxed es stand a b st at e
    act_fits (op.Enter a b) es stand st at e ne = controls.enter_fits world chunk f boxes here final sound pc t known s o enough boxed es stand a b st at e
    act_fits (op.Boxes a b) es stand st at e ne = controls.boxes_fits world chunk f boxes here final sound pc t known s o enough boxed es stand a b st at e
    act_fits (op.Copy a b) es stand st at e ne = controls.copy_fits world chunk f boxes here final sound pc t known s o enough boxed es stand a b st at e
    act_fits (op.Keep a b) es stand st at e ne = controls.keep_fits world chunk f boxes here final sound pc t known s o enough boxed es stand a b st at e
    act_fits (op.SkipIfFalse k) es stand st at e ne = controls.skip_if_false_fits world chunk f boxes here final sound pc t known s o enough boxed es stand k st at e
    act_fits (op.Skip k) es stand st at e ne = controls.skip_fits world chunk f boxes here final sound pc t known s o enough boxed es stand k st at e
    act_fits (op.Loop a b) es stand st at e ne = controls.loop_fits world chunk f boxes here final sound pc t known s o enough boxed es stand a b st at e
    act_fits (op.Body a b c) es stand st at e ne = controls.body_fits world chunk f boxes here final sound pc t known s o enough boxed es stand a b c st at e
    act_fits (op.TurnIf k) es stand st at e ne = closing.turn_if_fits world chunk f boxes here final sound pc t known s o enough boxed k es st stand at e
    act_fits (op.Turn k) es stand st at e ne = controls.turn_back_fits world chunk f boxes here final sound pc t known s o enough boxed es stand k st at e
    act_fits op.Break es stand st at e ne = controls.left_fits world chunk f boxes here final sound pc t known s o enough boxed es stand leaving.Break
    act_fits op.Continue es stand st at e ne = controls.left_fits world chunk f boxes here final sound pc t known s o enough boxed es stand leaving.Continue
    act_fits op.Return es stand st at e ne = controls.return_fits world chunk f boxes here final sound pc t known s o enough boxed es stand st at e
    act_fits op.Throw es stand st at e ne = controls.throw_fits world chunk f boxes here final sound pc t known s o enough boxed es stand st at e
    act_fits (op.Try k) es stand st at e ne = controls.try_fits world chunk f boxes here final sound pc t known s o enough boxed es stand k st at e
    act_fits (op.EndTry k) es stand st at e ne = closing.end_try_fits world chunk f boxes here final sound pc t known s o enough boxed k es st stand at e
    act_fits (op.Last k) es stand st at e ne = controls.last_fits world chunk f boxes here final sound pc t known s o enough boxed es stand k st at e
    act_fits op.Finish es stand st at e ne = closing.finish_fits world chunk f boxes here final sound pc t known s o enough boxed es st stand at e
    act_fits op.EndLast es stand st at e ne = closing.end_last_fits world chunk f boxes here final sound pc t known s o enough boxed es st stand at e
    act_fits (op.Over a b) es stand st at e ne = controls.over_fits world chunk f boxes here final sound pc t known s o enough boxed es stand a b st at e
    act_fits op.Begin es stand st at e ne = controls.begin_fits world chunk f boxes here final sound pc t known s o enough boxed es stand st
    act_fits op.Yield es stand st at e ne = controls.yield_fits world chunk f boxes here final sound pc t known s o enough boxed es stand st at e
    act_fits (op.SkipUnless q k) es stand st at e ne = controls.skip_unless_fits world chunk f boxes here final sound pc t known s o enough boxed es stand q k st at e
    act_fits (op.SkipUnlessInt q m k) es stand st at e ne = controls.skip_unless_int_fits world chunk f boxes here final sound pc t known s o enough boxed es stand q m k st at e
    act_fits (op.TurnWhile q k) es stand st at e ne = closing.turn_while_fits world chunk f boxes here final sound pc t known s o enough boxed q k es st stand at e
    act_fits (op.TurnWhileInt q i m k) es stand st at e ne = closing.turn_while_int_fits world chunk f boxes here final sound pc t known s o enough boxed q i m k es st stand at e
    act_fits (op.TurnWhileLocal q i j k) es stand st at e ne = closing.turn_while_local_fits world chunk f boxes here final sound pc t known s o enough boxed q i j k es st stand at e
    act_fits (op.Call k) es stand st at e ne = absurd ne
    act_fits op.Each es stand st at e ne = absurd ne

    module _ (calls : Calls) (keep : LeaveLocals calls) where
      -- ---- calls

      call_plain : (k : ℕ) → slice_get site.ops pc ≡ Some (op.Call k) → (k + 2 ≤ t.operands) × Covered final (pc + 1) (with_operands (t.operands - (k + 2) + 1) t)
      call_plain k at =
          let fine = sound.fine pc (op.Call k) t at known in
          let w = so_parts (nat_le (k + 2) t.operands && nat_le (t.operands - (k + 2) + 1) site.operands) (next pc (with_operands (t.operands - (k + 2) + 1) t)) fine.ways fine.led in
          let p = both_parts (nat_le (k + 2) t.operands) (nat_le (t.operands - (k + 2) + 1) site.operands) w.0 in
          (is_le (k + 2) t.operands p.0, subst (AllCovered final) (sym w.1) fine.covered)

      needs_with : (es : List Entry) → StandFor site.ops final t.inside es → (fs : Frames) → Needs site final sound world t.inside es n (with_frames fs o)
      needs_with es stand fs = outer site final sound world pc n t es (with_frames fs o) known enough boxed stand

      called_at : (es : List Entry) → StandFor site.ops final t.inside es → (k : ℕ) → slice_get site.ops pc ≡ Some (op.Call k) → (args rest : List Value) → length rest + k ≡ t.operands → (d : Config)
          → called world calls chunk code here (callee_below args rest) pc es s o d → FitsHere d
      called_at es stand k at args [] len d h = absurd (omega (arith, len, (call_plain k at).0))
      called_at es stand k at args (v ∷ []) len d h = absurd (omega (arith, len, (call_plain k at).0))
      called_at es stand k at args (v ∷ receiver ∷ st) len d h =
          let p = call_plain k at in
          subst FitsHere (sym h.3)
          (given_fits site final sound world n h.0 t.inside es (with_frames h.1 o) _ (carried calls keep n (invoke world (callee_of receiver v) args s) o.frames h.0 h.1 ((invoke_left n world (callee_of receiver v) args).runs s refl) h.2) (needs_with es stand h.1) (λ w u g.
          land site final sound (pc + 1) (with_operands (t.operands - (k + 2) + 1) t) (w ∷ st) es u (with_frames h.1 o) p.1
          (record { operands = omega (arith, len, p.0); stand = stand; locals = subst (λ m. t.locals ≤ m) (sym g) enough; boxes = boxed })))

      called_fits : (es : List Entry) → StandFor site.ops final t.inside es → (k : ℕ) → slice_get site.ops pc ≡ Some (op.Call k) → (st : List Value) → length st ≡ t.operands → (d : Config)
          → called world calls chunk code here (callee_in (gathered k st [])) pc es s o d → FitsHere d
      called_fits es stand k at st len d h =
          let g = gathered_there k st [] (omega (arith, len, (call_plain k at).0)) in
          called_at es stand k at (g.0).0 (g.0).1 (omega (arith, g.2, len)) d
          (subst (λ x. called world calls chunk code here (callee_in x) pc es s o d) g.1 h)

      -- ---- the next element of a loop

      each_parts : slice_get site.ops pc ≡ Some op.Each → (t.operands ≡ 0) × (is_in site.ops is_over t.inside ≡ true) × Covered final (pc + 1) (with_operands 1 t)
      each_parts at =
          let c = controls.control world chunk f boxes here final sound pc t known op.Each at refl in
          let w = so_parts (is_empty t && is_in site.ops is_over t.inside) (next pc (with_operands 1 t)) c.ways c.led in
          let p = both_parts (is_empty t) (is_in site.ops is_over t.inside) w.0 in
          (is_eq t.operands 0 p.0, p.1, subst (AllCovered final) (sym w.1) c.covered)

      pushes : (x : Entry) (es : List Entry) → StandFor site.ops final t.inside (x ∷ es) → slice_get site.ops pc ≡ Some op.Each → (v : Value) (st : List Value) (u : Core) (fs : Frames) → length st ≡ t.operands → length u.locals ≡ n
          → FitsHere (Running (pc + 1) (v ∷ st) (x ∷ es) u (with_frames fs o))
      pushes x es stand at v st u fs len h =
          let p = each_parts at in
          land site final sound (pc + 1) (with_operands 1 t) (v ∷ st) (x ∷ es) u (with_frames fs o) p.2
          (record { operands = omega (arith, len, p.0); stand = stand; locals = subst (λ m. t.locals ≤ m) (sym h) enough; boxes = boxed })

      -- where the loop is left
      leaves_loop : (p a b : ℕ) (u : Shape) (es : List Entry) (st : List Value) (c : Core) (fs : Frames) → opener final (open_at.In p) ≡ Some u → Looping site final sound p a b u → StandFor site.ops final u.inside es
          → u.locals ≤ n → u.boxes ≤ length o.boxes → length st ≡ 0 → length c.locals ≡ n → FitsHere (Running a st es c (with_frames fs o))
      leaves_loop p a b u es st c fs h loop stand l x len g =
          land site final sound a (with_operands 0 u) st es c (with_frames fs o) loop.out (record { operands = len; stand = stand; locals = subst (λ m. u.locals ≤ m) (sym g) l; boxes = x })

      element_fits : (v : Option Value) (a b : ℕ) (r : Ref) (i : ℕ) (es : List Entry) (st : List Value) → slice_get site.ops pc ≡ Some op.Each → length st ≡ t.operands
          → StandFor site.ops final t.inside (entry.Elements a b r i ∷ es) → (p : ℕ) → t.inside ≡ open_at.In p → FitsHere (element v a b r i pc st es s o)
      element_fits (Some v) a b r i es st at len stand p e =
          let moved = subst (λ y. StandFor site.ops final y (entry.Elements a b r (i + 1) ∷ es)) (sym e) (next_index p a b r i es (subst (λ y. StandFor site.ops final y (entry.Elements a b r i ∷ es)) e stand)) in
          pushes (entry.Elements a b r (i + 1)) es moved at v st s o.frames len refl
        where
          moved_entry : (x : Option Op) (p a b : ℕ) (r : Ref) (i j : ℕ) → IsOpenedBy x p (entry.Elements a b r i) → IsOpenedBy x p (entry.Elements a b r j)
          moved_entry (Some (op.Over out again)) p a b r i j h = h
          moved_entry (Some _) p a b r i j h = absurd h
          moved_entry None p a b r i j h = absurd h

          next_index : (p a b : ℕ) (r : Ref) (i : ℕ) (es : List Entry) → StandFor site.ops final (open_at.In p) (entry.Elements a b r i ∷ es) → StandFor site.ops final (open_at.In p) (entry.Elements a b r (i + 1) ∷ es)
          next_index p a b r i es h = (h.0, h.1, moved_entry (slice_get site.ops p) p a b r i (i + 1) h.2, h.3)
      element_fits None a b r i es st at len stand p e =
          let h = subst (λ y. StandFor site.ops final y (entry.Elements a b r i ∷ es)) e stand in
          let needs = needs_with (entry.Elements a b r i ∷ es) stand o.frames in
          leaves_loop p a b h.0 es st s o.frames h.1 (elements_looping site final sound p a b h.0 r i h.1 h.2) h.3
          (subst (λ y. option_map_or (λ (z : Shape). z.locals) y 0 ≤ n) h.1 (subst (λ y. locals_kept final y ≤ n) e needs.locals))
          (subst (λ y. option_map_or (λ (z : Shape). z.boxes) y 0 ≤ length o.boxes) h.1 (subst (λ y. boxes_kept final y ≤ length o.boxes) e needs.boxes))
          (len ∙ (each_parts at).0) refl

      pulled_by : (b' : Bool) (a b : ℕ) (r : Ref) (es : List Entry) (st : List Value) (fs : Frames) (v : Value) (u : Core) → slice_get site.ops pc ≡ Some op.Each → length st ≡ t.operands → length u.locals ≡ n
          → StandFor site.ops final t.inside (entry.Pulls a b r ∷ es) → (p : ℕ) → t.inside ≡ open_at.In p
          → FitsHere (if b' then Running a st es u (with_frames fs o) else Running (pc + 1) (v ∷ st) (entry.Pulls a b r ∷ es) u (with_frames fs o))
      pulled_by false a b r es st fs v u at len g stand p e = pushes (entry.Pulls a b r) es stand at v st u fs len g
      pulled_by true a b r es st fs v u at len g stand p e =
          let h = subst (λ y. StandFor site.ops final y (entry.Pulls a b r ∷ es)) e stand in
          let needs = needs_with (entry.Pulls a b r ∷ es) stand o.frames in
          leaves_loop p a b h.0 es st u fs h.1 (pulls_looping site final sound p a b h.0 r h.1 h.2) h.3
          (subst (λ y. option_map_or (λ (z : Shape). z.locals) y 0 ≤ n) h.1 (subst (λ y. locals_kept final y ≤ n) e needs.locals))
          (subst (λ y. option_map_or (λ (z : Shape). z.boxes) y 0 ≤ length o.boxes) h.1 (subst (λ y. boxes_kept final y ≤ length o.boxes) e needs.boxes))
          (len ∙ (each_parts at).0) g

      behind_in : (p : ℕ) (x : Entry) (es : List Entry) (fs : Frames) → t.inside ≡ open_at.In p → (stand : StandFor site.ops final t.inside (x ∷ es)) → (u : Shape) × Needs site final sound world u.inside es n (with_frames fs o)
      behind_in p x es fs e stand =
          let h = subst (λ y. StandFor site.ops final y (x ∷ es)) e stand in
          let needs = needs_with (x ∷ es) stand fs in (
            h.0,
            outer site final sound world p n h.0 es (with_frames fs o) h.1
                (subst (λ y. option_map_or (λ (z : Shape). z.locals) y 0 ≤ n) h.1 (subst (λ y. locals_kept final y ≤ n) e needs.locals))
                (subst (λ y. option_map_or (λ (z : Shape). z.boxes) y 0 ≤ length o.boxes) h.1 (subst (λ y. boxes_kept final y ≤ length o.boxes) e needs.boxes)) h.3,
          )

      each_fits : (es : List Entry) → StandFor site.ops final t.inside es → slice_get site.ops pc ≡ Some op.Each → (st : List Value) → length st ≡ t.operands → (d : Config)
          → each world calls chunk code here es pc st s o d → FitsHere d
      each_fits [] stand at st len d h = absurd (closing.nothing_in world chunk f boxes here final sound is_over t.inside ((each_parts at).1) stand)
      each_fits (entry.Elements a b r i ∷ es) stand at st len d h =
          let q = closing.in_parts world chunk f boxes here final sound is_over t.inside ((each_parts at).1) in
          subst FitsHere (sym h) (element_fits (slice_get (elements_in s r) i) a b r i es st at len stand q.0 q.2)
      each_fits (entry.Pulls a b r ∷ es) stand at st len d h =
          let q = closing.in_parts world chunk f boxes here final sound is_over t.inside ((each_parts at).1) in
          let back = behind_in q.0 (entry.Pulls a b r) es h.1 q.2 stand in
          subst FitsHere (sym h.3)
          (given_fits site final sound world n h.0 (back.0).inside es (with_frames h.1 o) _ (carried calls keep n (pull world r V.Undefined s) o.frames h.0 h.1 ((pull_left n world r V.Undefined).runs s refl) h.2) back.1 (λ reply u g.
          pulled_by reply.ended a b r es st h.1 reply.value u at len g stand q.0 q.2))
      each_fits (entry.Handler a ∷ es) stand at st len d h =
          let q = closing.in_parts world chunk f boxes here final sound is_over t.inside ((each_parts at).1) in
          absurd (not_over q.1 q.4 q.0 (entry.Handler a) tt (subst (λ y. IsOpenedBy y q.0 (entry.Handler a)) q.3 (subst (λ y. IsEntryOf site.ops y (entry.Handler a)) q.2 (stand.2))))
      each_fits (entry.Turn a b ∷ es) stand at st len d h =
          let q = closing.in_parts world chunk f boxes here final sound is_over t.inside ((each_parts at).1) in
          absurd (not_over q.1 q.4 q.0 (entry.Turn a b) tt (subst (λ y. IsOpenedBy y q.0 (entry.Turn a b)) q.3 (subst (λ y. IsEntryOf site.ops y (entry.Turn a b)) q.2 (stand.2))))
      each_fits (entry.Last a ∷ es) stand at st len d h =
          let q = closing.in_parts world chunk f boxes here final sound is_over t.inside ((each_parts at).1) in
          absurd (not_over q.1 q.4 q.0 (entry.Last a) tt (subst (λ y. IsOpenedBy y q.0 (entry.Last a)) q.3 (subst (λ y. IsEntryOf site.ops y (entry.Last a)) q.2 (stand.2))))
      each_fits (entry.After l ∷ es) stand at st len d h =
          let q = closing.in_parts world chunk f boxes here final sound is_over t.inside ((each_parts at).1) in
          absurd (not_over q.1 q.4 q.0 (entry.After l) tt (subst (λ y. IsOpenedBy y q.0 (entry.After l)) q.3 (subst (λ y. IsEntryOf site.ops y (entry.After l)) q.2 (stand.2))))

      acts_fit : (x : Option Op) (es : List Entry) → StandFor site.ops final t.inside es → (st : List Value) → slice_get site.ops pc ≡ x → length st ≡ t.operands → (d : Config)
          → acts world calls chunk code here x pc st es s o d → FitsHere d
      acts_fit None es stand st at len d h = let i = there final site.ops pc t sound.long known in absurd (none_some_op (sym at ∙ i.1))
      acts_fit (Some (op.Call k)) es stand st at len d h = called_fits es stand k at st len d h
      acts_fit (Some op.Each) es stand st at len d h = each_fits es stand at st len d h
      acts_fit (Some op.Undefined) es stand st at len d h = subst FitsHere (sym h) (act_fits op.Undefined es stand st at len tt)
      acts_fit (Some op.Null) es stand st at len d h = subst FitsHere (sym h) (act_fits op.Null es stand st at len tt)
      acts_fit (Some (op.Bool b)) es stand st at len d h = subst FitsHere (sym h) (act_fits (op.Bool b) es stand st at len tt)
      acts_fit (Some (op.Int k)) es stand st at len d h = subst FitsHere (sym h) (act_fits (op.Int k) es stand st at len tt)
      acts_fit (Some (op.Builtin k)) es stand st at len d h = subst FitsHere (sym h) (act_fits (op.Builtin k) es stand st at len tt)
      acts_fit (Some (op.Text k)) es stand st at len d h = subst FitsHere (sym h) (act_fits (op.Text k) es stand st at len tt)
      acts_fit (Some (op.GetLocal k)) es stand st at len d h = subst FitsHere (sym h) (act_fits (op.GetLocal k) es stand st at len tt)
      acts_fit (Some (op.GetBox k)) es stand st at len d h = subst FitsHere (sym h) (act_fits (op.GetBox k) es stand st at len tt)
      acts_fit (Some (op.SetLocal k)) es stand st at len d h = subst FitsHere (sym h) (act_fits (op.SetLocal k) es stand st at len tt)
      acts_fit (Some (op.SetBox k)) es stand st at len d h = subst FitsHere (sym h) (act_fits (op.SetBox k) es stand st at len tt)
      acts_fit (Some (op.InitLocal k)) es stand st at len d h = subst FitsHere (sym h) (act_fits (op.InitLocal k) es stand st at len tt)
      acts_fit (Some (op.InitBox k)) es stand st at len d h = subst FitsHere (sym h) (act_fits (op.InitBox k) es stand st at len tt)
      acts_fit (Some (op.Argument k)) es stand st at len d h = subst FitsHere (sym h) (act_fits (op.Argument k) es stand st at len tt)
      acts_fit (Some (op.Input k)) es stand st at len d h = subst FitsHere (sym h) (act_fits (op.Input k) es stand st at len tt)
      acts_fit (Some (op.Unary u)) es stand st at len d h = subst FitsHere (sym h) (act_fits (op.Unary u) es stand st at len tt)
      acts_fit (Some (op.Binary u)) es stand st at len d h = subst FitsHere (sym h) (act_fits (op.Binary u) es stand st at len tt)
      acts_fit (Some (op.Compare u)) es stand st at len d h = subst FitsHere (sym h) (act_fits (op.Compare u) es stand st at len tt)
      acts_fit (Some (op.OneMore u)) es stand st at len d h = subst FitsHere (sym h) (act_fits (op.OneMore u) es stand st at len tt)
      acts_fit (Some op.Drop) es stand st at len d h = subst FitsHere (sym h) (act_fits op.Drop es stand st at len tt)
      acts_fit (Some op.Dup) es stand st at len d h = subst FitsHere (sym h) (act_fits op.Dup es stand st at len tt)
      acts_fit (Some op.DupTwo) es stand st at len d h = subst FitsHere (sym h) (act_fits op.DupTwo es stand st at len tt)
      acts_fit (Some op.Tuck) es stand st at len d h = subst FitsHere (sym h) (act_fits op.Tuck es stand st at len tt)
      acts_fit (Some op.TuckTwo) es stand st at len d h = subst FitsHere (sym h) (act_fits op.TuckTwo es stand st at len tt)
      acts_fit (Some op.Nip) es stand st at len d h = subst FitsHere (sym h) (act_fits op.Nip es stand st at len tt)
      acts_fit (Some op.NipTwo) es stand st at len d h = subst FitsHere (sym h) (act_fits op.NipTwo es stand st at len tt)
      acts_fit (Some (op.Member k)) es stand st at len d h = subst FitsHere (sym h) (act_fits (op.Member k) es stand st at len tt)
      acts_fit (Some op.Index) es stand st at len d h = subst FitsHere (sym h) (act_fits op.Index es stand st at len tt)
      acts_fit (Some (op.SetMember k)) es stand st at len d h = subst FitsHere (sym h) (act_fits (op.SetMember k) es stand st at len tt)
      acts_fit (Some op.SetIndex) es stand st at len d h = subst FitsHere (sym h) (act_fits op.SetIndex es stand st at len tt)
      acts_fit (Some (op.Method k)) es stand st at len d h = subst FitsHere (sym h) (act_fits (op.Method k) es stand st at len tt)
      acts_fit (Some (op.New k)) es stand st at len d h = subst FitsHere (sym h) (act_fits (op.New k) es stand st at len tt)
      acts_fit (Some (op.Array k)) es stand st at len d h = subst FitsHere (sym h) (act_fits (op.Array k) es stand st at len tt)
      acts_fit (Some op.Object) es stand st at len d h = subst FitsHere (sym h) (act_fits op.Object es stand st at len tt)
      acts_fit (Some (op.SetProp k)) es stand st at len d h = subst FitsHere (sym h) (act_fits (op.SetProp k) es stand st at len tt)
      acts_fit (Some op.Key) es stand st at len d h = subst FitsHere (sym h) (act_fits op.Key es stand st at len tt)
      acts_fit (Some op.SetKey) es stand st at len d h = subst FitsHere (sym h) (act_fits op.SetKey es stand st at len tt)
      acts_fit (Some (op.Closure k)) es stand st at len d h = subst FitsHere (sym h) (act_fits (op.Closure k) es stand st at len tt)
      acts_fit (Some (op.Change u)) es stand st at len d h = subst FitsHere (sym h) (act_fits (op.Change u) es stand st at len tt)
      acts_fit (Some op.Step) es stand st at len d h = subst FitsHere (sym h) (act_fits op.Step es stand st at len tt)
      acts_fit (Some (op.BinaryInt u k)) es stand st at len d h = subst FitsHere (sym h) (act_fits (op.BinaryInt u k) es stand st at len tt)
      acts_fit (Some (op.BinaryLocal u k)) es stand st at len d h = subst FitsHere (sym h) (act_fits (op.BinaryLocal u k) es stand st at len tt)
      acts_fit (Some (op.CompareInt u k)) es stand st at len d h = subst FitsHere (sym h) (act_fits (op.CompareInt u k) es stand st at len tt)
      acts_fit (Some (op.CompareLocal u k)) es stand st at len d h = subst FitsHere (sym h) (act_fits (op.CompareLocal u k) es stand st at len tt)
      acts_fit (Some (op.UpdateLocal u k)) es stand st at len d h = subst FitsHere (sym h) (act_fits (op.UpdateLocal u k) es stand st at len tt)
      acts_fit (Some (op.StoreLocal k)) es stand st at len d h = subst FitsHere (sym h) (act_fits (op.StoreLocal k) es stand st at len tt)
      acts_fit (Some op.Length) es stand st at len d h = subst FitsHere (sym h) (act_fits op.Length es stand st at len tt)
      acts_fit (Some op.Constant) es stand st at len d h = subst FitsHere (sym h) (act_fits op.Constant es stand st at len tt)
      acts_fit (Some (op.Logic l k)) es stand st at len d h = subst FitsHere (sym h) (act_fits (op.Logic l k) es stand st at len tt)
      acts_fit (Some (op.Arguments a b)) es stand st at len d h = subst FitsHere (sym h) (act_fits (op.Arguments a b) es stand st at len tt)
      acts_fit (Some (op.Enter a b)) es stand st at len d h = subst FitsHere (sym h) (act_fits (op.Enter a b) es stand st at len tt)
      acts_fit (Some (op.Boxes a b)) es stand st at len d h = subst FitsHere (sym h) (act_fits (op.Boxes a b) es stand st at len tt)
      acts_fit (Some (op.Copy a b)) es stand st at len d h = subst FitsHere (sym h) (act_fits (op.Copy a b) es stand st at len tt)
      acts_fit (Some (op.Keep a b)) es stand st at len d h = subst FitsHere (sym h) (act_fits (op.Keep a b) es stand st at len tt)
      acts_fit (Some (op.SkipIfFalse k)) es stand st at len d h = subst FitsHere (sym h) (act_fits (op.SkipIfFalse k) es stand st at len tt)
      acts_fit (Some (op.Skip k)) es stand st at len d h = subst FitsHere (sym h) (act_fits (op.Skip k) es stand st at len tt)
      acts_fit (Some (op.Loop a b)) es stand st at len d h = subst FitsHere (sym h) (act_fits (op.Loop a b) es stand st at len tt)
      acts_fit (Some (op.Body a b c)) es stand st at len d h = subst FitsHere (sym h) (act_fits (op.Body a b c) es stand st at len tt)
      acts_fit (Some (op.TurnIf k)) es stand st at len d h = subst FitsHere (sym h) (act_fits (op.TurnIf k) es stand st at len tt)
      acts_fit (Some (op.Turn k)) es stand st at len d h = subst FitsHere (sym h) (act_fits (op.Turn k) es stand st at len tt)
      acts_fit (Some op.Break) es stand st at len d h = subst FitsHere (sym h) (act_fits op.Break es stand st at len tt)
      acts_fit (Some op.Continue) es stand st at len d h = subst FitsHere (sym h) (act_fits op.Continue es stand st at len tt)
      acts_fit (Some op.Return) es stand st at len d h = subst FitsHere (sym h) (act_fits op.Return es stand st at len tt)
      acts_fit (Some op.Throw) es stand st at len d h = subst FitsHere (sym h) (act_fits op.Throw es stand st at len tt)
      acts_fit (Some (op.Try k)) es stand st at len d h = subst FitsHere (sym h) (act_fits (op.Try k) es stand st at len tt)
      acts_fit (Some (op.EndTry k)) es stand st at len d h = subst FitsHere (sym h) (act_fits (op.EndTry k) es stand st at len tt)
      acts_fit (Some (op.Last k)) es stand st at len d h = subst FitsHere (sym h) (act_fits (op.Last k) es stand st at len tt)
      acts_fit (Some op.Finish) es stand st at len d h = subst FitsHere (sym h) (act_fits op.Finish es stand st at len tt)
      acts_fit (Some op.EndLast) es stand st at len d h = subst FitsHere (sym h) (act_fits op.EndLast es stand st at len tt)
      acts_fit (Some (op.Over a b)) es stand st at len d h = subst FitsHere (sym h) (act_fits (op.Over a b) es stand st at len tt)
      acts_fit (Some op.Begin) es stand st at len d h = subst FitsHere (sym h) (act_fits op.Begin es stand st at len tt)
      acts_fit (Some op.Yield) es stand st at len d h = subst FitsHere (sym h) (act_fits op.Yield es stand st at len tt)
      acts_fit (Some (op.SkipUnless q k)) es stand st at len d h = subst FitsHere (sym h) (act_fits (op.SkipUnless q k) es stand st at len tt)
      acts_fit (Some (op.SkipUnlessInt q m k)) es stand st at len d h = subst FitsHere (sym h) (act_fits (op.SkipUnlessInt q m k) es stand st at len tt)
      acts_fit (Some (op.TurnWhile q k)) es stand st at len d h = subst FitsHere (sym h) (act_fits (op.TurnWhile q k) es stand st at len tt)
      acts_fit (Some (op.TurnWhileInt q i m k)) es stand st at len d h = subst FitsHere (sym h) (act_fits (op.TurnWhileInt q i m k) es stand st at len tt)
      acts_fit (Some (op.TurnWhileLocal q i j k)) es stand st at len d h = subst FitsHere (sym h) (act_fits (op.TurnWhileLocal q i j k) es stand st at len tt)

  -- ---- what an instruction finds

  module _ (pc : ℕ) (t : Shape) (known : shape_at final pc ≡ Some t) (s : Core) (o : Own) (es : List Entry) (stand : StandFor site.ops final t.inside es) (enough : t.locals ≤ length s.locals) (boxed : t.boxes ≤ length o.boxes) where
    local_there : (i : Op) (k : ℕ) → slice_get site.ops pc ≡ Some i → (is_there site t i ≡ true → nat_lt k t.locals ≡ true) → k < length s.locals
    local_there i k at h =
        let fine = sound.fine pc i t at known in
        let u = tested_parts (is_there site t i) (ways_by site fine.table (effect_of i) pc i t) fine.ways fine.led in
        omega (arith, is_lt k t.locals (h u.0), enough)

    are_locals : (i : Op) → slice_get site.ops pc ≡ Some i → AreLocals (length s.locals) i
    are_locals (op.GetLocal k) at = local_there (op.GetLocal k) k at (λ h. h)
    are_locals (op.SetLocal k) at = local_there (op.SetLocal k) k at (λ h. h)
    are_locals (op.InitLocal k) at = local_there (op.InitLocal k) k at (λ h. h)
    are_locals (op.BinaryLocal b k) at = local_there (op.BinaryLocal b k) k at (λ h. h)
    are_locals (op.CompareLocal c k) at = local_there (op.CompareLocal c k) k at (λ h. h)
    are_locals (op.UpdateLocal u k) at = local_there (op.UpdateLocal u k) k at (λ h. h)
    are_locals (op.StoreLocal k) at = local_there (op.StoreLocal k) k at (λ h. h)
    are_locals (op.TurnWhileInt c k m j) at = local_there (op.TurnWhileInt c k m j) k at (λ h. h)
    are_locals (op.TurnWhileLocal c i j k) at = (
      local_there (op.TurnWhileLocal c i j k) i at (λ h. (both_parts (nat_lt i t.locals) (nat_lt j t.locals) h).0),
      local_there (op.TurnWhileLocal c i j k) j at (λ h. (both_parts (nat_lt i t.locals) (nat_lt j t.locals) h).1),
    )
    are_locals (op.Enter size more) at =
        let c = controls.control world chunk f boxes here final sound pc t known (op.Enter size more) at refl in
        let w = so_parts (nat_le t.operands 1 && nat_le size t.locals) (next pc (with_locals (size + more) t)) c.ways c.led in
        omega (arith, is_le size t.locals ((both_parts (nat_le t.operands 1) (nat_le size t.locals) w.0).1), enough)
    are_locals _ at = tt

    begins_fit : slice_get site.ops pc ≡ Some op.Begin → (v : Value) → FitsHere (Running (pc + 1) (v ∷ []) [] s o)
    begins_fit at v =
        let c = controls.control world chunk f boxes here final sound pc t known op.Begin at refl in
        let w = so_parts (is_empty t && is_nothing t.inside) (next pc (with_operands 1 t)) c.ways c.led in
        land site final sound (pc + 1) (with_operands 1 t) (v ∷ []) [] s o (subst (AllCovered final) (sym w.1) c.covered)
        (record { operands = refl; stand = (both_parts (is_empty t) (is_nothing t.inside) w.0).1; locals = enough; boxes = boxed })

  finds : (c : Config) → FitsHere c → Finds site.ops c
  finds (Running pc st es s o) h =
      let x = has_of site final sound (shape_at final pc) st es s o h in
      let i = there final site.ops pc x.0 sound.long x.1 in
      (i.0, i.1, are_locals pc x.0 x.1 s o es (x.2).stand (x.2).locals (x.2).boxes i.0 i.1)
  finds (Done out fs) h = tt
  finds (Paused v pc es s o) h = tt
  finds Stuck h = tt

  begins : (c : Config) → FitsHere c → BeginsWell site.ops final c
  begins (Running pc st es s o) h =
      let x = has_of site final sound (shape_at final pc) st es s o h in
      λ at v. begins_fit pc x.0 x.1 s o es (x.2).stand (x.2).locals (x.2).boxes at v
  begins (Done out fs) h = tt
  begins (Paused v pc es s o) h = tt
  begins Stuck h = tt

  steps_fit : (calls : Calls) → LeaveLocals calls → (c d : Config) → FitsHere c → Steps world calls chunk code here c d → FitsHere d
  steps_fit calls keep (Running pc st es s o) d h k =
      let x = has_of site final sound (shape_at final pc) st es s o h in
      acts_fit pc x.0 x.1 s o (x.2).locals (x.2).boxes calls keep (slice_get site.ops pc) es (x.2).stand st refl (x.2).operands d k
  steps_fit calls keep (Done out fs) d h k = absurd k
  steps_fit calls keep (Paused v pc es s o) d h k = absurd k
  steps_fit calls keep Stuck d h k = absurd k

  enters : boxes ≤ length code.captures → (args : List Value) (bs : List Ref) (s : Core) (fs : Frames) → FitsHere (entered here code args bs s fs)
  enters le args bs s fs =
      land site final sound 0 (first_shape boxes) [] [] (core_locals [] s) _ sound.entry
      (record { operands = refl; stand = refl; locals = omega arith; boxes = omega (arith, le, long_entry here.inputs (length code.captures) bs) })

-- ---- from the rules

or_parts : (a b : Option Spot) → or_else a b ≡ None → (a ≡ None) × (b ≡ None)
or_parts None b h = (refl, h)
or_parts (Some x) b h = absurd (none-some x (sym h))

spot_none : (k : ℕ) (o : Option ℕ) → spot_in k o ≡ None → o ≡ None
spot_none k None h = refl
spot_none k (Some p) h = cc

if_none : (b : Bool) (x y : Option ℕ) → (if b then x else y) ≡ None → x ≢ None → y ≡ None
if_none true x y h g = absurd (g h)
if_none false x y h g = h

inner_none : (asked : List ℕ) (k : ℕ) (fs : List Chunk) (m : ℕ) (f : Chunk) → break_in_functions asked k fs ≡ None → slice_get fs m ≡ Some f → break_in_inner asked f ≡ None
inner_none asked k [] m f h e = absurd (none-some f e)
inner_none asked k (c ∷ fs) zero f h e =
    let p = or_parts (spot_in k (break_in_inner asked c)) (break_in_functions asked (k + 1) fs) h in
    subst (λ x. break_in_inner asked x ≡ None) (same_Some c f e) (spot_none k (break_in_inner asked c) p.0)
inner_none asked k (c ∷ fs) (suc m) f h e =
    let p = or_parts (spot_in k (break_in_inner asked c)) (break_in_functions asked (k + 1) fs) h in
    inner_none asked (k + 1) fs m f p.1 e

keeps_none : (w : Walk) → break_of w ≡ None → w ≡ Keeps (shapes_in w)
keeps_none (Keeps shapes) h = refl
keeps_none (Breaks p) h = cc

walk_kept : (chunk f : Chunk) (number : ℕ) → KeepsRules chunk → function_at chunk number ≡ Some f → break_of (walk_function (site_at chunk number f)) ≡ None
walk_kept chunk f zero h e =
    let asked = boxes_for_each (functions_of chunk) in
    let p = or_parts (spot_in 0 (break_in asked 0 chunk)) (break_in_functions asked 1 (functions_of chunk)) h in
    subst (λ x. break_of (walk_function (site_at chunk 0 x)) ≡ None) (same_Some chunk f e) (spot_none 0 (break_in asked 0 chunk) p.0)
walk_kept chunk f (suc m) h e =
    let asked = boxes_for_each (functions_of chunk) in
    let p = or_parts (spot_in 0 (break_in asked 0 chunk)) (break_in_functions asked 1 (functions_of chunk)) h in
    let q = inner_none asked 1 (functions_of chunk) m f p.1 e in
    if_none (nat_lt 0 (length (functions_of f))) (Some 0) (break_in asked (length (out-Chunk f).captures) f) q (λ x. none-some 0 (sym x))

boxes_enough : (number : ℕ) (f : Chunk) → boxes_at_entry number f ≤ length (code_of f).captures
boxes_enough zero f = omega arith
boxes_enough (suc n) f = omega arith

-- ---- calls leave the locals of the caller

callers_left : (n : ℕ) (locals : List (Option Value)) (o : Out Core Reply) → length locals ≡ n → Left n (with_callers locals o)
callers_left n locals (Go a s) h = h
callers_left n locals (Threw v s) h = h
callers_left n locals (Refused l s) h = tt

pauses_left : (n : ℕ) (here : Here) (r : Ref) (locals : List (Option Value)) (c : Config) (p : Out Core Reply) (gs : Frames) → length locals ≡ n → Pauses here r locals c p gs → Left n p
pauses_left n here r locals (Running pc st es s o) p gs h k = absurd k
pauses_left n here r locals (Done out fs) p gs h k = subst (λ x. Left n x) (sym k.0) (callers_left n locals (ended r out) h)
pauses_left n here r locals (Paused v pc es s o) p gs h k = subst (λ x. Left n x) (sym k.0) h
pauses_left n here r locals Stuck p gs h k = absurd k

module _ (world : World) (codes : Numbered) (calls : Calls) (n : ℕ) where
  throws_reply : (s : Core) (t : _) (p : Out Core Reply) → length s.locals ≡ n → p ≡ throws world t s → Left n p
  throws_reply s t p h e = subst (λ x. Left n x) (sym e) ((throws_left n world Reply t).runs s h)

  code_left : (here : Here) (x : Option Program) (args : List Value) (bs : List Ref) (s : Core) (fs : Frames) (p : Out Core Reply) (gs : Frames) → length s.locals ≡ n → RunsCode world codes calls here x args bs s fs p gs → Left n p
  code_left here None args bs s fs p gs h k = throws_reply s T.NotAFunction p h k.0
  code_left here (Some x) args bs s fs p gs h k = subst (λ y. Left n y) (sym k.4) (callers_left n s.locals (replied k.2) h)

  closure_left : (c : Option KeptFunction) (args : List Value) (s : Core) (fs : Frames) (p : Out Core Reply) (gs : Frames) → length s.locals ≡ n → RunsClosure world codes calls c args s fs p gs → Left n p
  closure_left None args s fs p gs h k = throws_reply s T.NotAFunction p h k.0
  closure_left (Some c) args s fs p gs h k = code_left _ (program_of codes c.code) args c.boxes s fs p gs h k

  goes_on_left : (r : Ref) (v : Value) (g : Frame) (x : Option Program) (s : Core) (fs : Frames) (p : Out Core Reply) (gs : Frames) → length s.locals ≡ n → GoesOn world codes calls r v g x s fs p gs → Left n p
  goes_on_left r v g None s fs p gs h k = throws_reply s T.NotAFunction p h k.0
  goes_on_left r v g (Some x) s fs p gs h k = pauses_left n g.here r s.locals k.0 p gs h k.2

  resumes_left : (r : Ref) (v : Value) (x : Option Frame) (s : Core) (fs : Frames) (p : Out Core Reply) (gs : Frames) → length s.locals ≡ n → Resumes world codes calls r v x s fs p gs → Left n p
  resumes_left r v None s fs p gs h k = throws_reply s T.GeneratorRunning p h k.0
  resumes_left r v (Some g) s fs p gs h k = goes_on_left r v g (program_of codes g.here.key) s fs p gs h k

  carries_left : (request : Request) (s : Core) (fs : Frames) (p : Out Core Reply) (gs : Frames) → length s.locals ≡ n → CarriesOut world codes calls request s fs p gs → Left n p
  carries_left (Closure r args) s fs p gs h k = closure_left (read_item closure_of s.store r) args s fs p gs h k
  carries_left (Prelude text args) s fs p gs h k = code_left (prelude_here world text) (program_of codes (prelude_here world text).key) args [] s fs p gs h k
  carries_left (Resume r v) s fs p gs h k = resumes_left r v (frame_at fs r) s fs p gs h k

  after_left : (o : Out Core (Unit {0})) (request : Request) (fs : Frames) (p : Out Core Reply) (gs : Frames) → Left n o → After world codes o (λ t. CarriesOut world codes calls request t fs) fs p gs → Left n p
  after_left (Go _ s) request fs p gs h k = carries_left request s fs p gs h k
  after_left (Threw v s) request fs p gs h k = subst (λ x. Left n x) (sym k.0) h
  after_left (Refused l s) request fs p gs h k = subst (λ x. Left n x) (sym k.0) tt

calls_leave : (world : World) (codes : Numbered) (depth : ℕ) → LeaveLocals (calls_to world codes depth)
unfolding LeaveLocals
calls_leave world codes zero request s fs p gs h = subst (λ x. Left (length s.locals) x) (sym h.0) tt
calls_leave world codes (suc depth) request s fs p gs h =
    after_left world codes (calls_to world codes depth) (length s.locals) (takes_step world s) request fs p gs ((step_left (length s.locals) world).runs s refl) h

-- ---- code that keeps the rules is never stuck

pub rules_suffice : RulesSuffice
rules_suffice world codes depth chunk f number here rules at =
    let final = shapes_of (site_at chunk number f) in
    let s = sound (site_at chunk number f) final (keeps_none (walk_function (site_at chunk number f)) (walk_kept chunk f number rules at)) in
    record {
      enters = enters world chunk f (boxes_at_entry number f) here final s (boxes_enough number f);
      goes_on = steps_fit world chunk f (boxes_at_entry number f) here final s (calls_to world codes depth) (calls_leave world codes depth);
      finds = finds world chunk f (boxes_at_entry number f) here final s;
      begins = begins world chunk f (boxes_at_entry number f) here final s;
    }
