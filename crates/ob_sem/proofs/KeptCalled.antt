-- The walk over resumption, calls by depth and the body of a cell.
use Rattle.std.proofs.Common.{ℕ, zero, suc, Bool, true, false, List, [], ◌∷◌, Option, Some, None, subst, sym}
use Rattle.ob_items.specs.Bodies.{closure_of}
use Rattle.ob_items.specs.declared.frame.Taken.TheVariants as K
use Rattle.ob_items.specs.declared.item.Closure.{Closure as Captured}
use Rattle.ob_items.specs.declared.thrown.Thrown.TheVariants as T
use Rattle.ob_items.specs.declared.value.Ref.{Ref}
use Rattle.ob_items.specs.declared.value.Value.{Value}
use Rattle.ob_items.specs.declared.value.Value.TheVariants as V
use Rattle.ob_tree_types.specs.declared.tree.DeclValue.TheBlock as tree
use Rattle.ob_tree_types.specs.declared.tree.FnBody.{FnBody}
use Rattle.ob_tree_types.specs.declared.tree.Function.{Function}
use Rattle.ob_values.specs.Store.{body_of, read_item}
use Rattle.ob_actions.specs.Act.{Out, Go, Threw, Refused, Act, ◌>>=◌, pure, asks, updates}
use Rattle.ob_actions.specs.Core.{Core}
use Rattle.ob_actions.specs.Generators.{keeps}
use Rattle.ob_actions.specs.NewItems.{blank_frame}
use Rattle.ob_actions.specs.Requests.{Request, Closure, Prelude, Resume, Reply}
use Rattle.ob_sem.specs.Called.{unbegun, begin_generator, function_scope, prelude_function, start_body, run_body, call_body, call_located, call_function, call_kept, carried_out, call_to}
use Rattle.ob_tree.specs.Captures.{captures_of}
use Rattle.ob_tree.specs.Declarations.{own_bindings}
use Rattle.ob_sem.specs.Evaluation.{exec, with_element_in}
use Rattle.ob_sem.specs.Flows.{Flow, Next, Broke, Continued, Returned, Yielded, result_of}
use Rattle.ob_tree.specs.Functions.{Located, in_expr, in_stmt, in_maybe, in_body}
use Rattle.ob_sem.specs.Pending.{Pending, Rest, MoreDecls, WhileLoop, DoLoop, ForLoop, ElementLoop, PullLoop, Handler, Last, Taker, Ignored, Assigned, Declared, Suspended}
use Rattle.ob_sem.specs.Resumption.{reply_of, left_in, take_sent, resume_after, resume_all, resume_kept}
use Rattle.ob_sem.specs.Scope.{Scope, behind}
use Rattle.ob_sem.specs.Setting.{Setting, function_at}
use Rattle.ob_sem.specs.Whole.{Whole, with_core, suspends, kept_at, Caller}
use Rattle.ob_actions.proofs.Holds.{Any, After, Holds, then_holds, bind, pure_holds}
use Rattle.ob_actions.proofs.Kept.{GoodReply, Law, read_by, closure_good, new_generator_holds}
use Rattle.ob_sem.proofs.Kept.{Wholly, lift_holds, in_call_holds, good_kept, kept_good, throw_holds, enter_holds, copy_holds, first_name_holds, assign_name_holds, set_params_holds}
use Rattle.ob_sem.proofs.KeptWalk.{GoodFlow, after_flow_holds, after_turn_holds, caught_holds, finished_holds, result_good, loop_holds, element_loop_holds, after_left_holds, pull_loop_holds, set_functions_holds, element_in_holds, truth_holds, step, pulling, eval_holds, maybe_holds, test_holds, exec_holds, run_holds, declare_holds, handle_holds, last_holds}
use Rattle.ob_actions.specs.Within.{Each, Good, GoodLocals, GoodRequest, IfThere}
use Rattle.ob_sem.specs.Within.{GoodPending, GoodScope, GoodSuspended, GoodTaker, GoodTexts}

abbrev pub GoodFunction : (Ref → Type 0) → Captured → Type 0
GoodFunction G c = Each G c.boxes × G c.inputs × IfThere G c.invalidation

module _ (P : Core → Type 0) (G : Ref → Type 0) (set : Setting) (law : Law P G set.world) (texts : GoodTexts G set) where
  left_in_holds : (r : Ref) (kept : Suspended) (o : Out Whole Flow) → G r → After (Wholly P G) G (GoodFlow G) o → After (Wholly P G) G (GoodReply G) (left_in r kept o)
  left_in_holds r kept (Go (Yielded v t ps) s) g h =
      ((law.keeps r (K.Held (blank_frame kept.code kept.inputs)) s.core g h.0.0, ((h.1.1, h.1.2, law.good_locals s.core h.0.0), h.0.1)), h.1.0)
  left_in_holds r kept (Go Next s) g h = ((law.keeps r K.Ended s.core g h.0.0, h.0.1), tt)
  left_in_holds r kept (Go Broke s) g h = ((law.keeps r K.Ended s.core g h.0.0, h.0.1), tt)
  left_in_holds r kept (Go Continued s) g h = ((law.keeps r K.Ended s.core g h.0.0, h.0.1), tt)
  left_in_holds r kept (Go (Returned v) s) g h = ((law.keeps r K.Ended s.core g h.0.0, h.0.1), h.1)
  left_in_holds r kept (Threw v s) g h = ((law.keeps r K.Ended s.core g h.0.0, h.0.1), h.1)
  left_in_holds r kept (Refused l s) g h = h

  module _ (enter_call : Caller) (calls : (q : Request) → GoodRequest G q → Holds (Wholly P G) G (GoodReply G) (enter_call q)) where
    next_flow : Holds (Wholly P G) G (GoodFlow G) (pure {S = Whole} Next)
    next_flow = pure_holds (Wholly P G) G (GoodFlow G) Next tt

    take_sent_holds : (t : Taker) (v : Value) → GoodTaker G t → Good G v → Holds (Wholly P G) G (GoodFlow G) (take_sent set enter_call t v)
    take_sent_holds Ignored v g h = next_flow
    take_sent_holds (Assigned x sc) v g h = bind (Wholly P G) G (assign_name_holds P G set law texts x v sc g h) (λ _ _. next_flow)
    take_sent_holds (Declared x sc) v g h = bind (Wholly P G) G (first_name_holds P G set law texts x v sc g h) (λ _ _. next_flow)

    resume_after_holds : (p : Pending) (o : Out Whole Flow) → GoodPending G p → After (Wholly P G) G (GoodFlow G) o → After (Wholly P G) G (GoodFlow G) (resume_after set enter_call p o)
    resume_after_holds (Rest rest sc) o g h =
        then_holds (Wholly P G) G (GoodFlow G) (GoodFlow G) o _ h (λ f i. after_flow_holds P G set law texts f (Rest rest sc) _ i g (run_holds P G set law texts enter_call calls rest sc g))
    resume_after_holds (MoreDecls rest sc) o g h =
        then_holds (Wholly P G) G (GoodFlow G) (GoodFlow G) o _ h (λ f i. after_flow_holds P G set law texts f (MoreDecls rest sc) _ i g (declare_holds P G set law texts enter_call calls rest sc g))
    resume_after_holds (WhileLoop c a sc) o g h =
        then_holds (Wholly P G) G (GoodFlow G) (GoodFlow G) o _ h (λ f i. after_turn_holds P G set law texts f (WhileLoop c a sc) _ i g
        (loop_holds P G set law texts (WhileLoop c a) _ _ pure sc g (λ j k. k)
        (λ j k. bind (Wholly P G) G (eval_holds P G set law texts enter_call calls c j k) (λ v _. truth_holds P G set law texts v))
        (λ j k. exec_holds P G set law texts enter_call calls a (behind (in_expr c) j) k) (λ j k. pure_holds (Wholly P G) G (GoodScope G) j k)))
    resume_after_holds (DoLoop a c sc) o g h =
        then_holds (Wholly P G) G (GoodFlow G) (GoodFlow G) o _ h (λ f i. after_turn_holds P G set law texts f (DoLoop a c sc) _ i g
        (loop_holds P G set law texts (DoLoop a c) _ _ pure sc g (λ j k. k)
        (λ j k. bind (Wholly P G) G (eval_holds P G set law texts enter_call calls c (behind (in_stmt a) j) k) (λ v _. truth_holds P G set law texts v))
        (λ j k. exec_holds P G set law texts enter_call calls a j k) (λ j k. pure_holds (Wholly P G) G (GoodScope G) j k)))
    resume_after_holds (ForLoop n t u a sc) o g h =
        then_holds (Wholly P G) G (GoodFlow G) (GoodFlow G) o _ h (λ f i. after_turn_holds P G set law texts f (ForLoop n t u a sc) _ i g
        (bind (Wholly P G) G (copy_holds P G set law n sc g) (λ next k. bind (Wholly P G) G (maybe_holds P G set law texts enter_call calls u (behind (in_maybe t) next) k) (λ _ _.
        loop_holds P G set law texts (ForLoop n t u a) _ _ _ next k (λ j l. l)
        (λ j l. test_holds P G set law texts enter_call calls t j l) (λ j l. exec_holds P G set law texts enter_call calls a (behind (in_maybe u) (behind (in_maybe t) j)) l)
        (λ j l. bind (Wholly P G) G (copy_holds P G set law n j l) (λ inner m. bind (Wholly P G) G (maybe_holds P G set law texts enter_call calls u (behind (in_maybe t) inner) m) (λ _ _.
        pure_holds (Wholly P G) G (GoodScope G) inner m)))))))
    resume_after_holds (ElementLoop r n k x a sc) o g h =
        then_holds (Wholly P G) G (GoodFlow G) (GoodFlow G) o _ h (λ f i. after_turn_holds P G set law texts f (ElementLoop r n k x a sc) _ i g
        (element_loop_holds P G set law texts r n (λ j. ElementLoop r j k x a sc) (with_element_in set k x a sc (λ inner. exec set enter_call a inner)) g.0 (λ j. g)
        (element_in_holds P G set law texts k x a sc (λ inner. exec set enter_call a inner) g.1 (λ inner l. exec_holds P G set law texts enter_call calls a inner l))))
    resume_after_holds (PullLoop r k x a sc) o g h =
        after_left_holds P G set law texts r (PullLoop r k x a sc) _ o g.0 g
        (pull_loop_holds P G set law texts r _ (PullLoop r k x a sc) (with_element_in set k x a sc (λ inner. exec set enter_call a inner)) g.0 g (pulling P G set law texts enter_call calls r g.0)
        (element_in_holds P G set law texts k x a sc (λ inner. exec set enter_call a inner) g.1 (λ inner l. exec_holds P G set law texts enter_call calls a inner l))) h
    resume_after_holds (Handler c sc) o g h =
        caught_holds P G set law texts (Handler c sc) o _ g h (λ v k. handle_holds P G set law texts enter_call calls c sc v g k)
    resume_after_holds (Last f sc) o g h = finished_holds P G set law texts (Last f sc) o _ g h (last_holds P G set law texts enter_call calls f sc g)

    resume_all_holds : (ps : List Pending) (o : Out Whole Flow) → Each (GoodPending G) ps → After (Wholly P G) G (GoodFlow G) o → After (Wholly P G) G (GoodFlow G) (resume_all set enter_call ps o)
    resume_all_holds [] o g h = h
    resume_all_holds (p ∷ ps) o g h = resume_all_holds ps (resume_after set enter_call p o) g.1 (resume_after_holds p o g.0 h)

    resume_kept_holds : (r : Ref) (v : Value) (o : Option Suspended) → G r → Good G v → IfThere (GoodSuspended G) o → Holds (Wholly P G) G (GoodReply G) (resume_kept set enter_call r v o)
    resume_kept_holds r v None g h k = throw_holds P G set law Reply (GoodReply G) T.GeneratorRunning
    resume_kept_holds r v (Some kept) g h k =
        in_call_holds P G (GoodReply G) set.world law kept.locals _ k.2 (record {
          runs = λ s p.
              left_in_holds r kept _ g (resume_all_holds kept.frames _ k.1 ((take_sent_holds kept.taker v k.0 h).runs (with_core (keeps r K.Runs s.core) s) (law.keeps r K.Runs s.core g p.0, p.1)));
        })

    -- ---- functions

    begin_holds : {m : _} (row : tree.Row_of-Stmt m) (sc : Scope) → GoodScope G sc → Holds (Wholly P G) G (Good G) (begin_generator set.world row sc)
    begin_holds row sc g =
        bind (Wholly P G) G {R = GoodLocals G} {j = asks (λ (s : Whole). s.core.locals)} (record { runs = λ s p. (p, law.good_locals s.core p.0) }) (λ locals h.
        bind (Wholly P G) G (lift_holds P G (new_generator_holds P G set.world law (blank_frame sc.code sc.inputs))) (λ r k.
        bind (Wholly P G) G {R = Any} {j = updates (suspends r (unbegun row sc locals))} (record { runs = λ s p. ((p.0, ((tt, (g, tt), h), p.1)), tt) }) (λ _ _.
        pure_holds (Wholly P G) G (Good G) (V.Ref r) k)))

    start_body_holds : {m : _} (f : Bool) (row : tree.Row_of-Stmt m) (sc : Scope) → GoodScope G sc → Holds (Wholly P G) G (Good G) (start_body set enter_call f row sc)
    start_body_holds false row sc g = bind (Wholly P G) G (run_holds P G set law texts enter_call calls row sc g) (λ f h. pure_holds (Wholly P G) G (Good G) (result_of f) (result_good P G set law texts f h))
    start_body_holds true row sc g = begin_holds row sc g

    run_body_holds : (f : Bool) (b : FnBody) (sc : Scope) → GoodScope G sc → Holds (Wholly P G) G (Good G) (run_body set enter_call f b sc)
    run_body_holds f (tree.Items' _ items) sc g = bind (Wholly P G) G (set_functions_holds P G set law texts items sc g) (λ _ _. start_body_holds f items sc g)
    run_body_holds f (tree.FnBody::Value' _ (tree.more_of-Expr a tree.end_of-Expr)) sc g = eval_holds P G set law texts enter_call calls a sc g

    pub call_body_holds : (f : Function) (args : List Value) (sc : Scope) → Each (Good G) args → GoodScope G sc → Holds (Wholly P G) G (Good G) (call_body set enter_call f args sc)
    call_body_holds f args sc h g =
        bind (Wholly P G) G (enter_holds P G set law (own_bindings f.params f.body) (in_body f.body) sc g) (λ inner k.
        bind (Wholly P G) G (set_params_holds P G set law texts f.params args inner k h) (λ _ _. run_body_holds f.generator f.body inner k))

    call_located_holds : (c : Captured) (o : Option Located) (args : List Value) → GoodFunction G c → Each (Good G) args → Holds (Wholly P G) G (Good G) (call_located set enter_call c o args)
    call_located_holds c None args g h = throw_holds P G set law Value (Good G) T.NotAFunction
    call_located_holds c (Some l) args g h =
        in_call_holds P G (Good G) set.world law [] _ tt
        (call_body_holds l.function args (function_scope c l) h (kept_good P G c.inputs (captures_of l) c.boxes g.1 g.0, g.1, g.2))

    call_kept_holds : (o : Option Captured) (args : List Value) → IfThere (GoodFunction G) o → Each (Good G) args → Holds (Wholly P G) G (Good G) (call_kept set enter_call o args)
    call_kept_holds None args g h = throw_holds P G set law Value (Good G) T.NotAFunction
    call_kept_holds (Some c) args g h = call_located_holds c (function_at set c.code) args g h

    replied : (m : Act Whole Value) → Holds (Wholly P G) G (Good G) m → Holds (Wholly P G) G (GoodReply G) (m >>= (λ v. pure (reply_of false v)))
    replied m f = bind (Wholly P G) G f (λ v g. pure_holds (Wholly P G) G (GoodReply G) (reply_of false v) g)

    closure_there : (r : Ref) → G r → (s : Core) → P s → IfThere (GoodFunction G) (read_item closure_of s.store r)
    closure_there r g s h = subst (λ o. IfThere (GoodFunction G) o) (sym (read_by closure_of s.store r)) (closure_good G (body_of s.store r) (law.inside s h r g))

    carried_out_holds : G (record { region = set.world.region; item = 0 }) → (q : Request) → GoodRequest G q → Holds (Wholly P G) G (GoodReply G) (carried_out set enter_call q)
    carried_out_holds nowhere (Closure r args) g = record {
      runs = λ s p.
          (replied (call_kept set enter_call (read_item closure_of s.core.store r) args) (call_kept_holds (read_item closure_of s.core.store r) args (closure_there r g.0 s.core p.0) g.1)).runs s p;
    }
    carried_out_holds nowhere (Prelude code args) g = record {
      runs = λ s p.
          (replied (call_function set enter_call (prelude_function set.world code) args) (call_located_holds (prelude_function set.world code) _ args (tt, nowhere, tt) g)).runs s p;
    }
    carried_out_holds nowhere (Resume r v) g = record { runs = λ s p. (resume_kept_holds r v (kept_at s.suspended r) g.0 g.1 (good_kept P G s.suspended r p.1)).runs s p }

  -- every request, however deep, keeps what the primitive actions keep
  pub calls_hold : G (record { region = set.world.region; item = 0 }) → (depth : ℕ) (q : Request) → GoodRequest G q → Holds (Wholly P G) G (GoodReply G) (call_to set depth q)
  calls_hold nowhere zero q g = record { runs = λ s p. p }
  calls_hold nowhere (suc depth) q g =
      bind (Wholly P G) G (step P G set law texts) (λ _ _. carried_out_holds (call_to set depth) (calls_hold nowhere depth) nowhere q g)
