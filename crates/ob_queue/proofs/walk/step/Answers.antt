use Rattle.std.proofs.Common.{◌+◌, ◌-◌, ◌≤◌, [], ◌∷◌, ◌++◌, length, get_or, set, ap, ◌∙◌, sym, subst, arith}
use Rattle.ob_graph.specs.Paths.{inputs_of}
use Rattle.ob_queue.proofs.WalkLaws.{few_taken, few_waiting, step_down, step_up}
use Rattle.ob_queue.proofs.walk.step.Goals as goal

pub begin-requires-clause-path : goal.begin-requires-clause-path
begin-requires-clause-path c =
    let few = few_waiting c.requires.walking.0 _ _ _ c.requires.walking.1 (c.next_waiting-place.ensures.waits c.if-place-inputs.true) in omega (arith, few)

pub finish-requires-clause-order : goal.finish-requires-clause-order
finish-requires-clause-order c = let few = few_taken c.requires.walking.0 _ _ c.requires.walking.1 in let some = c.requires.path in omega (arith, few, some)

pub returns-then-place-inputs-clause-walking : goal.returns-then-place-inputs-clause-walking
returns-then-place-inputs-clause-walking c = λ queue s.
    let depth = length c.path.result.now - 1 in
    let some = c.requires.path in
    let n = ap length c.path.ensures in
    let are = c.inputs-inputs.ensures ∙ ap (λ xs. inputs_of c.args.graph.now (get_or xs depth 0)) c.path-2.ensures in
    step_down queue (inputs_of c.args.graph.now) c.args.walk.now c.advance.new.self c.inputs-inputs.result.now depth c.next_waiting-place.result s (omega (arith, some, n)) are
    (λ j g l. c.next_waiting-place.ensures.skipped j (subst (λ xs. get_or xs depth 0 ≤ j) (sym c.places.ensures) g) l)
    c.if-place-inputs.true (c.next_waiting-place.ensures.waits c.if-place-inputs.true)
    (c.advance.ensures.marks ∙ c.begin.ensures.marks) (c.advance.ensures.path ∙ c.begin.ensures.path)
    (c.advance.ensures.places ∙ ap (λ xs. set xs depth (c.next_waiting-place.result + 1)) c.begin.ensures.places) (c.advance.ensures.order ∙ c.begin.ensures.order)

pub returns-else-place-inputs-clause-walking : goal.returns-else-place-inputs-clause-walking
returns-else-place-inputs-clause-walking c = λ queue s.
    let depth = length c.path.result.now - 1 in
    let some = c.requires.path in
    let n = ap length c.path.ensures in
    let are = c.inputs-inputs.ensures ∙ ap (λ xs. inputs_of c.args.graph.now (get_or xs depth 0)) c.path-2.ensures in
    step_up queue (inputs_of c.args.graph.now) c.args.walk.now c.finish.new.self c.inputs-inputs.result.now depth c.next_waiting-place.result s (omega (arith, some, n)) are
    (λ j g l. c.next_waiting-place.ensures.skipped j (subst (λ xs. get_or xs depth 0 ≤ j) (sym c.places.ensures) g) l)
    c.if-place-inputs.false
    c.finish.ensures.marks c.finish.ensures.path c.finish.ensures.places
    (c.finish.ensures.order ∙ ap (λ xs. c.args.walk.now.order ++ get_or xs depth 0 ∷ []) c.path-2.ensures)
