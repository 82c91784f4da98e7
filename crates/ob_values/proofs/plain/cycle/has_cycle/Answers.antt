use Rattle.std.proofs.Common.{◌≡◌, [], ◌∷◌, refl, arith, true, false, subst}
use Rattle.std.specs.List.{list_any}
use Rattle.ob_values.specs.Freeze.{refs_of}
use Rattle.ob_values.specs.Values.{ref_eq}
use Rattle.ob_values.proofs.CycleLemmas.{IsSearching, search-begin, search-at, search-found, search-skip, search-entered, search-left, search-end, search-smaller}
use Rattle.ob_values.proofs.plain.cycle.has_cycle.Goals as goal

pub loop-task-init : goal.loop-task-init
loop-task-init c = search-begin c.args.regions.now (refs_of (c.args.value ∷ [])) _ _ _ _ c.in_ok-enter_values.ensures c.new-stack.ensures c.new-met.ensures c.new-done.ensures

pub returns-then-contains-clause-found : goal.returns-then-contains-clause-found
returns-then-contains-clause-found c = λ _.
    let h = search-at _ _ _ _ _ _ _ _ c.loop-task.invariant c.in-Some.ensures c.in-Enter.is in
    let undone : list_any (ref_eq c.in-Enter.r) c.loop-task.done ≡ false = grind (arith, c.contains.ensures, c.if-not-contains.true) in
    let seen : list_any (ref_eq c.in-Enter.r) c.loop-task.met ≡ true = grind (arith, c.contains-then-not-contains.ensures, c.if-contains.true) in
    search-found _ _ _ _ _ _ c.args.value refl h undone seen

pub loop-task-smaller-in-Continue-branch-4 : goal.loop-task-smaller-in-Continue-branch-4
loop-task-smaller-in-Continue-branch-4 c =
    let unseen : list_any (ref_eq c.in-Enter.r) c.loop-task.met ≡ false = grind (arith, c.contains-then-not-contains.ensures, c.if-contains.false) in
    search-smaller c.loop-task.met _ _ _ _ unseen c.in_ok-add-in-Enter.ensures.ok c.in_ok-add-in-Enter.ensures.small c.in_ok-enter_items-in-Enter.ensures.small

pub loop-task-preserved-in-Continue-branch-4 : goal.loop-task-preserved-in-Continue-branch-4
loop-task-preserved-in-Continue-branch-4 c =
    let h = search-at _ _ _ _ _ _ _ _ c.loop-task.invariant c.in-Some.ensures c.in-Enter.is in
    search-entered _ _ _ _ _ _ _ _ _ h c.in_ok-add-in-Enter.ensures.ok c.in_ok-push-in-Enter.ensures.ok c.in_ok-enter_items-in-Enter.ensures.entered

pub loop-task-preserved-else-not-contains : goal.loop-task-preserved-else-not-contains
loop-task-preserved-else-not-contains c =
    let h = search-at _ _ _ _ _ _ _ _ c.loop-task.invariant c.in-Some.ensures c.in-Enter.is in
    let finished : list_any (ref_eq c.in-Enter.r) c.loop-task.done ≡ true = grind (arith, c.contains.ensures, c.if-not-contains.false) in
    search-skip _ _ _ _ _ _ h finished

pub loop-task-preserved : goal.loop-task-preserved
loop-task-preserved c =
    let h = search-at _ _ _ _ _ _ _ _ c.loop-task.invariant c.in-Some.ensures c.in-Leave.is in
    search-left _ _ _ _ _ _ _ h c.in_ok-add-in-Leave.ensures.ok c.in_ok-add-in-Leave.ensures.small

pub returns-clause-none : goal.returns-clause-none
returns-clause-none c = λ _.
    search-end c.args.regions.now (refs_of (c.args.value ∷ [])) c.args.value c.loop-task.met c.loop-task.done refl
    (subst (λ st. IsSearching c.args.regions.now (refs_of (c.args.value ∷ [])) st c.loop-task.met c.loop-task.done) c.in_default.ensures.0 c.loop-task.invariant)
