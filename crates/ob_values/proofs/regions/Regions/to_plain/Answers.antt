use Rattle.std.proofs.Common.{◌≡◌, ◌∙◌, ap, sym, inr, false, arith, Ok, Err}
use Rattle.std.specs.Option.{option_map_or}
use Rattle.ob_items.specs.declared.error.PlainError.TheVariants as E
use Rattle.ob_values.specs.PlainOf.{is_large}
use Rattle.ob_values.proofs.PlainLemmas.{result-small, result-cycle, tells-none, tells-small, tells-cycle}
use Rattle.ob_values.proofs.regions.Regions.to_plain.Goals as goal

pub returns-in-Some-clause-result : goal.returns-in-Some-clause-result
returns-in-Some-clause-result c =
    let small : is_large c.args.self.now c.args.value ≡ false = grind (arith, c.in_ok-is_small.ensures, c.if-branch.true) in
    inr (sym (result-small c.args.self.now c.args.value small ∙ ap (λ o. option_map_or (λ plain. Ok plain) o (Err E.NotPlain)) (sym c.in_ok-plain.ensures ∙ c.in-Some.is)))

pub returns-in-None-clause-result : goal.returns-in-None-clause-result
returns-in-None-clause-result c =
    let small : is_large c.args.self.now c.args.value ≡ false = grind (arith, c.in_ok-is_small.ensures, c.if-branch.true) in
    inr (sym (result-small c.args.self.now c.args.value small ∙ ap (λ o. option_map_or (λ plain. Ok plain) o (Err E.NotPlain)) (sym c.in_ok-plain.ensures ∙ c.in-None.is)))

pub returns-in-Some-clause-cycle : goal.returns-in-Some-clause-cycle
returns-in-Some-clause-cycle c =
    let small : is_large c.args.self.now c.args.value ≡ false = grind (arith, c.in_ok-is_small.ensures, c.if-branch.true) in
    inr (tells-small c.args.self.now c.args.value small)

pub returns-in-None-clause-cycle : goal.returns-in-None-clause-cycle
returns-in-None-clause-cycle c =
    let small : is_large c.args.self.now c.args.value ≡ false = grind (arith, c.in_ok-is_small.ensures, c.if-branch.true) in
    inr (tells-small c.args.self.now c.args.value small)

pub returns-then-branch-2-clause-result : goal.returns-then-branch-2-clause-result
returns-then-branch-2-clause-result c = inr (sym (result-cycle c.args.self.now c.args.value (c.in_ok-has_cycle.ensures.found c.if-branch-2.true)))

pub returns-then-branch-2-clause-cycle : goal.returns-then-branch-2-clause-cycle
returns-then-branch-2-clause-cycle c = inr (tells-cycle c.args.self.now c.args.value (c.in_ok-has_cycle.ensures.found c.if-branch-2.true))

pub returns-else-branch-2-clause-cycle : goal.returns-else-branch-2-clause-cycle
returns-else-branch-2-clause-cycle c = inr (tells-none c.args.self.now c.args.value (c.in_ok-has_cycle.ensures.none c.if-branch-2.false))
