use Rattle.std.proofs.Common.{◌≡◌, ◌<◌, ◌+◌, length, map, arith, ap, sym, ◌∙◌, ◌++◌, drop}
use Rattle.std.proofs.lemmas.Option.{get_or_from_slice_get}
use Rattle.ob_names.specs.Kept.{bound_of, mention_of}
use Rattle.ob_names.specs.Resolved.{bindings_from}
use Rattle.ob_names.proofs.SlotLaws.{bindings_on}
use Rattle.ob_names.proofs.resolve.resolved_bindings.Goals as goal

pub loop-number-preserved : goal.loop-number-preserved
loop-number-preserved c =
    let here : c.loop-number.number < length c.in_ok-flags.flags.items = omega (arith, c.in_ok-flags.ensures.count) in
    let flag = c.index.ensures ∙ get_or_from_slice_get c.in_ok-flags.flags.items c.loop-number.number _ c.index.result.now (c.in_ok-flags.ensures.flags c.loop-number.number here) in
    ap (λ made. made ++ bindings_from (map mention_of c.args.mentions.now) (c.loop-number.number + 1) (map bound_of (drop (c.loop-number.number + 1) c.args.bound.now))) c.in_ok-push.ensures.ok
    ∙ bindings_on (map mention_of c.args.mentions.now) c.args.bound.now c.loop-number.number _ c.loop-number.bindings c.index.result.now _ c.loop-number-test.true flag c.loop-number.invariant
