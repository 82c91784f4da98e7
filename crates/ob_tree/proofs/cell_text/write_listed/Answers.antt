use Rattle.std.proofs.Common.{refl}
use Rattle.ob_tree.specs.Print.{spec_tokens}
use Rattle.ob_tree.proofs.Spacing.{two, goes_on, ends, separated_more, separated_end}
use Rattle.ob_tree.proofs.cell_text.write_listed.Goals as goal

pub loop-place-preserved : goal.loop-place-preserved
loop-place-preserved c =
    goes_on _ _ _ _ _ _ (two _ _ _ _ _ _ c.in_ok-put_comma.ensures c.in_ok-write_spec.ensures refl) c.loop-place.invariant (separated_more spec_tokens c.args.specs.now c.loop-place.place c.index-specs-place.result c.index-specs-place.is c.loop-place-test.true)

pub returns : goal.returns
returns c = ends _ _ _ c.loop-place.invariant (separated_end spec_tokens c.args.specs.now c.loop-place.place c.loop-place-test.false)
