use Rattle.std.proofs.Common.{refl}
use Rattle.ob_tree.specs.Print.{name_token}
use Rattle.ob_tree.proofs.Spacing.{two, goes_on, ends, separated_more, separated_end}
use Rattle.ob_tree.proofs.marks.write_names.Goals as goal

pub loop-place-preserved : goal.loop-place-preserved
loop-place-preserved c =
    goes_on _ _ _ _ _ _ (two _ _ _ _ _ _ c.in_ok-put_comma.ensures c.in_ok-put_name.ensures refl) c.loop-place.invariant (separated_more name_token c.args.names.now c.loop-place.place c.index-names-place.result c.index-names-place.is c.loop-place-test.true)

pub returns : goal.returns
returns c = ends _ _ _ c.loop-place.invariant (separated_end name_token c.args.names.now c.loop-place.place c.loop-place-test.false)
