use Rattle.std.proofs.Common.{arith}
use Rattle.ob_items.specs.declared.value.Value.TheVariants as V
use Rattle.ob_values.specs.ArrayMethods.{written_as}
use Rattle.ob_text_methods.proofs.JoinLemmas.{put_both}
use Rattle.ob_text_methods.proofs.joins.put_joined.Goals as goal

pub returns-in_ok-put_written-in-len1-up : goal.returns-in_ok-put_written-in-len1-up
returns-in_ok-put_written-in-len1-up c =
    put_both c.put_rest.result (written_as c.args.regions.now) c.args.values.now V.Undefined c.args.between.now c.args.out.now.items c.put_written.new.out.items c.put_rest.new.out.items
    (omega arith) c.in_ok-put_written-in-len1-up.ensures c.put_rest.ensures
