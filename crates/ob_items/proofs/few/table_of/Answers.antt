use Rattle.std.proofs.Common.{◌∙◌, ap, nat_eq}
use Rattle.std.specs.Cmp.Lexicographic.{pointwise}
use Rattle.indexmap.specs.IndexMap.{insert_all}
use Rattle.ob_items.proofs.FewLemmas.{insert_all-distinct}
use Rattle.ob_items.proofs.few.table_of.Goals as goal

pub loop-named-init : goal.loop-named-init
loop-named-init c =
    ap (λ t. insert_all (pointwise nat_eq) t c.args.entries.now) c.new-table.ensures
    ∙ insert_all-distinct c.args.entries.now c.requires
