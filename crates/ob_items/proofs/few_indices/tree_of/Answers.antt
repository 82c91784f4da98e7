use Rattle.std.proofs.Common.{◌+◌, ◌∙◌, ap, drop}
use Rattle.ob_items.proofs.IndexLemmas.{put_all, put_all-next, put_all-rising}
use Rattle.ob_items.proofs.few_indices.tree_of.Goals as goal

pub loop-entry-init : goal.loop-entry-init
loop-entry-init c =
    ap (λ t. put_all t c.args.entries.now) c.new-tree.ensures.empty ∙ put_all-rising c.args.entries.now c.requires

pub loop-entry-preserved : goal.loop-entry-preserved
loop-entry-preserved c =
    ap (λ t. put_all t (drop (c.loop-entry.entry-index + 1) c.args.entries.now)) c.in_ok-insert.ensures.entries
    ∙ put_all-next c.loop-entry.tree.entries c.args.entries.now c.loop-entry.entry-index _ c.loop-entry-test.true
    ∙ c.loop-entry.invariant
