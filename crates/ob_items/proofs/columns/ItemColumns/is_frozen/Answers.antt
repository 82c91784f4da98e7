use Rattle.std.proofs.Common.{◌∙◌, ap, sym}
use Rattle.ob_items.specs.Items.{is_frozen_at}
use Rattle.ob_items.proofs.ColumnLemmas.{columns_frozen}
use Rattle.ob_items.proofs.columns.ItemColumns.is_frozen.Goals as goal

pub returns : goal.returns
returns c =
    c.mark_at.ensures
    ∙ sym (columns_frozen c.self.inside.marks.items c.self.inside.bodies.items c.args.at c.self.invariant)
    ∙ ap (λ items. is_frozen_at items c.args.at) c.self.view_is
