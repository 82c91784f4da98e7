use Rattle.std.proofs.Common.{◌∙◌, ap, sym, Some}
use Rattle.ob_items.specs.Items.{at_item}
use Rattle.ob_items.proofs.ColumnLemmas.{columns_body}
use Rattle.ob_items.proofs.columns.ItemColumns.find.Goals as goal

pub returns : goal.returns
returns c =
    c.body_at.ensures ∙ sym (columns_body c.self.inside.marks.items c.self.inside.bodies.items c.args.at c.self.invariant)
    ∙ ap (λ items. at_item (λ body. Some body) items c.args.at) c.self.view_is
