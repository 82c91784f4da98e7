use Rattle.std.proofs.Common.{◌∙◌, ap, arith, take}
use Rattle.ob_items.specs.Properties.{entries_of, named_entry}
use Rattle.ob_items.proofs.ListLemmas.{first_both}
use Rattle.ob_items.proofs.many.ManyProperties.first.Goals as goal

pub returns : goal.returns
returns c =
    first_both named_entry c.args.n _ _ _ _ _ c.in_ok-entries.ensures.value (omega (arith, c.len.ensures)) c.in_ok-add_named_entries.ensures
    ∙ ap (λ p. take c.args.n (entries_of p)) ((λ i. record { indices = (c.deref-maps.ensures i).indices.entries; named = (c.deref-maps.ensures i).named }) ∙ c.self.view_is)
