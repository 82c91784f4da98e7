use Rattle.std.proofs.Common.{◌≡◌, ◌++◌, ◌-◌, ◌∙◌, ap, subst, IfOk, List, length, map, take}
use Rattle.ob_items.specs.Properties.{index_entry, named_entry}
use Rattle.ob_items.specs.declared.properties.Property.{Property}
use Rattle.ob_items.proofs.ListLemmas.{first_append}
use Rattle.ob_items.proofs.properties.first_of_both.Goals as goal

pub returns : goal.returns
returns c =
    let indices : List Property = map index_entry c.args.indices.now in
    let named : List Property = map named_entry c.args.named.now in
    let both : c.in_ok-first.first ++ c.in_ok-rest.rest ≡ take c.args.n (indices ++ named) =
    (λ i. c.in_ok-first.ensures i ++ c.in_ok-rest.ensures i)
    ∙ ap (λ k. take c.args.n indices ++ take (c.args.n - k) named) (c.len.ensures ∙ ap length c.in_ok-first.ensures)
    ∙ first_append c.args.n indices named in
    subst (λ (es : List Property). IfOk c.joined.result (λ all. all ≡ es)) both c.joined.ensures
