use Rattle.std.proofs.Common.{◌≡◌, arith, ap, ◌∙◌, sym, decimal}
use Rattle.std.proofs.lemmas.Bool.{true≢false}
use Rattle.ob_items.proofs.DecimalLemmas.{read-index, length-index-le}
use Rattle.ob_items.proofs.index_text.array_index.Goals as goal

pub returns-then-units-gt10-clause-none : goal.returns-then-units-gt10-clause-none
returns-then-units-gt10-clause-none c n t = omega (arith, length-index-le _ n t)

pub returns-then-value-ge4294967295-clause-none : goal.returns-then-value-ge4294967295-clause-none
returns-then-value-ge4294967295-clause-none c n t = omega (arith, read-index _ n t, c.in_ok-value.ensures.value, t.index)

pub returns-else-is_same-clause-none : goal.returns-else-is_same-clause-none
returns-else-is_same-clause-none c n t =
    let value : n ≡ c.in_ok-value.value = sym (c.in_ok-value.ensures.value ∙ read-index c.args.units.now n t) in
    let same : c.args.units.now ≡ c.as_bytes.result.now = t.text ∙ ap decimal value ∙ sym c.format.ensures.text ∙ sym c.as_bytes.ensures.value in
    true≢false (sym (c.is_same.ensures.1 same) ∙ c.if-is_same.false)
