use Rattle.std.proofs.Common.{◌≡◌, ◌∙◌, ◌+◌, [], OnOk, ap, sym, subst, arith}
use Rattle.ob_items.specs.Properties.{entries_of}
use Rattle.ob_values.specs.Inspect.{print_parts, print_property, print_value, print_at}
use Rattle.ob_inspect.proofs.PrintLemmas.{print_body-closed, print_body-opened, properties_first}
use Rattle.ob_inspect.proofs.print.+print.Goals as goal

pub print_body-returns-then-depth-eq0 : goal.print_body-returns-then-depth-eq0
print_body-returns-then-depth-eq0 t c =
    subst (λ p. OnOk c.write_item.result (c.write_item.new.self ≡ p)) (sym (print_body-closed c.args.depth c.args.regions.now c.args.body.now c.args.page.now c.if-depth-eq0.true)) c.write_item.ensures

pub print_body-returns-else-depth-eq0 : goal.print_body-returns-else-depth-eq0
print_body-returns-else-depth-eq0 t c =
    subst (λ p. OnOk c.print_opened.result (c.print_opened.new.page ≡ p)) (sym (print_body-opened c.args.depth c.args.regions.now c.args.body.now c.args.page.now (omega arith))) c.print_opened.ensures

pub print_object-returns : goal.print_object-returns
print_object-returns t c =
    let all = entries_of c.args.properties.now in
    subst (λ p. OnOk c.print_properties.result (c.print_properties.new.page ≡ p))
    (ap (λ xs. print_parts (print_property (print_value (print_at c.args.depth c.args.regions.now))) [] xs c.args.page.now) (c.as_slice.ensures ∙ c.in_ok-entries.ensures)
    ∙ properties_first c.args.depth c.args.regions.now all (c.left.result + 1) c.args.page.now (ap (λ n. n + 1) c.left.ensures))
    c.print_properties.ensures
