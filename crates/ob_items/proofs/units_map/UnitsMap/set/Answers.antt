use Rattle.std.proofs.Common.{◌∙◌, ap, ℕ, nat_eq, map, Vec, Global}
use Rattle.std.specs.Cmp.Lexicographic.{pointwise}
use Rattle.indexmap.specs.IndexMap.{insert_entry}
use Rattle.ob_items.proofs.UnitsMapLemmas.{insert_entry-map}
use Rattle.ob_items.proofs.units_map.UnitsMap.set.Goals as goal

pub returns-clause-ok : goal.returns-clause-ok
returns-clause-ok g c =
    ap (map (λ e. (e.0.items, e.1))) c.in_ok-insert.ensures.entries
    ∙ insert_entry-map (λ (k : Vec ℕ Global). k.items) c.self.inside.table.entries c.in_ok-copy.copy c.args.value
    ∙ (λ i. insert_entry (pointwise nat_eq) (c.self.view_is i) (c.in_ok-copy.ensures.items i) c.args.value)
