use Rattle.std.proofs.Common.{◌≡◌, ◌++◌, ◌∙◌, ap, subst, ℕ, Vec, Global, OnOk}
use Rattle.std.specs.Map.{values_of}
use Rattle.ob_items.proofs.UnitsMapLemmas.{values_of-map}
use Rattle.ob_items.proofs.units_map.UnitsMap.add_values.Goals as goal

pub returns : goal.returns
returns g c =
    subst (λ vs. OnOk c.add_table_values.result (c.add_table_values.new.values ≡ c.args.values.now ++ vs))
    (values_of-map (λ (k : Vec ℕ Global). k.items) c.self.inside.table.entries ∙ ap values_of c.self.view_is) c.add_table_values.ensures
