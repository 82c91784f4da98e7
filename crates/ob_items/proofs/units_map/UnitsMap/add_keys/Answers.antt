use Rattle.std.proofs.Common.{◌≡◌, ◌++◌, ◌∙◌, ap, subst, ℕ, List, Vec, Global, OnOk}
use Rattle.std.specs.Map.{keys_of}
use Rattle.ob_items.proofs.UnitsMapLemmas.{keys_of-map}
use Rattle.ob_items.proofs.units_map.UnitsMap.add_keys.Goals as goal

pub returns : goal.returns
returns g c =
    subst (λ (ks : List (List ℕ)). OnOk c.add_table_keys.result (c.add_table_keys.new.keys ≡ c.args.keys.now ++ ks))
    (keys_of-map (λ (k : Vec ℕ Global). k.items) c.self.inside.table.entries ∙ ap keys_of c.self.view_is) c.add_table_keys.ensures
