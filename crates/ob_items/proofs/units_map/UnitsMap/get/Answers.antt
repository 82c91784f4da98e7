use Rattle.std.proofs.Common.{◌∙◌, sym, ap, ℕ, nat_eq, Vec, Global}
use Rattle.std.specs.Cmp.Lexicographic.{pointwise}
use Rattle.std.specs.Map.{lookup}
use Rattle.ob_items.proofs.UnitsMapLemmas.{lookup-map}
use Rattle.ob_items.proofs.units_map.UnitsMap.get.Goals as goal

pub returns : goal.returns
returns g c =
    c.copied.ensures ∙ c.get.ensures.value
    ∙ sym (lookup-map (λ (k : Vec ℕ Global). k.items) c.args.key.now c.self.inside.table.entries)
    ∙ ap (lookup (pointwise nat_eq c.args.key.now)) c.self.view_is
