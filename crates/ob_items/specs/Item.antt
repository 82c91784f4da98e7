-- An item of a region, with its frozen mark.
use Rattle.std.specs.Prelude.{Bool}
use Rattle.ob_items.specs.declared.item.Body.{Body}

pub record Item : Type 0 where
  pub frozen : Bool
  pub body : Body
