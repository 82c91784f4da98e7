-- Plain data as new items of a region (this project): what stands in an array or object comes before it, in order.
use Rattle.std.specs.Prelude.{ℕ, ◌+◌, List, [], ◌∷◌, ◌++◌, length, fold}
use Rattle.ob_base.specs.declared.plain.Plain.{Plain, fold-Plain}
use Rattle.ob_base.specs.declared.plain.PlainProp.{PlainProp, fold-PlainProp}
use Rattle.ob_base.specs.declared.plain.Plain.TheOpen.{Plain-F, PlainProp-F}
use Rattle.ob_items.specs.Items.{live}
use Rattle.ob_items.specs.Properties.{Keyed, no_properties, with_property}
use Rattle.ob_items.specs.declared.value.Value.{Value}
use Rattle.ob_items.specs.declared.value.Value.TheVariants as V
use Rattle.ob_items.specs.declared.value.RegionKey.{RegionKey}
use Rattle.ob_items.specs.declared.item.Body.{Body}
use Rattle.ob_items.specs.declared.item.Body.TheVariants as B
use Rattle.ob_values.specs.Store.{Store, with_new, next_ref, text_cost}

-- a value, and the store in which it stands
pub record Placed : Type 0 where
  pub value : Value
  pub store : Store

-- the values of an array so far, and the store in which they stand
pub record PlacedItems : Type 0 where
  pub values : List Value
  pub store : Store

-- the properties of an object so far, and the store in which their values stand
pub record PlacedProps : Type 0 where
  pub properties : Keyed
  pub store : Store

abbrev pub kept : Value → Store → Placed
kept value s = record { value = value; store = s }

-- a new item of the region, which costs so many elements
abbrev pub made : RegionKey → Body → ℕ → Store → Placed
made key body cost s = record { value = V.Ref (next_ref s key); store = with_new s key (live body) cost }

abbrev pub with_value : PlacedItems → Placed → PlacedItems
with_value before one = record { values = before.values ++ one.value ∷ []; store = one.store }

abbrev pub add_item : PlacedItems → (Store → Placed) → PlacedItems
add_item before place = with_value before (place before.store)

abbrev pub with_key : PlacedProps → List ℕ → Placed → PlacedProps
with_key before key one = record { properties = with_property before.properties key one.value; store = one.store }

abbrev pub add_prop : PlacedProps → (List ℕ × (Store → Placed)) → PlacedProps
add_prop before prop = with_key before prop.0 (prop.1 before.store)

abbrev pub no_items : Store → PlacedItems
no_items s = record { values = []; store = s }

abbrev pub no_props : Store → PlacedProps
no_props s = record { properties = no_properties; store = s }

abbrev pub made_array : RegionKey → ℕ → PlacedItems → Placed
made_array key count p = made key (B.Array p.values) (1 + count) p.store

abbrev pub made_object : RegionKey → ℕ → PlacedProps → Placed
made_object key count p = made key (B.Object p.properties) (1 + count) p.store

abbrev pub placed_step : RegionKey → Plain-F (Store → Placed) (List ℕ × (Store → Placed)) → Store → Placed
placed_step key Plain-F.Undefined s = kept V.Undefined s
placed_step key Plain-F.Null s = kept V.Null s
placed_step key (Plain-F.Bool b) s = kept (V.Bool b) s
placed_step key (Plain-F.Int n) s = kept (V.Int n) s
placed_step key (Plain-F.Text units) s = made key (B.Text units) (text_cost (length units)) s
placed_step key (Plain-F.Array items) s = made_array key (length items) (fold add_item (no_items s) items)
placed_step key (Plain-F.Object props) s = made_object key (length props) (fold add_prop (no_props s) props)

abbrev pub placed_prop_step : PlainProp-F (Store → Placed) (List ℕ × (Store → Placed)) → List ℕ × (Store → Placed)
placed_prop_step p = (p.key, p.value)

-- plain data placed in a region: its value, and the store then
abbrev pub placed : RegionKey → Plain → Store → Placed
placed key = fold-Plain (Store → Placed) (List ℕ × (Store → Placed)) (placed_step key) placed_prop_step

abbrev pub placed_prop : RegionKey → PlainProp → List ℕ × (Store → Placed)
placed_prop key = fold-PlainProp (Store → Placed) (List ℕ × (Store → Placed)) (placed_step key) placed_prop_step
