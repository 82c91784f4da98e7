-- What freezing marks (this project).
use Rattle.std.specs.Prelude.{◌≡◌, ◌↔◌, List, [], ◌∷◌, ◌++◌, Option, Some, None, fold, filter_map}
use Rattle.std.specs.List.{Contains}
use Rattle.std.specs.Option.{option_map_or}
use Rattle.indexmap.specs.IndexSet.{insert_key}
use Rattle.ob_items.specs.Properties.{values_of}
use Rattle.ob_items.specs.declared.value.Value.{Value}
use Rattle.ob_items.specs.declared.value.Value.TheVariants as V
use Rattle.ob_items.specs.declared.value.Ref.{Ref}
use Rattle.ob_items.specs.declared.item.Body.{Body}
use Rattle.ob_items.specs.declared.item.Body.TheVariants as B
use Rattle.ob_values.specs.Reach.{Reaches}
use Rattle.ob_values.specs.Store.{Store, item_of, with_mark}
use Rattle.ob_values.specs.Values.{ref_eq}

abbrev pub ref_of : Value → Option Ref
ref_of (V.Ref r) = Some r
ref_of _ = None

-- the references among values
abbrev pub refs_of : List Value → List Ref
refs_of values = filter_map ref_of values

abbrev pub option_list : {X : Type 0} → Option X → List X
option_list None = []
option_list (Some x) = x ∷ []

-- what freezing an item freezes with it: elements, properties, what a box holds, and the boxes and the invalidation
-- object that a function's text refers to; no locals of a generator, no message and no inputs
abbrev pub frozen_with : Body → List Ref
frozen_with (B.Array values) = refs_of values
frozen_with (B.Object properties) = refs_of (values_of properties)
frozen_with (B.Box value) = refs_of (option_list value)
frozen_with (B.Closure closure) = closure.boxes ++ option_list closure.invalidation
frozen_with _ = []

abbrev pub frozen_next : Store → Ref → List Ref
frozen_next s r = option_map_or (λ item. frozen_with item.body) (item_of s r) []

-- the store with the frozen mark at each of these
abbrev pub all_marked : Store → List Ref → Store
all_marked s refs = fold with_mark s refs

-- the new store has the mark at exactly what the value reaches, and else is the old one
pub record Freezes (old new : Store) (value : Value) : Type 0 where
  pub frozen : List Ref
  pub exact : (r : Ref) → Contains frozen r ↔ Reaches (frozen_next old) (refs_of (value ∷ [])) r
  pub is : new ≡ all_marked old frozen

-- the references, and r once
abbrev pub with_ref : List Ref → Ref → List Ref
with_ref refs r = insert_key ref_eq refs r

-- the references, and each of `more` once
abbrev pub with_refs : List Ref → List Ref → List Ref
with_refs refs more = fold with_ref refs more
