-- What refers to references of one kind alone (this project): the kind is any set of references.
use Rattle.std.specs.Prelude.{◌≡◌, ◌⊎◌, ℕ, List, [], ◌∷◌, Option, Some, None, IsTrue}
use Rattle.ob_items.specs.Item.{Item}
use Rattle.ob_items.specs.Properties.{values_of}
use Rattle.ob_items.specs.Region.{Cells}
use Rattle.ob_items.specs.declared.item.Body.{Body}
use Rattle.ob_items.specs.declared.item.Body.TheVariants as B
use Rattle.ob_items.specs.declared.value.Ref.{Ref}
use Rattle.ob_items.specs.declared.value.Value.{Value}
use Rattle.ob_items.specs.declared.value.Value.TheVariants as V
use Rattle.ob_values.specs.Fixed.{is_fixed}
use Rattle.ob_values.specs.Store.{Store, item_of}
use Rattle.ob_actions.specs.Places.{Place, Slot, Boxed}
use Rattle.ob_actions.specs.Requests.{Request, Closure, Prelude, Resume}

abbrev pub Each : {X : Type 0} → (X → Type 0) → List X → Type 0
Each P [] = Unit {0}
Each P (x ∷ xs) = P x × Each P xs

abbrev pub IfThere : {A : Type 0} → (A → Type 0) → Option A → Type 0
IfThere R None = Unit {0}
IfThere R (Some a) = R a

abbrev pub Good : (Ref → Type 0) → Value → Type 0
Good G (V.Ref r) = G r
Good G _ = Unit {0}

-- an item, but for what a generator object will do, which is kept beside the store
abbrev pub GoodBody : (Ref → Type 0) → Body → Type 0
GoodBody G (B.Text units) = Unit {0}
GoodBody G (B.Array values) = Each (Good G) values
GoodBody G (B.Object properties) = Each (Good G) (values_of properties)
GoodBody G (B.Box value) = IfThere (Good G) value
GoodBody G (B.Closure c) = Each G c.boxes × G c.inputs × IfThere G c.invalidation
GoodBody G (B.Generator kept) = Unit {0}
GoodBody G (B.Error kind message) = G message
GoodBody G (B.Invalidation n) = Unit {0}
GoodBody G (B.Inputs values) = Each (Good G) values

abbrev pub GoodItems : (Ref → Type 0) → Cells → Type 0
GoodItems G c = Each (λ (item : Item). GoodBody G item.body) c.items

abbrev pub GoodPlace : (Ref → Type 0) → Place → Type 0
GoodPlace G (Slot i) = Unit {0}
GoodPlace G (Boxed r) = G r

abbrev pub GoodLocals : (Ref → Type 0) → List (Option Value) → Type 0
GoodLocals G locals = Each (IfThere (Good G)) locals

abbrev pub GoodRequest : (Ref → Type 0) → Request → Type 0
GoodRequest G (Closure r args) = G r × Each (Good G) args
GoodRequest G (Prelude k args) = Each (Good G) args
GoodRequest G (Resume r v) = G r × Good G v

-- ---- what a run reaches

-- a reference into its own region, or one of those outside
abbrev pub Reachable : ℕ → (Ref → Type 0) → Ref → Type 0
Reachable own outside r = (r.region.0 ≡ own) ⊎ outside r

-- what the references outside point to is frozen or never written, and leads to nothing else
abbrev pub IsClosed : ℕ → (Ref → Type 0) → Store → Type 0
IsClosed own outside s =
    (r : Ref) → outside r → IfThere (λ (item : Item). IsTrue (is_fixed item) × GoodBody (Reachable own outside) item.body) (item_of s r)
