-- Where every reference counts as good, all is.
use Rattle.std.proofs.Common.{List, [], ◌∷◌, Option, Some, None}
use Rattle.ob_items.specs.declared.item.Body.{Body}
use Rattle.ob_items.specs.declared.item.Body.TheVariants as B
use Rattle.ob_items.specs.Properties.{values_of}
use Rattle.ob_items.specs.declared.value.Ref.{Ref}
use Rattle.ob_items.specs.declared.value.Value.{Value}
use Rattle.ob_items.specs.declared.value.Value.TheVariants as V
use Rattle.ob_actions.specs.Within.{Each, Good, GoodBody, GoodLocals, IfThere}

abbrev pub AnyRef : Ref → Type 0
AnyRef r = Unit {0}

pub any_value : (v : Value) → Good AnyRef v
any_value (V.Ref r) = tt
any_value _ = tt

pub any_each : {X : Type 0} (P : X → Type 0) → ((x : X) → P x) → (xs : List X) → Each P xs
any_each P f [] = tt
any_each P f (x ∷ xs) = (f x, any_each P f xs)

pub any_there : {X : Type 0} (P : X → Type 0) → ((x : X) → P x) → (o : Option X) → IfThere P o
any_there P f None = tt
any_there P f (Some x) = f x

pub any_values : (vs : List Value) → Each (Good AnyRef) vs
any_values vs = any_each (Good AnyRef) any_value vs

pub any_refs : (rs : List Ref) → Each AnyRef rs
any_refs rs = any_each AnyRef (λ r. tt) rs

pub any_ref : (o : Option Ref) → IfThere AnyRef o
any_ref o = any_there AnyRef (λ r. tt) o

pub any_locals : (ls : List (Option Value)) → GoodLocals AnyRef ls
any_locals ls = any_each (IfThere (Good AnyRef)) (λ o. any_there (Good AnyRef) any_value o) ls

pub any_body : (b : Body) → GoodBody AnyRef b
any_body (B.Text units) = tt
any_body (B.Array values) = any_values values
any_body (B.Object properties) = any_values (values_of properties)
any_body (B.Box value) = any_there (Good AnyRef) any_value value
any_body (B.Closure c) = (any_refs c.boxes, tt, any_ref c.invalidation)
any_body (B.Generator kept) = tt
any_body (B.Error kind message) = tt
any_body (B.Invalidation n) = tt
any_body (B.Inputs values) = any_values values
