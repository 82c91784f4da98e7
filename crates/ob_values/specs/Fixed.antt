-- Items that stay as they are (this project): those that are frozen, and those of a kind that no call writes.
use Rattle.std.specs.Prelude.{◌≡◌, ◌||◌, Bool, true, false, Some, IsTrue}
use Rattle.ob_items.specs.declared.value.Ref.{Ref}
use Rattle.ob_items.specs.Item.{Item}
use Rattle.ob_items.specs.declared.item.Body.{Body}
use Rattle.ob_items.specs.declared.item.Body.TheVariants as B
use Rattle.ob_values.specs.Store.{Store, item_of}

-- a text, an error or an array of inputs
abbrev pub is_never_written : Body → Bool
is_never_written (B.Text _) = true
is_never_written (B.Error _ _) = true
is_never_written (B.Inputs _) = true
is_never_written _ = false

-- frozen or never written
abbrev pub is_fixed : Item → Bool
is_fixed item = item.frozen || is_never_written item.body

-- an item of this body is at r, frozen or never written
pub record IsKept (s : Store) (r : Ref) (kept : Body) : Type 0 where
  pub item : Item
  pub is : item_of s r ≡ Some item
  pub body : item.body ≡ kept
  pub fixed : IsTrue (is_fixed item)

-- if what is at r is frozen or never written, it stays so, and keeps its body
abbrev pub KeepsFixedAt : Store → Store → Ref → Type 0
KeepsFixedAt old new r = (item : Item) → item_of old r ≡ Some item → IsTrue (is_fixed item) → IsKept new r item.body

abbrev pub KeepsFixed : Store → Store → Type 0
KeepsFixed old new = (r : Ref) → KeepsFixedAt old new r
