-- What the calls keep on the way to the slots: flags of the captured bindings, and uses by the set of the free names.
use Rattle.std.specs.Prelude.{◌≡◌, ℕ, ◌<◌, Bool, true, List, length, Some, slice_get, slice_set}
use Rattle.std.specs.List.{position_or_len}
use Rattle.ob_tree.specs.Scopes as scopes
use Rattle.ob_tree.specs.Scopes.{Mention}
use Rattle.ob_tree.specs.Names.{referred, is_captured}
use Rattle.ob_names.specs.Forms.{name_ref}
use Rattle.ob_names.specs.Sets.{same_ref}
use Rattle.ob_names.specs.Resolved.{use_by}
use Rattle.ob_names.specs.declared.form.NameRef.{NameRef}
use Rattle.ob_names.specs.declared.slots.Use.{Use}

-- a use, by the set of the free names
abbrev pub use_in : List NameRef → Mention → Use
use_in refs m = use_by (position_or_len (same_ref (name_ref (referred m))) refs) m.means

-- flags by the numbers of bindings, with that of a binding that is captured
abbrev pub flagged : List Bool → scopes.Meaning → List Bool
flagged flags scopes.Free = flags
flagged flags (scopes.Local n) = flags
flagged flags (scopes.Captured n) = slice_set flags n true

abbrev pub flag_with : List Bool → Mention → List Bool
flag_with flags m = flagged flags m.means

-- the flags tell which bindings the mentions capture
abbrev pub AreFlags : List Mention → List Bool → Type 0
AreFlags ms flags = (n : ℕ) → n < length flags → slice_get flags n ≡ Some (is_captured ms n)
