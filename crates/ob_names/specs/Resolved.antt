-- What each use of a name in a function means, and what its bindings are.
use Rattle.std.specs.Prelude.{ℕ, ◌+◌, List, [], ◌∷◌, map}
use Rattle.ob_tree.specs.Scopes as scopes
use Rattle.ob_tree.specs.Scopes.{Mention, Walk}
use Rattle.ob_tree.specs.Names.{Referred, mentions_of, referred, free_in, place_among, is_captured}
use Rattle.ob_names.specs.declared.slots.Binding.{Binding}
use Rattle.ob_names.specs.declared.slots.Use.{Use}
use Rattle.ob_names.specs.declared.slots.Use.TheVariants as uses

-- bindings with their numbers from `first`: each is captured where some of the mentions captures it
abbrev pub bindings_from : List Mention → ℕ → List scopes.Bound → List Binding
bindings_from ms first [] = []
bindings_from ms first (b ∷ bs) = record { captured = is_captured ms first; constant = b.constant } ∷ bindings_from ms (first + 1) bs

abbrev pub bindings_of : Walk → List Binding
bindings_of w = bindings_from (mentions_of w) 0 w.bound

-- a use of a name that is free, at that place among the free names, or has that meaning
abbrev pub use_by : ℕ → scopes.Meaning → Use
use_by place scopes.Free = uses.Input place
use_by place (scopes.Local n) = uses.Local n
use_by place (scopes.Captured n) = uses.Captured n

abbrev pub use_of : List Referred → Mention → Use
use_of free m = use_by (place_among free (referred m)) m.means

-- the uses of names in the order of the text
abbrev pub uses_of : Walk → List Use
uses_of w = map (use_of (free_in (mentions_of w))) (mentions_of w)
