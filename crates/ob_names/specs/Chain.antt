-- The bindings in scope, as a list with a table of the innermost of each name.
use Rattle.std.specs.Prelude.{◌≡◌, ℕ, List, [], ◌∷◌, map, reverse, Option, Some, None, if◌then◌else◌, bytes_eq}
use Rattle.std.specs.HashMap as hash
use Rattle.std.specs.declared.hash.FoldHasher.{FoldHasher}
use Rattle.std.specs.declared.hash.BuildHasherDefault.{BuildHasherDefault}
use denote.Ref.{Bor}
use Rattle.ob_tree.specs.Scopes.{Known, Scope}
use Rattle.ob_names.specs.declared.meaning.Spot.{Spot}
use Rattle.ob_names.specs.declared.chain.Open.{Open}

abbrev pub known : Open → Known
known o = record { name = o.name.now; number = o.spot.number; depth = o.spot.depth }

-- the bindings of a list, of which the last is the innermost
abbrev pub scope_of : List Open → Scope
scope_of all = map known (reverse all)

-- where the innermost binding of a name stands
abbrev pub innermost : List ℕ → List Open → Option Spot
innermost x [] = None
innermost x (o ∷ os) = if bytes_eq o.name.now x then Some o.spot else innermost x os

-- each binding has the next one of its name
abbrev pub KeepsHidden : List Open → Type 0
KeepsHidden [] = Unit {0}
KeepsHidden (o ∷ os) = (o.hidden ≡ innermost o.name.now os) × KeepsHidden os

-- the table has the innermost binding of each name
pub record IsIndexed (all : List Open) (table : hash.HashMap (Bor (List ℕ)) Spot (BuildHasherDefault FoldHasher)) : Type 0 where
  pub by_name : (x : List ℕ) → hash.get_by (λ k. bytes_eq x k.now) table ≡ innermost x (reverse all)
  pub hidden : KeepsHidden (reverse all)
