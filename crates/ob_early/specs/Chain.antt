-- The names in scope, as a list with a table of where the innermost binding of each name stands.
use Rattle.std.specs.Prelude.{◌≡◌, ℕ, List, [], ◌∷◌, map, reverse, length, Option, Some, None, if◌then◌else◌, bytes_eq}
use Rattle.std.specs.HashMap as hash
use Rattle.std.specs.declared.hash.FoldHasher.{FoldHasher}
use Rattle.std.specs.declared.hash.BuildHasherDefault.{BuildHasherDefault}
use denote.Ref.{Bor}
use Rattle.ob_grammar.specs.Early.{Names}
use Rattle.ob_early.specs.declared.chain.Open.{Open}

abbrev pub name_of : Open → List ℕ
name_of o = o.name.now

-- the names of a list of bindings, of which the last is the innermost
abbrev pub names_in : List Open → Names
names_in all = map name_of (reverse all)

-- where the innermost binding of a name stands, counted from the outermost
abbrev pub innermost : List ℕ → List Open → Option ℕ
innermost x [] = None
innermost x (o ∷ os) = if bytes_eq o.name.now x then Some (length os) else innermost x os

-- each binding has the place of the next one of its name
abbrev pub KeepsHidden : List Open → Type 0
KeepsHidden [] = Unit {0}
KeepsHidden (o ∷ os) = (o.hidden ≡ innermost o.name.now os) × KeepsHidden os

-- the table has the place of the innermost binding of each name
pub record IsIndexed (all : List Open) (table : hash.HashMap (Bor (List ℕ)) ℕ (BuildHasherDefault FoldHasher)) : Type 0 where
  pub by_name : (x : List ℕ) → hash.get_by (λ k. bytes_eq x k.now) table ≡ innermost x (reverse all)
  pub hidden : KeepsHidden (reverse all)
