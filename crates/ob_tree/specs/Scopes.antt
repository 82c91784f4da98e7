-- Scopes: what a name means at its place in a cell (ECMA-262, "Environment Records" and "ResolveBinding", in the subset of this language).
--
-- A scope has bindings. A name means the innermost binding of that name around its place; where there is none, it is free in the cell. Bindings
-- are numbered from 0 as their scopes are entered in the order of the text, so those of a function and of all that stands in it have
-- numbers in a row.
use Rattle.std.specs.Prelude.{ℕ, ◌+◌, ◌==◌, Bool, List, [], ◌∷◌, ◌++◌, length, if◌then◌else◌, bytes_eq}
use Rattle.ob_tree_types.specs.declared.cell.SpecForm.{SpecForm}
use Rattle.ob_tree_types.specs.declared.cell.SpecForm.TheVariants as forms

-- a binding that a scope declares: its name, and whether it is constant
pub record Bound : Type 0 where
  pub name : List ℕ
  pub constant : Bool

-- a binding that is in scope: its number, and how many functions stand around its scope
pub record Known : Type 0 where
  pub name : List ℕ
  pub number : ℕ
  pub depth : ℕ

-- all bindings that are in scope, the innermost first
abbrev pub Scope : Type 0
Scope = List Known

-- a place in the text: how many bindings were numbered before it, how many functions stand around it, and what is in scope
pub record Place : Type 0 where
  pub first : ℕ
  pub depth : ℕ
  pub scope : Scope

-- what a name means: no binding of the cell, a binding of the function in which the name stands, or one of a function around that
pub data Meaning : Type 0 where
  Free : Meaning
  Local : ℕ → Meaning
  Captured : ℕ → Meaning

-- a name where it stands in the text, to be read or written; after `viewof` or `mutable` it is a name of its own, which no scope binds
pub record Mention : Type 0 where
  pub form : SpecForm
  pub name : List ℕ
  pub means : Meaning

-- of a part of a cell: its bindings by their numbers, and its mentions in the order of the text, given its place
pub record Walk : Type 0 where
  pub bound : List Bound
  pub mentions : Place → List Mention

-- ---- what a name means

-- a binding, from a place around whose scope so many functions stand
abbrev pub seen_from : ℕ → Known → Meaning
seen_from depth k = if k.depth == depth then Local k.number else Captured k.number

-- the innermost binding of a name, from such a place
abbrev pub meant : List ℕ → ℕ → Scope → Meaning
meant x depth [] = Free
meant x depth (k ∷ scope) = if bytes_eq k.name x then seen_from depth k else meant x depth scope

-- ---- places

-- the next place, behind a binding that comes into scope
abbrev pub entered : Bound → Place → Place
entered b p = record { first = p.first + 1; depth = p.depth; scope = record { name = b.name; number = p.first; depth = p.depth } ∷ p.scope }

-- inside a scope of these bindings
abbrev pub within : List Bound → Place → Place
within [] p = p
within (b ∷ bs) p = within bs (entered b p)

-- behind a part with these bindings
abbrev pub behind : List Bound → Place → Place
behind bs p = record { first = p.first + length bs; depth = p.depth; scope = p.scope }

abbrev pub deeper : Place → Place
deeper p = record { first = p.first; depth = p.depth + 1; scope = p.scope }

-- ---- walks

unfoldable pub nothing : Walk
nothing = record { bound = []; mentions = λ p. [] }

-- a name as it is
unfoldable pub named : List ℕ → Walk
named x = record { bound = []; mentions = λ p. record { form = forms.Plain; name = x; means = meant x p.depth p.scope } ∷ [] }

-- a name after `viewof` or `mutable`
unfoldable pub outside : SpecForm → List ℕ → Walk
outside f x = record { bound = []; mentions = λ p. record { form = f; name = x; means = Free } ∷ [] }

-- one part after another
unfoldable pub after : Walk → Walk → Walk
after a b = record { bound = a.bound ++ b.bound; mentions = λ p. a.mentions p ++ b.mentions (behind a.bound p) }

-- a part inside a scope of its own
unfoldable pub inside : List Bound → Walk → Walk
inside bs w = record { bound = bs ++ w.bound; mentions = λ p. w.mentions (within bs p) }

-- a part inside a function
unfoldable pub in_function : Walk → Walk
in_function w = record { bound = w.bound; mentions = λ p. w.mentions (deeper p) }
