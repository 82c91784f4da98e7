-- What a walk through a tree has found so far: the bindings and the mentions up to a place, and what is in scope there.
use Rattle.std.specs.Prelude.{ℕ, ◌+◌, ◌-◌, List, [], ◌∷◌, ◌++◌, length, drop}
use Rattle.ob_tree.specs.Scopes.{Bound, Mention, Scope, Place, Walk}

pub record Found : Type 0 where
  pub bound : List Bound
  pub mentions : List Mention
  pub scope : Scope
  pub depth : ℕ

abbrev pub at_start : Found
at_start = record { bound = []; mentions = []; scope = []; depth = 0 }

abbrev pub place_of : Found → Place
place_of s = record { first = length s.bound; depth = s.depth; scope = s.scope }

-- behind a part
unfoldable pub ran : Walk → Found → Found
ran w s = record { bound = s.bound ++ w.bound; mentions = s.mentions ++ w.mentions (place_of s); scope = s.scope; depth = s.depth }

-- with a binding in scope
unfoldable pub bound_to : Bound → Found → Found
bound_to b s = record {
  bound = s.bound ++ b ∷ [];
  mentions = s.mentions;
  scope = record { name = b.name; number = length s.bound; depth = s.depth } ∷ s.scope;
  depth = s.depth;
}

-- with bindings in scope, one by one
abbrev pub binds : List Bound → Found → Found
binds [] s = s
binds (b ∷ bs) s = binds bs (bound_to b s)

-- with only the outermost n bindings in scope
unfoldable pub closed_to : ℕ → Found → Found
closed_to n s = record { bound = s.bound; mentions = s.mentions; scope = drop (length s.scope - n) s.scope; depth = s.depth }

-- inside one function more
unfoldable pub deepened : Found → Found
deepened s = record { bound = s.bound; mentions = s.mentions; scope = s.scope; depth = s.depth + 1 }

-- outside of a function again
unfoldable pub left : Found → Found
left s = record { bound = s.bound; mentions = s.mentions; scope = s.scope; depth = s.depth - 1 }
