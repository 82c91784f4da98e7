-- The instances of notebooks in canonical order (this project).
use Rattle.std.specs.Prelude.{ℕ, not, List, [], ◌∷◌, ◌++◌, Option, map, filter, bytes_eq}
use Rattle.std.specs.Option.{option_map_or}
use Rattle.std.specs.List.{flat_map, find}
use Rattle.ob_inputs.specs.Paths.{circular}
use Rattle.ob_inputs.specs.Values.{by_inputs}
use Rattle.ob_base.specs.Labels.{Path}
use Rattle.ob_worlds.specs.Modules.{Modules, With, ids, withs, with_at}

-- the notebooks that one imports from with injected names
abbrev pub with_sources : Modules → List ℕ → List (List ℕ)
with_sources M id = map (λ (w : With). w.from) (withs M id)

-- the first notebook from which imports with injected names lead back to it
abbrev pub with_cycle : Modules → Option (List ℕ)
with_cycle M = find (circular bytes_eq (ids M) (with_sources M)) (ids M)

-- of an instance of a notebook, and of those that are derived below it, each before its own: the serials behind that instance
unfoldable pub below : Modules → List ℕ → List (List ℕ)
below M = by_inputs bytes_eq (ids M) (with_sources M) (λ id. [] ∷ [])
    (λ id paths. [] ∷ flat_map (λ (w : With). map (λ p. p ++ w.serial ∷ []) (paths w.from)) (withs M id))

-- the main notebook, then the others
abbrev pub roots : Modules → List (List ℕ)
roots M = filter (bytes_eq M.main) (ids M) ++ filter (λ id. not (bytes_eq M.main id)) (ids M)

unfoldable pub instances : Modules → List Path
instances M = flat_map (λ id. map (λ p. record { root = id; serials = p }) (below M id)) (roots M)

-- the notebook of an instance
abbrev pub notebook_at : Modules → List ℕ → List ℕ → List ℕ
notebook_at M root [] = root
notebook_at M root (s ∷ up) = option_map_or (λ (w : With). w.from) (with_at M s) []

abbrev pub notebook_of : Modules → Path → List ℕ
notebook_of M path = notebook_at M path.root path.serials
