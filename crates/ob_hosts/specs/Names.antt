-- The names of the host functions (this project).
use Rattle.std.specs.Prelude.{ℕ, List, [], ◌∷◌, Bool, bytes_eq, codes}
use Rattle.std.specs.List.{list_any}
use Rattle.ob_hosts.specs.declared.host_fn.HostCode.{HostCode}
use Rattle.ob_hosts.specs.declared.host_fn.HostCode.TheVariants.{Quot, FloorDiv, Mod, Clamp0}

-- by what name a notebook calls it
unfoldable pub host_name : HostCode → List ℕ
host_name Quot = codes "quot"
host_name FloorDiv = codes "floordiv"
host_name Mod = codes "mod"
host_name Clamp0 = codes "clamp0"

abbrev pub is_host_name : List ℕ → Bool
is_host_name name = list_any (λ code. bytes_eq (host_name code) name) (Quot ∷ FloorDiv ∷ Mod ∷ Clamp0 ∷ [])
