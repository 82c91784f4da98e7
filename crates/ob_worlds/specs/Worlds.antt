-- What a tick sees of a world (this project).
use Rattle.std.specs.Prelude.{ℕ, ◌==◌, Bool, true, false, ◌&&◌, List, [], ◌∷◌, map, filter}
use Rattle.std.specs.List.{list_any}
use Rattle.ob_base.specs.Labels.{Label}
use Rattle.ob_worlds.specs.Reader.{Reader}
use Rattle.ob_worlds.specs.World.{World}
use Rattle.ob_worlds.specs.Modules.{Modules, modules_of}
use Rattle.ob_worlds.specs.Variables.{Variable, variables, label_text}
use Rattle.ob_worlds.specs.Nets.{Net}
use Rattle.ob_worlds.specs.Settled.{Settled, Now}

abbrev pub is_root : List ℕ → Bool
is_root [] = true
is_root (s ∷ up) = false

-- a variable is observed if its cell is and it stands in a root
abbrev pub is_observed : World → Label → Bool
is_observed W l = is_root l.path.serials && list_any (λ s. l.cell == s) W.observed

abbrev pub net_with : World → (Label → List ℕ) → List Variable → Net
net_with W written variables = record {
  variables = variables;
  written = written;
  observed = filter (is_observed W) (map (λ (v : Variable). v.label) variables);
  given = W.given;
  current = W.current;
}

abbrev pub net_in : Reader → World → Modules → Net
net_in E W M = net_with W (label_text M) (variables E M)

unfoldable pub net_of : Reader → World → Net
net_of E W = net_in E W (modules_of E W)

abbrev pub now_of : Reader → World → Now
now_of E W = record { net = net_of E W; touched = W.touched; got = W.got }

-- before the first tick: no cells
abbrev pub unsettled : Settled
unsettled = record { net = record { variables = []; written = λ l. []; observed = []; given = []; current = [] }; segments = []; counts = [] }
