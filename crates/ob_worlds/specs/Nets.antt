-- Which variables are circular and which are live (this project, after the Observable Runtime).
use Rattle.std.specs.Prelude.{ℕ, Bool, false, List, [], ◌∷◌, None, map, filter, unwrap_or}
use Rattle.std.specs.List.{find}
use Rattle.ob_base.specs.declared.plain.Plain.{Plain}
use Rattle.ob_cells.specs.declared.def.Body.TheVariants as body
use Rattle.ob_inputs.specs.Paths as path
use Rattle.ob_base.specs.Labels.{Label, same_label}
use Rattle.ob_worlds.specs.Labels.{Resolved}
use Rattle.ob_worlds.specs.Labels.Resolved.{Home, Builtin, Missing, Duplicate, Loop}
use Rattle.ob_worlds.specs.Variables.{Variable}

-- What a tick sees of a world: its variables in canonical order, how reports write them, those that are observed, what was given for
-- views, and the current values of mutables.
pub record Net : Type 0 where
  pub variables : List Variable
  pub written : Label → List ℕ
  pub observed : List Label
  pub given : List (Label × Plain)
  pub current : List (Label × Plain)

abbrev pub labels : Net → List Label
labels N = map (λ (v : Variable). v.label) N.variables

-- a label that is no variable's has no inputs and no text
abbrev pub no_variable : Label → Variable
no_variable l = record { label = l; name = None; body = body.Unreadable; tree = None; names = []; duplicate = false; inputs = [] }

unfoldable pub variable : Net → Label → Variable
variable N l = unwrap_or (find (λ (v : Variable). same_label l v.label) N.variables) (no_variable l)

-- the variables among inputs
abbrev pub homes : List Resolved → List Label
homes [] = []
homes (Home l ∷ is) = l ∷ homes is
homes (Builtin x ∷ is) = homes is
homes (Missing p ∷ is) = homes is
homes (Duplicate p ∷ is) = homes is
homes (Loop p ∷ is) = homes is

abbrev pub inputs : Net → Label → List Label
inputs N l = homes (variable N l).inputs

-- a path of inputs leads from the variable to itself
abbrev pub circular : Net → Label → Bool
circular N l = path.circular same_label (labels N) (inputs N) l

-- the variable is observed, or a path of inputs leads to it from one that is
abbrev pub live : Net → Label → Bool
live N l = path.live same_label (labels N) (inputs N) N.observed l

abbrev pub live_labels : Net → List Label
live_labels N = filter (live N) (labels N)
