-- What look-ups in a net give.
use Rattle.std.proofs.Common.{◌≡◌, false, List, [], ◌∷◌, map, None, refl, ap, sym, inl, inr}
use Rattle.std.specs.Prelude.{unwrap_or}
use Rattle.std.specs.List.{find}
use Rattle.std.proofs.lemmas.Bool.{or_parts, cases_Bool}
use Rattle.ob_inputs.specs.Same.{is_in}
use Rattle.ob_inputs.specs.Paths.{OnlyNodes}
use Rattle.ob_base.specs.Labels.{Label, same_label}
use Rattle.ob_worlds.specs.Variables.{Variable}
use Rattle.ob_worlds.specs.Nets.{Net, variable, no_variable, labels, inputs, homes}
use Rattle.ob_worlds.proofs.SameLaws.{label_are}

find_none : (l : Label) (vs : List Variable) → is_in same_label l (map (λ (v : Variable). v.label) vs) ≡ false → find (λ (v : Variable). same_label l v.label) vs ≡ None
find_none l [] h = refl
find_none l (v ∷ vs) h = let p = or_parts (same_label l v.label) _ h in let r = find_none l vs p.1 in rw p.0 r

-- a label that is no variable's has an empty entry
pub variable_none : (N : Net) (l : Label) → is_in same_label l (labels N) ≡ false → variable N l ≡ no_variable l
unfolding variable
variable_none N l h = ap (λ o. unwrap_or o (no_variable l)) (find_none l N.variables h)

-- only variables have inputs
pub only_variables : (N : Net) → OnlyNodes same_label (labels N) (inputs N)
only_variables N l h = ap (λ (v : Variable). homes v.inputs) (variable_none N l h)

found_label : (l : Label) (vs : List Variable) → (unwrap_or (find (λ (v : Variable). same_label l v.label) vs) (no_variable l)).label ≡ l
found_label l [] = refl
found_label l (v ∷ vs) = elim (cases_Bool (same_label l v.label)) [
  | inl t ↦ rw t (sym (label_are l v.label t))
  | inr f ↦ rw f (found_label l vs)
]

pub variable_label : (N : Net) (l : Label) → (variable N l).label ≡ l
unfolding variable
variable_label N l = found_label l N.variables
