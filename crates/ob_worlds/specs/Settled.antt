-- What is kept from a tick to the next (this project).
use Rattle.std.specs.Prelude.{ℕ, ◌==◌, Bool, true, false, not, ◌&&◌, ◌||◌, List, [], ◌∷◌, Option, None, unwrap_or, if◌then◌else◌}
use Rattle.std.specs.List.{list_any}
use Rattle.ob_inputs.specs.Same.{at}
use Rattle.ob_base.specs.Labels.{Label, same_label}
use Rattle.ob_worlds.specs.Labels.{Resolved, same_resolved}
use Rattle.ob_worlds.specs.Language.{Language}
use Rattle.ob_worlds.specs.Nets.{Net, variable, circular, live}
use Rattle.ob_worlds.specs.Outcomes.{outcome, values_of, run_of}

-- the net as the last tick left it, of each variable with a current run the number of its segments, and the number of runs that
-- each variable has had
pub record Settled : Type 0 where
  pub net : Net
  pub segments : List (Label × ℕ)
  pub counts : List (Label × ℕ)

-- the net now, and since the last tick the cells that were touched and the Shown labels that got something
pub record Now : Type 0 where
  pub net : Net
  pub touched : List ℕ
  pub got : List Label

abbrev pub number_at : List (Label × ℕ) → Label → ℕ
number_at numbers l = unwrap_or (at same_label numbers l) 0

abbrev pub segments_at : Settled → Label → ℕ
segments_at S l = number_at S.segments l

-- the state of a current run, after its last segment
abbrev pub current_run : {V R : Type 0} (E : Language V R) → Settled → Label → Option R
current_run {V} {R} E S l =
    if segments_at S l == 0 then None
    else run_of E (variable S.net l) (values_of E (outcome E S.net (segments_at S)) (variable S.net l)) (segments_at S l)

-- ---- standing

abbrev pub both : Bool → Bool → Bool
both true b = b
both false b = not b

abbrev pub same_inputs : List Resolved → List Resolved → Bool
same_inputs [] [] = true
same_inputs [] (j ∷ js) = false
same_inputs (i ∷ is) [] = false
same_inputs (i ∷ is) (j ∷ js) = same_resolved i j && same_inputs is js

abbrev pub same_standing : Net → Net → Label → Bool
same_standing M N l =
    both (variable M l).duplicate (variable N l).duplicate
    && (both (circular M l) (circular N l) && same_inputs (variable M l).inputs (variable N l).inputs)

-- renewed for a cause of its own: its cell was touched, or it wasn't live at the last tick, or its standing is another
abbrev pub is_fresh : Settled → Now → Label → Bool
is_fresh S W l = list_any (λ s. l.cell == s) W.touched || (not (live S.net l) || not (same_standing S.net W.net l))
