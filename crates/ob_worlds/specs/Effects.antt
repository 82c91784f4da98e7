-- Changes of mutables, applied after a tick (this project).
use Rattle.std.specs.Prelude.{Bool, List, [], ◌∷◌, ◌++◌, Option, Some, None, fold, if◌then◌else◌}
use Rattle.ob_base.specs.declared.plain.Plain.{Plain}
use Rattle.ob_base.specs.declared.report.LostKind.{LostKind}
use Rattle.ob_base.specs.declared.report.LostKind.TheVariants as lost
use Rattle.ob_inputs.specs.Same.{at, put}
use Rattle.ob_base.specs.Labels.{Label, same_label}
use Rattle.ob_worlds.specs.Labels.{shown_of}
use Rattle.ob_worlds.specs.Language.{Language, Effect}

-- the current values of Holders, the Shown labels whose value changed, and the Holders whose change was lost, in their order
pub record Changes : Type 0 where
  pub current : List (Label × Plain)
  pub got : List Label
  pub lost : List (Label × LostKind)

abbrev pub losing : LostKind → Label → Changes → Changes
losing kind l c = record c { lost = c.lost ++ (l, kind) ∷ [] }

abbrev pub with_result : Label → Changes → Option Plain → Changes
with_result l c None = losing lost.BadResult l c
with_result l c (Some p) = record c { current = put same_label l p c.current; got = shown_of l ∷ c.got }

abbrev pub changed_from : {V R : Type 0} → Language V R → Effect → Changes → Option Plain → Changes
changed_from {V} {R} E e c None = losing lost.NoValue e.holder c
changed_from {V} {R} E e c (Some p) = with_result e.holder c (E.changed e.change p e.value)

-- one change: it is lost where its Holder isn't live, or has no value, or where the operator throws or gives no plain data
abbrev pub with_effect : {V R : Type 0} → Language V R → (Label → Bool) → Changes → Effect → Changes
with_effect {V} {R} E live c e = if live e.holder then changed_from E e c (at same_label c.current e.holder) else losing lost.NotLive e.holder c

-- one after another
unfoldable pub with_effects : {V R : Type 0} → Language V R → (Label → Bool) → List (Label × Plain) → List Effect → Changes
with_effects {V} {R} E live current effects = fold (with_effect E live) (record { current = current; got = []; lost = [] }) effects
