-- Names in instances, and what they stand for (this project, after the Observable Runtime).
use Rattle.std.specs.Prelude.{ℕ, Bool, false, ◌&&◌, List, bytes_eq}
use Rattle.ob_base.specs.declared.label.Part.TheVariants as part
use Rattle.ob_base.specs.Labels.{Path, Label, same_path, same_label}
use Rattle.ob_names.specs.declared.form.NameRef.{NameRef}
use Rattle.ob_names.specs.Sets.{same_ref}

-- a name in an instance
pub record Place : Type 0 where
  pub path : Path
  pub name : NameRef

-- what a name stands for
pub data Resolved : Type 0 where
  Home : Label → Resolved
  Builtin : List ℕ → Resolved
  Missing : Place → Resolved
  Duplicate : Place → Resolved
  Loop : Place → Resolved

-- the Shown of the same cell
abbrev pub shown_of : Label → Label
shown_of l = record l { part = part.Shown }

-- ---- which are the same

abbrev pub same_place : Place → Place → Bool
same_place p q = same_path p.path q.path && same_ref p.name q.name

abbrev pub same_resolved : Resolved → Resolved → Bool
same_resolved (Home a) (Home b) = same_label a b
same_resolved (Builtin x) (Builtin y) = bytes_eq x y
same_resolved (Missing p) (Missing q) = same_place p q
same_resolved (Duplicate p) (Duplicate q) = same_place p q
same_resolved (Loop p) (Loop q) = same_place p q
same_resolved _ _ = false
