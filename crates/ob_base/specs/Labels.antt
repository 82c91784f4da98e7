-- Where a variable stands (this project, after the Observable Runtime).
use Rattle.std.specs.Prelude.{ℕ, Bool, true, false, ◌&&◌, ◌==◌, List, bytes_eq}
use Rattle.ob_base.specs.declared.label.Part.{Part}
use Rattle.ob_base.specs.declared.label.Part.TheVariants as part

-- an instance: the id of its root's notebook, and the serials of the `with` cells that lead to it, the last one first
pub record Path : Type 0 where
  pub root : List ℕ
  pub serials : List ℕ

-- a variable: its instance, the serial of its cell, and its part
pub record Label : Type 0 where
  pub path : Path
  pub cell : ℕ
  pub part : Part

-- ---- which are the same

abbrev pub same_part : Part → Part → Bool
same_part part.Main part.Main = true
same_part part.View part.View = true
same_part part.Shown part.Shown = true
same_part part.Initial part.Initial = true
same_part part.Holder part.Holder = true
same_part _ _ = false

abbrev pub same_path : Path → Path → Bool
same_path p q = bytes_eq p.root q.root && bytes_eq p.serials q.serials

abbrev pub same_label : Label → Label → Bool
same_label a b = same_path a.path b.path && (a.cell == b.cell && same_part a.part b.part)
