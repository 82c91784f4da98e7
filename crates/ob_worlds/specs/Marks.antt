-- Which variables a tick has to look at (this project).
use Rattle.std.specs.Prelude.{◌≡◌, ◌==◌, Bool, true, false, not, ◌||◌}
use Rattle.ob_inputs.specs.Same.{is_in}
use Rattle.ob_base.specs.Labels.{Label, same_label}
use Rattle.ob_worlds.specs.Language.{Language}
use Rattle.ob_worlds.specs.Nets.{inputs}
use Rattle.ob_worlds.specs.Settled.{Settled, Now, segments_at}
use Rattle.ob_worlds.specs.Rows.{Local, local, row}

-- a variable that may move by itself: it has a cause of its own to be renewed, or it got something, or its generator hasn't ended
abbrev pub may_move : Local → Bool
may_move l = l.fresh || (l.got || not ((l.segments == 0) || l.ended))

-- marks with each variable that may move by itself, and each that reads a marked one
pub record IsMarked {V R : Type 0} (E : Language V R) (S : Settled) (W : Now) (marked : Label → Bool) : Type 0 where
  pub first : (l : Label) → marked l ≡ false → may_move (local E S W l) ≡ false
  pub on : (l u : Label) → marked l ≡ false → is_in same_label u (inputs W.net l) ≡ true → marked u ≡ false

-- nothing happens to a variable
pub record IsStill {V R : Type 0} (E : Language V R) (S : Settled) (W : Now) (l : Label) : Type 0 where
  pub renewed : (row E S W l).renewed ≡ false
  pub moved : (row E S W l).moved ≡ false
  pub next : (row E S W l).next ≡ segments_at S l
