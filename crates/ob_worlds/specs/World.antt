-- The state of a notebook between commands (this project).
use Rattle.std.specs.Prelude.{ℕ, List}
use Rattle.ob_base.specs.declared.plain.Plain.{Plain}
use Rattle.ob_base.specs.Labels.{Label}

-- a serial is never given again
pub record Cell : Type 0 where
  pub serial : ℕ
  pub id : List ℕ
  pub text : List ℕ

pub record Notebook : Type 0 where
  pub id : List ℕ
  pub cells : List Cell

-- The id of the main notebook; the notebooks in the order of the bundle and the commands; the next serial; the cells that are
-- observed; for each View label what was given; for each Holder label the current value; the cells that were defined or redefined,
-- and the Shown labels that got an input or a change, since the last tick; and the number of ticks.
pub record World : Type 0 where
  pub main : List ℕ
  pub notebooks : List Notebook
  pub next : ℕ
  pub observed : List ℕ
  pub given : List (Label × Plain)
  pub current : List (Label × Plain)
  pub touched : List ℕ
  pub got : List Label
  pub ticks : ℕ
