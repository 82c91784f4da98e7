-- What holds between two ticks (this project).
use Rattle.std.specs.Prelude.{◌≡◌, ◌≢◌, ◌==◌, true, false, None}
use Rattle.std.specs.List.{list_any}
use Rattle.ob_inputs.specs.Same.{is_in}
use Rattle.ob_base.specs.Labels.{Label, same_label}
use Rattle.ob_worlds.specs.Language.{Language}
use Rattle.ob_worlds.specs.Nets.{Net, variable, labels, inputs, circular, live}
use Rattle.ob_worlds.specs.Outcomes.{failed_inputs, outcome, shown}
use Rattle.ob_worlds.specs.Settled.{Settled, Now, segments_at}

-- the inputs of variables are variables, and so is what is observed
pub record IsNet (N : Net) : Type 0 where
  pub inside : (l u : Label) → is_in same_label u (inputs N l) ≡ true → is_in same_label u (labels N) ≡ true
  pub observed : (l : Label) → is_in same_label l N.observed ≡ true → is_in same_label l (labels N) ≡ true

-- Of a variable that was live at the last tick: where its cell wasn't touched, it differs at most in its standing; and where it got
-- nothing, what it shows is what it showed.
pub record Since (S : Settled) (W : Now) : Type 0 where
  pub cell : (l : Label) → is_in same_label l (labels W.net) ≡ true → live S.net l ≡ true → list_any (λ s. l.cell == s) W.touched ≡ false
      → variable W.net l ≡ record (variable S.net l) { duplicate = (variable W.net l).duplicate; inputs = (variable W.net l).inputs }
  pub shown : (l : Label) → is_in same_label l (labels W.net) ≡ true → live S.net l ≡ true → is_in same_label l W.got ≡ false
      → variable S.net l ≡ variable W.net l → shown S.net (variable W.net l) ≡ shown W.net (variable W.net l)

-- a current run is that of a variable that isn't circular and no duplicate, and all of whose inputs have values
pub record IsRunning {V R : Type 0} (E : Language V R) (S : Settled) (l : Label) : Type 0 where
  pub round : circular S.net l ≡ false
  pub single : (variable S.net l).duplicate ≡ false
  pub values : failed_inputs E S.net (outcome E S.net (segments_at S)) (variable S.net l) ≡ None

abbrev pub Running : {V R : Type 0} → Language V R → Settled → Type 0
Running {V} {R} E S = (l : Label) → segments_at S l ≢ 0 → IsRunning E S l
