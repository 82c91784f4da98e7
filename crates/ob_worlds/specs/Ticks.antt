-- What a tick settles (this project).
use Rattle.std.specs.Prelude.{ℕ, ◌+◌, ◌==◌, Bool, false, not, ◌&&◌, List, [], ◌∷◌, map, filter, if◌then◌else◌}
use Rattle.std.specs.Option.{option_map_or}
use Rattle.std.specs.List.{flat_map}
use Rattle.ob_base.specs.declared.plain.Plain.{Plain}
use Rattle.ob_inputs.specs.Same.{at}
use Rattle.ob_base.specs.Labels.{Label, same_label}
use Rattle.ob_worlds.specs.Language.{Language}
use Rattle.ob_worlds.specs.Nets.{Net, labels, live_labels}
use Rattle.ob_worlds.specs.Settled.{Settled, Now, number_at}
use Rattle.ob_worlds.specs.Rows.{Row, row}

-- the rows of the live variables, in canonical order
abbrev pub Rows : Type 0 → Type 0
Rows V = List (Label × Row V)

unfoldable pub rows : {V R : Type 0} (E : Language V R) → Settled → Now → Rows V
rows {V} {R} E S W = map (λ l. (l, row E S W l)) (live_labels W.net)

-- of each live variable the number of segments of its current run
abbrev pub segments_after : {V : Type 0} → Rows V → List (Label × ℕ)
segments_after {V} rows = map (λ (r : Label × Row V). (r.0, r.1.next)) rows

-- what was given is given on where the view is live and hasn't moved
abbrev pub given_after : {V : Type 0} → Rows V → Net → List (Label × Plain)
given_after {V} rows N = filter (λ (g : Label × Plain). option_map_or (λ (r : Row V). not r.moved) (at same_label rows g.0) false) N.given

-- the current values of the live Holders
abbrev pub current_after : {V : Type 0} → Rows V → List (Label × Plain)
current_after {V} rows = flat_map (λ (r : Label × Row V). option_map_or (λ p. (r.0, p) ∷ []) r.1.current []) rows

abbrev pub net_after : {V : Type 0} → Rows V → Net → Net
net_after {V} rows N = record N { given = given_after rows N; current = current_after rows }

-- a run begins where a variable is renewed and has one segment now
abbrev pub begins : {V : Type 0} → Row V → Bool
begins {V} r = r.renewed && (r.next == 1)

-- the number of runs: what is no variable has none
abbrev pub count_after : {V : Type 0} → Rows V → Settled → Label → ℕ
count_after {V} rows S l = number_at S.counts l + (if option_map_or (λ (r : Row V). begins r) (at same_label rows l) false then 1 else 0)

abbrev pub counts_after : {V : Type 0} → Rows V → Settled → Net → List (Label × ℕ)
counts_after {V} rows S N = map (λ l. (l, count_after rows S l)) (labels N)

abbrev pub settled_by : {V : Type 0} → Rows V → Settled → Net → Settled
settled_by {V} rows S N = record { net = net_after rows N; segments = segments_after rows; counts = counts_after rows S N }

unfoldable pub settled_after : {V R : Type 0} (E : Language V R) → Settled → Now → Settled
settled_after {V} {R} E S W = settled_by (rows E S W) S W.net
