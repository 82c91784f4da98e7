use Rattle.std.proofs.Common.{◌≡◌, drop}
use Rattle.std.specs.Prelude.{bytes_eq}
use Rattle.std.specs.List.{position_from}
use Rattle.ob_session.specs.World.{place_of_id}
use Rattle.ob_session.proofs.answer.place_of_id.Given as goal

abbrev pub invariant-loop-place : goal.invariant-loop-place
invariant-loop-place l = position_from (λ c. bytes_eq c.id l.id) l.place (drop l.place l.cells) ≡ place_of_id l.cells l.id
