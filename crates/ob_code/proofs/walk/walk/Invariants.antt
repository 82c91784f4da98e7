use Rattle.std.proofs.Common.{◌≡◌, drop}
use Rattle.ob_code.specs.Rules as spec
use Rattle.ob_code.specs.Sites.{of_site}
use Rattle.ob_code.proofs.walk.walk.Given as goal

abbrev pub invariant-loop-place : goal.invariant-loop-place
invariant-loop-place l =
    spec.break_of (spec.walk (of_site l.site) (drop l.place l.site.ops.now) l.place l.shapes)
    ≡ spec.break_of (spec.walk (of_site l.site) l.site.ops.now 0 l.initial.shapes)
