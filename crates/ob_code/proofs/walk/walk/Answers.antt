use Rattle.std.proofs.Common.{◌≡◌, ℕ, ◌+◌, ◌<◌, List, ◌∷◌, Some, length, drop, get_or, add-one, sym, ap, ◌∙◌}
use Rattle.std.proofs.Math.Seq.{drop-cons}
use Rattle.ob_code.specs.Code.{Site}
use Rattle.ob_code.specs.Rules as spec
use Rattle.ob_code.specs.Shapes.{Shapes}
use Rattle.ob_code.specs.Sites.{of_site}
use Rattle.ob_code.specs.declared.op.Op.{Op}
use Rattle.ob_code.specs.declared.op.Op.TheVariants as op
use Rattle.ob_code.proofs.walk.walk.Goals as goal

-- past one instruction, what is left of the walk is the same
passes : (site : Site) (ops : List Op) (i : ℕ) (shapes more : Shapes) → i < length ops → spec.passed site (get_or ops i op.Undefined) i shapes ≡ Some more → spec.break_of (spec.walk site (drop (i + 1) ops) (i + 1) more) ≡ spec.break_of (spec.walk site (drop i ops) i shapes)
passes site ops i shapes more within e =
    let d : drop i ops ≡ get_or ops i op.Undefined ∷ drop (i + 1) ops = rw add-one (drop-cons ops i op.Undefined within) in
    sym (ap (λ rest. spec.break_of (spec.walk site rest i shapes)) d
    ∙ ap (λ p. spec.break_of (spec.on_from p i (λ m. spec.walk site (drop (i + 1) ops) (i + 1) m))) e)

pub loop-place-preserved : goal.loop-place-preserved
loop-place-preserved c = passes (of_site c.args.site.now) _ _ _ _ c.loop-place-test.true c.if-not-pass.ensures ∙ c.loop-place.invariant
