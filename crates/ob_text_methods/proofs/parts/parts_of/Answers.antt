use Rattle.std.proofs.Common.{◌≡◌, ◌++◌, ◌∷◌, [], ◌∙◌, take, subst, sym, ap}
use Rattle.ob_text_methods.proofs.PartLemmas.{IsCutting, cutting_more, cutting_ended}
use Rattle.ob_text_methods.proofs.parts.parts_of.Goals as goal

pub loop-place-preserved : goal.loop-place-preserved
loop-place-preserved c =
    let more : c.push.new.self ≡ c.loop-place.parts ++ take c.in-Some.place c.loop-place.rest.now ∷ [] =
    c.in_ok-push.ensures.ok ∙ ap (λ part. c.loop-place.parts ++ part ∷ []) (c.in_ok-copy_of.ensures ∙ c.before-in-Some.ensures) in
    subst (λ rest. IsCutting c.args.piece.now c.args.units.now rest c.push.new.self) (sym c.behind-rest.ensures)
    (cutting_more _ _ _ _ _ _ c.requires.some c.in-Some.ensures.place c.in-Some.ensures.within c.loop-place.invariant more)

pub returns : goal.returns
returns c =
    let more : c.push-2.new.self ≡ c.loop-place.parts ++ c.loop-place.rest.now ∷ [] =
    c.in_ok-push-2.ensures.ok ∙ ap (λ part. c.loop-place.parts ++ part ∷ []) c.in_ok-copy_of-2.ensures in
    cutting_ended _ _ _ _ _ c.requires.some c.in_default.ensures.place c.loop-place.invariant more
