use Rattle.std.proofs.Common.{◌≡◌, ◌++◌, ◌<◌, ◌∙◌, ap, arith, length, subst}
use Rattle.std.specs.Prelude.{IfSome}
use Rattle.ob_items.specs.declared.value.Value.TheVariants as V
use Rattle.ob_values.specs.ArrayMethods.{written_as}
use Rattle.ob_text_methods.proofs.JoinLemmas.{has_texts, put_step}
use Rattle.ob_text_methods.proofs.joins.put_rest.Goals as goal

pub loop-value-preserved : goal.loop-value-preserved
loop-value-preserved c =
    let f = written_as c.args.regions.now in
    let values = c.args.values.now in
    let i = c.loop-value.value-index in
    let within : i < length values = omega arith in
    let texts = has_texts f values i V.Undefined within c.loop-value.invariant.0 in
    let put = subst (λ o. IfSome o (λ units. c.put_written.new.out.items ≡ c.extend_from_slice.new.self.items ++ units)) texts.is c.in_ok-put_written.ensures in (
      texts.others,
      put_step f values i V.Undefined texts.units c.args.between.now c.loop-value.out.items c.put_written.new.out.items within texts.is
          (put ∙ ap (λ xs. xs ++ texts.units) c.in_ok-extend_from_slice.ensures.items) ∙ c.loop-value.invariant.1,
    )
