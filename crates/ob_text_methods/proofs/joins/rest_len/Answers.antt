use Rattle.std.proofs.Common.{◌≡◌, ◌+◌, ◌-◌, ◌^◌, ◌<◌, ◌≤◌, ◌∙◌, min, length, arith}
use Rattle.ob_items.specs.declared.value.Value.TheVariants as V
use Rattle.ob_values.specs.ArrayMethods.{written_as}
use Rattle.ob_text_methods.proofs.JoinLemmas.{len_step, len_end}
use Rattle.ob_text_methods.proofs.joins.rest_len.Goals as goal

pub loop-value-preserved : goal.loop-value-preserved
loop-value-preserved c =
    let values = c.args.values.now in
    let i = c.loop-value.value-index in
    let within : i < length values = omega arith in
    let added : c.saturating_add-total.result ≡ min (c.loop-value.total + min (length c.args.between.now + c.in-Some.more) (2 ^ 64 - 1)) (2 ^ 64 - 1) =
    omega (arith, c.saturating_add-total.ensures, c.saturating_add.ensures) in
    record {
      fits = omega (arith, c.saturating_add-total.ensures);
      total = len_step (written_as c.args.regions.now) values i V.Undefined c.in-Some.more c.args.between.now c.loop-value.total c.saturating_add-total.result within c.in-Some.ensures added ∙ c.loop-value.invariant.total;
    }

pub returns : goal.returns
returns c =
    let past : length c.args.values.now ≤ c.loop-value.value-index = omega arith in
    len_end (written_as c.args.regions.now) c.args.values.now c.loop-value.value-index c.args.between.now c.loop-value.total past c.loop-value.invariant.fits ∙ c.loop-value.invariant.total
