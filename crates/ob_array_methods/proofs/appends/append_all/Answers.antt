use Rattle.std.proofs.Common.{◌∙◌, ◌<◌, arith, length}
use Rattle.ob_items.specs.declared.value.Value.TheVariants as V
use Rattle.ob_values.proofs.FixedLemmas.{KeepsFixed-then}
use Rattle.ob_array_methods.proofs.LoopLemmas.{keeps-more, append-more, Contains-get_or}
use Rattle.ob_array_methods.proofs.appends.append_all.Goals as goal

pub returns-in_err-append-clause-sound : goal.returns-in_err-append-clause-sound
returns-in_err-append-clause-sound c =
    let within : c.loop-value.value-index < length c.args.values.now = omega arith in
    keeps-more c.args.regions.now c.loop-value.regions c.append.new.regions c.args.values.now _ (Contains-get_or c.args.values.now c.loop-value.value-index V.Undefined within)
    c.loop-value.invariant.sound c.append.ensures.sound

pub loop-value-preserved : goal.loop-value-preserved
loop-value-preserved c =
    let within : c.loop-value.value-index < length c.args.values.now = omega arith in
    record {
      array = c.append.ensures.array;
      thawed = c.in_ok-append.ensures.thawed;
      elements = omega (arith, c.in_ok-append.ensures.elements, c.loop-value.invariant.elements);
      appended = append-more c.args.receiver c.args.values.now c.loop-value.value-index V.Undefined c.loop-value.regions c.append.new.regions within c.in_ok-append.ensures.ok
          ∙ c.loop-value.invariant.appended;
      sound = keeps-more c.args.regions.now c.loop-value.regions c.append.new.regions c.args.values.now _ (Contains-get_or c.args.values.now c.loop-value.value-index V.Undefined within)
          c.loop-value.invariant.sound c.append.ensures.sound;
      fixed = KeepsFixed-then c.args.regions.now c.loop-value.regions c.append.new.regions c.loop-value.invariant.fixed c.append.ensures.fixed;
    }

pub returns-in_err-append-clause-fixed : goal.returns-in_err-append-clause-fixed
returns-in_err-append-clause-fixed c = KeepsFixed-then c.args.regions.now c.loop-value.regions c.append.new.regions c.loop-value.invariant.fixed c.append.ensures.fixed
