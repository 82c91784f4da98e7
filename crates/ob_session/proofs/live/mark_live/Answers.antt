use Rattle.std.proofs.Common.{◌-◌, ap, sym, ◌∙◌, arith}
use Rattle.ob_session.specs.declared.world.Cell.{Cell}
use Rattle.ob_session.specs.Live.{with_mark}
use Rattle.ob_session.proofs.Marks.{marked_last, marked_on, marked_all, reads_before}
use Rattle.ob_session.proofs.live.mark_live.Goals as goal

pub loop-place-init : goal.loop-place-init
loop-place-init c = marked_last c.args.cells.now c.args.flags.now c.requires.same

pub mark_input-requires-clause-before : goal.mark_input-requires-clause-before
mark_input-requires-clause-before c q e =
    reads_before c.args.cells.now (c.loop-place.place - 1) c.index-cells-place.result (omega arith) c.index-cells-place.is c.requires.built_up q (ap (λ (x : Cell). x.input) c.index-cells-place.is ∙ e)

pub loop-place-preserved : goal.loop-place-preserved
loop-place-preserved c =
    marked_on c.args.cells.now c.args.flags.now c.loop-place.flags c.mark_input.new.flags c.loop-place.place (c.loop-place.place - 1) c.index-cells-place.result (omega arith) (omega arith) c.requires.same
    c.index-cells-place.is c.requires.built_up c.loop-place.invariant
    (c.mark_input.ensures ∙ ap (λ (x : Cell). with_mark c.loop-place.flags (c.loop-place.place - 1) x.input) (sym c.index-cells-place.is))

pub returns : goal.returns
returns c = marked_all c.args.cells.now c.args.flags.now c.loop-place.flags c.loop-place.place (omega arith) c.loop-place.invariant
