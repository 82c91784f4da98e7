use Rattle.std.proofs.Common.{◌≡◌, ◌++◌, ◌∙◌, ◌/◌, ◌%◌, length, take, ap, sym, arith, append_assoc}
use Rattle.std.specs.List.{repeat}
use Rattle.ob_text_methods.proofs.UnitLemmas.{padding_parts, repeat_more}
use Rattle.ob_text_methods.proofs.units.add_padding.Goals as goal

pub loop-turn-preserved : goal.loop-turn-preserved
loop-turn-preserved c =
    let pad = c.args.pad.now in
    let before = c.args.made.now.items in
    let turn = c.loop-turn.turn in
    c.in_ok-extend_from_slice.ensures.items ∙ ap (λ xs. xs ++ pad) c.loop-turn.invariant ∙ append_assoc before (repeat turn pad) pad
    ∙ ap (λ ys. before ++ ys) (sym (repeat_more turn pad))

pub returns : goal.returns
returns c =
    let pad = c.args.pad.now in
    let before = c.args.made.now.items in
    let few = take (c.args.count % length pad) pad in
    let turn : c.loop-turn.turn ≡ c.args.count / length pad = omega arith in
    c.in_ok-extend_from_slice-2.ensures.items ∙ ap (λ xs. xs ++ few) c.loop-turn.invariant ∙ append_assoc before (repeat c.loop-turn.turn pad) few
    ∙ ap (λ n. before ++ (repeat n pad ++ few)) turn ∙ ap (λ ys. before ++ ys) (padding_parts c.args.count pad c.requires)
