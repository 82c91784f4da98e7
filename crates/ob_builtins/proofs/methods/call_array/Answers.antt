use Rattle.std.proofs.Common.{refl, [], ◌∷◌, inr, arith}
use Rattle.ob_builtins.proofs.CallLemmas.{at_number, carried, carried_plain, none_among, receiver_among, args_among}
use Rattle.ob_builtins.proofs.NumberLemmas.{array_number}
use Rattle.ob_builtins.specs.Calls.{array_call}
use Rattle.ob_values.specs.Sound.{AsValue, pointers_of}
use Rattle.ob_builtins.proofs.methods.call_array.Goals as goal

pub unreachable-requires : goal.unreachable-requires
unreachable-requires c =
    let within = array_number c.args.regions.now c.args.region c.args.method c.args.receiver c.args.args.now c.requires.called in
    omega (arith, within.0, within.1)

pub returns-in-9 : goal.returns-in-9
returns-in-9 c =
    at_number (λ k. array_call c.args.regions.now c.args.region k c.args.receiver c.args.args.now) c.args.method 9 _ _ c.in-9.is refl
    (carried_plain c.args.regions.now c.push.new.regions (pointers_of c.args.args.now) ((AsValue, c.args.receiver) ∷ pointers_of c.args.args.now) (args_among c.args.receiver (pointers_of c.args.args.now)) c.args.left _ c.push.result c.push.ensures.answer c.push.ensures.store c.push.ensures.err c.push.ensures.sound c.push.ensures.plain c.push.ensures.fixed)

pub returns-in-10 : goal.returns-in-10
returns-in-10 c =
    at_number (λ k. array_call c.args.regions.now c.args.region k c.args.receiver c.args.args.now) c.args.method 10 _ _ c.in-10.is refl
    (carried c.args.regions.now c.pop.new.regions ((AsValue, c.args.receiver) ∷ []) ((AsValue, c.args.receiver) ∷ pointers_of c.args.args.now) (receiver_among c.args.receiver (pointers_of c.args.args.now)) c.args.left _ c.pop.result (inr c.pop.ensures.answer) c.pop.ensures.store (λ _. c.pop.ensures.err) c.pop.ensures.sound c.pop.ensures.fixed)

pub returns-in-11 : goal.returns-in-11
returns-in-11 c =
    at_number (λ k. array_call c.args.regions.now c.args.region k c.args.receiver c.args.args.now) c.args.method 11 _ _ c.in-11.is refl
    (carried c.args.regions.now c.shift.new.regions ((AsValue, c.args.receiver) ∷ []) ((AsValue, c.args.receiver) ∷ pointers_of c.args.args.now) (receiver_among c.args.receiver (pointers_of c.args.args.now)) c.args.left _ c.shift.result (inr c.shift.ensures.answer) c.shift.ensures.store (λ _. c.shift.ensures.err) c.shift.ensures.sound c.shift.ensures.fixed)

pub returns-in-12 : goal.returns-in-12
returns-in-12 c =
    at_number (λ k. array_call c.args.regions.now c.args.region k c.args.receiver c.args.args.now) c.args.method 12 _ _ c.in-12.is refl
    (carried c.args.regions.now c.reverse.new.regions ((AsValue, c.args.receiver) ∷ []) ((AsValue, c.args.receiver) ∷ pointers_of c.args.args.now) (receiver_among c.args.receiver (pointers_of c.args.args.now)) c.args.left _ c.reverse.result (inr c.reverse.ensures.answer) c.reverse.ensures.store (λ _. c.reverse.ensures.err) c.reverse.ensures.sound c.reverse.ensures.fixed)

pub returns-in-13 : goal.returns-in-13
returns-in-13 c =
    at_number (λ k. array_call c.args.regions.now c.args.region k c.args.receiver c.args.args.now) c.args.method 13 _ _ c.in-13.is refl
    (carried c.args.regions.now c.slice.new.regions ((AsValue, c.args.receiver) ∷ []) ((AsValue, c.args.receiver) ∷ pointers_of c.args.args.now) (receiver_among c.args.receiver (pointers_of c.args.args.now)) c.args.left _ c.slice.result c.slice.ensures.answer c.slice.ensures.store (λ _. c.slice.ensures.err) c.slice.ensures.sound c.slice.ensures.fixed)

pub returns-in-17 : goal.returns-in-17
returns-in-17 c =
    at_number (λ k. array_call c.args.regions.now c.args.region k c.args.receiver c.args.args.now) c.args.method 17 _ _ c.in-17.is refl
    (carried c.args.regions.now c.join.new.regions [] ((AsValue, c.args.receiver) ∷ pointers_of c.args.args.now) (none_among ((AsValue, c.args.receiver) ∷ pointers_of c.args.args.now)) c.args.left _ c.join.result c.join.ensures.answer c.join.ensures.store (λ _. c.join.ensures.err) c.join.ensures.sound c.join.ensures.fixed)
