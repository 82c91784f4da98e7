use Rattle.std.proofs.Common.{refl, []}
use Rattle.ob_builtins.proofs.CallLemmas.{at_number, carried, none_among}
use Rattle.ob_values.specs.Builtins.{function_call}
use Rattle.ob_values.specs.Sound.{pointers_of}
use Rattle.ob_builtins.proofs.functions.call_named.Goals as goal

pub returns-in-3 : goal.returns-in-3
returns-in-3 c =
    at_number (λ k. function_call c.args.regions.now c.args.region k c.args.args.now) c.args.builtin 3 _ _ c.in-3.is refl
    (carried c.args.regions.now c.string.new.regions [] (pointers_of c.args.args.now) (none_among (pointers_of c.args.args.now)) c.args.left _ c.string.result c.string.ensures.answer c.string.ensures.store (λ _. c.string.ensures.err) c.string.ensures.sound c.string.ensures.fixed)

pub returns-in-4 : goal.returns-in-4
returns-in-4 c =
    at_number (λ k. function_call c.args.regions.now c.args.region k c.args.args.now) c.args.builtin 4 _ _ c.in-4.is refl
    (carried c.args.regions.now c.error.new.regions [] (pointers_of c.args.args.now) (none_among (pointers_of c.args.args.now)) c.args.left _ c.error.result c.error.ensures.answer c.error.ensures.store c.error.ensures.err c.error.ensures.sound c.error.ensures.fixed)

pub returns-in-5 : goal.returns-in-5
returns-in-5 c =
    at_number (λ k. function_call c.args.regions.now c.args.region k c.args.args.now) c.args.builtin 5 _ _ c.in-5.is refl
    (carried c.args.regions.now c.error-in-5.new.regions [] (pointers_of c.args.args.now) (none_among (pointers_of c.args.args.now)) c.args.left _ c.error-in-5.result c.error-in-5.ensures.answer c.error-in-5.ensures.store c.error-in-5.ensures.err c.error-in-5.ensures.sound c.error-in-5.ensures.fixed)

pub returns-in-6 : goal.returns-in-6
returns-in-6 c =
    at_number (λ k. function_call c.args.regions.now c.args.region k c.args.args.now) c.args.builtin 6 _ _ c.in-6.is refl
    (carried c.args.regions.now c.error-in-6.new.regions [] (pointers_of c.args.args.now) (none_among (pointers_of c.args.args.now)) c.args.left _ c.error-in-6.result c.error-in-6.ensures.answer c.error-in-6.ensures.store c.error-in-6.ensures.err c.error-in-6.ensures.sound c.error-in-6.ensures.fixed)
