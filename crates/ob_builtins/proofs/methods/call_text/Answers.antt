use Rattle.std.proofs.Common.{refl, [], ◌∷◌, arith}
use Rattle.ob_builtins.proofs.CallLemmas.{at_number, carried, none_among}
use Rattle.ob_builtins.proofs.NumberLemmas.{text_number}
use Rattle.ob_builtins.specs.Calls.{text_call}
use Rattle.ob_values.specs.Sound.{AsValue, pointers_of}
use Rattle.ob_builtins.proofs.methods.call_text.Goals as goal

pub unreachable-requires : goal.unreachable-requires
unreachable-requires c =
    let within = text_number c.args.regions.now c.args.region c.args.method c.args.receiver c.args.args.now c.requires.called in
    omega (arith, within.0, within.1)

pub returns-in-24 : goal.returns-in-24
returns-in-24 c =
    at_number (λ k. text_call c.args.regions.now c.args.region k c.args.receiver c.args.args.now) c.args.method 24 _ _ c.in-24.is refl
    (carried c.args.regions.now c.slice.new.regions [] ((AsValue, c.args.receiver) ∷ pointers_of c.args.args.now) (none_among ((AsValue, c.args.receiver) ∷ pointers_of c.args.args.now)) c.args.left _ c.slice.result c.slice.ensures.answer c.slice.ensures.store (λ _. c.slice.ensures.err) c.slice.ensures.sound c.slice.ensures.fixed)

pub returns-in-25 : goal.returns-in-25
returns-in-25 c =
    at_number (λ k. text_call c.args.regions.now c.args.region k c.args.receiver c.args.args.now) c.args.method 25 _ _ c.in-25.is refl
    (carried c.args.regions.now c.repeat.new.regions [] ((AsValue, c.args.receiver) ∷ pointers_of c.args.args.now) (none_among ((AsValue, c.args.receiver) ∷ pointers_of c.args.args.now)) c.args.left _ c.repeat.result c.repeat.ensures.answer c.repeat.ensures.store (λ _. c.repeat.ensures.err) c.repeat.ensures.sound c.repeat.ensures.fixed)

pub returns-in-26 : goal.returns-in-26
returns-in-26 c =
    at_number (λ k. text_call c.args.regions.now c.args.region k c.args.receiver c.args.args.now) c.args.method 26 _ _ c.in-26.is refl
    (carried c.args.regions.now c.pad_start.new.regions [] ((AsValue, c.args.receiver) ∷ pointers_of c.args.args.now) (none_among ((AsValue, c.args.receiver) ∷ pointers_of c.args.args.now)) c.args.left _ c.pad_start.result c.pad_start.ensures.answer c.pad_start.ensures.store (λ _. c.pad_start.ensures.err) c.pad_start.ensures.sound c.pad_start.ensures.fixed)

pub returns-in-31 : goal.returns-in-31
returns-in-31 c =
    at_number (λ k. text_call c.args.regions.now c.args.region k c.args.receiver c.args.args.now) c.args.method 31 _ _ c.in-31.is refl
    (carried c.args.regions.now c.split.new.regions [] ((AsValue, c.args.receiver) ∷ pointers_of c.args.args.now) (none_among ((AsValue, c.args.receiver) ∷ pointers_of c.args.args.now)) c.args.left _ c.split.result c.split.ensures.answer c.split.ensures.store c.split.ensures.err c.split.ensures.sound c.split.ensures.fixed)
