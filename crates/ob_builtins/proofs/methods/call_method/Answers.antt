use Rattle.std.proofs.Common.{◌∷◌, ◌∙◌, sym, subst}
use Rattle.std.specs.Prelude.{IfSome}
use Rattle.ob_builtins.specs.Calls.{CarriesOut}
use Rattle.ob_values.specs.Builtins.{method_call}
use Rattle.ob_values.specs.Sound.{AsValue, pointers_of}
use Rattle.ob_builtins.proofs.CallLemmas.{answers_of, fixed_of, is_text_called, method_is_array, method_is_text}
use Rattle.ob_builtins.proofs.methods.call_method.Goals as goal

pub returns-then-is_array-clause-answer : goal.returns-then-is_array-clause-answer
returns-then-is_array-clause-answer c =
    let carries = subst (λ o. IfSome o (λ call. CarriesOut c.args.regions.now c.call_array.new.regions c.args.left ((AsValue, c.args.receiver) ∷ pointers_of c.args.args.now) call c.call_array.result)) (sym (method_is_array c.args.regions.now c.args.region c.args.receiver c.args.args.now c.args.method (sym c.is_array.ensures ∙ c.if-is_array.true))) c.call_array.ensures in
    answers_of c.args.regions.now c.call_array.new.regions c.args.left ((AsValue, c.args.receiver) ∷ pointers_of c.args.args.now) c.call_array.result (method_call c.args.regions.now c.args.region c.args.method c.args.receiver c.args.args.now) carries

pub returns-then-is_array-clause-fixed : goal.returns-then-is_array-clause-fixed
returns-then-is_array-clause-fixed c =
    let carries = subst (λ o. IfSome o (λ call. CarriesOut c.args.regions.now c.call_array.new.regions c.args.left ((AsValue, c.args.receiver) ∷ pointers_of c.args.args.now) call c.call_array.result)) (sym (method_is_array c.args.regions.now c.args.region c.args.receiver c.args.args.now c.args.method (sym c.is_array.ensures ∙ c.if-is_array.true))) c.call_array.ensures in
    fixed_of c.args.regions.now c.call_array.new.regions c.args.left ((AsValue, c.args.receiver) ∷ pointers_of c.args.args.now) c.call_array.result (method_call c.args.regions.now c.args.region c.args.method c.args.receiver c.args.args.now) c.requires.called carries

pub returns-else-is_array-clause-answer : goal.returns-else-is_array-clause-answer
returns-else-is_array-clause-answer c =
    let carries = subst (λ o. IfSome o (λ call. CarriesOut c.args.regions.now c.call_text.new.regions c.args.left ((AsValue, c.args.receiver) ∷ pointers_of c.args.args.now) call c.call_text.result)) (sym (method_is_text c.args.regions.now c.args.region c.args.receiver c.args.args.now c.args.method (is_text_called c.args.regions.now c.args.region c.args.receiver c.args.args.now c.args.method (sym c.is_array.ensures ∙ c.if-is_array.false) c.requires.called))) c.call_text.ensures in
    answers_of c.args.regions.now c.call_text.new.regions c.args.left ((AsValue, c.args.receiver) ∷ pointers_of c.args.args.now) c.call_text.result (method_call c.args.regions.now c.args.region c.args.method c.args.receiver c.args.args.now) carries

pub returns-else-is_array-clause-fixed : goal.returns-else-is_array-clause-fixed
returns-else-is_array-clause-fixed c =
    let carries = subst (λ o. IfSome o (λ call. CarriesOut c.args.regions.now c.call_text.new.regions c.args.left ((AsValue, c.args.receiver) ∷ pointers_of c.args.args.now) call c.call_text.result)) (sym (method_is_text c.args.regions.now c.args.region c.args.receiver c.args.args.now c.args.method (is_text_called c.args.regions.now c.args.region c.args.receiver c.args.args.now c.args.method (sym c.is_array.ensures ∙ c.if-is_array.false) c.requires.called))) c.call_text.ensures in
    fixed_of c.args.regions.now c.call_text.new.regions c.args.left ((AsValue, c.args.receiver) ∷ pointers_of c.args.args.now) c.call_text.result (method_call c.args.regions.now c.args.region c.args.method c.args.receiver c.args.args.now) c.requires.called carries
