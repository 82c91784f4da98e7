use Rattle.std.proofs.Common.{◌∙◌, ap, sym, arith}
use Rattle.std.specs.Prelude.{is_some}
use Rattle.ob_builtins.proofs.CallLemmas.{method_is_array, method_is_text, no_method}
use Rattle.ob_builtins.proofs.NumberLemmas.{array_below, array_range, array_test, text_below, text_range, text_test}
use Rattle.ob_builtins.proofs.methods.is_method.Goals as goal

pub returns-then-method-ge9 : goal.returns-then-method-ge9
returns-then-method-ge9 c = λ region args.
    let s = c.args.regions.now in
    let of_array = method_is_array s region c.args.receiver args c.args.method (sym c.is_array.ensures ∙ c.if-is_array.true) in
    array_test c.args.method (omega arith) ∙ sym (array_range s region c.args.method c.args.receiver args) ∙ sym (ap is_some of_array)

pub returns-else-method-ge9 : goal.returns-else-method-ge9
returns-else-method-ge9 c = λ region args.
    let s = c.args.regions.now in
    let of_array = method_is_array s region c.args.receiver args c.args.method (sym c.is_array.ensures ∙ c.if-is_array.true) in
    array_below c.args.method (omega arith) ∙ sym (array_range s region c.args.method c.args.receiver args) ∙ sym (ap is_some of_array)

pub returns-then-method-ge24 : goal.returns-then-method-ge24
returns-then-method-ge24 c = λ region args.
    let s = c.args.regions.now in
    let of_text = method_is_text s region c.args.receiver args c.args.method (sym c.is_text.ensures ∙ c.if-is_text.true) in
    text_test c.args.method (omega arith) ∙ sym (text_range s region c.args.method c.args.receiver args) ∙ sym (ap is_some of_text)

pub returns-else-method-ge24 : goal.returns-else-method-ge24
returns-else-method-ge24 c = λ region args.
    let s = c.args.regions.now in
    let of_text = method_is_text s region c.args.receiver args c.args.method (sym c.is_text.ensures ∙ c.if-is_text.true) in
    text_below c.args.method (omega arith) ∙ sym (text_range s region c.args.method c.args.receiver args) ∙ sym (ap is_some of_text)

pub returns-else-is_text : goal.returns-else-is_text
returns-else-is_text c = λ region args.
    sym (no_method c.args.regions.now region c.args.receiver args c.args.method (sym c.is_array.ensures ∙ c.if-is_array.false) (sym c.is_text.ensures ∙ c.if-is_text.false))
