use Rattle.std.proofs.Common.{◌≡◌, ◌⊎◌, ◌∙◌, ap, sym, subst, Err, ℤ}
use Rattle.std.specs.Result.{result_map_both}
use Rattle.ob_items.specs.declared.error.OpError.TheVariants as E
use Rattle.ob_items.specs.declared.value.Value.TheVariants as V
use Rattle.ob_values.specs.Operators.{binary_result, charged, text_sum, joined, made_value}
use Rattle.ob_values.specs.Store.{elements_in}
use Rattle.ob_ops.proofs.SumLemmas.{sum_is_a_text}
use Rattle.ob_ops.proofs.operators.binary.Goals.{in_default-via-in-Int+in_default, in_default-via-in_default}
use Rattle.ob_ops.proofs.operators.binary.Goals as goal

not_both : (c : goal.After-add_texts) → (m n : ℤ) → c.args.a ≡ V.Int m → c.args.b ≡ V.Int n → ⊥
not_both c m n first second = elim c.in_default.branch [
  | in_default-via-in-Int+in_default w ↦ w.in_default.not-Int-1 n second
  | in_default-via-in_default w ↦ w.in_default.not-Int-0 m first
]

pub returns-in-Add-clause-answer : goal.returns-in-Add-clause-answer
returns-in-Add-clause-answer c =
    let s = c.args.regions.now in
    let is : binary_result s c.args.op c.args.a c.args.b ≡ text_sum (joined s c.args.a c.args.b) =
    ap (λ op. binary_result s op c.args.a c.args.b) c.in-Add.is ∙ sum_is_a_text s c.args.a c.args.b (not_both c) in
    subst (λ r. (c.add_texts.result ≡ Err E.NoMemory) ⊎ (c.add_texts.result ≡ result_map_both (made_value s c.args.region) (λ e. e) (charged (elements_in s c.args.region) c.args.left r)))
    (sym is) c.add_texts.ensures.answer
