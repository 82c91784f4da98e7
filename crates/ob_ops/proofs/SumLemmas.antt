-- A sum of which an operand is no number.
use Rattle.std.proofs.Common.{◌≡◌, ℤ, refl}
use Rattle.ob_base.specs.declared.operators.BinaryOp.TheVariants as O
use Rattle.ob_items.specs.declared.value.Value.{Value}
use Rattle.ob_items.specs.declared.value.Value.TheVariants as V
use Rattle.ob_values.specs.Operators.{binary_result, text_sum, joined}
use Rattle.ob_values.specs.Store.{Store}

pub sum_is_a_text : (s : Store) (a b : Value) → ((m n : ℤ) → a ≡ V.Int m → b ≡ V.Int n → ⊥) → binary_result s O.Add a b ≡ text_sum (joined s a b)
sum_is_a_text s (V.Int m) (V.Int n) h = absurd (h m n refl refl)
sum_is_a_text s a b h = refl
