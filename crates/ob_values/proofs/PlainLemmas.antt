-- The plain data of a value, or why it has none.
use Rattle.std.proofs.Common.{◌≡◌, ◌↔◌, ◌≤◌, ◌^◌, false, cond, Ok, Err, IsTrue, [], ◌∷◌, ◌∙◌, ap, sym, arith}
use Rattle.std.proofs.lemmas.Bool.{true≢false}
use Rattle.std.proofs.lemmas.Bool.Decides.{nat_tests}
use Rattle.std.specs.List.{sum_by}
use Rattle.std.specs.Option.{option_map_or}
use Rattle.ob_items.specs.declared.error.PlainError.TheVariants as E
use Rattle.ob_items.specs.declared.value.Value.{Value}
use Rattle.ob_values.specs.Freeze.{refs_of}
use Rattle.ob_values.specs.PlainOf.{is_endless, is_large, tree_elements, plain_of, plain_result, HasCycle}
use Rattle.ob_values.specs.Store.{Store}
use Rattle.ob_values.proofs.TreeLemmas.{small-ends, cycle-endless}

module _ (s : Store) (value : Value) where
  not_endless : is_large s value ≡ false → is_endless s value ≡ false
  not_endless e =
      let l : sum_by (tree_elements (2 ^ 63) s) (refs_of (value ∷ [])) ≤ 50000 = grind (arith, nat_tests, e) in
      small-ends s (refs_of (value ∷ [])) l

  pub result-small : is_large s value ≡ false → plain_result s value ≡ option_map_or (λ plain. Ok plain) (plain_of 100 s value) (Err E.NotPlain)
  result-small e =
      ap (λ b. cond b (Err E.NotPlain) (cond (is_large s value) (Err E.HeapFull) (option_map_or (λ plain. Ok plain) (plain_of 100 s value) (Err E.NotPlain)))) (not_endless e)
      ∙ ap (λ b. cond b (Err E.HeapFull) (option_map_or (λ plain. Ok plain) (plain_of 100 s value) (Err E.NotPlain))) e

  pub result-cycle : HasCycle s value → plain_result s value ≡ Err E.NotPlain
  result-cycle h =
      ap (λ b. cond b (Err E.NotPlain) (cond (is_large s value) (Err E.HeapFull) (option_map_or (λ plain. Ok plain) (plain_of 100 s value) (Err E.NotPlain)))) (cycle-endless s value h)

  pub tells-none : is_endless s value ≡ false → IsTrue (is_endless s value) ↔ HasCycle s value
  tells-none e = (λ t. absurd (true≢false (sym t ∙ e)), λ h. cycle-endless s value h)

  pub tells-small : is_large s value ≡ false → IsTrue (is_endless s value) ↔ HasCycle s value
  tells-small e = tells-none (not_endless e)

  pub tells-cycle : HasCycle s value → IsTrue (is_endless s value) ↔ HasCycle s value
  tells-cycle h = (λ t. h, λ t. cycle-endless s value t)
