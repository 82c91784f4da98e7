-- What the new array of `concat` leads to.
use Rattle.std.proofs.Common.{◌≡◌, Option, Some, None, List, [], ◌∷◌, ◌++◌, refl, sym, subst, inl, inr}
use Rattle.std.proofs.lemmas.List.Elements.{Contains-append_cases}
use Rattle.std.specs.Prelude.{unwrap_or}
use Rattle.std.specs.List.{Contains, flat_map}
use Rattle.ob_items.specs.Bodies.{array_of}
use Rattle.ob_items.specs.declared.value.Ref.{Ref}
use Rattle.ob_items.specs.declared.value.Value.{Value}
use Rattle.ob_items.specs.declared.value.Value.TheVariants as V
use Rattle.ob_values.specs.ArrayMethods.{elements_at, spread}
use Rattle.ob_values.specs.Sound.{Pointer, AsValue, pointer_of, pointers_of}
use Rattle.ob_values.specs.Store.{Store, read_item}
use Rattle.ob_values.proofs.PointerLemmas.{from_values, to_values}
use Rattle.ob_values.proofs.SeenLemmas.{Contains-cons_cases, Contains-cons, Contains-head, Contains-none}
use Rattle.ob_array_methods.proofs.ResultLemmas.{IsLed, element_led, pointer_in}

spread_led : (s : Store) (a v : Value) (q : Pointer) → Contains (spread s a) v → pointer_of v ≡ Some q → IsLed s (pointers_of (a ∷ [])) q
spread_led s (V.Ref r) v q h e = by (read_item array_of s r) refl h
  where
    by : (o : Option (List Value)) → read_item array_of s r ≡ o → Contains (unwrap_or o (V.Ref r ∷ [])) v → IsLed s ((AsValue, r) ∷ []) q
    by None f g = λ roots reached. reached q (to_values (V.Ref r ∷ []) v q g e)
    by (Some values) f g = element_led s r q (to_values (elements_at s r) v q (subst (λ o. Contains (unwrap_or o []) v) (sym f) g) e)
spread_led s V.Undefined v q h e = λ roots reached. reached q (to_values (V.Undefined ∷ []) v q h e)
spread_led s V.Null v q h e = λ roots reached. reached q (to_values (V.Null ∷ []) v q h e)
spread_led s (V.Bool b) v q h e = λ roots reached. reached q (to_values (V.Bool b ∷ []) v q h e)
spread_led s (V.Int n) v q h e = λ roots reached. reached q (to_values (V.Int n ∷ []) v q h e)
spread_led s (V.Builtin n) v q h e = λ roots reached. reached q (to_values (V.Builtin n ∷ []) v q h e)
spread_led s (V.Holder n) v q h e = λ roots reached. reached q (to_values (V.Holder n ∷ []) v q h e)

args_led : (s : Store) (args : List Value) (v : Value) (q : Pointer) → Contains (flat_map (spread s) args) v → pointer_of v ≡ Some q → IsLed s (pointers_of args) q
args_led s [] v q h e = absurd (Contains-none v h)
args_led s (a ∷ args) v q h e = λ roots reached.
    elim (Contains-append_cases (spread s a) (flat_map (spread s) args) v h) [
      | inl l ↦ spread_led s a v q l e roots (λ p g. reached p (pointer_in (a ∷ args) a p (Contains-head a args a refl) g))
      | inr r ↦ args_led s args v q r e roots (λ p g. let t = from_values args p g in reached p (to_values (a ∷ args) t.0 p (Contains-cons a args t.0 t.1) t.2))
    ]

pub concat_led : (s : Store) (r : Ref) (args values : List Value) (q : Pointer) → values ≡ elements_at s r ++ flat_map (spread s) args → Contains (pointers_of values) q
    → IsLed s ((AsValue, r) ∷ pointers_of args) q
concat_led s r args values q is h = λ roots reached.
    let t = from_values (elements_at s r ++ flat_map (spread s) args) q (subst (λ vs. Contains (pointers_of vs) q) is h) in
    elim (Contains-append_cases (elements_at s r) (flat_map (spread s) args) t.0 t.1) [
      | inl l ↦ element_led s r q (to_values (elements_at s r) t.0 q l t.2) roots
          (λ p g. reached p (elim (Contains-cons_cases (AsValue, r) [] p g) [ inl e ↦ Contains-head (AsValue, r) (pointers_of args) p e | inr n ↦ absurd (Contains-none p n) ]))
      | inr m ↦ args_led s args t.0 q m t.2 roots (λ p g. reached p (Contains-cons (AsValue, r) (pointers_of args) p g))
    ]
