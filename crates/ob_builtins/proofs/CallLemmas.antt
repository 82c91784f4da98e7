-- What one call gives as a call by number.
use Rattle.std.proofs.Common.{◌≡◌, ◌≢◌, ◌∙◌, ◌∷◌, ◌++◌, [], ℕ, Bool, true, false, Option, Some, None, List, refl, ap, sym, subst, Result, Ok, Err, IfOk, OnErr, inl, inr, slice_get}
use Rattle.std.proofs.lemmas.Bool.{true≢false}
use Rattle.std.specs.List.{Contains}
use Rattle.std.specs.Option.{option_map_or}
use Rattle.std.specs.Prelude.{IfSome, IsSome, is_some, unwrap_or}
use Rattle.ob_items.specs.declared.error.OpError.{OpError}
use Rattle.ob_items.specs.declared.error.OpError.TheVariants as E
use Rattle.ob_items.specs.declared.thrown.Thrown.{Thrown}
use Rattle.ob_items.specs.declared.value.Ref.{Ref}
use Rattle.ob_items.specs.declared.value.RegionKey.{RegionKey}
use Rattle.ob_items.specs.declared.value.Value.{Value}
use Rattle.ob_items.specs.Bodies.{array_of, text_of}
use Rattle.ob_items.specs.Items.{at_item}
use Rattle.ob_items.specs.Region.{Cells}
use Rattle.ob_items.specs.declared.item.Body.{Body}
use Rattle.ob_items.specs.declared.item.Body.TheVariants as B
use Rattle.ob_items.specs.Item.{Item}
use Rattle.ob_values.specs.BuiltinNames.{Builtin, builtin_numbered}
use Rattle.ob_values.specs.Builtins.{array_method, text_method, method_of, method_call}
use Rattle.ob_values.specs.Effects.{Effect, Answers, Leaves, answer_of}
use Rattle.ob_values.specs.Fixed.{KeepsFixed}
use Rattle.ob_values.specs.Operators.{AddsValue}
use Rattle.ob_values.specs.Sound.{Pointer, AsValue, KeepsSound, IsSound, pointers_of}
use Rattle.ob_values.specs.Store.{Store, item_of, read_item, region_of}
use Rattle.ob_values.specs.declared.done.Done.{Done}
use Rattle.ob_values.proofs.SeenLemmas.{Contains-none, Contains-cons, Contains-cons_cases, Contains-head}
use Rattle.ob_builtins.specs.Calls.{CarriesOut, array_call, text_call}

-- ---- pointers that are among others

pub none_among : (used : List Pointer) (p : Pointer) → Contains [] p → Contains used p
none_among used p h = absurd (Contains-none p h)

pub receiver_among : (r : Ref) (used : List Pointer) (p : Pointer) → Contains ((AsValue, r) ∷ []) p → Contains ((AsValue, r) ∷ used) p
receiver_among r used p h = elim (Contains-cons_cases (AsValue, r) [] p h) [
  | inl e ↦ Contains-head (AsValue, r) used p e
  | inr n ↦ absurd (Contains-none p n)
]

pub args_among : (r : Ref) (used : List Pointer) (p : Pointer) → Contains used p → Contains ((AsValue, r) ∷ used) p
args_among r used p h = Contains-cons (AsValue, r) used p h

-- ---- the whole of what a call leaves

module _ (s n : Store) (own used : List Pointer) (within : (p : Pointer) → Contains own p → Contains used p) where
  adds_among : (result : Result Done OpError) → IfOk result (λ done. AddsValue s n own done.value) → IfOk result (λ done. AddsValue s n used done.value)
  adds_among (Ok done) adds = λ roots reached sound. adds roots (λ p h. reached p (within p h)) sound
  adds_among (Err e) adds = tt

  adds_plain : (result : Result Done OpError) → KeepsSound s n own → IfOk result (λ done. pointers_of (done.value ∷ []) ≡ []) → IfOk result (λ done. AddsValue s n used done.value)
  adds_plain (Ok done) kept plain =
      λ roots reached sound. subst (λ ps. IsSound n (ps ++ roots)) (sym plain) (kept roots (λ p h. reached p (within p h)) sound)
  adds_plain (Err e) kept plain = tt

  pub carried : (left : ℕ) (call : Result Effect Thrown) (result : Result Done OpError) → Answers result (answer_of s left call) → Leaves result (answer_of s left call) n
      → (result ≢ Err E.NoMemory → OnErr result (n ≡ s)) → IfOk result (λ done. AddsValue s n own done.value) → KeepsFixed s n → CarriesOut s n left used call result
  carried left call result answer store err sound fixed = record { answer = answer; store = store; err = err; sound = adds_among result sound; fixed = fixed }

  -- where the value holds no pointer
  pub carried_plain : (left : ℕ) (call : Result Effect Thrown) (result : Result Done OpError) → Answers result (answer_of s left call) → Leaves result (answer_of s left call) n
      → (result ≢ Err E.NoMemory → OnErr result (n ≡ s)) → KeepsSound s n own → IfOk result (λ done. pointers_of (done.value ∷ []) ≡ []) → KeepsFixed s n → CarriesOut s n left used call result
  carried_plain left call result answer store err kept plain fixed =
      record { answer = answer; store = store; err = err; sound = adds_plain result kept plain; fixed = fixed }

-- ---- a call by number

pub at_number : (f : ℕ → Option (Result Effect Thrown)) (n k : ℕ) (call : Result Effect Thrown) (P : Result Effect Thrown → Type 0) → n ≡ k → f k ≡ Some call → P call → IfSome (f n) P
at_number f n k call P e is p = subst (λ o. IfSome o P) (sym (ap f e ∙ is)) p

module _ (s n : Store) (left : ℕ) (used : List Pointer) (result : Result Done OpError) where
  pub answers_of : (o : Option (Result Effect Thrown)) → IfSome o (λ call. CarriesOut s n left used call result) → IfSome o (λ call. Answers result (answer_of s left call))
  answers_of None h = tt
  answers_of (Some call) h = h.answer

  pub fixed_of : (o : Option (Result Effect Thrown)) → IsSome o → IfSome o (λ call. CarriesOut s n left used call result) → KeepsFixed s n
  fixed_of None some h = absurd cc
  fixed_of (Some call) some h = h.fixed

-- ---- the item of which a method is called

read_is : {X : Type 0} (read : Body → Option X) (s : Store) (r : Ref) → read_item read s r ≡ option_map_or (λ (item : Item). read item.body) (item_of s r) None
read_is read s r = by (region_of s r.region.0)
  where
    by : (o : Option Cells) → option_map_or (λ (c : Cells). at_item read c.items r.item) o None
        ≡ option_map_or (λ (item : Item). read item.body) (option_map_or (λ (c : Cells). slice_get c.items r.item) o None) None
    by None = refl
    by (Some c) = refl

module _ (s : Store) (region : RegionKey) (r : Ref) (args : List Value) where
  array_body : (b : Body) → IsSome (array_of b) → (p : Option Builtin) → option_map_or (λ x. method_of s region x r b args) p None ≡ option_map_or (λ x. array_method s region x r args) p None
  array_body (B.Array values) h None = refl
  array_body (B.Array values) h (Some x) = refl
  array_body _ h p = absurd cc

  array_item : (o : Option Item) → IsSome (option_map_or (λ (item : Item). array_of item.body) o None) → (p : Option Builtin)
      → option_map_or (λ x. option_map_or (λ (item : Item). method_of s region x r item.body args) o None) p None ≡ option_map_or (λ x. array_method s region x r args) p None
  array_item None h p = absurd cc
  array_item (Some item) h p = array_body item.body h p

  -- of an array
  pub method_is_array : (n : ℕ) → IsSome (read_item array_of s r) → method_call s region n r args ≡ array_call s region n r args
  method_is_array n h = array_item (item_of s r) (sym (ap is_some (read_is array_of s r)) ∙ h) (builtin_numbered n)

  text_body : (b : Body) → IsSome (text_of b) → (p : Option Builtin)
      → option_map_or (λ x. method_of s region x r b args) p None ≡ option_map_or (λ x. text_method s region x (unwrap_or (text_of b) []) args) p None
  text_body (B.Text units) h None = refl
  text_body (B.Text units) h (Some x) = refl
  text_body _ h p = absurd cc

  text_item : (o : Option Item) → IsSome (option_map_or (λ (item : Item). text_of item.body) o None) → (p : Option Builtin)
      → option_map_or (λ x. option_map_or (λ (item : Item). method_of s region x r item.body args) o None) p None
      ≡ option_map_or (λ x. text_method s region x (unwrap_or (option_map_or (λ (item : Item). text_of item.body) o None) []) args) p None
  text_item None h p = absurd cc
  text_item (Some item) h p = text_body item.body h p

  -- of a text
  pub method_is_text : (n : ℕ) → IsSome (read_item text_of s r) → method_call s region n r args ≡ text_call s region n r args
  method_is_text n h =
      text_item (item_of s r) (sym (ap is_some (read_is text_of s r)) ∙ h) (builtin_numbered n)
      ∙ ap (λ o. option_map_or (λ x. text_method s region x (unwrap_or o []) args) (builtin_numbered n) None) (sym (read_is text_of s r))

  text_body_called : (b : Body) (p : Option Builtin) → is_some (array_of b) ≡ false → IsSome (option_map_or (λ x. method_of s region x r b args) p None) → IsSome (text_of b)
  text_body_called (B.Text units) p a h = refl
  text_body_called (B.Array values) p a h = absurd cc
  text_body_called _ None a h = absurd cc
  text_body_called _ (Some x) a h = absurd cc

  text_item_called : (o : Option Item) (p : Option Builtin) → is_some (option_map_or (λ (item : Item). array_of item.body) o None) ≡ false
      → IsSome (option_map_or (λ x. option_map_or (λ (item : Item). method_of s region x r item.body args) o None) p None) → IsSome (option_map_or (λ (item : Item). text_of item.body) o None)
  text_item_called None None a h = absurd cc
  text_item_called None (Some x) a h = absurd cc
  text_item_called (Some item) p a h = text_body_called item.body p a h

  -- what has a method and is no array is a text
  pub is_text_called : (n : ℕ) → is_some (read_item array_of s r) ≡ false → IsSome (method_call s region n r args) → IsSome (read_item text_of s r)
  is_text_called n a h =
      ap is_some (read_is text_of s r)
      ∙ text_item_called (item_of s r) (builtin_numbered n) (sym (ap is_some (read_is array_of s r)) ∙ a) h

  -- nothing else has a method
  pub no_method : (n : ℕ) → is_some (read_item array_of s r) ≡ false → is_some (read_item text_of s r) ≡ false → is_some (method_call s region n r args) ≡ false
  no_method n a t = by (is_some (method_call s region n r args)) refl
    where
      by : (b : Bool) → is_some (method_call s region n r args) ≡ b → is_some (method_call s region n r args) ≡ false
      by false e = e
      by true e = absurd (true≢false (sym (is_text_called n a e) ∙ t))
