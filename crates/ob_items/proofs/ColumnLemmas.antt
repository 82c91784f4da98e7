-- Items that are kept as a column of marks and a column of bodies.
use Rattle.std.proofs.Common.{◌≡◌, ℕ, zero, suc, Bool, true, false, Some, None, Option, List, [], ◌∷◌, ◌++◌, refl, ap, sym, ◌∙◌, length, slice_get, slice_set, unwrap_or, ◌≤◌, arith, Result, Ok, Err, OnOk, OnErr}
use Rattle.std.proofs.lemmas.Grind.{common_steps}
use Rattle.std.specs.Option.{option_map_or}
use Rattle.ob_items.specs.Columns.{items_of, read_at, remade}
use Rattle.ob_items.specs.Item.{Item}
use Rattle.ob_items.specs.Items.{at_item, is_frozen_at, with_body, changed, marked_at, live}
use Rattle.ob_items.specs.declared.item.Body.{Body}

less : {m n : ℕ} → suc m ≡ suc n → m ≡ n
less e = omega (arith, e)

pub columns_length : (ms : List Bool) (bs : List Body) → length ms ≡ length bs → length (items_of ms bs) ≡ length bs
unfolding items_of
columns_length [] bs e = e
columns_length (m ∷ ms) [] e = absurd (omega (arith, e))
columns_length (m ∷ ms) (b ∷ bs) e = ap suc (columns_length ms bs (less e))

slice_get-within : {X : Type 0} (xs : List X) (i : ℕ) (x : X) → slice_get xs i ≡ Some x → suc i ≤ length xs
slice_get-within [] i x e = grind (arith, common_steps)
slice_get-within (y ∷ ys) zero x e = omega arith
slice_get-within (y ∷ ys) (suc i) x e = omega (arith, slice_get-within ys i x e)

-- what a reader gives of the item at a place, by its body
pub columns_read : {X : Type 0} (read : Body → Option X) (ms : List Bool) (bs : List Body) (at : ℕ) → length ms ≡ length bs → at_item read (items_of ms bs) at ≡ option_map_or read (slice_get bs at) None
unfolding items_of
columns_read read [] [] at e = refl
columns_read read [] (b ∷ bs) at e = absurd (omega (arith, e))
columns_read read (m ∷ ms) [] at e = absurd (omega (arith, e))
columns_read read (m ∷ ms) (b ∷ bs) zero e = refl
columns_read read (m ∷ ms) (b ∷ bs) (suc at) e = columns_read read ms bs at (less e)

pub columns_body : (ms : List Bool) (bs : List Body) (at : ℕ) → length ms ≡ length bs → at_item (λ body. Some body) (items_of ms bs) at ≡ slice_get bs at
columns_body ms bs at e = columns_read (λ body. Some body) ms bs at e ∙ by (slice_get bs at)
  where
    by : (o : Option Body) → option_map_or (λ body. Some body) o None ≡ o
    by None = refl
    by (Some body) = refl

-- its mark
pub columns_frozen : (ms : List Bool) (bs : List Body) (at : ℕ) → length ms ≡ length bs → is_frozen_at (items_of ms bs) at ≡ unwrap_or (slice_get ms at) false
unfolding items_of
columns_frozen [] bs at e = refl
columns_frozen (m ∷ ms) [] at e = absurd (omega (arith, e))
columns_frozen (m ∷ ms) (b ∷ bs) zero e = refl
columns_frozen (m ∷ ms) (b ∷ bs) (suc at) e = columns_frozen ms bs at (less e)

-- a write of a body
pub columns_written : (ms : List Bool) (bs : List Body) (at : ℕ) (body : Body) → length ms ≡ length bs → items_of ms (slice_set bs at body) ≡ with_body (items_of ms bs) at body
unfolding items_of
columns_written [] bs at body e = refl
columns_written (m ∷ ms) [] at body e = refl
columns_written (m ∷ ms) (b ∷ bs) zero body e = refl
columns_written (m ∷ ms) (b ∷ bs) (suc at) body e = ap (λ is. record { frozen = m; body = b } ∷ is) (columns_written ms bs at body (less e))

-- a mark
pub columns_marked : (ms : List Bool) (bs : List Body) (at : ℕ) → length ms ≡ length bs → items_of (slice_set ms at true) bs ≡ marked_at (items_of ms bs) at
unfolding items_of
columns_marked [] bs at e = refl
columns_marked (m ∷ ms) [] zero e = refl
columns_marked (m ∷ ms) [] (suc at) e = refl
columns_marked (m ∷ ms) (b ∷ bs) zero e = refl
columns_marked (m ∷ ms) (b ∷ bs) (suc at) e = ap (λ is. record { frozen = m; body = b } ∷ is) (columns_marked ms bs at (less e)) ∙ pull (slice_get (items_of ms bs) at)
  where
    pull : (o : Option Item) → record { frozen = m; body = b } ∷ option_map_or (λ item. slice_set (items_of ms bs) at (record { frozen = true; body = item.body })) o (items_of ms bs)
        ≡ option_map_or (λ item. record { frozen = m; body = b } ∷ slice_set (items_of ms bs) at (record { frozen = true; body = item.body })) o (record { frozen = m; body = b } ∷ items_of ms bs)
    pull None = refl
    pull (Some item) = refl

pub columns_unmarked : (ms : List Bool) (bs : List Body) (at : ℕ) → length ms ≡ length bs → length ms ≤ at → marked_at (items_of ms bs) at ≡ items_of ms bs
columns_unmarked ms bs at e h = by (slice_get (items_of ms bs) at) refl
  where
    by : (o : Option Item) → slice_get (items_of ms bs) at ≡ o → option_map_or (λ item. slice_set (items_of ms bs) at (record { frozen = true; body = item.body })) o (items_of ms bs) ≡ items_of ms bs
    by None p = refl
    by (Some item) p = let within = slice_get-within (items_of ms bs) at item p in let same = columns_length ms bs e in absurd (omega (arith, within, same, e, h))

-- a new item
pub columns_pushed : (ms : List Bool) (bs : List Body) (body : Body) → length ms ≡ length bs → items_of (ms ++ false ∷ []) (bs ++ body ∷ []) ≡ items_of ms bs ++ live body ∷ []
unfolding items_of
columns_pushed [] [] body e = refl
columns_pushed [] (b ∷ bs) body e = absurd (omega (arith, e))
columns_pushed (m ∷ ms) [] body e = absurd (omega (arith, e))
columns_pushed (m ∷ ms) (b ∷ bs) body e = ap (λ is. record { frozen = m; body = b } ∷ is) (columns_pushed ms bs body (less e))

module _ {X : Type 0} (read : Body → Option X) (ms : List Bool) (bs : List Body) (items : List Item) (at : ℕ) (same : length ms ≡ length bs) (is : items_of ms bs ≡ items) where
  pub read_columns : read_at read bs at ≡ at_item read items at
  read_columns = sym (columns_read read ms bs at same) ∙ ap (λ xs. at_item read xs at) is

  pub changed_columns : (make : X → Body) → items_of ms (remade read make bs at) ≡ changed read make items at
  changed_columns make = by (read_at read bs at) ∙ ap (λ o. option_map_or (λ x. with_body items at (make x)) o items) read_columns
    where
      by : (o : Option X) → items_of ms (option_map_or (λ x. slice_set bs at (make x)) o bs) ≡ option_map_or (λ x. with_body items at (make x)) o items
      by None = is
      by (Some x) = columns_written ms bs at (make x) same ∙ ap (λ xs. with_body xs at (make x)) is

  pub ok_columns : {T E : Type 0} (result : Result T E) (make : X → Body) (new : List Body) → OnOk result (new ≡ remade read make bs at) → OnOk result (items_of ms new ≡ changed read make items at)
  ok_columns (Ok t) make new h = ap (items_of ms) h ∙ changed_columns make
  ok_columns (Err e) make new h = tt

  pub err_columns : {T E : Type 0} (result : Result T E) (new : List Body) → OnErr result (new ≡ bs) → OnErr result (items_of ms new ≡ items)
  err_columns (Ok t) new h = tt
  err_columns (Err e) new h = ap (items_of ms) h ∙ is
