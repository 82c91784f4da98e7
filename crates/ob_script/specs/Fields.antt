-- The forms of fields (this project): what a field of an object reads as, or the fault that its form is broken.
use Rattle.std.specs.Prelude.{ℕ, List, [], ◌∷◌, ◌^◌, ◌==◌, nat_lt, codes, Option, Some, None, option_and_then, Result, Ok, Err, if◌then◌else◌}
use Rattle.serde_json.specs.Data.{Data, Items, no_items, item}
use Rattle.serde_json.specs.Find.{get, as_str, as_number, as_u64}
use Rattle.ob_base.specs.declared.cause.Cause.{Cause}
use Rattle.ob_base.specs.declared.cause.Cause.TheVariants.{BadShape}
use Rattle.ob_script.specs.Ids.{is_cell_id, is_notebook_id}

infixl 20 ◌>>=◌
-- what stands first is read first: its fault is the answer
abbrev pub ◌>>=◌ : {X Y : Type 0} → Result X Cause → (X → Result Y Cause) → Result Y Cause
◌>>=◌ (Ok x) f = f x
◌>>=◌ (Err cause) f = Err cause

-- what has no form is `BadShape` of the field
abbrev pub in_form : {X : Type 0} → List ℕ → Option X → Result X Cause
in_form key (Some x) = Ok x
in_form key None = Err (BadShape key)

-- a field that is missing breaks its form, and what is no object has no fields
abbrev pub field : {X : Type 0} → (Data → Option X) → List ℕ → Data → Result X Cause
field form key d = in_form key (option_and_then form (get key d))

-- the entries of an array in turn
abbrev pub entries : {X : Type 0} → (Data → Result X Cause) → Items → Result (List X) Cause
entries form no_items = Ok []
entries form (item d ds) = form d >>= (λ x. entries form ds >>= (λ xs. Ok (x ∷ xs)))

abbrev pub notebook_id : Data → Option (List ℕ)
notebook_id d = option_and_then (λ text. if is_notebook_id text then Some text else None) (as_str d)

abbrev pub cell_id : Data → Option (List ℕ)
cell_id d = option_and_then (λ text. if is_cell_id text then Some text else None) (as_str d)

-- a whole number that is written without a point and an exponent
abbrev pub whole : Data → Option ℕ
whole d = option_and_then as_u64 (as_number d)

abbrev pub version_one : Data → Option ℕ
version_one d = option_and_then (λ n. if n == 1 then Some n else None) (whole d)

abbrev pub place : Data → Option ℕ
place d = option_and_then (λ n. if nat_lt n (2 ^ 32) then Some n else None) (whole d)

abbrev pub place_from : Option Data → Result (Option ℕ) Cause
place_from None = Ok None
place_from (Some d) = in_form (codes "place") (option_and_then (λ n. Some (Some n)) (place d))

-- `place`, which may be missing
abbrev pub place_field : Data → Result (Option ℕ) Cause
place_field d = place_from (get (codes "place") d)
