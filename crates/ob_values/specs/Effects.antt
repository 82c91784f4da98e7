-- What a call of a function or method that is built in leaves, and how its arguments are read (this project).
use Rattle.std.specs.Prelude.{◌≡◌, ◌⊎◌, ℕ, ◌+◌, ◌-◌, suc, min, ℤ, pos, negsuc, List, [], ◌∷◌, length, Option, Some, None, Result, Ok, Err, OnOk, IfOk, nat_lt, slice_get, unwrap_or, if◌then◌else◌}
use Rattle.std.specs.List.{slice_range}
use Rattle.std.specs.Option.{option_map, option_and_then}
use Rattle.std.specs.Result.{result_map_both}
use Rattle.ob_items.specs.Items.{live}
use Rattle.ob_items.specs.declared.error.OpError.{OpError}
use Rattle.ob_items.specs.declared.error.OpError.TheVariants as E
use Rattle.ob_items.specs.declared.thrown.Thrown.{Thrown}
use Rattle.ob_items.specs.declared.thrown.Thrown.TheVariants as T
use Rattle.ob_items.specs.declared.value.RegionKey.{RegionKey}
use Rattle.ob_items.specs.declared.value.Value.{Value}
use Rattle.ob_items.specs.declared.value.Value.TheVariants as V
use Rattle.ob_items.specs.declared.item.Body.TheVariants as B
use Rattle.ob_values.specs.Operators.{limited}
use Rattle.ob_values.specs.Store.{Store, elements_in, with_new, next_ref, text_cost}
use Rattle.ob_values.specs.declared.done.Done.{Done}

-- ---- what a call leaves

-- its value, the store, the region whose elements it adds to and by how many, and the steps that it takes besides the call
-- and one for each of these
pub record Effect : Type 0 where
  pub value : Value
  pub store : Store
  pub region : RegionKey
  pub elements : ℕ
  pub steps : ℕ

-- a value alone
abbrev pub gives : Store → RegionKey → Value → Effect
gives s region value = record { value = value; store = s; region = region; elements = 0; steps = 0 }

-- a new array
abbrev pub gives_array : Store → RegionKey → List Value → Effect
gives_array s region values = record {
  value = V.Ref (next_ref s region);
  store = with_new s region (live (B.Array values)) (1 + length values);
  region = region;
  elements = 1 + length values;
  steps = 0;
}

-- the store with a new text
abbrev pub with_text : RegionKey → Store → List ℕ → Store
with_text region s units = with_new s region (live (B.Text units)) (text_cost (length units))

-- a new text
abbrev pub gives_text : Store → RegionKey → List ℕ → Effect
gives_text s region units = record {
  value = V.Ref (next_ref s region);
  store = with_text region s units;
  region = region;
  elements = text_cost (length units);
  steps = 0;
}

-- the same in steps of its own
abbrev pub in_steps : ℕ → Effect → Effect
in_steps n e = record { value = e.value; store = e.store; region = e.region; elements = e.elements; steps = n }

-- the same with elements more, those of its parts
abbrev pub with_parts : ℕ → Effect → Effect
with_parts n e = record { value = e.value; store = e.store; region = e.region; elements = n + e.elements; steps = e.steps }

-- a new text in steps of its own, unless it is too long
abbrev pub makes_text : Store → RegionKey → ℕ → List ℕ → Result Effect Thrown
makes_text s region n units =
    if nat_lt 65536 (length units) then Err T.TextTooLong else Ok (in_steps n (gives_text s region units))

-- ---- arguments

-- the argument at a place: a missing one is undefined
abbrev pub argument : List Value → ℕ → Value
argument args n = unwrap_or (slice_get args n) V.Undefined

-- what f makes of a part of the arguments, where they are of the right kind
abbrev pub or_bad : {X : Type 0} → Option X → (X → Result Effect Thrown) → Result Effect Thrown
or_bad None f = Err T.BadArgument
or_bad (Some x) f = f x

abbrev pub number_of : Value → Option ℤ
number_of (V.Int n) = Some n
number_of _ = None

-- a place among n: a negative one counts from the end, then it is cut to the range; undefined is the default
abbrev pub place_of : ℕ → ℕ → Value → Option ℕ
place_of n default V.Undefined = Some default
place_of n default (V.Int (pos k)) = Some (min k n)
place_of n default (V.Int (negsuc k)) = Some (n - suc k)
place_of n default _ = None

-- the places of the first two arguments among n: by default all
abbrev pub places_of : ℕ → List Value → Option (ℕ × ℕ)
places_of n args =
    option_and_then (λ from. option_map (λ to. (from, to)) (place_of n n (argument args 1))) (place_of n 0 (argument args 0))

-- what stands from the first place up to before the second
abbrev pub part_of : {X : Type 0} → List X → List Value → Option (List X)
part_of xs args = option_map (λ (p : ℕ × ℕ). slice_range xs p.0 p.1) (places_of (length xs) args)

-- what f gives of each, if it gives something of all
abbrev pub all_some : {X Y : Type 0} → (X → Option Y) → List X → Option (List Y)
all_some f [] = Some []
all_some f (x ∷ xs) = option_and_then (λ y. option_map (λ ys. y ∷ ys) (all_some f xs)) (f x)

-- ---- what a call answers

-- where there are `left` steps: a fault that is thrown comes before the limits of elements and of steps
abbrev pub answer_of : Store → ℕ → Result Effect Thrown → Result Effect OpError
answer_of s left (Err t) = Err (E.Throws t)
answer_of s left (Ok e) = limited (elements_in s e.region) left e.elements e.steps e

abbrev pub done_of : Effect → Done
done_of e = record { value = e.value; steps = e.steps }

-- a call gives what is to be answered, or memory runs out
abbrev pub Answers : Result Done OpError → Result Effect OpError → Type 0
Answers result answer = (result ≡ Err E.NoMemory) ⊎ (result ≡ result_map_both done_of (λ e. e) answer)

-- where a call gives something, it leaves this store
abbrev pub Leaves : Result Done OpError → Result Effect OpError → Store → Type 0
Leaves result answer new = OnOk result (IfOk answer (λ e. new ≡ e.store))
