-- A property of stores that the few changes of a store keep: then builtins keep it, and what they give is good.
use Rattle.std.proofs.Common.{◌≡◌, ℕ, suc, ◌+◌, ◌-◌, ◌==◌, ℤ, pos, negsuc, Bool, true, false, List, [], ◌∷◌, ◌++◌, length, map, fold, take, drop, remove, reverse, Option, Some, None, Result, Ok, Err, slice_get, slice_set, unwrap_or, nat_lt, if◌then◌else◌, subst, sym, refl, ap, ◌∙◌}
use Rattle.std.specs.List.{flat_map, slice_range}
use Rattle.std.specs.Option.{option_map_or, option_and_then, option_map}
use Rattle.std.proofs.lemmas.Grind.{reverse_onto}
use Rattle.ob_items.specs.Bodies.{array_of, box_of, hooks_of, kept_of, properties_of}
use Rattle.ob_items.specs.Item.{Item}
use Rattle.ob_items.specs.Items.{live, with_element}
use Rattle.ob_items.specs.Properties.{Keyed, keys_of, values_of, entries_of, index_entry, named_entry}
use Rattle.ob_items.specs.declared.frame.Taken.{Taken}
use Rattle.ob_items.specs.declared.item.Body.{Body}
use Rattle.ob_items.specs.declared.item.Body.TheVariants as B
use Rattle.ob_items.specs.declared.properties.Property.{Property}
use Rattle.ob_items.specs.declared.thrown.Thrown.{Thrown}
use Rattle.ob_items.specs.declared.thrown.Thrown.TheVariants as T
use Rattle.ob_items.specs.declared.value.ErrorKind.{ErrorKind}
use Rattle.ob_items.specs.declared.value.Ref.{Ref}
use Rattle.ob_items.specs.declared.value.Value.{Value}
use Rattle.ob_items.specs.declared.value.Value.TheVariants as V
use Rattle.ob_values.specs.ArrayMethods.{elements_at, appended, push, pop, shift, reverse_in_place, slice, array_in, spread, concat, separator, written_as, join, found, moves}
use Rattle.ob_values.specs.BuiltinNames.{Builtin, Push, Pop, Shift, Reverse, Slice, Concat, IndexOf, Includes, Join, SliceText, Repeat, PadStart, FindText, HasText, StartsWith, EndsWith, Split, CharCodeAt, Min, Max, Abs, Sign, Keys, Values, Entries, HasOwn, IsArray, ToText, MakeError, builtin_numbered}
use Rattle.ob_values.specs.Builtins.{array_method, text_method, method_of, function_of, method_call, function_call}
use Rattle.ob_values.specs.Effects.{Effect, gives, gives_array, with_text, makes_text, argument, or_bad, places_of, part_of, number_of, all_some}
use Rattle.ob_values.specs.Functions.{best_of, gives_number, gives_error, message_of}
use Rattle.ob_values.specs.ObjectFunctions.{object_in, with_literals, literals, with_pair, with_pairs, pairs, key_in}
use Rattle.ob_values.specs.Store.{Store, item_of, body_of, is_frozen, count_in, with_new, next_ref, literal_ref, with_literal_in, written, text_cost}
use Rattle.ob_values.specs.Operators.{text_in}
use Rattle.ob_values.specs.Values.{string_of}
use Rattle.ob_values.specs.TextMethods.{split_by, repeated, pad_of, padded, with_texts, text_values, unit_at}
use Rattle.ob_actions.specs.Meters.{with_elements}
use Rattle.ob_actions.specs.World.{World}
use Rattle.ob_actions.proofs.Each.{each_append, each_take, each_drop, each_set}
use Rattle.ob_actions.proofs.Kept.{read_by, good_or, left_of, right_of}
use Rattle.ob_actions.proofs.Regions.{written_there, item_by_body, body_by_item, frozen_by_item}
use Rattle.ob_actions.specs.Within.{Each, Good, GoodBody, IfThere}

pub record StoreLaw (Q : Store → Type 0) (G : Ref → Type 0) (world : World) : Type 0 where
  pub fresh : (s : Store) → Q s → G (next_ref s world.region)
  pub news : (s : Store) (body : Body) (cost : ℕ) → GoodBody G body → Q s → Q (with_new s world.region (live body) cost)
  pub literal_good : (s : Store) (units : List ℕ) → Q s → G (literal_ref s world.region units)
  pub literals : (s : Store) (units : List ℕ) → Q s → Q (with_literal_in s world.region units)
  pub counted : (n : ℕ) (s : Store) → Q s → Q (with_elements world n s)
  pub inside : (s : Store) → Q s → (r : Ref) → G r → IfThere (GoodBody G) (body_of s r)
  pub arrays : (s : Store) (r : Ref) (make : List Value → Body) (grows : Bool) (values : List Value) → Q s → G r → is_frozen s r ≡ false
      → body_of s r ≡ Some (B.Array values) → GoodBody G (make values) → Q (written array_of make s r grows)
  pub objects : (s : Store) (r : Ref) (make : Keyed → Body) (grows : Bool) (properties : Keyed) → Q s → G r → is_frozen s r ≡ false
      → body_of s r ≡ Some (B.Object properties) → GoodBody G (make properties) → Q (written properties_of make s r grows)
  pub boxes : (s : Store) (r : Ref) (v : Value) → Q s → G r → Good G v → is_frozen s r ≡ false → Q (written box_of (λ _. B.Box (Some v)) s r false)
  pub hooks : (s : Store) (r : Ref) → Q s → G r → is_frozen s r ≡ false → Q (written hooks_of (λ n. B.Invalidation (n + 1)) s r false)
  pub kepts : (s : Store) (r : Ref) (k : Taken) → Q s → G r → is_frozen s r ≡ false → Q (written kept_of (λ _. B.Generator k) s r false)

module _ (Q : Store → Type 0) (G : Ref → Type 0) (world : World) (law : StoreLaw Q G world) where
  -- what a call gives is good, and the store that it leaves
  abbrev Fine : Result Effect Thrown → Type 0
  Fine (Ok e) = Q e.store × Good G e.value
  Fine (Err t) = Unit {0}

  abbrev pub AreFine : Option (Result Effect Thrown) → Type 0
  AreFine None = Unit {0}
  AreFine (Some (Ok e)) = Q e.store × Good G e.value
  AreFine (Some (Err t)) = Unit {0}

  fine_some : (o : Result Effect Thrown) → Fine o → AreFine (Some o)
  fine_some (Ok e) h = h
  fine_some (Err t) h = tt

  fine_or : {X : Type 0} (R : X → Type 0) (o : Option X) (f : X → Result Effect Thrown) → IfThere R o → ((x : X) → R x → Fine (f x)) → Fine (or_bad o f)
  fine_or R None f h g = tt
  fine_or R (Some x) f h g = g x h

  any_there : {X : Type 0} (o : Option X) → IfThere (λ (x : X). Unit {0}) o
  any_there None = tt
  any_there (Some x) = tt

  fine_any : {X : Type 0} (o : Option X) (f : X → Result Effect Thrown) → ((x : X) → Fine (f x)) → Fine (or_bad o f)
  fine_any o f g = fine_or (λ _. Unit {0}) o f (any_there o) (λ x _. g x)

  -- ---- what makes new items

  fine_array : (s : Store) (values : List Value) → Q s → Each (Good G) values → Fine (Ok (gives_array s world.region values))
  fine_array s values q g = (law.news s (B.Array values) (1 + length values) g q, law.fresh s q)

  with_text_kept : (s : Store) (units : List ℕ) → Q s → Q (with_text world.region s units)
  with_text_kept s units q = law.news s (B.Text units) (text_cost (length units)) tt q

  fine_if : (b : Bool) (o : Result Effect Thrown) (t : Thrown) → Fine o → Fine (if b then Err t else o)
  fine_if true o t h = tt
  fine_if false o t h = h

  fine_text : (s : Store) (n : ℕ) (units : List ℕ) → Q s → Fine (makes_text s world.region n units)
  fine_text s n units q = fine_if (nat_lt 65536 (length units)) _ T.TextTooLong (with_text_kept s units q, law.fresh s q)

  fine_value : (s : Store) (v : Value) → Q s → Good G v → Fine (Ok (gives s world.region v))
  fine_value s v q g = (q, g)

  -- ---- arrays

  elements_good : (s : Store) (r : Ref) → Q s → G r → Each (Good G) (elements_at s r)
  elements_good s r q g = subst (λ o. Each (Good G) (unwrap_or o [])) (sym (read_by array_of s r)) (by (body_of s r) (law.inside s q r g))
    where
      by : (o : Option Body) → IfThere (GoodBody G) o → Each (Good G) (unwrap_or (option_and_then array_of o) [])
      by None h = tt
      by (Some (B.Array vs)) h = h
      by (Some _) h = tt

  array_in_good : (s : Store) (v : Value) → Q s → Good G v → IfThere (Each (Good G)) (array_in s v)
  array_in_good s (V.Ref r) q g = subst (λ o. IfThere (Each (Good G)) o) (sym (read_by array_of s r)) (by (body_of s r) (law.inside s q r g))
    where
      by : (o : Option Body) → IfThere (GoodBody G) o → IfThere (Each (Good G)) (option_and_then array_of o)
      by None h = tt
      by (Some (B.Array vs)) h = h
      by (Some _) h = tt
  array_in_good s _ q g = tt

  object_in_good : (s : Store) (v : Value) → Q s → Good G v → IfThere (λ (o : Keyed). Each (Good G) (values_of o)) (object_in s v)
  object_in_good s (V.Ref r) q g = subst (λ o. IfThere (λ (o : Keyed). Each (Good G) (values_of o)) o) (sym (read_by properties_of s r)) (by (body_of s r) (law.inside s q r g))
    where
      by : (o : Option Body) → IfThere (GoodBody G) o → IfThere (λ (o : Keyed). Each (Good G) (values_of o)) (option_and_then properties_of o)
      by None h = tt
      by (Some (B.Object ps)) h = h
      by (Some _) h = tt
  object_in_good s _ q g = tt

  pub put_good : (b : Bool) (xs : List Value) (i : ℕ) (v : Value) → Each (Good G) xs → Good G v → Each (Good G) (if b then xs ++ v ∷ [] else slice_set xs i v)
  put_good true xs i v h g = each_append (Good G) xs (v ∷ []) h (g, tt)
  put_good false xs i v h g = each_set (Good G) xs i v h g

  -- an array that isn't frozen, and one more element at its end
  append_kept : (s : Store) (r : Ref) (v : Value) (values : List Value) → Q s → G r → Good G v → is_frozen s r ≡ false → body_of s r ≡ Some (B.Array values) → Q (appended r s v)
  append_kept s r v values q g h cold is =
      law.arrays s r (with_element (count_in s r) v) true values q g cold is
      (put_good (count_in s r == length values) values (count_in s r) v (subst (λ o. IfThere (GoodBody G) o) is (law.inside s q r g)) h)

  append_after : (s : Store) (r : Ref) (v : Value) (values : List Value) → is_frozen s r ≡ false → body_of s r ≡ Some (B.Array values)
      → (is_frozen (appended r s v) r ≡ false) × ((more : List Value) × (body_of (appended r s v) r ≡ Some (B.Array more)))
  append_after s r v values cold is =
      let at = item_by_body s r (B.Array values) is in
      let there : item_of (appended r s v) r ≡ Some (record { frozen = at.0.frozen; body = with_element (count_in s r) v values }) =
      written_there array_of (with_element (count_in s r) v) s r true at.0 values at.1 (ap array_of at.2) in
      (frozen_by_item (appended r s v) r _ there ∙ sym (frozen_by_item s r at.0 at.1) ∙ cold, (_, body_by_item (appended r s v) r _ there))

  pushes_kept : (args : List Value) (s : Store) (r : Ref) (values : List Value) → Q s → G r → Each (Good G) args → is_frozen s r ≡ false → body_of s r ≡ Some (B.Array values) → Q (fold (appended r) s args)
  pushes_kept [] s r values q g h cold is = q
  pushes_kept (v ∷ args) s r values q g h cold is =
      let next = append_after s r v values cold is in
      pushes_kept args (appended r s v) r next.1.0 (append_kept s r v values q g h.0 cold is) g h.1 next.0 next.1.1

  unless : (b : Bool) (e : Effect) → (b ≡ false → Fine (Ok e)) → Fine (if b then Err T.Frozen else Ok e)
  unless true e f = tt
  unless false e f = f refl

  fine_push : (s : Store) (r : Ref) (args : List Value) (values : List Value) → Q s → G r → Each (Good G) args → body_of s r ≡ Some (B.Array values) → Fine (push s r args)
  fine_push s r args values q g h is = unless (is_frozen s r) _ (λ cold. (pushes_kept args s r values q g h cold is, tt))

  fine_moves : (s : Store) (r : Ref) (v : Value) (f : List Value → List Value) (n : ℕ) (values : List Value) → Q s → G r → Good G v → Each (Good G) (f values) → body_of s r ≡ Some (B.Array values)
      → Fine (moves s r v f n)
  fine_moves s r v f n values q g h each is = unless (is_frozen s r) _ (λ cold. (law.arrays s r (λ vs. B.Array (f vs)) false values q g cold is each, h))

  each_reverse : (xs : List Value) → Each (Good G) xs → Each (Good G) (reverse xs)
  each_reverse [] h = tt
  each_reverse (x ∷ xs) h = subst (Each (Good G)) (sym (reverse_onto xs x [])) (each_append (Good G) (reverse xs) (x ∷ []) (each_reverse xs h.1) (h.0, tt))

  each_remove : (xs : List Value) (i : ℕ) → Each (Good G) xs → Each (Good G) (remove xs i)
  each_remove xs i h = each_append (Good G) (take i xs) (drop (suc i) xs) (each_take (Good G) i xs h) (each_drop (Good G) (suc i) xs h)

  each_part : (xs : List Value) (args : List Value) → Each (Good G) xs → IfThere (Each (Good G)) (part_of xs args)
  each_part xs args h = by (places_of (length xs) args)
    where
      by : (o : Option (ℕ × ℕ)) → IfThere (Each (Good G)) (option_map (λ (p : ℕ × ℕ). slice_range xs p.0 p.1) o)
      by None = tt
      by (Some p) = each_take (Good G) (p.1 - p.0) (drop p.0 xs) (each_drop (Good G) p.0 xs h)

  spread_good : (s : Store) (v : Value) → Q s → Good G v → Each (Good G) (spread s v)
  spread_good s v q g = by (array_in s v) (array_in_good s v q g)
    where
      by : (o : Option (List Value)) → IfThere (Each (Good G)) o → Each (Good G) (unwrap_or o (v ∷ []))
      by None h = (g, tt)
      by (Some vs) h = h

  spreads_good : (s : Store) (vs : List Value) → Q s → Each (Good G) vs → Each (Good G) (flat_map (spread s) vs)
  spreads_good s [] q h = tt
  spreads_good s (v ∷ vs) q h = each_append (Good G) (spread s v) (flat_map (spread s) vs) (spread_good s v q h.0) (spreads_good s vs q h.1)

  found_good : (o : Option ℕ) → Good G (found o)
  found_good None = tt
  found_good (Some k) = tt

  whole : (s : Store) (r : Ref) (values : List Value) → Q s → G r → body_of s r ≡ Some (B.Array values) → Each (Good G) values
  whole s r values q g is = subst (λ o. IfThere (GoodBody G) o) is (law.inside s q r g)

  array_fine : (s : Store) (b : Builtin) (r : Ref) (args : List Value) (values : List Value) → Q s → G r → Each (Good G) args → body_of s r ≡ Some (B.Array values)
      → AreFine (array_method s world.region b r args)
  array_fine s Push r args values q g h is = fine_some _ (fine_push s r args values q g h is)
  array_fine s Pop r args values q g h is =
      fine_some (pop s r) (fine_moves s r _ _ 0 values q g (good_or G (elements_at s r) _ (elements_good s r q g)) (each_remove values _ (whole s r values q g is)) is)
  array_fine s Shift r args values q g h is =
      fine_some (shift s r) (fine_moves s r _ _ _ values q g (good_or G (elements_at s r) 0 (elements_good s r q g)) (each_remove values 0 (whole s r values q g is)) is)
  array_fine s Reverse r args values q g h is = fine_some (reverse_in_place s r) (fine_moves s r (V.Ref r) reverse _ values q g g (each_reverse values (whole s r values q g is)) is)
  array_fine s Slice r args values q g h is =
      fine_some (slice s world.region r args) (fine_or (Each (Good G)) (part_of (elements_at s r) args) (λ vs. Ok (gives_array s world.region vs)) (each_part (elements_at s r) args (elements_good s r q g)) (λ vs e. fine_array s vs q e))
  array_fine s Concat r args values q g h is =
      fine_some (concat s world.region r args) (fine_array s (elements_at s r ++ flat_map (spread s) args) q (each_append (Good G) (elements_at s r) (flat_map (spread s) args) (elements_good s r q g) (spreads_good s args q h)))
  array_fine s IndexOf r args values q g h is = (q, found_good _)
  array_fine s Includes r args values q g h is = (q, tt)
  array_fine s Join r args values q g h is =
      fine_some (join s world.region r args) (fine_any (separator s (argument args 0)) _ (λ between. fine_any (all_some (written_as s) (elements_at s r)) _ (λ texts. fine_text s (length (elements_at s r)) _ q)))
  array_fine s _ r args values q g h is = tt

  -- ---- texts

  text_fine : (s : Store) (b : Builtin) (units : List ℕ) (args : List Value) → Q s → AreFine (text_method s world.region b units args)
  text_fine s SliceText units args q = fine_some _ (fine_any (part_of units args) _ (λ part. fine_text s 0 part q))
  text_fine s Repeat units args q = fine_some _ (fine_any (number_of (argument args 0)) _ (λ n. repeated_fine n))
    where
      repeated_fine : (n : ℤ) → Fine (repeated s world.region units n)
      repeated_fine (pos n) = fine_text s 0 _ q
      repeated_fine (negsuc n) = tt
  text_fine s PadStart units args q =
      fine_some _ (fine_any (number_of (argument args 0)) _ (λ n. fine_any (pad_of s (argument args 1)) _ (λ pad. fine_text s 0 (padded n pad units) q)))
  text_fine s FindText units args q = fine_some _ (fine_any (text_in s (argument args 0)) _ (λ piece. (q, found_good _)))
  text_fine s HasText units args q = fine_some _ (fine_any (text_in s (argument args 0)) _ (λ piece. (q, tt)))
  text_fine s StartsWith units args q = fine_some _ (fine_any (text_in s (argument args 0)) _ (λ piece. (q, tt)))
  text_fine s EndsWith units args q = fine_some _ (fine_any (text_in s (argument args 0)) _ (λ piece. (q, tt)))
  text_fine s Split units args q =
      fine_some _ (fine_any (text_in s (argument args 0)) _ (λ piece. fine_array (with_texts world.region s (split_by piece units)) _ (texts_kept (split_by piece units) s q) (texts_good (split_by piece units) s q)))
    where
      texts_kept : (texts : List (List ℕ)) (t : Store) → Q t → Q (with_texts world.region t texts)
      texts_kept [] t h = h
      texts_kept (u ∷ us) t h = texts_kept us (with_text world.region t u) (with_text_kept t u h)

      texts_good : (texts : List (List ℕ)) (t : Store) → Q t → Each (Good G) (text_values world.region t texts)
      texts_good [] t h = tt
      texts_good (u ∷ us) t h = (law.fresh t h, texts_good us (with_text world.region t u) (with_text_kept t u h))
  text_fine s CharCodeAt units args q = fine_some _ (fine_any (number_of (argument args 0)) _ unit_fine)
    where
      unit_in : (o : Option ℕ) → Fine (option_map_or (λ unit. Ok (gives s world.region (V.Int (pos unit)))) o (Err T.PastEnd))
      unit_in None = tt
      unit_in (Some u) = (q, tt)

      unit_fine : (n : ℤ) → Fine (unit_at s world.region units n)
      unit_fine (pos k) = unit_in (slice_get units k)
      unit_fine (negsuc k) = tt
  text_fine s _ units args q = tt

  -- ---- functions

  best_fine : (s : Store) (best : ℤ → ℤ → ℤ) (ns : List ℤ) → Q s → Fine (best_of s world.region best ns)
  best_fine s best [] q = tt
  best_fine s best (n ∷ ns) q = (q, tt)

  number_fine : (s : Store) (o : Result ℤ Thrown) → Q s → Fine (gives_number s world.region o)
  number_fine s (Ok n) q = (q, tt)
  number_fine s (Err t) q = tt

  literals_kept : (texts : List (List ℕ)) (s : Store) → Q s → Q (with_literals world.region s texts)
  literals_kept [] s q = q
  literals_kept (u ∷ us) s q = literals_kept us (with_literal_in s world.region u) (law.literals s u q)

  literals_good : (texts : List (List ℕ)) (s : Store) → Q s → Each (Good G) (literals world.region s texts)
  literals_good [] s q = tt
  literals_good (u ∷ us) s q = (law.literal_good s u q, literals_good us (with_literal_in s world.region u) (law.literals s u q))

  abbrev GoodEntry : Property → Type 0
  GoodEntry p = Good G p.value

  pair_kept : (s : Store) (p : Property) → Q s → GoodEntry p → Q (with_pair world.region s p)
  pair_kept s p q g =
      law.news (with_literal_in s world.region p.key) (B.Array (V.Ref (literal_ref s world.region p.key) ∷ p.value ∷ [])) 3 (law.literal_good s p.key q, (g, tt)) (law.literals s p.key q)

  pairs_kept : (ps : List Property) (s : Store) → Q s → Each GoodEntry ps → Q (with_pairs world.region s ps)
  pairs_kept [] s q g = q
  pairs_kept (p ∷ ps) s q g = pairs_kept ps (with_pair world.region s p) (pair_kept s p q g.0) g.1

  pairs_good : (ps : List Property) (s : Store) → Q s → Each GoodEntry ps → Each (Good G) (pairs world.region s ps)
  pairs_good [] s q g = tt
  pairs_good (p ∷ ps) s q g =
      (law.fresh (with_literal_in s world.region p.key) (law.literals s p.key q), pairs_good ps (with_pair world.region s p) (pair_kept s p q g.0) g.1)

  indices_good : (es : List (ℕ × Value)) → Each (Good G) (map (λ e. e.1) es) → Each GoodEntry (map index_entry es)
  indices_good [] h = tt
  indices_good (e ∷ es) h = (h.0, indices_good es h.1)

  named_good : (es : List (List ℕ × Value)) → Each (Good G) (map (λ e. e.1) es) → Each GoodEntry (map named_entry es)
  named_good [] h = tt
  named_good (e ∷ es) h = (h.0, named_good es h.1)

  entries_good : (o : Keyed) → Each (Good G) (values_of o) → Each GoodEntry (entries_of o)
  entries_good o h =
      each_append GoodEntry (map index_entry o.indices) (map named_entry o.named) (indices_good o.indices (left_of G (Good G) (map (λ e. e.1) o.indices) (map (λ e. e.1) o.named) h))
      (named_good o.named (right_of G (Good G) (map (λ e. e.1) o.indices) (map (λ e. e.1) o.named) h))

  error_fine : (s : Store) (kind : ErrorKind) (v : Value) (units : List ℕ) → Q s → Good G v → Fine (Ok (gives_error s world.region kind v units))
  error_fine s kind (V.Ref r) units q g = (law.news s (B.Error kind r) 1 g q, law.fresh s q)
  error_fine s kind V.Undefined units q g = made
    where
      made : Fine (Ok (gives_error s world.region kind V.Undefined units))
      made = (law.news (with_literal_in s world.region units) (B.Error kind (literal_ref s world.region units)) 1 (law.literal_good s units q) (law.literals s units q), law.fresh (with_literal_in s world.region units) (law.literals s units q))
  error_fine s kind V.Null units q g = (law.news (with_literal_in s world.region units) (B.Error kind (literal_ref s world.region units)) 1 (law.literal_good s units q) (law.literals s units q), law.fresh (with_literal_in s world.region units) (law.literals s units q))
  error_fine s kind (V.Bool b) units q g = (law.news (with_literal_in s world.region units) (B.Error kind (literal_ref s world.region units)) 1 (law.literal_good s units q) (law.literals s units q), law.fresh (with_literal_in s world.region units) (law.literals s units q))
  error_fine s kind (V.Int n) units q g = (law.news (with_literal_in s world.region units) (B.Error kind (literal_ref s world.region units)) 1 (law.literal_good s units q) (law.literals s units q), law.fresh (with_literal_in s world.region units) (law.literals s units q))
  error_fine s kind (V.Builtin n) units q g = (law.news (with_literal_in s world.region units) (B.Error kind (literal_ref s world.region units)) 1 (law.literal_good s units q) (law.literals s units q), law.fresh (with_literal_in s world.region units) (law.literals s units q))
  error_fine s kind (V.Holder n) units q g = (law.news (with_literal_in s world.region units) (B.Error kind (literal_ref s world.region units)) 1 (law.literal_good s units q) (law.literals s units q), law.fresh (with_literal_in s world.region units) (law.literals s units q))

  argument_good : (args : List Value) (i : ℕ) → Each (Good G) args → Good G (argument args i)
  argument_good args i h = good_or G args i h

  function_fine : (s : Store) (b : Builtin) (args : List Value) → Q s → Each (Good G) args → AreFine (function_of s world.region b args)
  function_fine s Min args q h = fine_some _ (fine_any (all_some number_of args) _ (λ ns. best_fine s _ ns q))
  function_fine s Max args q h = fine_some _ (fine_any (all_some number_of args) _ (λ ns. best_fine s _ ns q))
  function_fine s Abs args q h = fine_some _ (fine_any (number_of (argument args 0)) _ (λ n. number_fine s _ q))
  function_fine s Sign args q h = fine_some _ (fine_any (number_of (argument args 0)) _ (λ n. (q, tt)))
  function_fine s Keys args q h =
      fine_some _ (fine_any (object_in s (argument args 0)) _ (λ o. fine_array (with_literals world.region s (keys_of o)) _ (literals_kept (keys_of o) s q) (literals_good (keys_of o) s q)))
  function_fine s Values args q h =
      fine_some _ (fine_or (λ (o : Keyed). Each (Good G) (values_of o)) (object_in s (argument args 0)) _ (object_in_good s (argument args 0) q (argument_good args 0 h)) (λ o g. fine_array s (values_of o) q g))
  function_fine s Entries args q h =
      fine_some _ (fine_or (λ (o : Keyed). Each (Good G) (values_of o)) (object_in s (argument args 0)) _ (object_in_good s (argument args 0) q (argument_good args 0 h))
      (λ o g. fine_array (with_pairs world.region s (entries_of o)) _ (pairs_kept (entries_of o) s q (entries_good o g)) (pairs_good (entries_of o) s q (entries_good o g))))
  function_fine s HasOwn args q h = fine_some _ (fine_any (object_in s (argument args 0)) _ (λ o. fine_any (key_in s (argument args 1)) _ (λ key. (q, tt))))
  function_fine s IsArray args q h = (q, tt)
  function_fine s ToText args q h = fine_some _ (fine_any (string_of s (argument args 0)) _ (λ units. fine_text s 0 units q))
  function_fine s (MakeError kind) args q h = fine_some _ (fine_any (message_of s (argument args 0)) _ (λ units. error_fine s kind (argument args 0) units q (argument_good args 0 h)))
  function_fine s _ args q h = tt

  -- ---- by number

  method_in : (s : Store) (b : Builtin) (r : Ref) (args : List Value) (item : Item) (body : Body) → item.body ≡ body → Q s → G r → Each (Good G) args → item_of s r ≡ Some item
      → AreFine (method_of s world.region b r body args)
  method_in s b r args item (B.Array values) e q g h is = array_fine s b r args values q g h (body_by_item s r item is ∙ ap Some e)
  method_in s b r args item (B.Text units) e q g h is = text_fine s b units args q
  method_in s b r args item _ e q g h is = tt

  pub method_fine : (s : Store) (n : ℕ) (r : Ref) (args : List Value) → Q s → G r → Each (Good G) args → AreFine (method_call s world.region n r args)
  method_fine s n r args q g h = by (builtin_numbered n)
    where
      at : (b : Builtin) (o : Option Item) → item_of s r ≡ o → AreFine (option_map_or (λ item. method_of s world.region b r item.body args) o None)
      at b None e = tt
      at b (Some item) e = method_in s b r args item item.body refl q g h e

      by : (o : Option Builtin) → AreFine (option_map_or (λ b. option_map_or (λ item. method_of s world.region b r item.body args) (item_of s r) None) o None)
      by None = tt
      by (Some b) = at b (item_of s r) refl

  pub builtin_fine : (s : Store) (n : ℕ) (args : List Value) → Q s → Each (Good G) args → AreFine (function_call s world.region n args)
  builtin_fine s n args q h = by (builtin_numbered n)
    where
      by : (o : Option Builtin) → AreFine (option_map_or (λ b. function_of s world.region b args) o None)
      by None = tt
      by (Some b) = function_fine s b args q h
