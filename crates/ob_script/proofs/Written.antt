-- Values that hold no float, and how deep they are, as items and members are added.
use Rattle.std.proofs.Common.{◌≡◌, ℕ, ◌≤◌, List, [], ◌∷◌, ◌++◌, Bool, true, false, refl, sym, ap, ◌∙◌, arith, ◌+◌, ◌<◌, length, get_or, take, drop, max, Ordering, Less, Equal, Greater, map}
use Rattle.std.proofs.lemmas.List.{at_drop_more, take_more, map-append}
use Rattle.std.specs.Prelude.{◌||◌}
use Rattle.std.specs.Ordering.{nat_cmp, match_ordering}
use Rattle.std.specs.Cmp.Lexicographic.{slice_cmp}
use Rattle.serde_json.specs.Data.{Data, Members, no_members, member, put, depth, items_depth, members_depth}
use Rattle.serde_json.specs.View.{view, items_view}
use Rattle.serde_json.specs.Written.{has_float, items_have_float, members_have_float}
use Rattle.serde_json.specs.declared.value.Value.{Value}
use Rattle.ob_base.specs.PlainData.{greatest}

neither : (a b : Bool) → a ≡ false → b ≡ false → (a || b) ≡ false
neither a b e f = rw (e, f) refl

either_left : (a b : Bool) → (a || b) ≡ false → a ≡ false
either_left true b h = h
either_left false b h = refl

either_right : (a b : Bool) → (a || b) ≡ false → b ≡ false
either_right true true h = h
either_right true false h = refl
either_right false b h = h

pub whole_push : (vs : List Value) (v : Value) → items_have_float (items_view vs) ≡ false → has_float (view v) ≡ false
    → items_have_float (items_view (vs ++ v ∷ [])) ≡ false
whole_push [] v e f = neither _ _ f refl
whole_push (w ∷ vs) v e f =
    neither _ _ (either_left (has_float (view w)) (items_have_float (items_view vs)) e)
    (whole_push vs v (either_right (has_float (view w)) (items_have_float (items_view vs)) e) f)

whole_put_at : (o : Ordering) (k l : List ℕ) (d e : Data) (ms : Members) → has_float d ≡ false → has_float e ≡ false → members_have_float ms ≡ false
    → members_have_float (put k d ms) ≡ false
    → members_have_float (match_ordering o (member k d (member l e ms)) (member l d ms) (member l e (put k d ms))) ≡ false
whole_put_at Less k l d e ms f g h later = neither _ _ f (neither _ _ g h)
whole_put_at Equal k l d e ms f g h later = neither _ _ f h
whole_put_at Greater k l d e ms f g h later = neither _ _ g later

pub whole_put : (k : List ℕ) (d : Data) (ms : Members) → has_float d ≡ false → members_have_float ms ≡ false → members_have_float (put k d ms) ≡ false
whole_put k d no_members f h = neither _ _ f refl
whole_put k d (member l e ms) f h =
    whole_put_at (slice_cmp nat_cmp k l) k l d e ms f (either_left (has_float e) (members_have_float ms) h)
    (either_right (has_float e) (members_have_float ms) h)
    (whole_put k d ms f (either_right (has_float e) (members_have_float ms) h))

pub deep_push : (vs : List Value) (v : Value) (n : ℕ) → items_depth (items_view vs) ≤ n → depth (view v) ≤ n → items_depth (items_view (vs ++ v ∷ [])) ≤ n
deep_push [] v n e f = omega arith
deep_push (w ∷ vs) v n e f =
    let later : items_depth (items_view (vs ++ v ∷ [])) ≤ n = deep_push vs v n (omega arith) f in omega arith

deep_put_at : (o : Ordering) (k l : List ℕ) (d e : Data) (ms : Members) (n : ℕ) → depth d ≤ n → depth e ≤ n → members_depth ms ≤ n
    → members_depth (put k d ms) ≤ n
    → members_depth (match_ordering o (member k d (member l e ms)) (member l d ms) (member l e (put k d ms))) ≤ n
deep_put_at Less k l d e ms n f g h later = omega arith
deep_put_at Equal k l d e ms n f g h later = omega arith
deep_put_at Greater k l d e ms n f g h later = omega arith

pub deep_put : (k : List ℕ) (d : Data) (ms : Members) (n : ℕ) → depth d ≤ n → members_depth ms ≤ n → members_depth (put k d ms) ≤ n
deep_put k d no_members n f h = omega arith
deep_put k d (member l e ms) n f h =
    deep_put_at (slice_cmp nat_cmp k l) k l d e ms n f (omega arith) (omega arith) (deep_put k d ms n f (omega arith))

-- the one at i is at most the greatest from i on, and so are those after it
pub greatest_drop : {X : Type 0} (f : X → ℕ) (xs : List X) (i : ℕ) (x : X) → i < length xs → x ≡ get_or xs i x
    → (f x ≤ greatest (map f (drop i xs))) × (greatest (map f (drop (i + 1) xs)) ≤ greatest (map f (drop i xs)))
greatest_drop f xs i x l e =
    let h : greatest (map f (drop i xs)) ≡ max (f (get_or xs i x)) (greatest (map f (drop (i + 1) xs))) =
    at_drop_more (λ ys. greatest (map f ys)) xs i x l in
    let g : f x ≡ f (get_or xs i x) = ap f e in
    (omega arith, omega arith)

-- one more value stands for one more item
pub map_push : {X Y Z : Type 0} (f : X → Z) (g : Y → Z) (vs : List X) (v : X) (ys : List Y) (i : ℕ) (y : Y) → i < length ys → y ≡ get_or ys i y
    → map f vs ≡ map g (take i ys) → f v ≡ g y → map f (vs ++ v ∷ []) ≡ map g (take (i + 1) ys)
map_push f g vs v ys i y l e h k =
    let t : take (i + 1) ys ≡ take i ys ++ y ∷ [] = take_more ys i y l ∙ ap (λ z. take i ys ++ z ∷ []) (sym e) in
    map-append f vs (v ∷ []) ∙ rw (t, map-append g (take i ys) (y ∷ []), h, k) refl
