-- The elements of a tree, and how far down it goes.
use Rattle.std.proofs.Common.{◌≡◌, ℕ, zero, suc, ◌+◌, ◌^◌, ◌<◌, ◌≤◌, ◌||◌, Bool, true, false, Option, Some, None, List, [], ◌∷◌, ◌++◌, refl, ap, subst, ◌∙◌, sym, arith, inl, inr, length, length-append, cond, nat_lt, OnSome, ◌-◌, ◌*◌}
use Rattle.std.proofs.lemmas.Bool.{cases_lt, true≢false}
use Rattle.std.proofs.lemmas.Bool.Decides.{nat_tests}
use Rattle.std.proofs.lemmas.Option.{none-some, same_Some}
use Rattle.std.proofs.lemmas.List.Sums.{sum_by-append, sum_by-cons, sum_by-le-sum_by}
use Rattle.std.specs.List.{Contains, list_any, sum_by}
use Rattle.ob_items.specs.declared.value.Ref.{Ref}
use Rattle.ob_items.specs.Properties.{values_of}
use Rattle.ob_items.specs.declared.value.Value.{Value}
use Rattle.ob_items.specs.declared.value.Value.TheVariants as V
use Rattle.ob_items.specs.Item.{Item}
use Rattle.ob_items.specs.declared.item.Body.{Body}
use Rattle.ob_items.specs.declared.item.Body.TheVariants as B
use Rattle.ob_values.specs.Freeze.{refs_of}
use Rattle.ob_values.specs.PlainSearch.{within}
use Rattle.ob_values.specs.PlainOf.{parts_of, own_elements, items_in, elements_at, tree_elements, goes_down, HasCycle, is_endless}
use Rattle.ob_values.specs.Reach.{Walk}
use Rattle.ob_values.specs.Store.{Store, item_of}
use Rattle.ob_values.proofs.SeenLemmas.{Contains-cons_cases, Contains-cons, Contains-head, Contains-none}

-- ---- tests of lists

pub any-to : {X : Type 0} (f : X → Bool) (xs : List X) → list_any f xs ≡ true → (x : X) × Contains xs x × (f x ≡ true)
any-to f [] h = absurd (true≢false (sym h))
any-to {X} f (x ∷ xs) h = by (f x) refl (any-to f xs)
  where
    by : (b : Bool) → f x ≡ b → (list_any f xs ≡ true → (y : X) × Contains xs y × (f y ≡ true)) → (y : X) × Contains (x ∷ xs) y × (f y ≡ true)
    by true e rest = (x, Contains-head x xs x refl, e)
    by false e rest = let t = rest (sym (ap (λ b. b || list_any f xs) e) ∙ h) in (t.0, Contains-cons x xs t.0 t.1, t.2)

pub any-from : {X : Type 0} (f : X → Bool) (xs : List X) (x : X) → Contains xs x → f x ≡ true → list_any f xs ≡ true
any-from f [] x h e = absurd (Contains-none x h)
any-from f (y ∷ ys) x h e =
    elim (Contains-cons_cases y ys x h) [
      | inl same ↦ let g : f y ≡ true = ap f same ∙ e in grind (arith, g)
      | inr t ↦ let g : list_any f ys ≡ true = any-from f ys x t e in grind (arith, g)
    ]

pub any-none : {X : Type 0} (f : X → Bool) (xs : List X) → ((x : X) → Contains xs x → f x ≡ false) → list_any f xs ≡ false
any-none f xs h = by (list_any f xs) refl
  where
    by : (b : Bool) → list_any f xs ≡ b → list_any f xs ≡ false
    by false e = e
    by true e = let t = any-to f xs e in absurd (true≢false (sym t.2 ∙ h t.0 t.1))

-- ---- what stands in an item costs

none_inside : (body : Body) → own_elements body ≡ 0 → refs_of (parts_of body) ≡ []
none_inside (B.Text units) e = refl
none_inside (B.Array values) e = absurd (omega arith)
none_inside (B.Object properties) e = absurd (omega arith)
none_inside (B.Box value) e = refl
none_inside (B.Closure closure) e = refl
none_inside (B.Generator kept) e = refl
none_inside (B.Error kind message) e = refl
none_inside (B.Invalidation hooks) e = refl
none_inside (B.Inputs values) e = refl

fewer_refs : (values : List Value) → length (refs_of values) ≤ length values
fewer_refs [] = omega arith
fewer_refs (V.Ref r ∷ values) = omega (arith, fewer_refs values)
fewer_refs (V.Undefined ∷ values) = omega (arith, fewer_refs values)
fewer_refs (V.Null ∷ values) = omega (arith, fewer_refs values)
fewer_refs (V.Bool b ∷ values) = omega (arith, fewer_refs values)
fewer_refs (V.Int n ∷ values) = omega (arith, fewer_refs values)
fewer_refs (V.Builtin n ∷ values) = omega (arith, fewer_refs values)
fewer_refs (V.Holder n ∷ values) = omega (arith, fewer_refs values)

few_inside : (body : Body) → length (refs_of (parts_of body)) ≤ own_elements body
few_inside (B.Text units) = omega arith
few_inside (B.Array values) = omega (arith, fewer_refs values)
few_inside (B.Object properties) = omega (arith, fewer_refs (values_of properties))
few_inside (B.Box value) = omega arith
few_inside (B.Closure closure) = omega arith
few_inside (B.Generator kept) = omega arith
few_inside (B.Error kind message) = omega arith
few_inside (B.Invalidation hooks) = omega arith
few_inside (B.Inputs values) = omega arith

-- ---- the room that is left

within-some : (room cost n : ℕ) → Some n ≡ within room cost → (n ≡ cost) × (cost ≤ room)
within-some room cost n = by (nat_lt room cost) refl
  where
    by : (b : Bool) → nat_lt room cost ≡ b → ◌≡◌ {A = Option ℕ} (Some n) (cond b None (Some cost)) → (n ≡ cost) × (cost ≤ room)
    by true e h = absurd (none-some n (sym h))
    by false e h = (same_Some n cost h, grind (arith, nat_tests, e))

within-none : (room cost : ℕ) → ◌≡◌ {A = Option ℕ} None (within room cost) → room < cost
within-none room cost = by (nat_lt room cost) refl
  where
    by : (b : Bool) → nat_lt room cost ≡ b → ◌≡◌ {A = Option ℕ} None (cond b None (Some cost)) → room < cost
    by true e h = grind (arith, nat_tests, e)
    by false e h = absurd (none-some cost h)

module _ (s : Store) where
  few_in : (r : Ref) → length (items_in s r) ≤ elements_at s r
  few_in r = by (item_of s r) refl
    where
      by : (o : Option Item) → item_of s r ≡ o → length (items_in s r) ≤ elements_at s r
      by None p = rw p (omega arith)
      by (Some item) p = rw p (few_inside item.body)

  nothing_in : (r : Ref) → elements_at s r ≡ 0 → items_in s r ≡ []
  nothing_in r e = by (item_of s r) refl
    where
      by : (o : Option Item) → item_of s r ≡ o → items_in s r ≡ []
      by None p = rw p refl
      by (Some item) p = rw p (none_inside item.body (sym (rw p refl) ∙ e))

  tree-zero : (r : Ref) → tree_elements 0 s r ≡ 0
  unfolding tree_elements
  tree-zero r = refl

  tree-suc : (n : ℕ) (r : Ref) → tree_elements (suc n) s r ≡ elements_at s r + sum_by (tree_elements n s) (items_in s r)
  unfolding tree_elements
  tree-suc n r = refl

  tree-more : (n : ℕ) (r : Ref) → tree_elements n s r ≤ tree_elements (suc n) s r
  tree-more zero r = omega (arith, tree-zero r)
  tree-more (suc n) r =
      omega (arith, tree-suc n r, tree-suc (suc n) r, sum_by-le-sum_by (tree_elements n s) (tree_elements (suc n) s) (items_in s r) (tree-more n))

  sum-more : (n : ℕ) (rs : List Ref) → sum_by (tree_elements n s) rs ≤ sum_by (tree_elements (suc n) s) rs
  sum-more n rs = sum_by-le-sum_by (tree_elements n s) (tree_elements (suc n) s) rs (tree-more n)

  sum-same : (m n : ℕ) (rs : List Ref) → n ≡ m → sum_by (tree_elements n s) rs ≤ sum_by (tree_elements m s) rs
  sum-same m n rs e = subst (λ k. sum_by (tree_elements n s) rs ≤ sum_by (tree_elements k s) rs) e (omega arith)

  pub sum-grows : (m n : ℕ) (rs : List Ref) → n ≤ m → sum_by (tree_elements n s) rs ≤ sum_by (tree_elements m s) rs
  sum-grows zero n rs l = sum-same 0 n rs (omega arith)
  sum-grows (suc m) n rs l =
      elim (cases_lt n (suc m)) [
        | inl lt ↦ omega (arith, sum-grows m n rs (omega arith), sum-more m rs)
        | inr ge ↦ sum-same (suc m) n rs (omega arith)
      ]

  tree-le : (n : ℕ) (r : Ref) → tree_elements n s r ≤ elements_at s r + sum_by (tree_elements n s) (items_in s r)
  tree-le zero r = omega (arith, tree-zero r)
  tree-le (suc n) r = omega (arith, tree-suc n r, sum-more n (items_in s r))

  -- ---- the count of the elements of some items

  -- so many elements were counted, and the items that wait have the others
  pub record IsCount (roots : List Ref) (used : ℕ) (waiting : List Ref) : Type 0 where
    pub room : used ≤ 50000
    pub over : (n : ℕ) → sum_by (tree_elements n s) roots ≤ used + sum_by (tree_elements n s) waiting
    pub under : (n : ℕ) → used + sum_by (tree_elements n s) waiting ≤ sum_by (tree_elements (n + used) s) roots

  pub count-start : (roots : List Ref) → IsCount roots 0 roots
  count-start roots = record {
    room = omega arith;
    over = λ n. omega arith;
    under = λ n. omega (arith, sum-grows (n + 0) n roots (omega arith));
  }

  sum_last : (n : ℕ) (rest : List Ref) (r : Ref) → sum_by (tree_elements n s) (rest ++ r ∷ []) ≡ sum_by (tree_elements n s) rest + tree_elements n s r
  sum_last n rest r = omega (arith, sum_by-append (tree_elements n s) rest (r ∷ []))

  pub count-step : (roots : List Ref) (used : ℕ) (rest : List Ref) (r : Ref) → IsCount roots used (rest ++ r ∷ []) → used + elements_at s r ≤ 50000
      → IsCount roots (used + elements_at s r) (rest ++ items_in s r)
  count-step roots used rest r count room = record {
    room = room;
    over = λ n. omega (arith, count.over n, sum_last n rest r, tree-le n r, sum_by-append (tree_elements n s) rest (items_in s r));
    under = under;
  }
    where
      under : (n : ℕ) → used + elements_at s r + sum_by (tree_elements n s) (rest ++ items_in s r) ≤ sum_by (tree_elements (n + (used + elements_at s r)) s) roots
      under n =
          elim (cases_lt 0 (elements_at s r)) [
            | inl some ↦ omega (
              arith,
              count.under (suc n),
              sum_last (suc n) rest r,
              tree-suc n r,
              sum-more n rest,
              sum_by-append (tree_elements n s) rest (items_in s r),
              sum-grows (n + (used + elements_at s r)) (suc n + used) roots (omega arith),
            )
            | inr none ↦
                let zero_ : elements_at s r ≡ 0 = omega arith in
                let inside : sum_by (tree_elements n s) (items_in s r) ≡ 0 = ap (sum_by (tree_elements n s)) (nothing_in r zero_) in
                omega (
                  arith,
                  zero_,
                  inside,
                  count.under n,
                  sum_last n rest r,
                  sum_by-append (tree_elements n s) rest (items_in s r),
                  sum-grows (n + (used + elements_at s r)) (n + used) roots (omega arith),
                )
          ]

  pub count-end : (roots : List Ref) (used : ℕ) → IsCount roots used [] → sum_by (tree_elements (2 ^ 63) s) roots ≤ 50000
  count-end roots used count = omega (arith, count.over (2 ^ 63), count.room)

  pub count-stop : (roots : List Ref) (used : ℕ) (rest : List Ref) (r : Ref) → IsCount roots used (rest ++ r ∷ []) → 50000 < used + elements_at s r
      → 50000 < sum_by (tree_elements (2 ^ 63) s) roots
  count-stop roots used rest r count more =
      omega (arith, more, count.under 1, sum_last 1 rest r, tree-suc 0 r, sum-grows (2 ^ 63) (1 + used) roots (omega (arith, count.room)))

  module _ (roots waiting new rest : List Ref) (used cost : ℕ) (r : Ref) (o : Option ℕ) (count : IsCount roots used waiting)
      (popped : waiting ≡ rest ++ r ∷ []) (fits : o ≡ within (50000 - used) (elements_at s r)) where
    popped_count : IsCount roots used (rest ++ r ∷ [])
    popped_count = subst (IsCount roots used) popped count

    pub count-more : o ≡ Some cost → OnSome o (new ≡ rest ++ items_in s r) → IsCount roots (used + cost) new
    count-more some items =
        let t = within-some (50000 - used) (elements_at s r) cost (sym some ∙ fits) in
        let added : new ≡ rest ++ items_in s r = subst (λ x. OnSome x (new ≡ rest ++ items_in s r)) some items in
        subst (λ n. IsCount roots (used + n) new) (sym t.0)
        (subst (IsCount roots (used + elements_at s r)) (sym added) (count-step roots used rest r popped_count (omega (arith, t.1, count.room))))

    pub count-smaller : o ≡ Some cost → OnSome o (new ≡ rest ++ items_in s r) → 2 * (50000 - (used + cost)) + length new < 2 * (50000 - used) + length waiting
    count-smaller some items =
        let t = within-some (50000 - used) (elements_at s r) cost (sym some ∙ fits) in
        let added : length new ≡ length rest + length (items_in s r) = ap length (subst (λ x. OnSome x (new ≡ rest ++ items_in s r)) some items) ∙ length-append rest (items_in s r) in
        let before : length waiting ≡ length rest + 1 = ap length popped ∙ length-append rest (r ∷ []) in
        omega (arith, t.0, t.1, added, before, few_in r, count.room)

    pub count-large : o ≡ None → 50000 < sum_by (tree_elements (2 ^ 63) s) roots
    count-large none =
        let more = within-none (50000 - used) (elements_at s r) (sym none ∙ fits) in
        count-stop roots used rest r popped_count (omega (arith, more, count.room))

  -- ---- how far down it goes

  down-zero : (r : Ref) → goes_down 0 s r ≡ true
  unfolding goes_down
  down-zero r = refl

  pub down-suc : (n : ℕ) (r : Ref) → goes_down (suc n) s r ≡ list_any (goes_down n s) (items_in s r)
  unfolding goes_down
  down-suc n r = refl

  down-from : (n : ℕ) (r c : Ref) → Contains (items_in s r) c → goes_down n s c ≡ true → goes_down (suc n) s r ≡ true
  down-from n r c h e = down-suc n r ∙ any-from (goes_down n s) (items_in s r) c h e

  down-less : (n : ℕ) (r : Ref) → goes_down (suc n) s r ≡ true → goes_down n s r ≡ true
  down-less zero r h = down-zero r
  down-less (suc n) r h =
      let t = any-to (goes_down (suc n) s) (items_in s r) (sym (down-suc (suc n) r) ∙ h) in
      down-from n r t.0 t.1 (down-less n t.0 t.2)

  down-to : (m n : ℕ) (r : Ref) → n ≤ m → goes_down m s r ≡ true → goes_down n s r ≡ true
  down-to zero n r l h = subst (λ k. goes_down k s r ≡ true) (omega arith) h
  down-to (suc m) n r l h =
      elim (cases_lt n (suc m)) [
        | inl lt ↦ down-to m n r (omega arith) (down-less m r h)
        | inr ge ↦ subst (λ k. goes_down k s r ≡ true) (omega arith) h
      ]

  -- what ends within n steps ends within more
  pub down-ends : (m n : ℕ) (r : Ref) → n ≤ m → goes_down n s r ≡ false → goes_down m s r ≡ false
  down-ends m n r l e = by (goes_down m s r) refl
    where
      by : (b : Bool) → goes_down m s r ≡ b → goes_down m s r ≡ false
      by false g = g
      by true g = absurd (true≢false (sym (down-to m n r l g) ∙ e))

  in_sum : (f : Ref → ℕ) (rs : List Ref) (r : Ref) → Contains rs r → f r ≤ sum_by f rs
  in_sum f [] r h = absurd (Contains-none r h)
  in_sum f (x ∷ xs) r h =
      elim (Contains-cons_cases x xs r h) [
        | inl same ↦ let e : f x ≡ f r = ap f same in omega (arith, e, sum_by-cons f x xs)
        | inr t ↦ omega (arith, in_sum f xs r t, sum_by-cons f x xs)
      ]

  costs : (r c : Ref) → Contains (items_in s r) c → 0 < elements_at s r
  costs r c h =
      elim (cases_lt 0 (elements_at s r)) [
        | inl some ↦ some
        | inr none ↦ absurd (Contains-none c (subst (λ xs. Contains xs c) (nothing_in r (omega arith)) h))
      ]

  -- each step down costs an element
  down-costs : (n : ℕ) (r : Ref) → goes_down n s r ≡ true → n ≤ tree_elements n s r
  down-costs zero r h = omega arith
  down-costs (suc n) r h =
      let t = any-to (goes_down n s) (items_in s r) (sym (down-suc n r) ∙ h) in
      omega (arith, tree-suc n r, down-costs n t.0 t.2, in_sum (tree_elements n s) (items_in s r) t.0 t.1, costs r t.0 t.1)

  pub small-ends : (roots : List Ref) → sum_by (tree_elements (2 ^ 63) s) roots ≤ 50000 → list_any (goes_down (2 ^ 63) s) roots ≡ false
  small-ends roots l = any-none (goes_down (2 ^ 63) s) roots (λ r h. by r h (goes_down (2 ^ 63) s r) refl)
    where
      by : (r : Ref) → Contains roots r → (b : Bool) → goes_down (2 ^ 63) s r ≡ b → goes_down (2 ^ 63) s r ≡ false
      by r h false g = g
      by r h true g = absurd (omega (arith, l, down-costs (2 ^ 63) r g, in_sum (tree_elements (2 ^ 63) s) roots r h))

  -- ---- a cycle goes down without end

  walk-down : (m k : ℕ) (a b : Ref) → Walk (items_in s) a b k → goes_down m s b ≡ true → goes_down m s a ≡ true
  walk-down m zero a b w h = subst (λ x. goes_down m s x ≡ true) (sym w) h
  walk-down m (suc k) a b (c, w, e) h = walk-down m k a c w (down-less m c (down-from m c b e h))

  round-down : (a : Ref) (more : ℕ) → Walk (items_in s) a a (suc more) → (n : ℕ) → goes_down n s a ≡ true
  round-down a more w zero = down-zero a
  round-down a more w (suc n) = walk-down (suc n) more a w.0 w.1 (down-from n w.0 a w.2 (round-down a more w n))

  pub cycle-endless : (value : Value) → HasCycle s value → is_endless s value ≡ true
  cycle-endless value h =
      any-from (goes_down (2 ^ 63) s) (refs_of (value ∷ [])) h.reached.from h.reached.start
      (walk-down (2 ^ 63) h.reached.steps h.reached.from h.item h.reached.walk (round-down h.item h.more h.round (2 ^ 63)))
