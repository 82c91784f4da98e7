-- The free names of a function, and which bindings of a scope are captured, by the names of parts as by the walks.
use Rattle.std.proofs.Common.{◌≡◌, ℕ, zero, suc, ◌+◌, ◌<◌, ◌==◌, Bool, true, false, not, ◌&&◌, ◌||◌, cond, List, [], ◌∷◌, length, Option, Some, None, refl, ap, sym, subst, ◌∙◌, arith, bytes_eq}
use Rattle.std.specs.List.{list_any, filter}
use Rattle.std.proofs.lemmas.Slice.Eq.{bytes_eq-Decides}
use Rattle.std.proofs.lemmas.Bool.Decides.{nat_tests}
use Rattle.ob_tree_types.specs.declared.cell.CellTree.TheVariants as cell
use Rattle.ob_tree_types.specs.declared.cell.SpecForm.TheVariants as forms
use Rattle.ob_tree_types.specs.declared.tree.Function.{Function}
use Rattle.ob_tree.specs.Scopes.{Bound, Scope, Place, Walk, entered, within, inside}
use Rattle.ob_tree.specs.Names.{Referred, same_form, same_name, each_once, captures, mentions_of, free_in, free_names, is_captured, start}
use Rattle.ob_tree.specs.Walks.{constant, bound_if_there, function_walk, made}
use Rattle.ob_tree.specs.Functions.{binds, whole}
use Rattle.ob_tree.specs.Captures as parts
use Rattle.ob_tree.proofs.PartLaws.{Agrees, StandsAt, has_number, is_meant, is_out, agree_inside, number_within}
use Rattle.ob_tree.proofs.PartWalks.{uncaught, body_agrees, made_agrees, own_name}

-- ---- free names

nothing_around : (b : Bool) → not (b && false) ≡ true
nothing_around true = refl
nothing_around false = refl

none_taken : {X : Type 0} (f : X → Bool) → ((x : X) → f x ≡ true) → (xs : List X) → filter f xs ≡ xs
none_taken f h [] = refl
none_taken f h (x ∷ xs) = ap (λ b. cond b (x ∷ filter f xs) (filter f xs)) (h x) ∙ ap (λ l. x ∷ l) (none_taken f h xs)

pub free_in_part : {w : Walk} {n : Bool → List Referred} → Agrees w n → free_in (mentions_of w) ≡ each_once same_name (n true)
free_in_part {w} {n} a = ap (each_once same_name) (a.free start ∙ none_taken (is_out []) (λ r. nothing_around (same_form r.form forms.Plain)) (n true))

-- a function without its own name
pub function_agrees : (f : Function) → Agrees (made f).walk (whole f).names
function_agrees f = made_agrees f.name f.params f.generator f.body (body_agrees f.body)

-- a function expression, whose own name is bound around it
pub expression_agrees : (f : Function) → Agrees (function_walk f) (uncaught (bound_if_there constant f.name) (whole f).names)
expression_agrees f =
    named_as (made f).name f.name (own_name f.name f.params f.generator f.body) (agree_inside (bound_if_there constant f.name) (function_agrees f))
  where
    named_as : (x y : Option (List ℕ)) → x ≡ y → Agrees (inside (bound_if_there constant y) (made f).walk) (uncaught (bound_if_there constant f.name) (whole f).names)
        → Agrees (inside (bound_if_there constant x) (made f).walk) (uncaught (bound_if_there constant f.name) (whole f).names)
    named_as x y e a =
        let P : Option (List ℕ) → Type 0 = λ z. Agrees (inside (bound_if_there constant z) (made f).walk) (uncaught (bound_if_there constant f.name) (whole f).names) in
        subst P (sym e) a

-- the free names of a function, as it stands in a text
pub free_of_function : (f : Function) → parts.free_of f ≡ free_in (mentions_of (made f).walk)
free_of_function f = sym (free_in_part (function_agrees f))

-- and of the body of a cell, which has no name of its own
pub free_of_body : (f : Function) → f.name ≡ None → parts.free_of f ≡ free_in (mentions_of (function_walk f))
free_of_body f h = sym (free_in_part (expression_agrees f) ∙ ap (each_once same_name) (unnamed f.name h))
  where
    unnamed : (x : Option (List ℕ)) → x ≡ None → uncaught (bound_if_there constant x) (whole f).names true ≡ (whole f).names true
    unnamed None e = none_taken (λ r. not (binds [] r)) (λ r. nothing_around (same_form r.form forms.Plain)) ((whole f).names true)
    unnamed (Some x) e = cc

pub free_of_cell : (f : Function) → f.name ≡ None → parts.free_of f ≡ free_names (cell.Bare f)
free_of_cell f h = free_of_body f h

-- ---- captured bindings

-- no name stands twice among the bindings of a scope
abbrev pub AreDistinct : List Bound → Type 0
AreDistinct [] = Unit {0}
AreDistinct (b ∷ bs) = (list_any (λ (c : Bound). bytes_eq c.name b.name) bs ≡ false) × AreDistinct bs

-- the bindings in scope have smaller numbers
abbrev pub AllBelow : ℕ → Scope → Type 0
AllBelow n [] = Unit {0}
AllBelow n (k ∷ scope) = (k.number < n) × AllBelow n scope

-- the binding at an index
abbrev pub bound_at : List Bound → ℕ → Option Bound
bound_at [] i = None
bound_at (b ∷ bs) zero = Some b
bound_at (b ∷ bs) (suc i) = bound_at bs i

none_below : (n j : ℕ) (x : List ℕ) (scope : Scope) → AllBelow n scope → n < j + 1 → has_number j x scope ≡ false
none_below n j x [] h l = refl
none_below n j x (k ∷ scope) h l =
    let small : k.number < n = h.0 in
    let other : (k.number == j) ≡ false = grind (arith, nat_tests) in
    first (bytes_eq k.name x) (k.number == j) (has_number j x scope) other (none_below n j x scope h.1 l)
  where
    first : (b c d : Bool) → c ≡ false → d ≡ false → cond b c d ≡ false
    first true c d e g = e
    first false c d e g = g

entered_below : (b : Bound) (p : Place) → AllBelow p.first p.scope → AllBelow (p.first + 1) (entered b p).scope
entered_below b p h = (omega arith, rising p.first p.scope h)
  where
    rising : (n : ℕ) (scope : Scope) → AllBelow n scope → AllBelow (n + 1) scope
    rising n [] h = tt
    rising n (k ∷ scope) h = let small : k.number < n = h.0 in (omega arith, rising n scope h.1)

-- the binding is the innermost of its name behind those that follow it in its scope
last_of_name : (any same number : Bool) → (same ≡ true → any ≡ false) → number ≡ true → (d : Bool) → d ≡ false → (not any && cond same number d) ≡ same
last_of_name any true number h e d g = ap (λ a. not a && number) (h refl) ∙ e
last_of_name false false number h e d g = g
last_of_name true false number h e d g = refl

number_here : (b : Bound) (bs : List Bound) (p : Place) (x : List ℕ) → AllBelow p.first p.scope → list_any (λ (c : Bound). bytes_eq c.name b.name) bs ≡ false
    → has_number p.first x (within bs (entered b p)).scope ≡ bytes_eq b.name x
number_here b bs p x h once =
    let below : p.first < p.first + 1 = omega arith in
    let same : (p.first == p.first) ≡ true = grind (arith, nat_tests) in
    number_within bs (entered b p) p.first x below
    ∙ last_of_name (list_any (λ (c : Bound). bytes_eq c.name x) bs) (bytes_eq b.name x) (p.first == p.first)
    (λ e. ap (λ y. list_any (λ (c : Bound). bytes_eq c.name y) bs) (sym ((bytes_eq-Decides b.name x).0 e)) ∙ once) same (has_number p.first x p.scope)
    (none_below p.first p.first x p.scope h (omega arith))

pub number_at : (bs : List Bound) (p : Place) (i : ℕ) (b : Bound) (x : List ℕ) → AllBelow p.first p.scope → AreDistinct bs → bound_at bs i ≡ Some b
    → has_number (p.first + i) x (within bs p).scope ≡ bytes_eq b.name x
number_at [] p i b x h d e = absurd (cc)
number_at (c ∷ bs) p zero b x h d e =
    let at : p.first + 0 ≡ p.first = omega arith in
    let is : c ≡ b = cc in
    ap (λ j. has_number j x (within bs (entered c p)).scope) at ∙ number_here c bs p x h d.0 ∙ ap (λ (y : Bound). bytes_eq y.name x) is
number_at (c ∷ bs) p (suc i) b x h d e =
    let at : p.first + suc i ≡ (p.first + 1) + i = omega arith in
    ap (λ j. has_number j x (within bs (entered c p)).scope) at ∙ number_at bs (entered c p) i b x (entered_below c p h) d.1 e

stands_before : (n j d : ℕ) (scope : Scope) → AllBelow n scope → n < j + 1 → StandsAt j d scope
stands_before n j d [] h l = tt
stands_before n j d (k ∷ scope) h l = let small : k.number < n = h.0 in ((λ e. absurd (omega (arith, e, small))), stands_before n j d scope h.1 l)

stands_within : (bs : List Bound) (p : Place) (j d : ℕ) → StandsAt j d p.scope → p.depth ≡ d → StandsAt j d (within bs p).scope
stands_within [] p j d h e = h
stands_within (b ∷ bs) p j d h e = stands_within bs (entered b p) j d ((λ n. e), h) e

first_within : (bs : List Bound) (p : Place) → (within bs p).first ≡ p.first + length bs
first_within [] p = omega arith
first_within (b ∷ bs) p = let h = first_within bs (entered b p) in omega (arith, h)

index_below : (bs : List Bound) (i : ℕ) (b : Bound) → bound_at bs i ≡ Some b → i < length bs
index_below [] i b e = absurd (cc)
index_below (c ∷ bs) zero b e = omega arith
index_below (c ∷ bs) (suc i) b e = let h = index_below bs i b e in omega (arith, h)

depth_within : (bs : List Bound) (p : Place) → (within bs p).depth ≡ p.depth
depth_within [] p = refl
depth_within (b ∷ bs) p = depth_within bs (entered b p)

any_alike : {X : Type 0} (f g : X → Bool) → ((x : X) → f x ≡ g x) → (xs : List X) → list_any f xs ≡ list_any g xs
any_alike f g h [] = refl
any_alike f g h (x ∷ xs) = ap (λ b. b || list_any f xs) (h x) ∙ ap (λ b. g x || b) (any_alike f g h xs)

or_false : (b : Bool) → b ≡ (b || false)
or_false true = refl
or_false false = refl

-- the i-th binding of a scope, wherever the scope stands, is captured by a walk inside it exactly where the names of the part say so
pub captured_in_scope : {w : Walk} {n : Bool → List Referred} → Agrees w n → (bs : List Bound) (p : Place) (i : ℕ) (b : Bound) → AllBelow p.first p.scope → AreDistinct bs
    → bound_at bs i ≡ Some b → list_any (captures (p.first + i)) (w.mentions (within bs p)) ≡ list_any (binds (b ∷ [])) (n false)
captured_in_scope {w} {n} a bs p i b h d e =
    let size : (within bs p).first ≡ p.first + length bs = first_within bs p in
    let small : i < length bs = index_below bs i b e in
    let deep : (within bs p).depth ≡ p.depth = depth_within bs p in
    let same : (p.depth == p.depth) ≡ true = grind (arith, nat_tests) in
    a.captured (within bs p) (p.first + i) p.depth
    (record {
      before = omega (arith, size, small);
      outer = omega (arith, deep);
      stands = stands_within bs p (p.first + i) p.depth (stands_before p.first (p.first + i) p.depth p.scope h (omega arith)) refl;
    })
    ∙ ap (λ k. list_any (is_meant (p.first + i) (within bs p).scope) (n (not (p.depth == k)))) deep
    ∙ ap (λ t. list_any (is_meant (p.first + i) (within bs p).scope) (n (not t))) same
    ∙ any_alike (is_meant (p.first + i) (within bs p).scope) (binds (b ∷ []))
    (λ r. ap (λ t. same_form r.form forms.Plain && t) (number_at bs p i b r.name h d e ∙ or_false (bytes_eq b.name r.name))) (n false)

-- and so for a scope by itself
pub captured_alone : {w : Walk} {n : Bool → List Referred} → Agrees w n → (bs : List Bound) (i : ℕ) (b : Bound) → AreDistinct bs → bound_at bs i ≡ Some b
    → is_captured (mentions_of (inside bs w)) i ≡ list_any (binds (b ∷ [])) (n false)
unfolding inside
captured_alone {w} {n} a bs i b d e =
    let at : 0 + i ≡ i = omega arith in
    ap (λ j. list_any (captures j) (w.mentions (within bs start))) (sym at) ∙ captured_in_scope a bs start i b tt d e
