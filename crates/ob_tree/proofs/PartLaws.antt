-- When a walk and the names of a part tell the same: which mentions are free, and which capture a binding around the part.
use Rattle.std.proofs.Common.{◌≡◌, ℕ, ◌+◌, ◌<◌, ◌≤◌, ◌==◌, Bool, true, false, not, ◌&&◌, ◌||◌, cond, List, [], ◌∷◌, ◌++◌, length, length-append, map, refl, ap, sym, ◌∙◌, subst, arith, bytes_eq, append_assoc}
use Rattle.std.specs.List.{list_any, filter}
use Rattle.std.proofs.lemmas.Bool.{eqb-true}
use Rattle.std.proofs.lemmas.Bool.Decides.{nat_tests}
use Rattle.std.proofs.lemmas.List.{append-nil, map-append}
use Rattle.std.proofs.lemmas.List.Elements.{filter-append}
use Rattle.std.proofs.lemmas.List.Folds.{list_any-append}
use Rattle.ob_tree_types.specs.declared.cell.SpecForm.{SpecForm}
use Rattle.ob_tree_types.specs.declared.cell.SpecForm.TheVariants as forms
use Rattle.ob_tree.specs.Scopes.{Bound, Scope, Place, Meaning, Local, Captured, Mention, Walk, seen_from, meant, entered, within, behind, deeper, nothing, named, outside, after, inside, in_function}
use Rattle.ob_tree.specs.Names.{Referred, referred, same_form, is_unbound, is_free, is_capture, captures}
use Rattle.ob_tree.specs.Functions.{mention, binds}

-- a scope has a binding of that name
abbrev pub is_in : Scope → List ℕ → Bool
is_in [] x = false
is_in (k ∷ scope) x = bytes_eq k.name x || is_in scope x

-- no binding of the scope catches the name
abbrev pub is_out : Scope → Referred → Bool
is_out scope r = not (same_form r.form forms.Plain && is_in scope r.name)

-- the innermost binding of that name has that number
abbrev pub has_number : ℕ → List ℕ → Scope → Bool
has_number j x [] = false
has_number j x (k ∷ scope) = cond (bytes_eq k.name x) (k.number == j) (has_number j x scope)

-- the name means the binding of that number
abbrev pub is_meant : ℕ → Scope → Referred → Bool
is_meant j scope r = same_form r.form forms.Plain && has_number j r.name scope

-- where the binding of number j is in scope, d functions stand around it
abbrev pub StandsAt : ℕ → ℕ → Scope → Type 0
StandsAt j d [] = Unit {0}
StandsAt j d (k ∷ scope) = (k.number ≡ j → k.depth ≡ d) × StandsAt j d scope

-- j is the number of a binding before the place, around which d functions stand
pub record IsAround (p : Place) (j d : ℕ) : Type 0 where
  pub before : j < p.first
  pub outer : d ≤ p.depth
  pub stands : StandsAt j d p.scope

-- no binding in scope has that number
abbrev pub Lacks : ℕ → Scope → Type 0
Lacks j [] = Unit {0}
Lacks j (k ∷ scope) = (k.number ≡ j → ⊥) × Lacks j scope

-- j is the number of no binding in scope, and of none of those that are numbered next
pub record IsElsewhere (p : Place) (size j : ℕ) : Type 0 where
  pub apart : p.first ≤ j → p.first + size ≤ j
  pub unknown : Lacks j p.scope

-- the free mentions of a part are those of its names that nothing around it binds; and a binding around it is captured in it exactly where one
-- of its names means that binding: any name, if a function stands between, else one that stands in a function inside the part. It captures no
-- binding but its own and those in scope
pub record Agrees (w : Walk) (names : Bool → List Referred) : Type 0 where
  pub free : (p : Place) → map referred (filter is_free (w.mentions p)) ≡ filter (is_out p.scope) (names true)
  pub captured : (p : Place) (j d : ℕ) → IsAround p j d
      → list_any (captures j) (w.mentions p) ≡ list_any (is_meant j p.scope) (names (not (d == p.depth)))
  pub elsewhere : (p : Place) (j : ℕ) → IsElsewhere p (length w.bound) j → list_any (captures j) (w.mentions p) ≡ false

-- ---- a name

unbound_seen : (b : Bool) (n : ℕ) → is_unbound (cond b (Local n) (Captured n)) ≡ false
unbound_seen true n = refl
unbound_seen false n = refl

unbound_first : (b : Bool) (m n : Meaning) (i : Bool) → is_unbound m ≡ false → is_unbound n ≡ not i → is_unbound (cond b m n) ≡ not (b || i)
unbound_first true m n i h k = h
unbound_first false m n i h k = k

unbound_meant : (x : List ℕ) (depth : ℕ) (scope : Scope) → is_unbound (meant x depth scope) ≡ not (is_in scope x)
unbound_meant x depth [] = refl
unbound_meant x depth (k ∷ scope) =
    unbound_first (bytes_eq k.name x) (seen_from depth k) (meant x depth scope) (is_in scope x) (unbound_seen (k.depth == depth) k.number) (unbound_meant x depth scope)

one_free : (a b : Bool) (m : Mention) → a ≡ b → map referred (cond a (m ∷ []) []) ≡ cond b (referred m ∷ []) []
one_free true b m h = ap (λ c. cond c (referred m ∷ []) []) h
one_free false b m h = ap (λ c. cond c (referred m ∷ []) []) h

equal_tells : (a b : ℕ) (t : Bool) → (a == b) ≡ t → (a ≡ b → (a == b) ≡ false) → (a == b) ≡ false
equal_tells a b false e h = e
equal_tells a b true e h = h (eqb-true a b e)

differs : (a b d : ℕ) (h : a ≡ d) (n : (d == b) ≡ false) → (a == b) ≡ false
differs a b d h n = ap (λ c. c == b) h ∙ n

no_capture : (b : Bool) (j n : ℕ) → (b ≡ false → (n == j) ≡ false) → is_capture j (cond b (Local n) (Captured n)) ≡ false
no_capture true j n h = refl
no_capture false j n h = h refl

both_ways : (b : Bool) → b ≡ true → b ≡ false → (c : Bool) → c ≡ false
both_ways true h k c = cc
both_ways false h k c = cc

-- none is captured by a name that stands in its own function
here_first : (b : Bool) (j : ℕ) (m n : Meaning) → is_capture j m ≡ false → is_capture j n ≡ false → is_capture j (cond b m n) ≡ false
here_first true j m n h k = h
here_first false j m n h k = k

same_depth : (a b : ℕ) → a ≡ b → (a == b) ≡ true
same_depth a b h = grind (arith, nat_tests)

other_number : (n j a depth : ℕ) → (n ≡ j → a ≡ depth) → (a == depth) ≡ false → (n == j) ≡ false
other_number n j a depth h f = equal_tells n j (n == j) refl (λ e. both_ways (a == depth) (same_depth a depth (h e)) f (n == j))

captured_here : (j depth : ℕ) (x : List ℕ) (scope : Scope) → StandsAt j depth scope → is_capture j (meant x depth scope) ≡ false
captured_here j depth x [] h = refl
captured_here j depth x (k ∷ scope) h =
    here_first (bytes_eq k.name x) j (seen_from depth k) (meant x depth scope)
    (no_capture (k.depth == depth) j k.number (λ f. other_number k.number j k.depth depth h.0 f)) (captured_here j depth x scope h.1)

-- and one of an outer function by any name that means it
seen_outer : (b : Bool) (j n : ℕ) → (b ≡ true → (n == j) ≡ false) → is_capture j (cond b (Local n) (Captured n)) ≡ (n == j)
seen_outer true j n h = sym (h refl)
seen_outer false j n h = refl

outer_first : (b : Bool) (j : ℕ) (m n : Meaning) (s t : Bool) → is_capture j m ≡ s → is_capture j n ≡ t → is_capture j (cond b m n) ≡ cond b s t
outer_first true j m n s t h k = h
outer_first false j m n s t h k = k

outer_number : (n j a d depth : ℕ) → (n ≡ j → a ≡ d) → (d == depth) ≡ false → (a == depth) ≡ true → (n == j) ≡ false
outer_number n j a d depth h f g = equal_tells n j (n == j) refl (λ e. both_ways (a == depth) g (differs a depth d (h e) f) (n == j))

captured_outer : (j d depth : ℕ) (x : List ℕ) (scope : Scope) → (d == depth) ≡ false → StandsAt j d scope → is_capture j (meant x depth scope) ≡ has_number j x scope
captured_outer j d depth x [] f h = refl
captured_outer j d depth x (k ∷ scope) f h =
    outer_first (bytes_eq k.name x) j (seen_from depth k) (meant x depth scope) (k.number == j) (has_number j x scope)
    (seen_outer (k.depth == depth) j k.number (λ g. outer_number k.number j k.depth d depth h.0 f g)) (captured_outer j d depth x scope f h.1)

one_captured : (t : Bool) (j d depth : ℕ) (x : List ℕ) (scope : Scope) → (d == depth) ≡ t → StandsAt j d scope
    → (is_capture j (meant x depth scope) || false) ≡ list_any (is_meant j scope) ((mention forms.Plain x).names (not t))
one_captured true j d depth x scope e h =
    ap (λ b. b || false) (captured_here j depth x scope (let P : ℕ → Type 0 = λ n. StandsAt j n scope in subst P (eqb-true d depth e) h))
one_captured false j d depth x scope e h = ap (λ b. b || false) (captured_outer j d depth x scope e h)

captured_elsewhere : (j depth : ℕ) (x : List ℕ) (scope : Scope) → Lacks j scope → is_capture j (meant x depth scope) ≡ false
captured_elsewhere j depth x [] h = refl
captured_elsewhere j depth x (k ∷ scope) h =
    let other : (k.number == j) ≡ false = equal_tells k.number j (k.number == j) refl (λ e. absurd (h.0 e)) in
    here_first (bytes_eq k.name x) j (seen_from depth k) (meant x depth scope) (no_capture (k.depth == depth) j k.number (λ f. other)) (captured_elsewhere j depth x scope h.1)

pub agree_named : (x : List ℕ) → Agrees (named x) (mention forms.Plain x).names
unfolding named
agree_named x = record {
  free = λ p. one_free (is_unbound (meant x p.depth p.scope)) (not (is_in p.scope x)) (record { form = forms.Plain; name = x; means = meant x p.depth p.scope }) (unbound_meant x p.depth p.scope);
  captured = λ p j d h. one_captured (d == p.depth) j d p.depth x p.scope refl h.stands;
  elsewhere = λ p j h. ap (λ b. b || false) (captured_elsewhere j p.depth x p.scope h.unknown);
}

-- ---- a name after `viewof` or `mutable`

none_meant : (b : Bool) (f : SpecForm) (j : ℕ) (x : List ℕ) (scope : Scope) → same_form f forms.Plain ≡ false → false ≡ list_any (is_meant j scope) ((mention f x).names b)
none_meant true f j x scope h = ap (λ c. (c && has_number j x scope) || false) (sym h)
none_meant false f j x scope h = refl

pub agree_outside : (f : SpecForm) (x : List ℕ) → same_form f forms.Plain ≡ false → Agrees (outside f x) (mention f x).names
unfolding outside
agree_outside f x h = record {
  free = λ p. ap (λ c. cond (not (c && is_in p.scope x)) (record { form = f; name = x } ∷ []) []) (sym h);
  captured = λ p j d a. none_meant (not (d == p.depth)) f j x p.scope h;
  elsewhere = λ p j a. refl;
}

-- ---- parts behind one another

pub agree_nothing : Agrees nothing (λ all. [])
unfolding nothing
agree_nothing = record { free = λ p. refl; captured = λ p j d h. refl; elsewhere = λ p j h. refl }

pub moved : {w v : Walk} {n : Bool → List Referred} → w ≡ v → Agrees v n → Agrees w n
moved {w} {v} {n} e a = let P : Walk → Type 0 = λ u. Agrees u n in subst P (sym e) a

pub renamed : {w : Walk} {n m : Bool → List Referred} → ((all : Bool) → n all ≡ m all) → Agrees w n → Agrees w m
renamed e a = record {
  free = λ p. a.free p ∙ ap (filter (is_out p.scope)) (e true);
  captured = λ p j d h. a.captured p j d h ∙ ap (list_any (is_meant j p.scope)) (e (not (d == p.depth)));
  elsewhere = a.elsewhere;
}

pub boxed : {w : Walk} {n : Bool → List Referred} → Agrees w n → Agrees w (λ all. n all ++ [])
boxed {w} {n} a = renamed (λ all. sym (append-nil (n all))) a

behind_around : (bs : List Bound) (p : Place) (j d : ℕ) → IsAround p j d → IsAround (behind bs p) j d
behind_around bs p j d h = record { before = omega (arith, h.before); outer = h.outer; stands = h.stands }

two_free : (p q : Place) (us vs : List Mention) (ms ns : List Referred) (test : Referred → Bool) → map referred (filter is_free us) ≡ filter test ms
    → map referred (filter is_free vs) ≡ filter test ns → map referred (filter is_free (us ++ vs)) ≡ filter test (ms ++ ns)
two_free p q us vs ms ns test h k =
    ap (map referred) (filter-append is_free us vs) ∙ map-append referred (filter is_free us) (filter is_free vs)
    ∙ ap (λ l. l ++ map referred (filter is_free vs)) h ∙ ap (λ l. filter test ms ++ l) k ∙ sym (filter-append test ms ns)

two_captured : (us vs : List Mention) (ms ns : List Referred) (f : Mention → Bool) (g : Referred → Bool) → list_any f us ≡ list_any g ms → list_any f vs ≡ list_any g ns
    → list_any f (us ++ vs) ≡ list_any g (ms ++ ns)
two_captured us vs ms ns f g h k =
    list_any-append f us vs ∙ ap (λ b. b || list_any f vs) h ∙ ap (λ b. list_any g ms || b) k ∙ sym (list_any-append g ms ns)

neither : (us vs : List Mention) (f : Mention → Bool) → list_any f us ≡ false → list_any f vs ≡ false → list_any f (us ++ vs) ≡ false
neither us vs f h k = list_any-append f us vs ∙ ap (λ b. b || list_any f vs) h ∙ k

first_apart : (us vs : List Bound) (first j : ℕ) → (first ≤ j → first + length (us ++ vs) ≤ j) → first ≤ j → first + length us ≤ j
first_apart us vs first j h l = let far : first + length (us ++ vs) ≤ j = h l in omega (arith, far, length-append us vs)

second_apart : (us vs : List Bound) (first j : ℕ) → (first ≤ j → first + length (us ++ vs) ≤ j) → first + length us ≤ j → (first + length us) + length vs ≤ j
second_apart us vs first j h l = let far : first + length (us ++ vs) ≤ j = h (omega arith) in omega (arith, far, length-append us vs)

agree_after : {u v : Walk} {m n : Bool → List Referred} → Agrees u m → Agrees v n → Agrees (after u v) (λ all. m all ++ n all)
unfolding after
agree_after {u} {v} {m} {n} a b = record {
  free = λ p. two_free p p (u.mentions p) (v.mentions (behind u.bound p)) (m true) (n true) (is_out p.scope) (a.free p) (b.free (behind u.bound p));
  captured = λ p j d h. two_captured (u.mentions p) (v.mentions (behind u.bound p)) (m (not (d == p.depth))) (n (not (d == p.depth))) (captures j) (is_meant j p.scope)
      (a.captured p j d h) (b.captured (behind u.bound p) j d (behind_around u.bound p j d h));
  elsewhere = λ p j h. neither (u.mentions p) (v.mentions (behind u.bound p)) (captures j)
      (a.elsewhere p j (record { apart = first_apart u.bound v.bound p.first j h.apart; unknown = h.unknown }))
      (b.elsewhere (behind u.bound p) j (record { apart = second_apart u.bound v.bound p.first j h.apart; unknown = h.unknown }));
}

pub two : {w u v : Walk} {m n : Bool → List Referred} → Agrees u m → Agrees v n → w ≡ after u v → Agrees w (λ all. m all ++ n all)
two a b e = moved e (agree_after a b)

pub three : {w u v x : Walk} {m n o : Bool → List Referred} → Agrees u m → Agrees v n → Agrees x o → w ≡ after u (after v x)
    → Agrees w (λ all. (m all ++ n all) ++ o all)
three {w} {u} {v} {x} {m} {n} {o} a b c e = renamed (λ all. sym (append_assoc (m all) (n all) (o all))) (two a (agree_after b c) e)

pub four : {w u v x y : Walk} {m n o q : Bool → List Referred} → Agrees u m → Agrees v n → Agrees x o → Agrees y q → w ≡ after u (after v (after x y))
    → Agrees w (λ all. ((m all ++ n all) ++ o all) ++ q all)
four {w} {u} {v} {x} {y} {m} {n} {o} {q} a b c d e =
    renamed (λ all. ap (λ l. m all ++ l) (append_assoc (n all) (o all) (q all)) ∙ sym (append_assoc (m all) (n all) (o all ++ q all))
    ∙ sym (append_assoc (m all ++ n all) (o all) (q all)) ∙ refl)
    (renamed (λ all. ap (λ l. m all ++ l) refl) (two a (three b c d refl) e))

-- ---- scopes

swapped : (l e i : Bool) → (l || (e || i)) ≡ ((e || l) || i)
swapped false false i = refl
swapped false true i = refl
swapped true false i = refl
swapped true true i = refl

in_within : (bs : List Bound) (p : Place) (x : List ℕ) → is_in (within bs p).scope x ≡ (list_any (λ (b : Bound). bytes_eq b.name x) bs || is_in p.scope x)
in_within [] p x = refl
in_within (b ∷ bs) p x = in_within bs (entered b p) x ∙ swapped (list_any (λ (c : Bound). bytes_eq c.name x) bs) (bytes_eq b.name x) (is_in p.scope x)

not_both : (f l i : Bool) → not (f && (l || i)) ≡ (not (f && l) && not (f && i))
not_both false l i = refl
not_both true false i = refl
not_both true true i = refl

out_within : (bs : List Bound) (p : Place) (r : Referred) → is_out (within bs p).scope r ≡ (not (binds bs r) && is_out p.scope r)
out_within bs p r =
    ap (λ b. not (same_form r.form forms.Plain && b)) (in_within bs p r.name)
    ∙ not_both (same_form r.form forms.Plain) (list_any (λ (b : Bound). bytes_eq b.name r.name) bs) (is_in p.scope r.name)

filtered : {X : Type 0} (a h g : Bool) (x : X) (ys zs : List X) (f : X → Bool) → a ≡ (h && g) → ys ≡ filter f zs → f x ≡ g
    → cond a (x ∷ ys) ys ≡ filter f (cond h (x ∷ zs) zs)
filtered a true g x ys zs f e i k = ap (λ b. cond b (x ∷ ys) ys) e ∙ ap (λ l. cond g (x ∷ l) l) i ∙ ap (λ b. cond b (x ∷ filter f zs) (filter f zs)) (sym k)
filtered a false g x ys zs f e i k = ap (λ b. cond b (x ∷ ys) ys) e ∙ i

filter_both : {X : Type 0} (f g h : X → Bool) → ((x : X) → f x ≡ (h x && g x)) → (xs : List X) → filter f xs ≡ filter g (filter h xs)
filter_both f g h e [] = refl
filter_both f g h e (x ∷ xs) = filtered (f x) (h x) (g x) x (filter f xs) (filter h xs) g (e x) (filter_both f g h e xs) refl

anywhere : {X : Type 0} (a h g b : Bool) (x : X) (zs : List X) (f : X → Bool) → a ≡ (h && g) → b ≡ list_any f zs → f x ≡ g
    → (a || b) ≡ list_any f (cond h (x ∷ zs) zs)
anywhere a true g b x zs f e i k = ap (λ c. c || b) e ∙ ap (λ c. g || c) i ∙ ap (λ c. c || list_any f zs) (sym k)
anywhere a false g b x zs f e i k = ap (λ c. c || b) e ∙ i

any_both : {X : Type 0} (f g h : X → Bool) → ((x : X) → f x ≡ (h x && g x)) → (xs : List X) → list_any f xs ≡ list_any g (filter h xs)
any_both f g h e [] = refl
any_both f g h e (x ∷ xs) = anywhere (f x) (h x) (g x) (list_any f xs) x (filter h xs) g (e x) (any_both f g h e xs) refl

number_first : (l e c n : Bool) → c ≡ false → (not l && cond e c n) ≡ (not (e || l) && n)
number_first false false c n h = refl
number_first false true c n h = h
number_first true false c n h = refl
number_first true true c n h = refl

pub number_within : (bs : List Bound) (p : Place) (j : ℕ) (x : List ℕ) → j < p.first
    → has_number j x (within bs p).scope ≡ (not (list_any (λ (b : Bound). bytes_eq b.name x) bs) && has_number j x p.scope)
number_within [] p j x h = refl
number_within (b ∷ bs) p j x h =
    let below : j < p.first + 1 = omega arith in
    let other : (p.first == j) ≡ false = grind (arith, nat_tests) in
    number_within bs (entered b p) j x below
    ∙ number_first (list_any (λ (c : Bound). bytes_eq c.name x) bs) (bytes_eq b.name x) (p.first == j) (has_number j x p.scope) other

meant_both : (f l n : Bool) → (f && (not l && n)) ≡ (not (f && l) && (f && n))
meant_both false l n = refl
meant_both true l n = refl

meant_within : (bs : List Bound) (p : Place) (j : ℕ) → j < p.first → (r : Referred) → is_meant j (within bs p).scope r ≡ (not (binds bs r) && is_meant j p.scope r)
meant_within bs p j h r =
    ap (λ b. same_form r.form forms.Plain && b) (number_within bs p j r.name h)
    ∙ meant_both (same_form r.form forms.Plain) (list_any (λ (b : Bound). bytes_eq b.name r.name) bs) (has_number j r.name p.scope)

within_depth : (bs : List Bound) (p : Place) → (within bs p).depth ≡ p.depth
within_depth [] p = refl
within_depth (b ∷ bs) p = within_depth bs (entered b p)

pub within_around : (bs : List Bound) (p : Place) (j d : ℕ) → IsAround p j d → IsAround (within bs p) j d
within_around [] p j d h = h
within_around (b ∷ bs) p j d h =
    let below : j < p.first = h.before in
    within_around bs (entered b p) j d (record { before = omega arith; outer = h.outer; stands = (λ e. absurd (omega (arith, e, below)), h.stands) })

first_within : (bs : List Bound) (p : Place) → (within bs p).first ≡ p.first + length bs
first_within [] p = omega arith
first_within (b ∷ bs) p = let h = first_within bs (entered b p) in omega (arith, h)

lacks_within : (bs : List Bound) (p : Place) (j : ℕ) → (p.first ≤ j → p.first + length bs ≤ j) → Lacks j p.scope → Lacks j (within bs p).scope
lacks_within [] p j h l = l
lacks_within (b ∷ bs) p j h l =
    lacks_within bs (entered b p) j (λ k. let far : p.first + length (b ∷ bs) ≤ j = h (omega arith) in omega (arith, far))
    ((λ e. let far : p.first + length (b ∷ bs) ≤ j = h (omega (arith, e)) in omega (arith, far, e)), l)

within_apart : (bs ws : List Bound) (p : Place) (j : ℕ) → (p.first ≤ j → p.first + length (bs ++ ws) ≤ j) → (within bs p).first ≤ j → (within bs p).first + length ws ≤ j
within_apart bs ws p j h l =
    let e : (within bs p).first ≡ p.first + length bs = first_within bs p in
    let far : p.first + length (bs ++ ws) ≤ j = h (omega (arith, e, l)) in omega (arith, e, far, length-append bs ws)

pub agree_inside : (bs : List Bound) {w : Walk} {n : Bool → List Referred} → Agrees w n → Agrees (inside bs w) (λ all. filter (λ r. not (binds bs r)) (n all))
unfolding inside
agree_inside bs {w} {n} a = record {
  free = λ p. a.free (within bs p) ∙ filter_both (is_out (within bs p).scope) (is_out p.scope) (λ r. not (binds bs r)) (out_within bs p) (n true);
  captured = λ p j d h.
      a.captured (within bs p) j d (within_around bs p j d h) ∙ ap (λ k. list_any (is_meant j (within bs p).scope) (n (not (d == k)))) (within_depth bs p)
      ∙ any_both (is_meant j (within bs p).scope) (is_meant j p.scope) (λ r. not (binds bs r)) (meant_within bs p j h.before) (n (not (d == p.depth)));
  elsewhere = λ p j h. a.elsewhere (within bs p) j
      (record { apart = within_apart bs w.bound p j h.apart; unknown = lacks_within bs p j (first_apart bs w.bound p.first j h.apart) h.unknown });
}

-- ---- functions

less_deep : (d n : ℕ) → d ≤ n → (d == n + 1) ≡ false
less_deep d n h = grind (arith, nat_tests)

pub agree_function : {w : Walk} {n : Bool → List Referred} → Agrees w n → Agrees (in_function w) (λ all. n true)
unfolding in_function
agree_function {w} {n} a = record {
  free = λ p. a.free (deeper p);
  captured = λ p j d h.
      a.captured (deeper p) j d (record { before = h.before; outer = omega (arith, h.outer); stands = h.stands })
      ∙ ap (λ b. list_any (is_meant j p.scope) (n (not b))) (less_deep d p.depth h.outer);
  elsewhere = λ p j h. a.elsewhere (deeper p) j (record { apart = h.apart; unknown = h.unknown });
}
