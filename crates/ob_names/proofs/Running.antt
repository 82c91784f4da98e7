-- Walks behind one another, inside scopes and inside functions.
use Rattle.std.proofs.Common.{◌≡◌, ℕ, ◌+◌, ◌-◌, ◌<◌, ◌≤◌, List, [], ◌∷◌, ◌++◌, length, drop, refl, ap, sym, ◌∙◌, append_assoc, arith, length-append, length-drop, get_or}
use Rattle.std.proofs.lemmas.List.{append-nil, drop-drop, drop_more}
use Rattle.std.proofs.Math.ListN.{drop_of_length-le}
use Rattle.ob_tree.specs.Scopes.{Bound, Mention, Scope, Place, Walk, nothing, after, inside, in_function, entered, within}
use Rattle.ob_tree.specs.Names.{mentions_of}
use Rattle.ob_names.specs.Found.{Found, at_start, place_of, ran, bound_to, binds, closed_to, deepened, left}

abbrev found : List Bound → List Mention → Scope → ℕ → Found
found b m s d = record { bound = b; mentions = m; scope = s; depth = d }

same_found : (b c : List Bound) (m n : List Mention) (s t : Scope) (d e : ℕ) → b ≡ c → m ≡ n → s ≡ t → d ≡ e → found b m s d ≡ found c n t e
same_found b c m n s t d e p q r u =
    ap (λ x. found x m s d) p ∙ ap (λ x. found c x s d) q ∙ ap (λ x. found c n x d) r ∙ ap (λ x. found c n t x) u

pub ran_nothing : (s : Found) → ran nothing s ≡ s
unfolding ran nothing
ran_nothing s = same_found _ _ _ _ _ _ _ _ (append-nil s.bound) (append-nil s.mentions) refl refl

abbrev place : ℕ → ℕ → Scope → Place
place n d s = record { first = n; depth = d; scope = s }

pub ran_after : (a b : Walk) (s : Found) → ran (after a b) s ≡ ran b (ran a s)
unfolding ran after
ran_after a b s =
    let p : Place = place_of s in
    same_found _ _ _ _ _ _ _ _ (sym (append_assoc s.bound a.bound b.bound))
    (ap (λ n. s.mentions ++ (a.mentions p ++ b.mentions (place n s.depth s.scope))) (sym (length-append s.bound a.bound))
    ∙ sym (append_assoc s.mentions (a.mentions p) (b.mentions (place (length (s.bound ++ a.bound)) s.depth s.scope))))
    refl refl

pub ran_scope : (w : Walk) (s : Found) → (ran w s).scope ≡ s.scope
unfolding ran
ran_scope w s = refl

pub binds_append : (bs cs : List Bound) (s : Found) → binds (bs ++ cs) s ≡ binds cs (binds bs s)
binds_append [] cs s = refl
binds_append (b ∷ bs) cs s = binds_append bs cs (bound_to b s)

binds_bound : (bs : List Bound) (s : Found) → (binds bs s).bound ≡ s.bound ++ bs
unfolding bound_to
binds_bound [] s = sym (append-nil s.bound)
binds_bound (b ∷ bs) s = binds_bound bs (bound_to b s) ∙ append_assoc s.bound (b ∷ []) bs

binds_mentions : (bs : List Bound) (s : Found) → (binds bs s).mentions ≡ s.mentions
unfolding bound_to
binds_mentions [] s = refl
binds_mentions (b ∷ bs) s = binds_mentions bs (bound_to b s)

binds_depth : (bs : List Bound) (s : Found) → (binds bs s).depth ≡ s.depth
unfolding bound_to
binds_depth [] s = refl
binds_depth (b ∷ bs) s = binds_depth bs (bound_to b s)

binds_place : (bs : List Bound) (s : Found) → place_of (binds bs s) ≡ within bs (place_of s)
unfolding bound_to
binds_place [] s = refl
binds_place (b ∷ bs) s =
    binds_place bs (bound_to b s)
    ∙ ap (λ n. within bs (place n s.depth (record { name = b.name; number = length s.bound; depth = s.depth } ∷ s.scope))) (length-append s.bound (b ∷ []))

binds_scope_length : (bs : List Bound) (s : Found) → length (binds bs s).scope ≡ length bs + length s.scope
unfolding bound_to
binds_scope_length [] s = omega arith
binds_scope_length (b ∷ bs) s = let h = binds_scope_length bs (bound_to b s) in omega (arith, h)

drop_one_more : {A : Type 0} (n : ℕ) (k : A) (xs ys : List A) → drop n xs ≡ k ∷ ys → drop (n + 1) xs ≡ ys
drop_one_more n k xs ys h = sym (drop-drop 1 n xs) ∙ ap (drop 1) h

binds_scope : (bs : List Bound) (s : Found) → drop (length bs) (binds bs s).scope ≡ s.scope
unfolding bound_to
binds_scope [] s = refl
binds_scope (b ∷ bs) s =
    let e : length (b ∷ bs) ≡ length bs + 1 = omega arith in
    ap (λ n. drop n (binds bs (bound_to b s)).scope) e ∙ drop_one_more (length bs) _ _ s.scope (binds_scope bs (bound_to b s))

pub ran_inside : (bs : List Bound) (w : Walk) (s : Found) → closed_to (length s.scope) (ran w (binds bs s)) ≡ ran (inside bs w) s
unfolding ran inside closed_to
ran_inside bs w s =
    let n : length (binds bs s).scope - length s.scope ≡ length bs = omega (arith, binds_scope_length bs s) in
    same_found _ _ _ _ _ _ _ _ (ap (λ x. x ++ w.bound) (binds_bound bs s) ∙ append_assoc s.bound bs w.bound)
    (ap (λ m. m ++ w.mentions (place_of (binds bs s))) (binds_mentions bs s) ∙ ap (λ p. s.mentions ++ w.mentions p) (binds_place bs s))
    (ap (λ n. drop n (binds bs s).scope) n ∙ binds_scope bs s)
    (binds_depth bs s)

pub ran_function : (w : Walk) (s : Found) → left (ran w (deepened s)) ≡ ran (in_function w) s
unfolding ran in_function deepened left
ran_function w s = same_found _ _ _ _ _ _ _ _ refl refl refl (omega arith)

-- ---- parts in a row, as the walk goes through them

pub none : (w : Walk) (s : Found) → w ≡ nothing → s ≡ ran w s
none w s e = sym (ran_nothing s) ∙ ap (λ v. ran v s) (sym e)

pub both : (a b w : Walk) (s t u : Found) → t ≡ ran a s → u ≡ ran b t → w ≡ after a b → u ≡ ran w s
both a b w s t u p q e = q ∙ ap (ran b) p ∙ sym (ran_after a b s) ∙ ap (λ v. ran v s) (sym e)

pub three : (a b c w : Walk) (s t u v : Found) → t ≡ ran a s → u ≡ ran b t → v ≡ ran c u → w ≡ after a (after b c) → v ≡ ran w s
three a b c w s t u v p q r e = both a (after b c) w s t v p (both b c (after b c) t u v q r refl) e

pub four : (a b c d w : Walk) (s t u v x : Found) → t ≡ ran a s → u ≡ ran b t → v ≡ ran c u → x ≡ ran d v → w ≡ after a (after b (after c d)) → x ≡ ran w s
four a b c d w s t u v x p q r o e = both a (after b (after c d)) w s t x p (three b c d (after b (after c d)) t u v x q r o refl) e

-- ---- scopes

pub scoped : (bs : List Bound) (v w : Walk) (n : ℕ) (s t u x : Found) → n ≡ length s.scope → t ≡ binds bs s → u ≡ ran v t → x ≡ closed_to n u → w ≡ inside bs v → x ≡ ran w s
scoped bs v w n s t u x l p q r e =
    r ∙ ap (λ m. closed_to m u) l ∙ ap (closed_to (length s.scope)) (q ∙ ap (ran v) p) ∙ ran_inside bs v s ∙ ap (λ y. ran y s) (sym e)

pub scoped_two : (ds bs : List Bound) (v w : Walk) (n : ℕ) (s t u x y : Found)
    → n ≡ length s.scope → t ≡ binds ds s → u ≡ binds bs t → x ≡ ran v u → y ≡ closed_to n x → w ≡ inside (ds ++ bs) v → y ≡ ran w s
scoped_two ds bs v w n s t u x y l p q r o e =
    scoped (ds ++ bs) v w n s u x y l (q ∙ ap (binds bs) p ∙ sym (binds_append ds bs s)) r o e

pub in_a_function : (ds bs : List Bound) (v w : Walk) (n : ℕ) (s d t u x y z : Found)
    → d ≡ deepened s → n ≡ length d.scope → t ≡ binds ds d → u ≡ binds bs t → x ≡ ran v u → y ≡ closed_to n x → z ≡ left y
    → w ≡ in_function (inside (ds ++ bs) v) → z ≡ ran w s
in_a_function ds bs v w n s d t u x y z deep l p q r o back e =
    back ∙ ap left (scoped_two ds bs v (inside (ds ++ bs) v) n d t u x y l p q r o refl) ∙ ap (λ f. left (ran (inside (ds ++ bs) v) f)) deep
    ∙ ran_function (inside (ds ++ bs) v) s ∙ ap (λ f. ran f s) (sym e)

-- a scope of one binding, and then another
pub scoped_twice : (b d : Bound) (a c w : Walk) (n : ℕ) (s t u x y z o : Found)
    → n ≡ length s.scope → t ≡ bound_to b s → u ≡ ran a t → x ≡ closed_to n u → y ≡ bound_to d x → z ≡ ran c y → o ≡ closed_to n z
    → w ≡ after (inside (b ∷ []) a) (inside (d ∷ []) c) → o ≡ ran w s
scoped_twice b d a c w n s t u x y z o l p q r p' q' r' e =
    let first : x ≡ ran (inside (b ∷ []) a) s = scoped (b ∷ []) a (inside (b ∷ []) a) n s t u x l p q r refl in
    let l' : n ≡ length x.scope = l ∙ ap length (sym (ran_scope (inside (b ∷ []) a) s)) ∙ ap (λ f. length f.scope) (sym first) in
    both (inside (b ∷ []) a) (inside (d ∷ []) c) w s x o first (scoped (d ∷ []) c (inside (d ∷ []) c) n x y z o l' p' q' r' refl) e

-- ---- lists, from a place on

module _ {X : Type 0} (f : List X → Walk) (g : X → Walk) (none_left : f [] ≡ nothing) (more : (x : X) (xs : List X) → f (x ∷ xs) ≡ after (g x) (f xs)) where
  pub goes_on : (xs : List X) (i : ℕ) (x : X) (s t r : Found) → i < length xs → x ≡ get_or xs i x → t ≡ ran (g x) s → ran (f (drop i xs)) s ≡ r → ran (f (drop (i + 1) xs)) t ≡ r
  goes_on xs i x s t r l is p h =
      let cut : drop i xs ≡ x ∷ drop (i + 1) xs = drop_more xs i x l ∙ ap (λ y. y ∷ drop (i + 1) xs) (sym is) in
      ap (ran (f (drop (i + 1) xs))) p ∙ sym (ran_after (g x) (f (drop (i + 1) xs)) s) ∙ ap (λ w. ran w s) (sym (more x (drop (i + 1) xs)) ∙ ap f (sym cut)) ∙ h

  pub ends : (xs : List X) (i : ℕ) (s r : Found) → length xs ≤ i → ran (f (drop i xs)) s ≡ r → s ≡ r
  ends xs i s r l h = none (f (drop i xs)) s (ap f (drop_of_length-le xs l) ∙ none_left) ∙ h

module _ {X : Type 0} (f : List X → List Bound) (g : X → List Bound) (more : (x : X) (xs : List X) → f (x ∷ xs) ≡ g x ++ f xs) where
  pub binds_on : (xs : List X) (i : ℕ) (x : X) (s t r : Found) → i < length xs → x ≡ get_or xs i x → t ≡ binds (g x) s → binds (f (drop i xs)) s ≡ r → binds (f (drop (i + 1) xs)) t ≡ r
  binds_on xs i x s t r l is p h =
      let cut : drop i xs ≡ x ∷ drop (i + 1) xs = drop_more xs i x l ∙ ap (λ y. y ∷ drop (i + 1) xs) (sym is) in
      ap (binds (f (drop (i + 1) xs))) p ∙ sym (binds_append (g x) (f (drop (i + 1) xs)) s) ∙ ap (λ bs. binds bs s) (sym (more x (drop (i + 1) xs)) ∙ ap f (sym cut)) ∙ h

-- ---- a list that loses its first

pub drop_less : {A : Type 0} (xs : List A) (n : ℕ) → n < length xs → drop (length (drop 1 xs) - n) (drop 1 xs) ≡ drop (length xs - n) xs
drop_less xs n l =
    let e : 1 + (length (drop 1 xs) - n) ≡ length xs - n = omega (arith, length-drop 1 xs) in
    drop-drop (length (drop 1 xs) - n) 1 xs ∙ ap (λ m. drop m xs) e

-- ---- a whole walk

pub all_mentions : (w : Walk) → (ran w at_start).mentions ≡ mentions_of w
unfolding ran
all_mentions w = refl

pub all_bound : (w : Walk) → (ran w at_start).bound ≡ w.bound
unfolding ran
all_bound w = refl
