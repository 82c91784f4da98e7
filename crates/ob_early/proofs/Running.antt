-- Parts behind one another and inside scopes.
use Rattle.std.proofs.Common.{◌≡◌, ℕ, ◌+◌, ◌-◌, ◌<◌, ◌≤◌, Bool, true, false, not, ◌&&◌, List, [], ◌∷◌, ◌++◌, length, take, drop, refl, ap, sym, ◌∙◌, arith, length-append, length-drop, get_or, Option, Some, None}
use Rattle.std.proofs.Math.Bool.{and_assoc, and-true}
use Rattle.std.proofs.Math.Seq.{take-append_seam}
use Rattle.std.proofs.lemmas.List.{drop-drop, drop_more, drop_at}
use Rattle.std.proofs.Math.ListN.{drop_of_length-le}
use Rattle.ob_grammar.specs.Early.{Names, Check, Part, block, block_if_there, always, both, scope, distinct, holds_name, may_assign, in_turn, in_function, nothing_around}
use Rattle.ob_early.specs.Found.{Found, at_start, outermost, turn_of, function_of, around, ran, required, declared, declares, closed_to}
use Rattle.ob_early.specs.declared.place.Place.{Place}

abbrev found : Bool → Names → Found
found b names = record { fine = b; names = names }

same_found : (a b : Bool) (m n : Names) → a ≡ b → m ≡ n → found a m ≡ found b n
same_found a b m n p q = ap (λ x. found x m) p ∙ ap (λ x. found b x) q

pub ran_always : (p : Place) (s : Found) → ran p always s ≡ s
unfolding ran
ran_always p s = refl

and_flip : (a b c : Bool) → ((a && b) && c) ≡ (b && (a && c))
and_flip true b c = refl
and_flip false true c = refl
and_flip false false c = refl

pub ran_both : (p : Place) (a b : Check) (s : Found) → ran p (both a b) s ≡ ran p b (ran p a s)
unfolding ran
ran_both p a b s = ap (λ f. found f s.names) (and_flip (a (around p s.names)) (b (around p s.names)) s.fine)

pub ran_names : (p : Place) (c : Check) (s : Found) → (ran p c s).names ≡ s.names
unfolding ran
ran_names p c s = refl

pub declares_append : (n : ℕ) (xs ys : Names) (s : Found) → declares n (xs ++ ys) s ≡ declares n xs (declares n ys s)
declares_append n [] ys s = refl
declares_append n (x ∷ xs) ys s = ap (declared n x) (declares_append n xs ys s)

declares_names : (n : ℕ) (xs : Names) (s : Found) → (declares n xs s).names ≡ xs ++ s.names
unfolding declared
declares_names n [] s = refl
declares_names n (x ∷ xs) s = ap (λ ys. x ∷ ys) (declares_names n xs s)

inner : (xs ys : Names) → take (length (xs ++ ys) - length ys) (xs ++ ys) ≡ xs
inner xs ys =
    let n : length (xs ++ ys) - length ys ≡ length xs = omega (arith, length-append xs ys) in
    ap (λ m. take m (xs ++ ys)) n ∙ take-append_seam xs ys

outer : (xs ys : Names) → drop (length (xs ++ ys) - length ys) (xs ++ ys) ≡ ys
outer xs ys =
    let n : length xs ≡ length (xs ++ ys) - length ys = omega (arith, length-append xs ys) in
    drop_at xs ys _ n

declares_fine : (xs : Names) (s : Found) → (declares (length s.names) xs s).fine ≡ (distinct xs && s.fine)
unfolding declared
declares_fine [] s = refl
declares_fine (x ∷ xs) s =
    let d : Found = declares (length s.names) xs s in
    ap (λ ys. not (holds_name x (take (length ys - length s.names) ys)) && d.fine) (declares_names (length s.names) xs s)
    ∙ ap (λ ys. not (holds_name x ys) && d.fine) (inner xs s.names)
    ∙ ap (λ f. not (holds_name x xs) && f) (declares_fine xs s)
    ∙ sym (and_assoc (not (holds_name x xs)) (distinct xs) s.fine)

pub ran_inside : (p : Place) (names : Names) (c : Check) (s : Found)
    → closed_to (length s.names) (ran p c (declares (length s.names) names s)) ≡ ran p (scope names c) s
unfolding ran closed_to
ran_inside p names c s =
    same_found _ _ _ _
    (ap (λ ys. c (around p ys) && (declares (length s.names) names s).fine) (declares_names (length s.names) names s)
    ∙ ap (λ f. c (around p (names ++ s.names)) && f) (declares_fine names s)
    ∙ sym (and_flip (distinct names) (c (around p (names ++ s.names))) s.fine))
    (ap (λ ys. drop (length ys - length s.names) ys) (declares_names (length s.names) names s) ∙ outer names s.names)

-- ---- parts in a row, as the walk goes through them

pub none : (p : Place) (w : Check) (s : Found) → w ≡ always → s ≡ ran p w s
none p w s e = sym (ran_always p s) ∙ ap (λ v. ran p v s) (sym e)

pub two : (p : Place) (a b w : Check) (s t u : Found) → t ≡ ran p a s → u ≡ ran p b t → w ≡ both a b → u ≡ ran p w s
two p a b w s t u h k e = k ∙ ap (ran p b) h ∙ sym (ran_both p a b s) ∙ ap (λ v. ran p v s) (sym e)

pub three : (p : Place) (a b c w : Check) (s t u v : Found) → t ≡ ran p a s → u ≡ ran p b t → v ≡ ran p c u → w ≡ both a (both b c) → v ≡ ran p w s
three p a b c w s t u v h k l e = two p a (both b c) w s t v h (two p b c (both b c) t u v k l refl) e

pub four : (p : Place) (a b c d w : Check) (s t u v x : Found) → t ≡ ran p a s → u ≡ ran p b t → v ≡ ran p c u → x ≡ ran p d v → w ≡ both a (both b (both c d)) → x ≡ ran p w s
four p a b c d w s t u v x h k l m e = two p a (both b (both c d)) w s t x h (three p b c d (both b (both c d)) t u v x k l m refl) e

-- two parts, and a block that may be missing
pub two_alone : (p : Place) (a b w : Check) (s t u : Found) → t ≡ ran p a s → u ≡ ran p b t → w ≡ both a (both b (block_if_there None)) → u ≡ ran p w s
two_alone p a b w s t u h k e = three p a b (block_if_there None) w s t u u h k (none p (block_if_there None) u refl) e

pub two_and_block : (p : Place) (a b w : Check) (parts : List Part) (s t u v : Found) → t ≡ ran p a s → u ≡ ran p b t → v ≡ ran p (block parts) u
    → w ≡ both a (both b (block_if_there (Some parts))) → v ≡ ran p w s
two_and_block p a b w parts s t u v h k l e = three p a b (block_if_there (Some parts)) w s t u v h k l e

-- ---- what a place decides

pub in_loop_required : (p : Place) (w : Check) (s t : Found) → t ≡ required p.in_loop s → w ≡ (λ x. x.in_loop) → t ≡ ran p w s
unfolding ran required
in_loop_required p w s t h e = h ∙ ap (λ v. ran p v s) (sym e)

pub in_generator_required : (p : Place) (s t : Found) → t ≡ required p.in_generator s → t ≡ ran p (λ x. x.in_generator) s
unfolding ran required
in_generator_required p s t h = h

by_test : (p : Place) (test : Bool) (s t : Found) → t ≡ required test s → t ≡ ran p (λ x. test) s
unfolding ran required
by_test p test s t h = h

-- a test, and then a part
pub tested : (p : Place) (b test : Bool) (c w : Check) (s t u : Found) → t ≡ required b s → b ≡ test → u ≡ ran p c t → w ≡ both (λ x. test) c → u ≡ ran p w s
tested p b test c w s t u h is k e = two p (λ x. test) c w s t u (by_test p test s t (h ∙ ap (λ a. required a s) is)) k e

-- whether a name is bound doesn't depend on what else stands around
pub target_required : (p : Place) (x : Option (List ℕ)) (b : Bool) (s t : Found) → b ≡ may_assign x (around outermost s.names) → t ≡ required b s → t ≡ ran p (may_assign x) s
unfolding ran required
target_required p None b s t e h = h ∙ ap (λ a. found (a && s.fine) s.names) e
target_required p (Some x) b s t e h = h ∙ ap (λ a. found (a && s.fine) s.names) e

pub turned : (p q : Place) (c : Check) (s t : Found) → q ≡ turn_of p → t ≡ ran q c s → t ≡ ran p (λ x. c (in_turn x)) s
unfolding ran
turned p q c s t e h = h ∙ ap (λ r. ran r c s) e

-- ---- scopes

pub scoped : (p : Place) (names : Names) (v w : Check) (n : ℕ) (s t u x : Found)
    → n ≡ length s.names → t ≡ declares n names s → u ≡ ran p v t → x ≡ closed_to n u → w ≡ scope names v → x ≡ ran p w s
scoped p names v w n s t u x l h k o e =
    o ∙ ap (closed_to n) (k ∙ ap (ran p v) h) ∙ ap (λ m. closed_to m (ran p v (declares m names s))) l ∙ ran_inside p names v s ∙ ap (λ y. ran p y s) (sym e)

pub scoped_two : (p : Place) (ds bs : Names) (v w : Check) (n : ℕ) (s t u x y : Found)
    → n ≡ length s.names → t ≡ declares n bs s → u ≡ declares n ds t → x ≡ ran p v u → y ≡ closed_to n x → w ≡ scope (ds ++ bs) v → y ≡ ran p w s
scoped_two p ds bs v w n s t u x y l h k r o e =
    scoped p (ds ++ bs) v w n s u x y l (k ∙ ap (declares n ds) h ∙ sym (declares_append n ds bs s)) r o e

ran_function : (p : Place) (generator : Bool) (c : Check) (s : Found) → ran (function_of generator) c s ≡ ran p (λ x. c (in_function generator x)) s
unfolding ran
ran_function p generator c s = refl

pub in_a_function : (p q : Place) (generator : Bool) (ds bs : Names) (v w : Check) (n : ℕ) (s t u x y : Found)
    → q ≡ function_of generator → n ≡ length s.names → t ≡ declares n bs s → u ≡ declares n ds t → x ≡ ran q v u → y ≡ closed_to n x
    → w ≡ (λ z. scope (ds ++ bs) v (in_function generator z)) → y ≡ ran p w s
in_a_function p q generator ds bs v w n s t u x y at l h k r o e =
    scoped_two q ds bs v (scope (ds ++ bs) v) n s t u x y l h k r o refl ∙ ap (λ z. ran z (scope (ds ++ bs) v) s) at
    ∙ ran_function p generator (scope (ds ++ bs) v) s ∙ ap (λ z. ran p z s) (sym e)

-- ---- lists, from a place on

module _ {X : Type 0} (p : Place) (f : List X → Check) (g : X → Check) (none_left : f [] ≡ always) (more : (x : X) (xs : List X) → f (x ∷ xs) ≡ both (g x) (f xs)) where
  pub goes_on : (xs : List X) (i : ℕ) (x : X) (s t r : Found) → i < length xs → x ≡ get_or xs i x → t ≡ ran p (g x) s → ran p (f (drop i xs)) s ≡ r → ran p (f (drop (i + 1) xs)) t ≡ r
  goes_on xs i x s t r l is h k =
      let cut : drop i xs ≡ x ∷ drop (i + 1) xs = drop_more xs i x l ∙ ap (λ y. y ∷ drop (i + 1) xs) (sym is) in
      ap (ran p (f (drop (i + 1) xs))) h ∙ sym (ran_both p (g x) (f (drop (i + 1) xs)) s) ∙ ap (λ w. ran p w s) (sym (more x (drop (i + 1) xs)) ∙ ap f (sym cut)) ∙ k

  pub ends : (xs : List X) (i : ℕ) (s r : Found) → length xs ≤ i → ran p (f (drop i xs)) s ≡ r → s ≡ r
  ends xs i s r l h = none p (f (drop i xs)) s (ap f (drop_of_length-le xs l) ∙ none_left) ∙ h

-- ---- lists of names, from the last on

module _ {X : Type 0} (n : ℕ) (f : List X → Names) (g : X → Names) (more : (x : X) (xs : List X) → f (x ∷ xs) ≡ g x ++ f xs) where
  pub goes_back : (xs : List X) (i j : ℕ) (x : X) (s t r : Found) → i < length xs → j ≡ i + 1 → x ≡ get_or xs i x → s ≡ declares n (f (drop j xs)) r → t ≡ declares n (g x) s
      → t ≡ declares n (f (drop i xs)) r
  goes_back xs i j x s t r l next is h k =
      let cut : drop i xs ≡ x ∷ drop (i + 1) xs = drop_more xs i x l ∙ ap (λ y. y ∷ drop (i + 1) xs) (sym is) in
      k ∙ ap (declares n (g x)) (h ∙ ap (λ m. declares n (f (drop m xs)) r) next) ∙ sym (declares_append n (g x) (f (drop (i + 1) xs)) r) ∙ ap (λ names. declares n names r) (sym (ap f cut ∙ more x (drop (i + 1) xs)))

-- ---- the names that leave scope

pub drop_less : {A : Type 0} (xs : List A) (n : ℕ) → n < length xs → drop (length (drop 1 xs) - n) (drop 1 xs) ≡ drop (length xs - n) xs
drop_less xs n l =
    let e : 1 + (length (drop 1 xs) - n) ≡ length xs - n = omega (arith, length-drop 1 xs) in
    drop-drop (length (drop 1 xs) - n) 1 xs ∙ ap (λ m. drop m xs) e

-- ---- a whole walk

pub at_last : (c : Check) (s : Found) → s ≡ ran outermost c at_start → s.fine ≡ c nothing_around
unfolding ran
at_last c s h = ap (λ (f : Found). f.fine) h ∙ and-true (c nothing_around)
