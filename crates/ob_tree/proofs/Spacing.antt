-- The text of tokens, part by part.
use Rattle.std.proofs.Common.{◌≡◌, ◌<◌, ◌≤◌, ◌+◌, ℕ, List, [], ◌∷◌, ◌++◌, true, false, refl, sym, ap, ◌∙◌, append_assoc, append-nil, add-one, drop-cons, length, drop, map, get_or, suc}
use Rattle.std.proofs.lemmas.List.{drop_all}
use Rattle.ob_tree.specs.Tokens.{Token, spelled, spaced, text_of}
use Rattle.ob_tree.specs.Print.{Shown, operand, in_parentheses, separated, joined, comma_before}

pub spaced_append : (a b : List Token) → spaced (a ++ b) ≡ spaced a ++ spaced b
unfolding spaced
spaced_append [] b = refl
spaced_append (t ∷ ts) b =
    ap (λ l. 32 ∷ (spelled t ++ l)) (spaced_append ts b) ∙ ap (λ l. 32 ∷ l) (sym (append_assoc (spelled t) (spaced ts) (spaced b)))

pub spaced_cons : (t : Token) (ts : List Token) → spaced (t ∷ ts) ≡ spaced (t ∷ []) ++ spaced ts
spaced_cons t ts = spaced_append (t ∷ []) ts

pub spaced_none : spaced [] ≡ []
unfolding spaced
spaced_none = refl

pub operand_alone : (a : Shown) → a.alone ≡ true → operand a ≡ a.tokens
operand_alone a h = rw h refl

pub operand_enclosed : (a : Shown) → a.alone ≡ false → operand a ≡ in_parentheses a.tokens
operand_enclosed a h = rw h refl

-- nothing was written
pub nothing : (o : List ℕ) (t : List Token) → t ≡ [] → o ≡ o ++ spaced t
unfolding spaced
nothing o t e = rw e (sym (append-nil o))

-- parts that were written one after the other
join : (o p q : List ℕ) (a b : List Token) → p ≡ o ++ spaced a → q ≡ p ++ spaced b → q ≡ o ++ spaced (a ++ b)
join o p q a b e f = f ∙ ap (λ l. l ++ spaced b) e ∙ append_assoc o (spaced a) (spaced b) ∙ ap (λ l. o ++ l) (sym (spaced_append a b))

pub one : (o p : List ℕ) (a t : List Token) → p ≡ o ++ spaced a → t ≡ a → p ≡ o ++ spaced t
one o p a t e h = e ∙ ap (λ l. o ++ spaced l) (sym h)

pub two : (p0 p1 p2 : List ℕ) (a1 a2 t : List Token)
    → p1 ≡ p0 ++ spaced a1 → p2 ≡ p1 ++ spaced a2
    → t ≡ a1 ++ a2 → p2 ≡ p0 ++ spaced t
two p0 p1 p2 a1 a2 t h1 h2 e = join p0 p1 p2 a1 a2 h1 h2 ∙ ap (λ l. p0 ++ spaced l) (sym e)

pub three : (p0 p1 p2 p3 : List ℕ) (a1 a2 a3 t : List Token)
    → p1 ≡ p0 ++ spaced a1 → p2 ≡ p1 ++ spaced a2 → p3 ≡ p2 ++ spaced a3
    → t ≡ a1 ++ (a2 ++ a3) → p3 ≡ p0 ++ spaced t
three p0 p1 p2 p3 a1 a2 a3 t h1 h2 h3 e =
    join p0 p1 p3 a1 (a2 ++ a3) h1 (two p1 p2 p3 a2 a3 (a2 ++ a3) h2 h3 refl) ∙ ap (λ l. p0 ++ spaced l) (sym e)

pub four : (p0 p1 p2 p3 p4 : List ℕ) (a1 a2 a3 a4 t : List Token)
    → p1 ≡ p0 ++ spaced a1 → p2 ≡ p1 ++ spaced a2 → p3 ≡ p2 ++ spaced a3 → p4 ≡ p3 ++ spaced a4
    → t ≡ a1 ++ (a2 ++ (a3 ++ a4)) → p4 ≡ p0 ++ spaced t
four p0 p1 p2 p3 p4 a1 a2 a3 a4 t h1 h2 h3 h4 e =
    join p0 p1 p4 a1 (a2 ++ (a3 ++ a4)) h1 (three p1 p2 p3 p4 a2 a3 a4 (a2 ++ (a3 ++ a4)) h2 h3 h4 refl) ∙ ap (λ l. p0 ++ spaced l) (sym e)

pub five : (p0 p1 p2 p3 p4 p5 : List ℕ) (a1 a2 a3 a4 a5 t : List Token)
    → p1 ≡ p0 ++ spaced a1 → p2 ≡ p1 ++ spaced a2 → p3 ≡ p2 ++ spaced a3 → p4 ≡ p3 ++ spaced a4 → p5 ≡ p4 ++ spaced a5
    → t ≡ a1 ++ (a2 ++ (a3 ++ (a4 ++ a5))) → p5 ≡ p0 ++ spaced t
five p0 p1 p2 p3 p4 p5 a1 a2 a3 a4 a5 t h1 h2 h3 h4 h5 e =
    join p0 p1 p5 a1 (a2 ++ (a3 ++ (a4 ++ a5))) h1 (four p1 p2 p3 p4 p5 a2 a3 a4 a5 (a2 ++ (a3 ++ (a4 ++ a5))) h2 h3 h4 h5 refl) ∙ ap (λ l. p0 ++ spaced l) (sym e)

pub six : (p0 p1 p2 p3 p4 p5 p6 : List ℕ) (a1 a2 a3 a4 a5 a6 t : List Token)
    → p1 ≡ p0 ++ spaced a1 → p2 ≡ p1 ++ spaced a2 → p3 ≡ p2 ++ spaced a3 → p4 ≡ p3 ++ spaced a4 → p5 ≡ p4 ++ spaced a5 → p6 ≡ p5 ++ spaced a6
    → t ≡ a1 ++ (a2 ++ (a3 ++ (a4 ++ (a5 ++ a6)))) → p6 ≡ p0 ++ spaced t
six p0 p1 p2 p3 p4 p5 p6 a1 a2 a3 a4 a5 a6 t h1 h2 h3 h4 h5 h6 e =
    join p0 p1 p6 a1 (a2 ++ (a3 ++ (a4 ++ (a5 ++ a6)))) h1 (five p1 p2 p3 p4 p5 p6 a2 a3 a4 a5 a6 (a2 ++ (a3 ++ (a4 ++ (a5 ++ a6)))) h2 h3 h4 h5 h6 refl) ∙ ap (λ l. p0 ++ spaced l) (sym e)

pub seven : (p0 p1 p2 p3 p4 p5 p6 p7 : List ℕ) (a1 a2 a3 a4 a5 a6 a7 t : List Token)
    → p1 ≡ p0 ++ spaced a1 → p2 ≡ p1 ++ spaced a2 → p3 ≡ p2 ++ spaced a3 → p4 ≡ p3 ++ spaced a4 → p5 ≡ p4 ++ spaced a5 → p6 ≡ p5 ++ spaced a6 → p7 ≡ p6 ++ spaced a7
    → t ≡ a1 ++ (a2 ++ (a3 ++ (a4 ++ (a5 ++ (a6 ++ a7))))) → p7 ≡ p0 ++ spaced t
seven p0 p1 p2 p3 p4 p5 p6 p7 a1 a2 a3 a4 a5 a6 a7 t h1 h2 h3 h4 h5 h6 h7 e =
    join p0 p1 p7 a1 (a2 ++ (a3 ++ (a4 ++ (a5 ++ (a6 ++ a7))))) h1 (six p1 p2 p3 p4 p5 p6 p7 a2 a3 a4 a5 a6 a7 (a2 ++ (a3 ++ (a4 ++ (a5 ++ (a6 ++ a7))))) h2 h3 h4 h5 h6 h7 refl) ∙ ap (λ l. p0 ++ spaced l) (sym e)

pub eight : (p0 p1 p2 p3 p4 p5 p6 p7 p8 : List ℕ) (a1 a2 a3 a4 a5 a6 a7 a8 t : List Token)
    → p1 ≡ p0 ++ spaced a1 → p2 ≡ p1 ++ spaced a2 → p3 ≡ p2 ++ spaced a3 → p4 ≡ p3 ++ spaced a4 → p5 ≡ p4 ++ spaced a5 → p6 ≡ p5 ++ spaced a6 → p7 ≡ p6 ++ spaced a7 → p8 ≡ p7 ++ spaced a8
    → t ≡ a1 ++ (a2 ++ (a3 ++ (a4 ++ (a5 ++ (a6 ++ (a7 ++ a8)))))) → p8 ≡ p0 ++ spaced t
eight p0 p1 p2 p3 p4 p5 p6 p7 p8 a1 a2 a3 a4 a5 a6 a7 a8 t h1 h2 h3 h4 h5 h6 h7 h8 e =
    join p0 p1 p8 a1 (a2 ++ (a3 ++ (a4 ++ (a5 ++ (a6 ++ (a7 ++ a8)))))) h1 (seven p1 p2 p3 p4 p5 p6 p7 p8 a2 a3 a4 a5 a6 a7 a8 (a2 ++ (a3 ++ (a4 ++ (a5 ++ (a6 ++ (a7 ++ a8)))))) h2 h3 h4 h5 h6 h7 h8 refl) ∙ ap (λ l. p0 ++ spaced l) (sym e)

pub nine : (p0 p1 p2 p3 p4 p5 p6 p7 p8 p9 : List ℕ) (a1 a2 a3 a4 a5 a6 a7 a8 a9 t : List Token)
    → p1 ≡ p0 ++ spaced a1 → p2 ≡ p1 ++ spaced a2 → p3 ≡ p2 ++ spaced a3 → p4 ≡ p3 ++ spaced a4 → p5 ≡ p4 ++ spaced a5 → p6 ≡ p5 ++ spaced a6 → p7 ≡ p6 ++ spaced a7 → p8 ≡ p7 ++ spaced a8 → p9 ≡ p8 ++ spaced a9
    → t ≡ a1 ++ (a2 ++ (a3 ++ (a4 ++ (a5 ++ (a6 ++ (a7 ++ (a8 ++ a9))))))) → p9 ≡ p0 ++ spaced t
nine p0 p1 p2 p3 p4 p5 p6 p7 p8 p9 a1 a2 a3 a4 a5 a6 a7 a8 a9 t h1 h2 h3 h4 h5 h6 h7 h8 h9 e =
    join p0 p1 p9 a1 (a2 ++ (a3 ++ (a4 ++ (a5 ++ (a6 ++ (a7 ++ (a8 ++ a9))))))) h1 (eight p1 p2 p3 p4 p5 p6 p7 p8 p9 a2 a3 a4 a5 a6 a7 a8 a9 (a2 ++ (a3 ++ (a4 ++ (a5 ++ (a6 ++ (a7 ++ (a8 ++ a9))))))) h2 h3 h4 h5 h6 h7 h8 h9 refl) ∙ ap (λ l. p0 ++ spaced l) (sym e)

-- a first token, with no space before it, and the others
pub first : (o p q x : List ℕ) (t : Token) (a u : List Token)
    → p ≡ o ++ x → q ≡ p ++ spaced a → x ≡ spelled t → u ≡ t ∷ a → q ≡ o ++ text_of u
first o p q x t a u e f h k =
    f ∙ ap (λ l. l ++ spaced a) (e ∙ ap (λ y. o ++ y) h) ∙ append_assoc o (spelled t) (spaced a) ∙ ap (λ v. o ++ text_of v) (sym k)

-- a loop over parts: one more turn, and the end
pub goes_on : (o p : List ℕ) (a rest t : List Token) (whole : List ℕ)
    → p ≡ o ++ spaced a → o ++ spaced t ≡ whole → t ≡ a ++ rest → p ++ spaced rest ≡ whole
goes_on o p a rest t whole h inv e =
    ap (λ l. l ++ spaced rest) h ∙ append_assoc o (spaced a) (spaced rest) ∙ ap (λ l. o ++ l) (sym (spaced_append a rest)) ∙ ap (λ l. o ++ spaced l) (sym e) ∙ inv

pub ends : (o : List ℕ) (t : List Token) (whole : List ℕ) → o ++ spaced t ≡ whole → t ≡ [] → o ≡ whole
ends o t whole inv e = nothing o t e ∙ inv

pub separated_more : {X : Type 0} (f : X → List Token) (xs : List X) (i : ℕ) (x : X) → x ≡ get_or xs i x → i < length xs
    → separated i (map f (drop i xs)) ≡ (comma_before i ++ f x) ++ separated (i + 1) (map f (drop (i + 1) xs))
separated_more f xs i x e h =
    rw (drop-cons xs i x, add-one)
    (sym (append_assoc (comma_before i) (f (get_or xs i x)) _) ∙ ap (λ y. (comma_before i ++ f y) ++ separated (suc i) (map f (drop (suc i) xs))) (sym e))

pub separated_end : {X : Type 0} (f : X → List Token) (xs : List X) (i : ℕ) → length xs ≤ i → separated i (map f (drop i xs)) ≡ []
separated_end f xs i h = rw (drop_all i xs h) refl

pub joined_more : {X : Type 0} (f : X → List Token) (xs : List X) (i : ℕ) (x : X) → x ≡ get_or xs i x → i < length xs
    → joined (map f (drop i xs)) ≡ f x ++ joined (map f (drop (i + 1) xs))
joined_more f xs i x e h = rw (drop-cons xs i x, add-one) (ap (λ y. f y ++ joined (map f (drop (suc i) xs))) (sym e))

pub joined_end : {X : Type 0} (f : X → List Token) (xs : List X) (i : ℕ) → length xs ≤ i → joined (map f (drop i xs)) ≡ []
joined_end f xs i h = rw (drop_all i xs h) refl
