-- What is read at the front of a text, and how far.
use Rattle.std.proofs.Common.{◌≡◌, ℕ, suc, ◌≤◌, Bool, true, false, cond, [], ◌∷◌, ◌++◌, length, take, Some, None, refl, ap, sym, subst, arith}
use Rattle.ob_lex.specs.Characters.{Characters}
use Rattle.ob_lex.specs.Reading.{Read, read_map, run}
use Rattle.ob_lex.specs.Pieces.{Each}

abbrev pub OnRead : {A : Type 0} → Read A → (A → Characters → Type 0) → Type 0
OnRead None P = Unit {0}
OnRead (Some p) P = P p.0 p.1

-- the text is such a front and the rest
abbrev pub Took : (Characters → Type 0) → Characters → Characters → Type 0
Took P text rest = (front : Characters) × ((text ≡ front ++ rest) × P front)

pub on_weaker : {A : Type 0} (P Q : A → Characters → Type 0) (r : Read A) → ((a : A) (rest : Characters) → P a rest → Q a rest) → OnRead r P → OnRead r Q
on_weaker P Q None f h = tt
on_weaker P Q (Some p) f h = f p.0 p.1 h

pub on_mapped : {A B : Type 0} (P : A → Characters → Type 0) (Q : B → Characters → Type 0) (g : A → B) (r : Read A)
    → ((a : A) (rest : Characters) → P a rest → Q (g a) rest) → OnRead r P → OnRead (read_map g r) Q
on_mapped P Q g None f h = tt
on_mapped P Q g (Some p) f h = f p.0 p.1 h

pub on_equal : {A : Type 0} (P : A → Characters → Type 0) (r s : Read A) → r ≡ s → OnRead s P → OnRead r P
on_equal P r s e h = subst (λ x. OnRead x P) (sym e) h

-- what is read is no shorter than a piece before that rest, and is that piece where it is as long
abbrev pub Best : {A : Type 0} → A → Characters → Read A → Type 0
Best a rest None = ⊥
Best a rest (Some p) = (length p.1 ≤ length rest) × (length p.1 ≡ length rest → p.0 ≡ a)

pub best_mapped : {A B : Type 0} (g : A → B) (a : A) (rest : Characters) (r : Read A) → Best a rest r → Best (g a) rest (read_map g r)
best_mapped g a rest None h = h
best_mapped g a rest (Some p) h = (h.0, λ e. ap g (h.1 e))

pub best_equal : {A : Type 0} (a : A) (rest : Characters) (r s : Read A) → r ≡ s → Best a rest s → Best a rest r
best_equal a rest r s e h = subst (λ x. Best a rest x) (sym e) h

-- exactly that piece
pub best_same : {A : Type 0} (a : A) (rest : Characters) (r : Read A) → r ≡ Some (a, rest) → Best a rest r
best_same a rest r e = subst (λ x. Best a rest x) (sym e) (omega arith, λ h. refl)

-- ---- runs

each_by : (test : ℕ → Bool) (c : ℕ) (cs : Characters) (n : ℕ) → Each test (take n cs) → (b : Bool) → test c ≡ b → Each test (take (cond b (suc n) 0) (c ∷ cs))
each_by test c cs n h true e = (e, h)
each_by test c cs n h false e = tt

pub run_each : (test : ℕ → Bool) (cs : Characters) → Each test (take (run test cs) cs)
run_each test [] = tt
run_each test (c ∷ cs) = each_by test c cs (run test cs) (run_each test cs) (test c) refl

pub run_most : (test : ℕ → Bool) (piece rest : Characters) → Each test piece → length piece ≤ run test (piece ++ rest)
run_most test [] rest h = omega arith
run_most test (d ∷ ds) rest h =
    let e : cond (test d) (suc (run test (ds ++ rest))) 0 ≡ suc (run test (ds ++ rest)) = ap (λ b. cond b (suc (run test (ds ++ rest))) 0) h.0 in
    omega (arith, e, run_most test ds rest h.1)

length_by : (b : Bool) (n m : ℕ) → n ≤ m → cond b (suc n) 0 ≤ suc m
length_by true n m h = omega arith
length_by false n m h = omega arith

pub run_length : (test : ℕ → Bool) (cs : Characters) → run test cs ≤ length cs
run_length test [] = omega arith
run_length test (c ∷ cs) = length_by (test c) (run test cs) (length cs) (run_length test cs)

-- ---- texts in two parts

pub split_once : (a b c d : Characters) → a ++ b ≡ c ++ d → length a ≡ length c → (a ≡ c) × (b ≡ d)
split_once [] b [] d e h = (refl, e)
split_once [] b (y ∷ ys) d e h = absurd (omega arith)
split_once (x ∷ xs) b [] d e h = absurd (omega arith)
split_once (x ∷ xs) b (y ∷ ys) d e h =
    let t : xs ++ b ≡ ys ++ d = cc in let p = split_once xs b ys d t (omega arith) in let q : x ≡ y = cc in let r : xs ≡ ys = p.0 in (cc, p.1)
