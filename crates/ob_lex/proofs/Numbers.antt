-- Numbers.
use Rattle.std.proofs.Common.{◌≡◌, ℕ, pos, ◌+◌, ◌*◌, ◌≤◌, Bool, true, false, not, ◌||◌, ◌&&◌, ◌==◌, leb, cond, [], ◌∷◌, ◌++◌, Option, Some, None, refl, ap, sym, ◌∙◌, subst, arith}
use Rattle.std.proofs.lemmas.Bool.{eqb-true, leb-true}
use Rattle.std.proofs.lemmas.Bool.Decides.{nat_tests}
use Rattle.std.specs.Char.{digit_value}
use Rattle.ob_lex.specs.declared.token.TokenKind.{TokenKind}
use Rattle.ob_lex.specs.declared.token.TokenKind.TheVariants as kind
use Rattle.ob_lex.specs.declared.piece.Piece.TheVariants as piece
use Rattle.ob_lex.specs.Characters.{Characters, continues_name, is_digit, base_of, ends_number}
use Rattle.ob_base.specs.Integers.{greatest}
use Rattle.ob_lex.specs.Pieces.{Digits, no_more, digit, separated, IsNumber, zero_alone, decimal, in_base, IsPiece}
use Rattle.ob_lex.specs.Reading.{Read, digits_next, begins_digit, digits_from, number_digits, based, after_zero, ended, number_at}
use Rattle.ob_lex.proofs.Classes.{both, digit_continues, underscore_continues}
use Rattle.ob_lex.proofs.Tools.{OnRead, Took, on_weaker, on_equal, Best, best_same}

-- ---- what is read is a number

-- the digits that were read, and their value, which is within the bound
abbrev More : ℕ → ℕ → Characters → ℕ → Characters → Type 0
More base n text m rest = Took (λ front. Digits base n front m × (m ≤ greatest)) text rest

digit_more : (base n m d : ℕ) (cs rest : Characters) → is_digit base d ≡ true → More base (n * base + digit_value d) cs m rest → More base n (d ∷ cs) m rest
digit_more base n m d cs rest h more = (d ∷ more.0, (ap (λ x. d ∷ x) more.1.0, (digit n m d more.0 h more.1.1.0, more.1.1.1)))

next_on : (base n d : ℕ) (go : ℕ → Read ℕ) (P : ℕ → ℕ → Characters → Type 0) (Q : ℕ → Characters → Type 0) → ((m : ℕ) → m ≤ greatest → OnRead (go m) (P m))
    → ((v : ℕ) (rest : Characters) → P (n * base + digit_value d) v rest → Q v rest)
    → (b : Bool) → leb (n * base + digit_value d) greatest ≡ b → OnRead (cond b (go (n * base + digit_value d)) None) Q
next_on base n d go P Q more wrap true e =
    on_weaker (P (n * base + digit_value d)) Q (go (n * base + digit_value d)) wrap (more (n * base + digit_value d) (leb-true (n * base + digit_value d) greatest e))
next_on base n d go P Q more wrap false e = tt

one_step : (base n : ℕ) → n ≤ greatest → (c : ℕ) (cs : Characters) → ((m : ℕ) → m ≤ greatest → OnRead (digits_from base m cs) (More base m cs))
    → (begins_digit base cs ≡ true → (c == 95) ≡ true → OnRead (digits_from base n cs) (More base n (c ∷ cs)))
    → (b : Bool) → is_digit base c ≡ b → (s : Bool) → (c == 95 && begins_digit base cs) ≡ s
    → OnRead (cond b (digits_next base n c cs (λ m. digits_from base m cs)) (cond s (digits_from base n cs) (Some (n, c ∷ cs)))) (More base n (c ∷ cs))
one_step base n w c cs more skip true e s f =
    next_on base n c (λ m. digits_from base m cs) (λ m. More base m cs) (More base n (c ∷ cs)) more (λ v rest x. digit_more base n v c cs rest e x) (leb (n * base + digit_value c) greatest) refl
one_step base n w c cs more skip false e true f = let p = both (c == 95) (begins_digit base cs) f in skip p.1 p.0
one_step base n w c cs more skip false e false f = ([], (refl, (no_more n, w)))

skip_step : (base n c d : ℕ) (ds : Characters) → is_digit base d ≡ true → (c == 95) ≡ true → ((m : ℕ) → m ≤ greatest → OnRead (digits_from base m ds) (More base m ds))
    → OnRead (digits_from base n (d ∷ ds)) (More base n (c ∷ d ∷ ds))
skip_step base n c d ds g h more =
    on_equal (More base n (c ∷ d ∷ ds)) (digits_from base n (d ∷ ds)) (digits_next base n d ds (λ m. digits_from base m ds))
    (ap (λ b. cond b (digits_next base n d ds (λ m. digits_from base m ds)) (cond (d == 95 && begins_digit base ds) (digits_from base n ds) (Some (n, d ∷ ds)))) g)
    (next_on base n d (λ m. digits_from base m ds) (λ m. More base m ds) (More base n (c ∷ d ∷ ds)) more
    (λ v rest x. (95 ∷ d ∷ x.0, (let q : c ≡ 95 = eqb-true c 95 h in let t : ds ≡ x.0 ++ rest = x.1.0 in cc, (separated n v d x.0 g x.1.1.0, x.1.1.1)))) (leb (n * base + digit_value d) greatest) refl)

digits_sound : (base n : ℕ) → n ≤ greatest → (text : Characters) → OnRead (digits_from base n text) (More base n text)
digits_sound base n w [] = ([], (refl, (no_more n, w)))
digits_sound base n w (c ∷ []) =
    one_step base n w c [] (λ m v. digits_sound base m v []) (λ g h. cc) (is_digit base c) refl (c == 95 && false) refl
digits_sound base n w (c ∷ d ∷ ds) =
    one_step base n w c (d ∷ ds) (λ m v. digits_sound base m v (d ∷ ds)) (λ g h. skip_step base n c d ds g h (λ m v. digits_sound base m v ds))
    (is_digit base c) refl (c == 95 && is_digit base d) refl

digit_small : (d : ℕ) → digit_value d ≤ 36
digit_small d = grind (arith, nat_tests)

-- a number, and its value within the bound
abbrev Number : Characters → ℕ → Characters → Type 0
Number text n rest = Took (λ front. IsNumber front n × (n ≤ greatest)) text rest

first_by : (x base d : ℕ) (ds : Characters) → base_of x ≡ Some base → (b : Bool) → is_digit base d ≡ b
    → OnRead (cond b (digits_from base (digit_value d) ds) None) (Number (48 ∷ x ∷ d ∷ ds))
first_by x base d ds e true h =
    on_weaker (More base (digit_value d) ds) (Number (48 ∷ x ∷ d ∷ ds)) (digits_from base (digit_value d) ds)
    (λ v rest m. (48 ∷ x ∷ d ∷ m.0, (let t : ds ≡ m.0 ++ rest = m.1.0 in cc, (in_base x base d v m.0 e h m.1.1.0, m.1.1.1))))
    (digits_sound base (digit_value d) (omega (arith, digit_small d)) ds)
first_by x base d ds e false h = tt

based_sound : (x : ℕ) (cs : Characters) (o : Option ℕ) → base_of x ≡ o → OnRead (based x cs o) (Number (48 ∷ x ∷ cs))
based_sound x cs None e = (48 ∷ [], (refl, (zero_alone, omega arith)))
based_sound x [] (Some base) e = tt
based_sound x (d ∷ ds) (Some base) e = first_by x base d ds e (is_digit base d) refl

zero_sound : (cs : Characters) → OnRead (after_zero cs) (Number (48 ∷ cs))
zero_sound [] = (48 ∷ [], (refl, (zero_alone, omega arith)))
zero_sound (x ∷ cs) = based_sound x cs (base_of x) refl

whole_by : (c : ℕ) (cs : Characters) → is_digit 10 c ≡ true → (b : Bool) → (c == 48) ≡ b → OnRead (cond b (after_zero cs) (number_digits 10 c cs)) (Number (c ∷ cs))
whole_by c cs h true e = subst (λ x. OnRead (after_zero cs) (Number (x ∷ cs))) (sym (eqb-true c 48 e)) (zero_sound cs)
whole_by c cs h false e =
    on_equal (Number (c ∷ cs)) (number_digits 10 c cs) (digits_from 10 (digit_value c) cs) (ap (λ b. cond b (digits_from 10 (digit_value c) cs) None) h)
    (on_weaker (More 10 (digit_value c) cs) (Number (c ∷ cs)) (digits_from 10 (digit_value c) cs)
    (λ v rest m. (c ∷ m.0, (ap (λ x. c ∷ x) m.1.0, (decimal c v m.0 h e m.1.1.0, m.1.1.1))))
    (digits_sound 10 (digit_value c) (omega (arith, digit_small c)) cs))

abbrev Piece_of : Characters → TokenKind → Characters → Type 0
Piece_of text k rest = Took (λ front. IsPiece (piece.Token k) front rest) text rest

ended_by : (text : Characters) (n : ℕ) (rest : Characters) → Number text n rest → (b : Bool) → ends_number rest ≡ b → OnRead (cond b (Some (kind.Number (pos n), rest)) None) (Piece_of text)
ended_by text n rest h true e = (h.0, (h.1.0, (h.1.1.0, (h.1.1.1, e))))
ended_by text n rest h false e = tt

ended_sound : (text : Characters) (r : Read ℕ) → OnRead r (Number text) → OnRead (ended r) (Piece_of text)
ended_sound text None h = tt
ended_sound text (Some p) h = ended_by text p.0 p.1 h (ends_number p.1) refl

pub number_sound : (c : ℕ) (cs : Characters) → is_digit 10 c ≡ true → OnRead (number_at c cs) (Piece_of (c ∷ cs))
unfolding number_at
number_sound c cs h = ended_sound (c ∷ cs) (cond (c == 48) (after_zero cs) (number_digits 10 c cs)) (whole_by c cs h (c == 48) refl)

-- ---- each number is read

no_by : (b : Bool) → (b ≡ true → ⊥) → b ≡ false
no_by true f = absurd (f refl)
no_by false f = refl

ends_not : (r : ℕ) (rs : Characters) → ends_number (r ∷ rs) ≡ true → continues_name r ≡ false
ends_not r rs h = go (continues_name r) (r == 46) h
  where
    go : (a b : Bool) → not (a || b) ≡ true → a ≡ false
    go true b e = cc
    go false b e = refl

no_continue : (r d : ℕ) → continues_name r ≡ false → continues_name d ≡ true → (r == d) ≡ false
no_continue r d h g = no_by (r == d) (λ e. let q : continues_name r ≡ continues_name d = ap continues_name (eqb-true r d e) in let z : true ≡ false = sym g ∙ sym q ∙ h in cc)

stops : (base n : ℕ) (rest : Characters) → base ≤ 36 → ends_number rest ≡ true → digits_from base n rest ≡ Some (n, rest)
stops base n [] le h = refl
stops base n (r ∷ rs) le h =
    let c = ends_not r rs h in
    let d : is_digit base r ≡ false = no_by (is_digit base r) (λ e. let f = digit_continues base r le e in let z : true ≡ false = sym f ∙ c in cc) in
    let u = no_continue r 95 c underscore_continues in
    ap (λ b. cond b (digits_next base n r rs (λ m. digits_from base m rs)) (cond (r == 95 && begins_digit base rs) (digits_from base n rs) (Some (n, r ∷ rs)))) d
    ∙ ap (λ b. cond (b && begins_digit base rs) (digits_from base n rs) (Some (n, r ∷ rs))) u

some_base : (base d : ℕ) → is_digit base d ≡ true → 1 ≤ base
unfolding is_digit
some_base base d h = grind (arith, nat_tests)

times : (n base : ℕ) → 1 ≤ base → n ≤ n * base
times n base h = grind arith

grows : (base n m : ℕ) (ds : Characters) → Digits base n ds m → n ≤ m
grows base n m ds (no_more k) = omega arith
grows base n m ds (digit k v d more h g) = let t = times n base (some_base base d h) in omega (arith, grows base (n * base + digit_value d) m more g, t)
grows base n m ds (separated k v d more h g) = let t = times n base (some_base base d h) in omega (arith, grows base (n * base + digit_value d) m more g, t)

within : (k : ℕ) → k ≤ greatest → leb k greatest ≡ true
within k h = grind (arith, nat_tests)

underscore_no_digit : (base : ℕ) → base ≤ 36 → is_digit base 95 ≡ false
unfolding is_digit
underscore_no_digit base le = grind (arith, nat_tests)

take_digit : (base n m d : ℕ) (text rest : Characters) → is_digit base d ≡ true → n * base + digit_value d ≤ greatest
    → digits_from base (n * base + digit_value d) text ≡ Some (m, rest) → digits_from base n (d ∷ text) ≡ Some (m, rest)
take_digit base n m d text rest h w more =
    ap (λ b. cond b (digits_next base n d text (λ m. digits_from base m text)) (cond (d == 95 && begins_digit base text) (digits_from base n text) (Some (n, d ∷ text)))) h
    ∙ ap (λ b. cond b (digits_from base (n * base + digit_value d) text) None) (within (n * base + digit_value d) w) ∙ more

digits_again : (base n m : ℕ) (ds rest : Characters) → base ≤ 36 → ends_number rest ≡ true → m ≤ greatest → Digits base n ds m → digits_from base n (ds ++ rest) ≡ Some (m, rest)
digits_again base n m ds rest le h w (no_more k) = stops base n rest le h
digits_again base n m ds rest le h w (digit k v d more g x) =
    take_digit base n m d (more ++ rest) rest g (omega (arith, grows base (n * base + digit_value d) m more x)) (digits_again base (n * base + digit_value d) m more rest le h w x)
digits_again base n m ds rest le h w (separated k v d more g x) =
    ap (λ b. cond b (digits_next base n 95 (d ∷ more ++ rest) (λ m. digits_from base m (d ∷ more ++ rest))) (cond (95 == 95 && is_digit base d) (digits_from base n (d ∷ more ++ rest)) (Some (n, 95 ∷ d ∷ more ++ rest))))
    (underscore_no_digit base le)
    ∙ ap (λ b. cond b (digits_from base n (d ∷ more ++ rest)) (Some (n, 95 ∷ d ∷ more ++ rest))) g
    ∙ take_digit base n m d (more ++ rest) rest g (omega (arith, grows base (n * base + digit_value d) m more x)) (digits_again base (n * base + digit_value d) m more rest le h w x)

letter : (c : ℕ) → is_digit 36 c ≡ true → continues_name c ≡ true
letter c h = digit_continues 36 c (omega arith) h

base_none : (x : ℕ) → continues_name x ≡ false → base_of x ≡ None
unfolding base_of is_digit
base_none x h =
    let a = no_continue x 120 h (letter 120 refl) in let b = no_continue x 88 h (letter 88 refl) in let c = no_continue x 111 h (letter 111 refl) in
    let d = no_continue x 79 h (letter 79 refl) in let e = no_continue x 98 h (letter 98 refl) in let f = no_continue x 66 h (letter 66 refl) in rw (a, b, c, d, e, f) refl

zero_stops : (rest : Characters) → ends_number rest ≡ true → after_zero rest ≡ Some (0, rest)
zero_stops [] h = refl
zero_stops (x ∷ cs) h = ap (based x cs) (base_none x (ends_not x cs h))

base_small : (x base : ℕ) → base_of x ≡ Some base → base ≤ 36
unfolding base_of
base_small x base h = go (x == 120 || x == 88) (x == 111 || x == 79) (x == 98 || x == 66) h
  where
    go : (a b c : Bool) → cond a (Some 16) (cond b (Some 8) (cond c (Some 2) None)) ≡ Some base → base ≤ 36
    go true b c e = let q : 16 ≡ base = cc in omega arith
    go false true c e = let q : 8 ≡ base = cc in omega arith
    go false false true e = let q : 2 ≡ base = cc in omega arith
    go false false false e = cc

number_exact : (front rest : Characters) (n : ℕ) → IsNumber front n → n ≤ greatest → ends_number rest ≡ true → (c : ℕ) (cs : Characters) → front ≡ c ∷ cs
    → cond (c == 48) (after_zero (cs ++ rest)) (number_digits 10 c (cs ++ rest)) ≡ Some (n, rest)
number_exact front rest n zero_alone w h c cs e =
    let k : c ≡ 48 = cc in let t : cs ≡ [] = cc in
    ap (λ x. cond (x == 48) (after_zero (cs ++ rest)) (number_digits 10 x (cs ++ rest))) k ∙ ap (λ x. after_zero (x ++ rest)) t ∙ zero_stops rest h
number_exact front rest n (decimal d v ds g z more) w h c cs e =
    let k : d ≡ c = cc in let t : ds ≡ cs = cc in
    ap (λ x. cond (x == 48) (after_zero (cs ++ rest)) (number_digits 10 x (cs ++ rest))) (sym k) ∙ ap (λ b. cond b (after_zero (cs ++ rest)) (number_digits 10 d (cs ++ rest))) z
    ∙ ap (λ b. cond b (digits_from 10 (digit_value d) (cs ++ rest)) None) g ∙ ap (λ x. digits_from 10 (digit_value d) (x ++ rest)) (sym t)
    ∙ digits_again 10 (digit_value d) n ds rest (omega arith) h w more
number_exact front rest n (in_base x base d v ds b g more) w h c cs e =
    let k : c ≡ 48 = cc in let t : cs ≡ x ∷ d ∷ ds = cc in
    ap (λ y. cond (y == 48) (after_zero (cs ++ rest)) (number_digits 10 y (cs ++ rest))) k ∙ ap (λ y. after_zero (y ++ rest)) t
    ∙ ap (based x (d ∷ ds ++ rest)) b ∙ ap (λ b. cond b (digits_from base (digit_value d) (ds ++ rest)) None) g
    ∙ digits_again base (digit_value d) n ds rest (base_small x base b) h w more

pub number_best : (n : ℕ) (c : ℕ) (cs rest : Characters) → IsNumber (c ∷ cs) n → n ≤ greatest → ends_number rest ≡ true → Best (kind.Number (pos n)) rest (number_at c (cs ++ rest))
unfolding number_at
number_best n c cs rest h w e =
    best_same (kind.Number (pos n)) rest (ended (cond (c == 48) (after_zero (cs ++ rest)) (number_digits 10 c (cs ++ rest))))
    (ap ended (number_exact (c ∷ cs) rest n h w e c cs refl) ∙ ap (λ b. cond b (Some (kind.Number (pos n), rest)) None) e)

digit_48 : is_digit 10 48 ≡ true
unfolding is_digit
digit_48 = refl

pub number_starts : (n : ℕ) (c : ℕ) (cs : Characters) → IsNumber (c ∷ cs) n → is_digit 10 c ≡ true
number_starts n c cs h = go (c ∷ cs) n h c cs refl
  where
    go : (front : Characters) (n : ℕ) → IsNumber front n → (c : ℕ) (cs : Characters) → front ≡ c ∷ cs → is_digit 10 c ≡ true
    go front n zero_alone c cs e = let k : c ≡ 48 = cc in ap (is_digit 10) k ∙ digit_48
    go front n (decimal d v ds g z more) c cs e = let k : d ≡ c = cc in ap (is_digit 10) (sym k) ∙ g
    go front n (in_base x base d v ds b g more) c cs e = let k : c ≡ 48 = cc in ap (is_digit 10) k ∙ digit_48

pub number_no_empty : (front : Characters) (n : ℕ) → IsNumber front n → front ≡ [] → ⊥
number_no_empty front n zero_alone e = cc
number_no_empty front n (decimal d v ds g z more) e = cc
number_no_empty front n (in_base x base d v ds b g more) e = cc
