-- Texts in quotes.
use Rattle.std.proofs.Common.{◌≡◌, ℕ, zero, suc, ◌+◌, ◌-◌, ◌≤◌, Bool, true, false, not, ◌||◌, ◌==◌, cond, List, [], ◌∷◌, ◌++◌, length, Option, Some, None, refl, ap, sym, ◌∙◌, subst, arith, inl, inr, length-append, append_assoc}
use Rattle.std.specs.Char.Escape.{encode_utf16}
use Rattle.std.proofs.lemmas.Bool.{eqb-true, eq-eqb}
use Rattle.ob_lex.specs.declared.token.TokenKind.TheVariants as kind
use Rattle.ob_lex.specs.declared.quoted.Element.{Element}
use Rattle.ob_lex.specs.declared.quoted.Element.TheVariants as element
use Rattle.ob_lex.specs.Characters.{Characters, is_quote, is_plain, begins_with_digit}
use Rattle.ob_lex.specs.Pieces.{units_of, Inside, closes, plain, escape, IsText}
use Rattle.ob_lex.specs.Reading.{Read, read_map, escape_at, element_at, with_units, after_element, then_inside, inside, text_at}
use Rattle.ob_lex.proofs.Classes.{either}
use Rattle.ob_lex.proofs.Tools.{OnRead, Took, on_weaker, on_mapped, Best, best_same}
use Rattle.ob_lex.proofs.Escapes.{Escape_of, escape_sound, escape_again, escape_moved, no_line_feed}

no_empty : (quote : ℕ) (front : Characters) (units : List ℕ) → Inside quote front units → front ≡ [] → ⊥
no_empty quote front units closes e = cc
no_empty quote front units (plain c cs us h d) e = cc
no_empty quote front units (escape f cs code us h d) e = cc

same_digit : (quote : ℕ) (front rest : Characters) (units : List ℕ) → Inside quote front units → begins_with_digit (front ++ rest) ≡ begins_with_digit front
same_digit quote [] rest units d = absurd (no_empty quote [] units d refl)
same_digit quote (c ∷ cs) rest units d = refl

-- ---- what is read is the inside of a text

abbrev Inside_of : ℕ → Characters → List ℕ → Characters → Type 0
Inside_of quote text units rest = Took (λ front. Inside quote front units) text rest

-- an element and what the recursion reads after it
abbrev Element_of : ℕ → Characters → Element → Characters → Type 0
Element_of quote text element.Closes rest = text ≡ quote ∷ rest
Element_of quote text (element.Gives code) rest = (units : List ℕ) (after : Characters) → Inside_of quote rest units after → Inside_of quote text (units_of code ++ units) after

is_plain_by : (quote c : ℕ) → (c == quote) ≡ false → (c == 92) ≡ false → (c == 10 || c == 13) ≡ false → is_plain quote c ≡ true
unfolding is_plain
is_plain_by quote c q b l = go (c == quote) (c == 92) (c == 10) (c == 13) q b l
  where
    go : (q b m n : Bool) → q ≡ false → b ≡ false → (m || n) ≡ false → not (q || b || m || n) ≡ true
    go true b m n e f g = cc
    go false true m n e f g = cc
    go false false true n e f g = cc
    go false false false true e f g = cc
    go false false false false e f g = refl

element_by : (quote c : ℕ) (cs : Characters) (q b l : Bool) → (c == quote) ≡ q → (c == 92) ≡ b → (c == 10 || c == 13) ≡ l
    → OnRead (cond q (Some (element.Closes, cs)) (cond b (read_map (λ code. element.Gives code) (escape_at cs)) (cond l None (Some (element.Gives (Some c), cs))))) (Element_of quote (c ∷ cs))
element_by quote c cs true b l hq hb hl = ap (λ x. x ∷ cs) (eqb-true c quote hq)
element_by quote c cs false true l hq hb hl =
    on_mapped (Escape_of cs) (Element_of quote (c ∷ cs)) (λ code. element.Gives code) (escape_at cs)
    (λ code rest x units after y. (
      92 ∷ x.0 ++ y.0,
      (
        ap (λ z. z ∷ cs) (eqb-true c 92 hb) ∙ ap (λ z. 92 ∷ z) (x.1.0 ∙ ap (λ z. x.0 ++ z) y.1.0 ∙ sym (append_assoc x.0 y.0 after)),
        escape x.0 y.0 code units (escape_moved x.0 rest y.0 code (ap begins_with_digit y.1.0 ∙ same_digit quote y.0 after units y.1.1) x.1.1) y.1.1,
      ),
    ))
    (escape_sound cs)
element_by quote c cs false false true hq hb hl = tt
element_by quote c cs false false false hq hb hl =
    λ units after y. (c ∷ y.0, (ap (λ z. c ∷ z) y.1.0, plain c y.0 units (is_plain_by quote c hq hb hl) y.1.1))

element_sound : (quote : ℕ) (text : Characters) → OnRead (element_at quote text) (Element_of quote text)
unfolding element_at
element_sound quote [] = tt
element_sound quote (c ∷ cs) = element_by quote c cs (c == quote) (c == 92) (c == 10 || c == 13) refl refl refl

then_by : (quote : ℕ) (text : Characters) (go : Characters → Read (List ℕ)) → ((rest : Characters) → OnRead (go rest) (Inside_of quote rest))
    → (e : Element) (rest : Characters) → Element_of quote text e rest → OnRead (after_element e rest go) (Inside_of quote text)
then_by quote text go more element.Closes rest h = (quote ∷ [], (h, closes))
then_by quote text go more (element.Gives code) rest h =
    on_mapped (Inside_of quote rest) (Inside_of quote text) (λ after. units_of code ++ after) (go rest) (λ units after x. h units after x) (more rest)

then_sound : (quote : ℕ) (text : Characters) (go : Characters → Read (List ℕ)) → ((rest : Characters) → OnRead (go rest) (Inside_of quote rest))
    → (r : Read Element) → OnRead r (Element_of quote text) → OnRead (then_inside r go) (Inside_of quote text)
then_sound quote text go more None h = tt
then_sound quote text go more (Some p) h = then_by quote text go more p.0 p.1 h

pub inside_sound : (n quote : ℕ) (text : Characters) → OnRead (inside n quote text) (Inside_of quote text)
unfolding inside
inside_sound zero quote text = tt
inside_sound (suc n) quote text = then_sound quote text (inside n quote) (inside_sound n quote) (element_at quote text) (element_sound quote text)

-- ---- each is read

plain_parts : (quote c : ℕ) → is_plain quote c ≡ true → ((c == quote) ≡ false) × (((c == 92) ≡ false) × ((c == 10 || c == 13) ≡ false))
unfolding is_plain
plain_parts quote c h = go (c == quote) (c == 92) (c == 10) (c == 13) h
  where
    go : (q b m n : Bool) → not (q || b || m || n) ≡ true → (q ≡ false) × ((b ≡ false) × ((m || n) ≡ false))
    go true b m n e = cc
    go false true m n e = cc
    go false false true n e = cc
    go false false false true e = cc
    go false false false false e = (refl, (refl, refl))

quote_is : (quote : ℕ) → is_quote quote ≡ true → (P : ℕ → Type 0) → P 34 → P 39 → P quote
unfolding is_quote
quote_is quote h P a b = elim (either (quote == 34) (quote == 39) h) [ inl e ↦ subst P (sym (eqb-true quote 34 e)) a | inr e ↦ subst P (sym (eqb-true quote 39 e)) b ]

no_feed_by : (m n : Bool) → (m || n) ≡ false → not m ≡ true
no_feed_by true n e = cc
no_feed_by false n e = refl

no_feed : (quote : ℕ) (front rest : Characters) (units : List ℕ) → is_quote quote ≡ true → Inside quote front units → no_line_feed (front ++ rest) ≡ true
no_feed quote front rest units q closes = quote_is quote q (λ x. not (x == 10) ≡ true) refl refl
no_feed quote front rest units q (plain c cs us h d) = let p = plain_parts quote c h in no_feed_by (c == 10) (c == 13) p.1.1
no_feed quote front rest units q (escape f cs code us h d) = refl

element_escape : (quote : ℕ) (cs : Characters) (code : Option ℕ) (rest : Characters) → is_quote quote ≡ true → escape_at cs ≡ Some (code, rest)
    → element_at quote (92 ∷ cs) ≡ Some (element.Gives code, rest)
unfolding element_at
element_escape quote cs code rest q h =
    ap (λ b. cond b (Some (element.Closes, cs)) (read_map (λ code. element.Gives code) (escape_at cs))) (quote_is quote q (λ x. (92 == x) ≡ false) refl refl)
    ∙ ap (read_map (λ code. element.Gives code)) h

element_plain : (quote c : ℕ) (cs : Characters) → is_plain quote c ≡ true → element_at quote (c ∷ cs) ≡ Some (element.Gives (Some c), cs)
unfolding element_at
element_plain quote c cs h =
    let p = plain_parts quote c h in
    ap (λ b. cond b (Some (element.Closes, cs)) (cond (c == 92) (read_map (λ code. element.Gives code) (escape_at cs)) (cond (c == 10 || c == 13) None (Some (element.Gives (Some c), cs))))) p.0
    ∙ ap (λ b. cond b (read_map (λ code. element.Gives code) (escape_at cs)) (cond (c == 10 || c == 13) None (Some (element.Gives (Some c), cs)))) p.1.0
    ∙ ap (λ b. cond b None (Some (element.Gives (Some c), cs))) p.1.1

element_closes : (quote : ℕ) (cs : Characters) → element_at quote (quote ∷ cs) ≡ Some (element.Closes, cs)
unfolding element_at
element_closes quote cs =
    ap (λ b. cond b (Some (element.Closes, cs)) (cond (quote == 92) (read_map (λ code. element.Gives code) (escape_at cs)) (cond (quote == 10 || quote == 13) None (Some (element.Gives (Some quote), cs)))))
    (eq-eqb quote quote refl)

pub inside_again : (quote : ℕ) (front rest : Characters) (units : List ℕ) → is_quote quote ≡ true → Inside quote front units → (n : ℕ) → length front ≤ n
    → inside n quote (front ++ rest) ≡ Some (units, rest)
unfolding inside
inside_again quote front rest units q closes zero le = absurd (omega arith)
inside_again quote front rest units q (plain c cs us h d) zero le = absurd (omega arith)
inside_again quote front rest units q (escape f cs code us h d) zero le = absurd (omega arith)
inside_again quote front rest units q closes (suc n) le = ap (λ r. then_inside r (inside n quote)) (element_closes quote rest)
inside_again quote front rest units q (plain c cs us h d) (suc n) le =
    ap (λ r. then_inside r (inside n quote)) (element_plain quote c (cs ++ rest) h)
    ∙ ap (with_units (encode_utf16 c)) (inside_again quote cs rest us q d n (omega arith))
inside_again quote front rest units q (escape f cs code us h d) (suc n) le =
    let e : escape_at ((f ++ cs) ++ rest) ≡ Some (code, cs ++ rest) =
    ap escape_at (append_assoc f cs rest)
    ∙ escape_again f (cs ++ rest) code (escape_moved f cs (cs ++ rest) code (sym (same_digit quote cs rest us d)) h) (no_feed quote cs rest us q d) in
    ap (λ r. then_inside r (inside n quote)) (element_escape quote ((f ++ cs) ++ rest) code (cs ++ rest) q e)
    ∙ ap (with_units (units_of code)) (inside_again quote cs rest us q d n (omega (arith, length-append f cs)))

-- ---- texts

pub text_sound : (quote : ℕ) (cs : Characters) → is_quote quote ≡ true
    → OnRead (inside (length cs) quote cs) (λ units rest. Took (λ front. IsText front units) (quote ∷ cs) rest)
text_sound quote cs h =
    on_weaker (Inside_of quote cs) (λ units rest. Took (λ front. IsText front units) (quote ∷ cs) rest) (inside (length cs) quote cs)
    (λ units rest x. (quote ∷ x.0, (ap (λ y. quote ∷ y) x.1.0, (h, x.1.1)))) (inside_sound (length cs) quote cs)

pub text_best : (units : List ℕ) (quote : ℕ) (cs rest : Characters) → IsText (quote ∷ cs) units → Best (kind.Text units) rest (text_at quote (cs ++ rest))
text_best units quote cs rest h =
    best_same (kind.Text units) rest (text_at quote (cs ++ rest))
    (ap (read_map (λ units. kind.Text units)) (inside_again quote cs rest units h.0 h.1 (length (cs ++ rest)) (omega (arith, length-append cs rest))))

-- ---- more turns than characters give nothing more

element_length_by : (quote c : ℕ) (cs : Characters) (q b l : Bool)
    → OnRead (cond q (Some (element.Closes, cs)) (cond b (read_map (λ code. element.Gives code) (escape_at cs)) (cond l None (Some (element.Gives (Some c), cs))))) (λ e rest. length rest ≤ length cs)
element_length_by quote c cs true b l = omega arith
element_length_by quote c cs false true l =
    on_mapped (Escape_of cs) (λ e rest. length rest ≤ length cs) (λ code. element.Gives code) (escape_at cs) (λ code rest x. omega (arith, ap length x.1.0, length-append x.0 rest)) (escape_sound cs)
element_length_by quote c cs false false true = tt
element_length_by quote c cs false false false = omega arith

element_length : (quote c : ℕ) (cs : Characters) → OnRead (element_at quote (c ∷ cs)) (λ e rest. length rest ≤ length cs)
unfolding element_at
element_length quote c cs = element_length_by quote c cs (c == quote) (c == 92) (c == 10 || c == 13)

one_more_by : (n m quote : ℕ) → ((text : Characters) → length text ≤ m → inside (suc n) quote text ≡ inside n quote text) → (r : Read Element) → OnRead r (λ e rest. length rest ≤ m)
    → then_inside r (inside (suc n) quote) ≡ then_inside r (inside n quote)
one_more_by n m quote more None h = refl
one_more_by n m quote more (Some (element.Closes, rest)) h = refl
one_more_by n m quote more (Some (element.Gives code, rest)) h = ap (with_units (units_of code)) (more rest h)

one_more : (n quote : ℕ) (text : Characters) → length text ≤ n → inside (suc n) quote text ≡ inside n quote text
unfolding inside element_at
one_more zero quote [] le = refl
one_more zero quote (c ∷ cs) le = absurd (omega arith)
one_more (suc n) quote [] le = refl
one_more (suc n) quote (c ∷ cs) le =
    one_more_by n n quote (λ text l. one_more n quote text l) (element_at quote (c ∷ cs))
    (on_weaker (λ e rest. length rest ≤ length cs) (λ e rest. length rest ≤ n) (element_at quote (c ∷ cs)) (λ e rest l. omega arith) (element_length quote c cs))

more_turns : (k n quote : ℕ) (text : Characters) → n ≡ k + length text → inside n quote text ≡ inside (length text) quote text
more_turns zero n quote text e = let f : n ≡ length text = omega (arith, e) in ap (λ m. inside m quote text) f
more_turns (suc k) zero quote text e = absurd (omega (arith, e))
more_turns (suc k) (suc n) quote text e = one_more n quote text (omega (arith, e)) ∙ more_turns k n quote text (omega (arith, e))

pub inside_enough : (n quote : ℕ) (text : Characters) → length text ≤ n → inside n quote text ≡ inside (length text) quote text
inside_enough n quote text le = more_turns (n - length text) n quote text (omega arith)
