-- Punctuators.
use Rattle.std.proofs.Common.{◌≡◌, ℕ, ◌+◌, ◌≤◌, Bool, true, false, ◌||◌, ◌&&◌, ◌==◌, cond, leb, List, [], ◌∷◌, ◌++◌, length, take, drop, Option, Some, None, refl, ap, sym, ◌∙◌, arith, ◌⊎◌, inl, inr, length-append, take-append-drop}
use Rattle.std.specs.Prelude.{bytes_eq}
use Rattle.std.proofs.Math.Seq.{drop-append_seam}
use Rattle.std.proofs.lemmas.Bool.{eqb-true, eq-eqb, leb-true}
use Rattle.ob_lex.specs.declared.punctuator.Punctuator.{Punctuator}
use Rattle.ob_lex.specs.declared.punctuator.Punctuator.TheVariants as mark
use Rattle.ob_lex.specs.Words.{mark_spelling, marks_of}
use Rattle.ob_lex.specs.Characters.{Characters, is_white_space, is_line_end, is_digit, is_quote, begins}
use Rattle.ob_lex.specs.Pieces.{may_precede}
use Rattle.ob_lex.specs.Reading.{first_mark}
use Rattle.ob_lex.proofs.Classes.{both, class_of, closed_class}
use Rattle.ob_lex.proofs.Classes as classes
use Rattle.ob_lex.proofs.Tools.{OnRead, Took, Best, best_equal}

-- ---- words at the front of a text

begins_by : (w c : ℕ) (ws cs : Characters) (b : Bool) → (w == c) ≡ b → (begins ws cs ≡ true → take (length ws) cs ≡ ws) → (b && begins ws cs) ≡ true → c ∷ take (length ws) cs ≡ w ∷ ws
begins_by w c ws cs true e more g = let q : w ≡ c = eqb-true w c e in let r : take (length ws) cs ≡ ws = more g in cc
begins_by w c ws cs false e more g = cc

pub begins_take : (word text : Characters) → begins word text ≡ true → take (length word) text ≡ word
begins_take [] text h = refl
begins_take (w ∷ ws) [] h = cc
begins_take (w ∷ ws) (c ∷ cs) h = begins_by w c ws cs (w == c) refl (begins_take ws cs) h

pub begins_front : (word rest : Characters) → begins word (word ++ rest) ≡ true
begins_front [] rest = refl
begins_front (w ∷ ws) rest = ap (λ b. b && begins ws (ws ++ rest)) (eq-eqb w w refl) ∙ begins_front ws rest

-- a word at the front leaves no more than the text without it
begins_length : (word text : Characters) → begins word text ≡ true → length word + length (drop (length word) text) ≡ length text
begins_length word text h = omega (arith, length-append (take (length word) text) (drop (length word) text), ap length (begins_take word text h), ap length (take-append-drop (length word) text))

-- ---- what is read is a punctuator

abbrev Mark_of : Characters → Punctuator → Characters → Type 0
Mark_of text m rest = Took (λ front. (front ≡ mark_spelling m) × (may_precede m rest ≡ true)) text rest

mark_by : (ms : List Punctuator) (m : Punctuator) (text : Characters) → OnRead (first_mark ms text) (Mark_of text) → (b : Bool)
    → (begins (mark_spelling m) text && may_precede m (drop (length (mark_spelling m)) text)) ≡ b
    → OnRead (cond b (Some (m, drop (length (mark_spelling m)) text)) (first_mark ms text)) (Mark_of text)
mark_by ms m text more true e =
    let p = both (begins (mark_spelling m) text) (may_precede m (drop (length (mark_spelling m)) text)) e in
    (take (length (mark_spelling m)) text, (sym (take-append-drop (length (mark_spelling m)) text), (begins_take (mark_spelling m) text p.0, p.1)))
mark_by ms m text more false e = more

pub mark_sound : (ms : List Punctuator) (text : Characters) → OnRead (first_mark ms text) (Mark_of text)
mark_sound [] text = tt
mark_sound (m ∷ ms) text =
    mark_by ms m text (mark_sound ms text) (begins (mark_spelling m) text && may_precede m (drop (length (mark_spelling m)) text)) refl

-- ---- each punctuator is read, or a longer one

abbrev pub Among : Punctuator → List Punctuator → Type 0
Among m [] = ⊥
Among m (x ∷ xs) = (m ≡ x) ⊎ Among m xs

-- each is written with no more characters than those before it
abbrev falls : ℕ → List Punctuator → Bool
falls n [] = true
falls n (m ∷ ms) = leb (length (mark_spelling m)) n && falls (length (mark_spelling m)) ms

among_short : (m : Punctuator) (n : ℕ) (ms : List Punctuator) → falls n ms ≡ true → Among m ms → length (mark_spelling m) ≤ n
among_short m n [] f h = absurd h
among_short m n (x ∷ xs) f h =
    let p = both (leb (length (mark_spelling x)) n) (falls (length (mark_spelling x)) xs) f in
    let le = leb-true (length (mark_spelling x)) n p.0 in
    elim h [ inl e ↦ omega (arith, le, ap (λ y. length (mark_spelling y)) e) | inr k ↦ omega (arith, le, among_short m (length (mark_spelling x)) xs p.1 k) ]

-- two of one length at the front are one
same_front : (a b rest : Characters) → begins a (b ++ rest) ≡ true → length a ≡ length b → a ≡ b
same_front [] [] rest h e = refl
same_front [] (y ∷ ys) rest h e = absurd (omega arith)
same_front (x ∷ xs) [] rest h e = absurd (omega arith)
same_front (x ∷ xs) (y ∷ ys) rest h e =
    let p = both (x == y) (begins xs (ys ++ rest)) h in
    let q : x ≡ y = eqb-true x y p.0 in let r : xs ≡ ys = same_front xs ys rest p.1 (omega arith) in cc

-- each stands in the list of its first character, which falls
abbrev first_of : Characters → ℕ
first_of [] = 0
first_of (c ∷ cs) = c

listed : (m : Punctuator) → Among m (marks_of (first_of (mark_spelling m))) × (falls 4 (marks_of (first_of (mark_spelling m))) ≡ true)
unfolding mark_spelling marks_of
listed mark.OpenBrace = (inl refl, refl)
listed mark.CloseBrace = (inl refl, refl)
listed mark.OpenParenthesis = (inl refl, refl)
listed mark.CloseParenthesis = (inl refl, refl)
listed mark.OpenBracket = (inl refl, refl)
listed mark.CloseBracket = (inl refl, refl)
listed mark.Dot = (inr (inl refl), refl)
listed mark.Semicolon = (inl refl, refl)
listed mark.Comma = (inl refl, refl)
listed mark.Less = (inr (inr (inr (inl refl))), refl)
listed mark.Greater = (inr (inr (inr (inr (inr (inl refl))))), refl)
listed mark.LessEqual = (inr (inl refl), refl)
listed mark.GreaterEqual = (inr (inr (inr (inl refl))), refl)
listed mark.Equal = (inr (inl refl), refl)
listed mark.NotEqual = (inr (inl refl), refl)
listed mark.Same = (inl refl, refl)
listed mark.NotSame = (inl refl, refl)
listed mark.Plus = (inr (inr (inl refl)), refl)
listed mark.Minus = (inr (inr (inl refl)), refl)
listed mark.Star = (inr (inr (inr (inl refl))), refl)
listed mark.Slash = (inr (inl refl), refl)
listed mark.Percent = (inr (inl refl), refl)
listed mark.StarStar = (inr (inl refl), refl)
listed mark.PlusPlus = (inl refl, refl)
listed mark.MinusMinus = (inl refl, refl)
listed mark.ShiftLeft = (inr (inr (inl refl)), refl)
listed mark.ShiftRight = (inr (inr (inr (inr (inl refl)))), refl)
listed mark.ShiftRightUnsigned = (inr (inl refl), refl)
listed mark.Ampersand = (inr (inr (inr (inl refl))), refl)
listed mark.Bar = (inr (inr (inr (inl refl))), refl)
listed mark.Caret = (inr (inl refl), refl)
listed mark.Not = (inr (inr (inl refl)), refl)
listed mark.Tilde = (inl refl, refl)
listed mark.And = (inr (inl refl), refl)
listed mark.Or = (inr (inl refl), refl)
listed mark.Coalesce = (inr (inl refl), refl)
listed mark.Question = (inr (inr (inr (inl refl))), refl)
listed mark.QuestionDot = (inr (inr (inl refl)), refl)
listed mark.Colon = (inl refl, refl)
listed mark.Assign = (inr (inr (inr (inl refl))), refl)
listed mark.PlusAssign = (inr (inl refl), refl)
listed mark.MinusAssign = (inr (inl refl), refl)
listed mark.StarAssign = (inr (inr (inl refl)), refl)
listed mark.SlashAssign = (inl refl, refl)
listed mark.PercentAssign = (inl refl, refl)
listed mark.StarStarAssign = (inl refl, refl)
listed mark.ShiftLeftAssign = (inl refl, refl)
listed mark.ShiftRightAssign = (inr (inr (inl refl)), refl)
listed mark.ShiftRightUnsignedAssign = (inl refl, refl)
listed mark.AmpersandAssign = (inr (inr (inl refl)), refl)
listed mark.BarAssign = (inr (inr (inl refl)), refl)
listed mark.CaretAssign = (inl refl, refl)
listed mark.AndAssign = (inl refl, refl)
listed mark.OrAssign = (inl refl, refl)
listed mark.CoalesceAssign = (inl refl, refl)
listed mark.Arrow = (inr (inr (inl refl)), refl)
listed mark.Ellipsis = (inl refl, refl)

best_by : (ms : List Punctuator) (n : ℕ) (x m : Punctuator) (rest : Characters) → falls n (x ∷ ms) ≡ true → Among m (x ∷ ms) → may_precede m rest ≡ true
    → ((k : Punctuator) → mark_spelling k ≡ mark_spelling m → k ≡ m)
    → (falls (length (mark_spelling x)) ms ≡ true → Among m ms → Best m rest (first_mark ms (mark_spelling m ++ rest))) → (b : Bool)
    → (begins (mark_spelling x) (mark_spelling m ++ rest) && may_precede x (drop (length (mark_spelling x)) (mark_spelling m ++ rest))) ≡ b
    → Best m rest (cond b (Some (x, drop (length (mark_spelling x)) (mark_spelling m ++ rest))) (first_mark ms (mark_spelling m ++ rest)))
best_by ms n x m rest f h free one more true e =
    let p = both (begins (mark_spelling x) (mark_spelling m ++ rest)) (may_precede x (drop (length (mark_spelling x)) (mark_spelling m ++ rest))) e in
    let q = both (leb (length (mark_spelling x)) n) (falls (length (mark_spelling x)) ms) f in
    let le : length (mark_spelling m) ≤ length (mark_spelling x) =
    elim h [ inl k ↦ omega (arith, ap (λ y. length (mark_spelling y)) k) | inr k ↦ among_short m (length (mark_spelling x)) ms q.1 k ] in
    let l = begins_length (mark_spelling x) (mark_spelling m ++ rest) p.0 in (
      omega (arith, l, le, length-append (mark_spelling m) rest),
      λ e. one x (same_front (mark_spelling x) (mark_spelling m) rest p.0 (omega (arith, l, le, length-append (mark_spelling m) rest, e))),
    )
best_by ms n x m rest f (inl k) free one more false e =
    let t : (begins (mark_spelling m) (mark_spelling m ++ rest) && may_precede m (drop (length (mark_spelling m)) (mark_spelling m ++ rest))) ≡ true =
    ap (λ b. b && may_precede m (drop (length (mark_spelling m)) (mark_spelling m ++ rest))) (begins_front (mark_spelling m) rest)
    ∙ ap (may_precede m) (drop-append_seam (mark_spelling m) rest) ∙ free in
    let u = ap (λ y. begins (mark_spelling y) (mark_spelling m ++ rest) && may_precede y (drop (length (mark_spelling y)) (mark_spelling m ++ rest))) k in
    absurd (let z : true ≡ false = sym t ∙ u ∙ e in cc)
best_by ms n x m rest f (inr k) free one more false e =
    let q = both (leb (length (mark_spelling x)) n) (falls (length (mark_spelling x)) ms) f in more q.1 k

best_from : (ms : List Punctuator) (n : ℕ) (m : Punctuator) (rest : Characters) → falls n ms ≡ true → Among m ms → may_precede m rest ≡ true
    → ((k : Punctuator) → mark_spelling k ≡ mark_spelling m → k ≡ m) → Best m rest (first_mark ms (mark_spelling m ++ rest))
best_from [] n m rest f h free one = absurd h
best_from (x ∷ ms) n m rest f h free one =
    best_by ms n x m rest f h free one (λ g k. best_from ms (length (mark_spelling x)) m rest g k free one)
    (begins (mark_spelling x) (mark_spelling m ++ rest) && may_precede x (drop (length (mark_spelling x)) (mark_spelling m ++ rest))) refl

-- ---- punctuators that are written alike are one

abbrev find_mark : List Punctuator → Characters → Option Punctuator
find_mark [] text = None
find_mark (m ∷ ms) text = cond (bytes_eq (mark_spelling m) text) (Some m) (find_mark ms text)

abbrev every_mark : List Punctuator
every_mark = mark.OpenBrace ∷ mark.CloseBrace ∷ mark.OpenParenthesis ∷ mark.CloseParenthesis ∷ mark.OpenBracket ∷ mark.CloseBracket ∷ mark.Dot ∷ mark.Semicolon ∷ mark.Comma ∷ mark.Less ∷ mark.Greater ∷ mark.LessEqual ∷ mark.GreaterEqual ∷ mark.Equal ∷ mark.NotEqual ∷ mark.Same ∷ mark.NotSame ∷ mark.Plus ∷ mark.Minus ∷ mark.Star ∷ mark.Slash ∷ mark.Percent ∷ mark.StarStar ∷ mark.PlusPlus ∷ mark.MinusMinus ∷ mark.ShiftLeft ∷ mark.ShiftRight ∷ mark.ShiftRightUnsigned ∷ mark.Ampersand ∷ mark.Bar ∷ mark.Caret ∷ mark.Not ∷ mark.Tilde ∷ mark.And ∷ mark.Or ∷ mark.Coalesce ∷ mark.Question ∷ mark.QuestionDot ∷ mark.Colon ∷ mark.Assign ∷ mark.PlusAssign ∷ mark.MinusAssign ∷ mark.StarAssign ∷ mark.SlashAssign ∷ mark.PercentAssign ∷ mark.StarStarAssign ∷ mark.ShiftLeftAssign ∷ mark.ShiftRightAssign ∷ mark.ShiftRightUnsignedAssign ∷ mark.AmpersandAssign ∷ mark.BarAssign ∷ mark.CaretAssign ∷ mark.AndAssign ∷ mark.OrAssign ∷ mark.CoalesceAssign ∷ mark.Arrow ∷ mark.Ellipsis ∷ []

mark_found : (m : Punctuator) → find_mark every_mark (mark_spelling m) ≡ Some m
unfolding mark_spelling
mark_found mark.OpenBrace = refl
mark_found mark.CloseBrace = refl
mark_found mark.OpenParenthesis = refl
mark_found mark.CloseParenthesis = refl
mark_found mark.OpenBracket = refl
mark_found mark.CloseBracket = refl
mark_found mark.Dot = refl
mark_found mark.Semicolon = refl
mark_found mark.Comma = refl
mark_found mark.Less = refl
mark_found mark.Greater = refl
mark_found mark.LessEqual = refl
mark_found mark.GreaterEqual = refl
mark_found mark.Equal = refl
mark_found mark.NotEqual = refl
mark_found mark.Same = refl
mark_found mark.NotSame = refl
mark_found mark.Plus = refl
mark_found mark.Minus = refl
mark_found mark.Star = refl
mark_found mark.Slash = refl
mark_found mark.Percent = refl
mark_found mark.StarStar = refl
mark_found mark.PlusPlus = refl
mark_found mark.MinusMinus = refl
mark_found mark.ShiftLeft = refl
mark_found mark.ShiftRight = refl
mark_found mark.ShiftRightUnsigned = refl
mark_found mark.Ampersand = refl
mark_found mark.Bar = refl
mark_found mark.Caret = refl
mark_found mark.Not = refl
mark_found mark.Tilde = refl
mark_found mark.And = refl
mark_found mark.Or = refl
mark_found mark.Coalesce = refl
mark_found mark.Question = refl
mark_found mark.QuestionDot = refl
mark_found mark.Colon = refl
mark_found mark.Assign = refl
mark_found mark.PlusAssign = refl
mark_found mark.MinusAssign = refl
mark_found mark.StarAssign = refl
mark_found mark.SlashAssign = refl
mark_found mark.PercentAssign = refl
mark_found mark.StarStarAssign = refl
mark_found mark.ShiftLeftAssign = refl
mark_found mark.ShiftRightAssign = refl
mark_found mark.ShiftRightUnsignedAssign = refl
mark_found mark.AmpersandAssign = refl
mark_found mark.BarAssign = refl
mark_found mark.CaretAssign = refl
mark_found mark.AndAssign = refl
mark_found mark.OrAssign = refl
mark_found mark.CoalesceAssign = refl
mark_found mark.Arrow = refl
mark_found mark.Ellipsis = refl

one_spelling : (k m : Punctuator) → mark_spelling k ≡ mark_spelling m → k ≡ m
one_spelling k m e =
    let a = mark_found k in let b = mark_found m in
    let c : find_mark every_mark (mark_spelling k) ≡ find_mark every_mark (mark_spelling m) = ap (find_mark every_mark) e in
    let d : Some k ≡ Some m = sym a ∙ c ∙ b in cc

pub mark_best : (m : Punctuator) (c : ℕ) (cs rest : Characters) → c ∷ cs ≡ mark_spelling m → may_precede m rest ≡ true → Best m rest (first_mark (marks_of c) (c ∷ cs ++ rest))
mark_best m c cs rest e free =
    let l = listed m in
    let k : first_of (mark_spelling m) ≡ c = ap first_of (sym e) in
    best_equal m rest (first_mark (marks_of c) (c ∷ cs ++ rest)) (first_mark (marks_of (first_of (mark_spelling m))) (mark_spelling m ++ rest))
    (ap (λ x. first_mark (marks_of x) (c ∷ cs ++ rest)) (sym k) ∙ ap (λ x. first_mark (marks_of (first_of (mark_spelling m))) (x ++ rest)) e)
    (best_from (marks_of (first_of (mark_spelling m))) 4 m rest l.1 l.0 free (λ k. one_spelling k m))

-- ---- the first character of each

abbrev is_mark_class : ℕ → Type 0
is_mark_class c = class_of c ≡ classes.mark

first_class : (m : Punctuator) → is_mark_class (first_of (mark_spelling m))
unfolding mark_spelling is_white_space is_line_end is_digit is_quote
first_class mark.OpenBrace = closed_class 123 classes.mark (omega arith) refl refl
first_class mark.CloseBrace = closed_class 125 classes.mark (omega arith) refl refl
first_class mark.OpenParenthesis = closed_class 40 classes.mark (omega arith) refl refl
first_class mark.CloseParenthesis = closed_class 41 classes.mark (omega arith) refl refl
first_class mark.OpenBracket = closed_class 91 classes.mark (omega arith) refl refl
first_class mark.CloseBracket = closed_class 93 classes.mark (omega arith) refl refl
first_class mark.Dot = closed_class 46 classes.mark (omega arith) refl refl
first_class mark.Semicolon = closed_class 59 classes.mark (omega arith) refl refl
first_class mark.Comma = closed_class 44 classes.mark (omega arith) refl refl
first_class mark.Less = closed_class 60 classes.mark (omega arith) refl refl
first_class mark.Greater = closed_class 62 classes.mark (omega arith) refl refl
first_class mark.LessEqual = closed_class 60 classes.mark (omega arith) refl refl
first_class mark.GreaterEqual = closed_class 62 classes.mark (omega arith) refl refl
first_class mark.Equal = closed_class 61 classes.mark (omega arith) refl refl
first_class mark.NotEqual = closed_class 33 classes.mark (omega arith) refl refl
first_class mark.Same = closed_class 61 classes.mark (omega arith) refl refl
first_class mark.NotSame = closed_class 33 classes.mark (omega arith) refl refl
first_class mark.Plus = closed_class 43 classes.mark (omega arith) refl refl
first_class mark.Minus = closed_class 45 classes.mark (omega arith) refl refl
first_class mark.Star = closed_class 42 classes.mark (omega arith) refl refl
first_class mark.Slash = closed_class 47 classes.mark (omega arith) refl refl
first_class mark.Percent = closed_class 37 classes.mark (omega arith) refl refl
first_class mark.StarStar = closed_class 42 classes.mark (omega arith) refl refl
first_class mark.PlusPlus = closed_class 43 classes.mark (omega arith) refl refl
first_class mark.MinusMinus = closed_class 45 classes.mark (omega arith) refl refl
first_class mark.ShiftLeft = closed_class 60 classes.mark (omega arith) refl refl
first_class mark.ShiftRight = closed_class 62 classes.mark (omega arith) refl refl
first_class mark.ShiftRightUnsigned = closed_class 62 classes.mark (omega arith) refl refl
first_class mark.Ampersand = closed_class 38 classes.mark (omega arith) refl refl
first_class mark.Bar = closed_class 124 classes.mark (omega arith) refl refl
first_class mark.Caret = closed_class 94 classes.mark (omega arith) refl refl
first_class mark.Not = closed_class 33 classes.mark (omega arith) refl refl
first_class mark.Tilde = closed_class 126 classes.mark (omega arith) refl refl
first_class mark.And = closed_class 38 classes.mark (omega arith) refl refl
first_class mark.Or = closed_class 124 classes.mark (omega arith) refl refl
first_class mark.Coalesce = closed_class 63 classes.mark (omega arith) refl refl
first_class mark.Question = closed_class 63 classes.mark (omega arith) refl refl
first_class mark.QuestionDot = closed_class 63 classes.mark (omega arith) refl refl
first_class mark.Colon = closed_class 58 classes.mark (omega arith) refl refl
first_class mark.Assign = closed_class 61 classes.mark (omega arith) refl refl
first_class mark.PlusAssign = closed_class 43 classes.mark (omega arith) refl refl
first_class mark.MinusAssign = closed_class 45 classes.mark (omega arith) refl refl
first_class mark.StarAssign = closed_class 42 classes.mark (omega arith) refl refl
first_class mark.SlashAssign = closed_class 47 classes.mark (omega arith) refl refl
first_class mark.PercentAssign = closed_class 37 classes.mark (omega arith) refl refl
first_class mark.StarStarAssign = closed_class 42 classes.mark (omega arith) refl refl
first_class mark.ShiftLeftAssign = closed_class 60 classes.mark (omega arith) refl refl
first_class mark.ShiftRightAssign = closed_class 62 classes.mark (omega arith) refl refl
first_class mark.ShiftRightUnsignedAssign = closed_class 62 classes.mark (omega arith) refl refl
first_class mark.AmpersandAssign = closed_class 38 classes.mark (omega arith) refl refl
first_class mark.BarAssign = closed_class 124 classes.mark (omega arith) refl refl
first_class mark.CaretAssign = closed_class 94 classes.mark (omega arith) refl refl
first_class mark.AndAssign = closed_class 38 classes.mark (omega arith) refl refl
first_class mark.OrAssign = closed_class 124 classes.mark (omega arith) refl refl
first_class mark.CoalesceAssign = closed_class 63 classes.mark (omega arith) refl refl
first_class mark.Arrow = closed_class 61 classes.mark (omega arith) refl refl
first_class mark.Ellipsis = closed_class 46 classes.mark (omega arith) refl refl

pub mark_first : (m : Punctuator) (c : ℕ) (cs : Characters) → c ∷ cs ≡ mark_spelling m → class_of c ≡ classes.mark
mark_first m c cs e = ap class_of (ap first_of e) ∙ first_class m

pub slash_first : class_of 47 ≡ classes.mark
unfolding is_white_space is_line_end is_digit is_quote
slash_first = closed_class 47 classes.mark (omega arith) refl refl

-- ---- punctuators and comments

abbrev pub starts_comment : Characters → Bool
starts_comment [] = false
starts_comment (a ∷ []) = false
starts_comment (a ∷ b ∷ cs) = a == 47 && (b == 47 || b == 42)

pub mark_no_comment : (m : Punctuator) → starts_comment (mark_spelling m) ≡ false
unfolding mark_spelling
mark_no_comment mark.OpenBrace = refl
mark_no_comment mark.CloseBrace = refl
mark_no_comment mark.OpenParenthesis = refl
mark_no_comment mark.CloseParenthesis = refl
mark_no_comment mark.OpenBracket = refl
mark_no_comment mark.CloseBracket = refl
mark_no_comment mark.Dot = refl
mark_no_comment mark.Semicolon = refl
mark_no_comment mark.Comma = refl
mark_no_comment mark.Less = refl
mark_no_comment mark.Greater = refl
mark_no_comment mark.LessEqual = refl
mark_no_comment mark.GreaterEqual = refl
mark_no_comment mark.Equal = refl
mark_no_comment mark.NotEqual = refl
mark_no_comment mark.Same = refl
mark_no_comment mark.NotSame = refl
mark_no_comment mark.Plus = refl
mark_no_comment mark.Minus = refl
mark_no_comment mark.Star = refl
mark_no_comment mark.Slash = refl
mark_no_comment mark.Percent = refl
mark_no_comment mark.StarStar = refl
mark_no_comment mark.PlusPlus = refl
mark_no_comment mark.MinusMinus = refl
mark_no_comment mark.ShiftLeft = refl
mark_no_comment mark.ShiftRight = refl
mark_no_comment mark.ShiftRightUnsigned = refl
mark_no_comment mark.Ampersand = refl
mark_no_comment mark.Bar = refl
mark_no_comment mark.Caret = refl
mark_no_comment mark.Not = refl
mark_no_comment mark.Tilde = refl
mark_no_comment mark.And = refl
mark_no_comment mark.Or = refl
mark_no_comment mark.Coalesce = refl
mark_no_comment mark.Question = refl
mark_no_comment mark.QuestionDot = refl
mark_no_comment mark.Colon = refl
mark_no_comment mark.Assign = refl
mark_no_comment mark.PlusAssign = refl
mark_no_comment mark.MinusAssign = refl
mark_no_comment mark.StarAssign = refl
mark_no_comment mark.SlashAssign = refl
mark_no_comment mark.PercentAssign = refl
mark_no_comment mark.StarStarAssign = refl
mark_no_comment mark.ShiftLeftAssign = refl
mark_no_comment mark.ShiftRightAssign = refl
mark_no_comment mark.ShiftRightUnsignedAssign = refl
mark_no_comment mark.AmpersandAssign = refl
mark_no_comment mark.BarAssign = refl
mark_no_comment mark.CaretAssign = refl
mark_no_comment mark.AndAssign = refl
mark_no_comment mark.OrAssign = refl
mark_no_comment mark.CoalesceAssign = refl
mark_no_comment mark.Arrow = refl
mark_no_comment mark.Ellipsis = refl

abbrev is_some_text : Characters → Bool
is_some_text [] = false
is_some_text (c ∷ cs) = true

mark_some : (m : Punctuator) → is_some_text (mark_spelling m) ≡ true
unfolding mark_spelling
mark_some mark.OpenBrace = refl
mark_some mark.CloseBrace = refl
mark_some mark.OpenParenthesis = refl
mark_some mark.CloseParenthesis = refl
mark_some mark.OpenBracket = refl
mark_some mark.CloseBracket = refl
mark_some mark.Dot = refl
mark_some mark.Semicolon = refl
mark_some mark.Comma = refl
mark_some mark.Less = refl
mark_some mark.Greater = refl
mark_some mark.LessEqual = refl
mark_some mark.GreaterEqual = refl
mark_some mark.Equal = refl
mark_some mark.NotEqual = refl
mark_some mark.Same = refl
mark_some mark.NotSame = refl
mark_some mark.Plus = refl
mark_some mark.Minus = refl
mark_some mark.Star = refl
mark_some mark.Slash = refl
mark_some mark.Percent = refl
mark_some mark.StarStar = refl
mark_some mark.PlusPlus = refl
mark_some mark.MinusMinus = refl
mark_some mark.ShiftLeft = refl
mark_some mark.ShiftRight = refl
mark_some mark.ShiftRightUnsigned = refl
mark_some mark.Ampersand = refl
mark_some mark.Bar = refl
mark_some mark.Caret = refl
mark_some mark.Not = refl
mark_some mark.Tilde = refl
mark_some mark.And = refl
mark_some mark.Or = refl
mark_some mark.Coalesce = refl
mark_some mark.Question = refl
mark_some mark.QuestionDot = refl
mark_some mark.Colon = refl
mark_some mark.Assign = refl
mark_some mark.PlusAssign = refl
mark_some mark.MinusAssign = refl
mark_some mark.StarAssign = refl
mark_some mark.SlashAssign = refl
mark_some mark.PercentAssign = refl
mark_some mark.StarStarAssign = refl
mark_some mark.ShiftLeftAssign = refl
mark_some mark.ShiftRightAssign = refl
mark_some mark.ShiftRightUnsignedAssign = refl
mark_some mark.AmpersandAssign = refl
mark_some mark.BarAssign = refl
mark_some mark.CaretAssign = refl
mark_some mark.AndAssign = refl
mark_some mark.OrAssign = refl
mark_some mark.CoalesceAssign = refl
mark_some mark.Arrow = refl
mark_some mark.Ellipsis = refl

pub mark_no_empty : (m : Punctuator) → [] ≡ mark_spelling m → ⊥
mark_no_empty m e = let a : is_some_text [] ≡ is_some_text (mark_spelling m) = ap is_some_text e in let b : false ≡ true = a ∙ mark_some m in cc
