-- A printed token is the piece at the front of its own text, before a space or the end.
use Rattle.std.proofs.Common.{◌≡◌, ℕ, suc, pos, ◌+◌, ◌*◌, ◌/◌, ◌%◌, ◌<◌, ◌≤◌, Bool, true, false, not, ◌&&◌, ◌||◌, ◌==◌, leb, cond, [], ◌∷◌, ◌++◌, length, take, drop, Option, Some, None, refl, ap, sym, subst, ◌∙◌, arith}
use Rattle.std.specs.Prelude.{encode_utf8_all}
use Rattle.std.specs.Fmt.{decimal}
use Rattle.std.specs.Char.{digit_value}
use Rattle.std.specs.Str.{IsAscii}
use Rattle.std.proofs.Math.Utf8.{scalars}
use Rattle.std.proofs.Math.Seq.{take-append_seam, drop-append_seam}
use Rattle.std.proofs.lemmas.Bool.Decides.{nat_tests}
use Rattle.std.proofs.lemmas.Fmt.{decimal_by_steps, IsAscii-decimal}
use Rattle.std.proofs.lemmas.Str.{encode_ascii}
use Rattle.unicode_ident.proofs.IdentLemmas.{is_xid_continue-ascii}
use Rattle.ob_base.specs.declared.reserved.ReservedWord.{ReservedWord}
use Rattle.ob_base.specs.Integers.{greatest}
use Rattle.ob_base.specs.Reserved.{reserved_word}
use Rattle.ob_lex.specs.declared.token.TokenKind.{TokenKind}
use Rattle.ob_lex.specs.declared.token.TokenKind.TheVariants as kind
use Rattle.ob_lex.specs.declared.piece.Piece.TheVariants as piece
use Rattle.ob_lex.specs.Characters.{Characters, continues_name, is_digit, base_of, ends_number}
use Rattle.ob_lex.specs.Pieces.{Each, IsWord}
use Rattle.ob_lex.specs.Reading.{Read, read_map, run, word_kind, word_at, digits_next, begins_digit, digits_from, number_digits, after_zero, ended, number_at, piece_at}
use Rattle.ob_lex.proofs.Classes.{word, number, word_first, number_first}
use Rattle.ob_lex.proofs.Front.{at_class}
use Rattle.ob_lex.proofs.Words.{reserved_encoded}
use Rattle.ob_print_law.proofs.Words.{and_true, small_scalar}
use Rattle.ob_print_law.proofs.Placed.{kind_by}

-- the end of the text, or a space
abbrev pub Free : Characters → Type 0
Free [] = Unit {0}
Free (c ∷ cs) = c ≡ 32

-- these characters are cut off as a token of that kind
abbrev pub IsCut : Characters → TokenKind → Type 0
IsCut cs k = (rest : Characters) → Free rest → piece_at (cs ++ rest) ≡ Some (piece.Token k, rest)

-- ---- words

space_ends : continues_name 32 ≡ false
unfolding continues_name
space_ends = ap (λ b. 32 == 36 || b) (is_xid_continue-ascii 32 (omega arith))

run_exact : (cs rest : Characters) → Each continues_name cs → Free rest → run continues_name (cs ++ rest) ≡ length cs
run_exact [] [] h f = refl
run_exact [] (r ∷ rest) h f = ap (λ b. cond b (suc (run continues_name rest)) 0) (ap continues_name f ∙ space_ends)
run_exact (c ∷ cs) rest h f = ap (λ b. cond b (suc (run continues_name (cs ++ rest))) 0) h.0 ∙ ap suc (run_exact cs rest h.1 f)

kind_same : (front : Characters) (o : Option ReservedWord) → word_kind front o ≡ kind_by (encode_utf8_all front) o
kind_same front None = refl
kind_same front (Some w) = refl

word_at_seam : (c : ℕ) (cs rest : Characters) → word_at (suc (length cs)) (c ∷ cs ++ rest) ≡ Some (kind_by (encode_utf8_all (c ∷ cs)) (reserved_word (encode_utf8_all (c ∷ cs))), rest)
unfolding word_at
word_at_seam c cs rest =
    let t : take (length cs) (cs ++ rest) ≡ cs = take-append_seam cs rest in
    let d : drop (length cs) (cs ++ rest) ≡ rest = drop-append_seam cs rest in
    ap (λ x. Some (word_kind (c ∷ x) (reserved_word (c ∷ x)), drop (length cs) (cs ++ rest))) t
    ∙ ap (λ x. Some (word_kind (c ∷ cs) (reserved_word (c ∷ cs)), x)) d
    ∙ ap (λ (x : TokenKind). Some (x, rest)) (kind_same (c ∷ cs) (reserved_word (c ∷ cs)) ∙ ap (kind_by (encode_utf8_all (c ∷ cs))) (sym (reserved_encoded (c ∷ cs))))

pub word_cut : (cs : Characters) → IsWord cs → IsCut cs (kind_by (encode_utf8_all cs) (reserved_word (encode_utf8_all cs)))
word_cut [] h rest f = absurd h
word_cut (c ∷ cs) h rest f =
    at_class c (cs ++ rest) word (word_first c h.0)
    ∙ ap (λ n. read_map (λ k. piece.Token k) (word_at (suc n) (c ∷ cs ++ rest))) (run_exact cs rest h.1 f)
    ∙ ap (read_map (λ k. piece.Token k)) (word_at_seam c cs rest)

-- ---- numbers

abbrev value_after : ℕ → Characters → ℕ
value_after v [] = v
value_after v (d ∷ ds) = value_after (v * 10 + digit_value d) ds

value_append : (v : ℕ) (ds : Characters) (d : ℕ) → value_after v (ds ++ d ∷ []) ≡ value_after v ds * 10 + digit_value d
value_append v [] d = refl
value_append v (e ∷ ds) d = value_append (v * 10 + digit_value e) ds d

each_append : (ds : Characters) (d : ℕ) → Each (is_digit 10) ds → is_digit 10 d ≡ true → Each (is_digit 10) (ds ++ d ∷ [])
each_append [] d h k = (k, tt)
each_append (e ∷ ds) d h k = (h.0, each_append ds d h.1 k)

grows : (v : ℕ) (ds : Characters) → v ≤ value_after v ds
grows v [] = omega arith
grows v (d ∷ ds) = omega (arith, grows (v * 10 + digit_value d) ds)

-- the digits of a number
record Decimal (n : ℕ) (text : Characters) : Type 0 where
  first : ℕ
  others : Characters
  are : text ≡ first ∷ others
  begins : is_digit 10 first ≡ true
  goes_on : Each (is_digit 10) others
  value : value_after (digit_value first) others ≡ n
  no_zero : 0 < n → (first == 48) ≡ false
  zero : n ≡ 0 → text ≡ 48 ∷ []

digit_is : (d : ℕ) → d < 10 → is_digit 10 (48 + d) ≡ true
unfolding is_digit
digit_is d h = grind (arith, nat_tests)

digit_worth : (d : ℕ) → d < 10 → digit_value (48 + d) ≡ d
digit_worth d h = grind (arith, nat_tests)

one_digit : (n : ℕ) → n < 10 → Decimal n ((48 + n) ∷ [])
one_digit n h = record {
  first = 48 + n;
  others = [];
  are = refl;
  begins = digit_is n h;
  goes_on = tt;
  value = digit_worth n h;
  no_zero = λ p. grind (arith, nat_tests);
  zero = λ e. ap (λ d. (48 + d) ∷ []) e;
}

one_more : (n : ℕ) (ds : Characters) → 10 ≤ n → Decimal (n / 10) ds → Decimal n (ds ++ ((48 + n % 10) ∷ []))
one_more n ds le d =
    let last = 48 + n % 10 in
    let lt : n % 10 < 10 = omega arith in
    record {
      first = d.first;
      others = d.others ++ last ∷ [];
      are = ap (λ l. l ++ last ∷ []) d.are;
      begins = d.begins;
      goes_on = each_append d.others last d.goes_on (digit_is (n % 10) lt);
      value = let e = value_append (digit_value d.first) d.others last in let w = digit_worth (n % 10) lt in let q = d.value in omega (arith, e, w, q);
      no_zero = λ p. d.no_zero (omega arith);
      zero = λ e. absurd (omega (arith, e));
    }

decimal_is : (n : ℕ) → n ≤ greatest → Decimal n (decimal n)
decimal_is n h = decimal_by_steps (λ n ds. Decimal n ds) one_digit one_more n (omega arith)

within : (k : ℕ) → k ≤ greatest → leb k greatest ≡ true
within k h = grind (arith, nat_tests)

take_digit : (v d m : ℕ) (text rest : Characters) → is_digit 10 d ≡ true → v * 10 + digit_value d ≤ greatest → digits_from 10 (v * 10 + digit_value d) text ≡ Some (m, rest)
    → digits_from 10 v (d ∷ text) ≡ Some (m, rest)
take_digit v d m text rest h w more =
    ap (λ b. cond b (digits_next 10 v d text (λ m. digits_from 10 m text)) (cond (d == 95 && begins_digit 10 text) (digits_from 10 v text) (Some (v, d ∷ text)))) h
    ∙ ap (λ b. cond b (digits_from 10 (v * 10 + digit_value d) text) None) (within (v * 10 + digit_value d) w) ∙ more

stops_by : (v r : ℕ) (rest : Characters) → r ≡ 32 → digits_from 10 v (r ∷ rest) ≡ Some (v, r ∷ rest)
unfolding is_digit
stops_by v r rest e = subst (λ r. digits_from 10 v (r ∷ rest) ≡ Some (v, r ∷ rest)) (sym e) refl

digits_read : (v : ℕ) (ds rest : Characters) → Each (is_digit 10) ds → value_after v ds ≤ greatest → Free rest → digits_from 10 v (ds ++ rest) ≡ Some (value_after v ds, rest)
digits_read v [] [] h w f = refl
digits_read v [] (r ∷ rest) h w f = stops_by v r rest f
digits_read v (d ∷ ds) rest h w f =
    take_digit v d (value_after (v * 10 + digit_value d) ds) (ds ++ rest) rest h.0 (omega (arith, grows (v * 10 + digit_value d) ds, w)) (digits_read (v * 10 + digit_value d) ds rest h.1 w f)

free_ends : (rest : Characters) → Free rest → ends_number rest ≡ true
free_ends [] f = refl
free_ends (r ∷ rest) f = ap (λ c. not (continues_name c || c == 46)) f ∙ ap (λ b. not (b || 32 == 46)) space_ends

zero_alone : (rest : Characters) → Free rest → after_zero rest ≡ Some (0, rest)
unfolding base_of
zero_alone [] f = refl
zero_alone (r ∷ rest) f = subst (λ r. after_zero (r ∷ rest) ≡ Some (0, r ∷ rest)) (sym f) refl

ended_at : (n : ℕ) (rest : Characters) (r : Read ℕ) → r ≡ Some (n, rest) → Free rest → ended r ≡ Some (kind.Number (pos n), rest)
ended_at n rest r e f = ap ended e ∙ ap (λ b. cond b (Some (kind.Number (pos n), rest)) None) (free_ends rest f)

number_read : (n c : ℕ) (cs rest : Characters) → 0 < n → n ≤ greatest → (c == 48) ≡ false → is_digit 10 c ≡ true → Each (is_digit 10) cs → value_after (digit_value c) cs ≡ n → Free rest
    → number_at c (cs ++ rest) ≡ Some (kind.Number (pos n), rest)
unfolding number_at
number_read n c cs rest p w z b h v f =
    ended_at n rest (cond (c == 48) (after_zero (cs ++ rest)) (number_digits 10 c (cs ++ rest)))
    (ap (λ b. cond b (after_zero (cs ++ rest)) (number_digits 10 c (cs ++ rest))) z ∙ ap (λ b. cond b (digits_from 10 (digit_value c) (cs ++ rest)) None) b
    ∙ digits_read (digit_value c) cs rest h (omega (arith, v)) f ∙ ap (λ m. Some (m, rest)) v) f

zero_read : (rest : Characters) → Free rest → number_at 48 rest ≡ Some (kind.Number (pos 0), rest)
unfolding number_at
zero_read rest f = ended_at 0 rest (after_zero rest) (zero_alone rest f) f

number_piece : (n c : ℕ) (cs rest : Characters) → is_digit 10 c ≡ true → number_at c (cs ++ rest) ≡ Some (kind.Number (pos n), rest) → piece_at (c ∷ cs ++ rest) ≡ Some (piece.Token (kind.Number (pos n)), rest)
number_piece n c cs rest h e = at_class c (cs ++ rest) number (number_first c h) ∙ ap (read_map (λ k. piece.Token k)) e

digit_48 : is_digit 10 48 ≡ true
unfolding is_digit
digit_48 = refl

number_by : (n : ℕ) (text : Characters) → n ≤ greatest → Decimal n text → (b : Bool) → (n == 0) ≡ b → IsCut text (kind.Number (pos n))
number_by n text w d true e rest f =
    let z : n ≡ 0 = grind (arith, nat_tests) in
    ap (λ l. piece_at (l ++ rest)) (d.zero z) ∙ number_piece 0 48 [] rest digit_48 (zero_read rest f) ∙ ap (λ m. Some (piece.Token (kind.Number (pos m)), rest)) (sym z)
number_by n text w d false e rest f =
    let p : 0 < n = grind (arith, nat_tests) in
    ap (λ l. piece_at (l ++ rest)) d.are ∙ number_piece n d.first d.others rest d.begins (number_read n d.first d.others rest p w (d.no_zero p) d.begins d.goes_on d.value f)

pub number_cut : (n : ℕ) → n ≤ greatest → IsCut (decimal n) (kind.Number (pos n))
number_cut n w = number_by n (decimal n) w (decimal_is n w) (n == 0) refl

-- ---- characters of ASCII are their own bytes

abbrev pub Itself : Characters → Type 0
Itself cs = (scalars cs ≡ true) × (encode_utf8_all cs ≡ cs)

pub ascii_itself : (cs : Characters) → IsAscii cs → Itself cs
ascii_itself [] h = (refl, refl)
ascii_itself (c ∷ cs) h =
    let r = ascii_itself cs (λ i. h (suc i)) in
    (and_true (small_scalar c (h 0)) r.0, ap (λ b. b ++ encode_utf8_all cs) (encode_ascii c (h 0)) ∙ ap (λ b. c ∷ b) r.1)

pub decimal_itself : (n : ℕ) → n ≤ greatest → Itself (decimal n)
decimal_itself n w = ascii_itself (decimal n) (IsAscii-decimal n (omega arith))
