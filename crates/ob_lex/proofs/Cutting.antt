-- A text is cut where a rest of its characters begins.
use Rattle.std.proofs.Common.{◌≡◌, ℕ, ◌==◌, false, ◌-◌, ◌≤◌, ◌++◌, [], ◌∷◌, List, length, take, drop, ap, sym, ◌∙◌, subst, arith, length-append, take-append-drop}
use Rattle.std.proofs.Math.Seq.{take-append_seam}
use Rattle.std.specs.Prelude.{chars, encode_utf8, encode_utf8_all}
use Rattle.std.specs.Str.{IsUtf8, IsCharBoundary}
use Rattle.std.proofs.lemmas.Str.{encodes-chars, encodes-append, length-le-encodes, length-encode, len_utf8_bounds, chars_from_encodes, IsUtf8-take, IsCharBoundary-at_seam}
use Rattle.std.proofs.lemmas.Bool.Decides.{nat_tests}
use Rattle.ob_lex.specs.Characters.{bytes}

pub bytes_are : (text : List ℕ) → IsUtf8 text → bytes (chars text) ≡ length text
bytes_are text u = ap length (encodes-chars text u)

-- a text without bytes has no characters
empty_by : (n : ℕ) (cs : List ℕ) → bytes cs ≡ n → (n == 0) ≡ (length cs == 0)
empty_by n [] e = ap (λ n. n == 0) (sym e)
empty_by n (c ∷ cs) e =
    let some : (n == 0) ≡ false = grind (arith, nat_tests, e, length-encode c, len_utf8_bounds c, length-append (encode_utf8 c) (encode_utf8_all cs)) in
    let full : (length (c ∷ cs) == 0) ≡ false = grind (arith, nat_tests) in
    some ∙ sym full

pub same_empty : (text : List ℕ) → IsUtf8 text → (length text == 0) ≡ (length (chars text) == 0)
same_empty text u = empty_by (length text) (chars text) (bytes_are text u)

-- a text has no more characters than bytes
pub chars_within : (text : List ℕ) → IsUtf8 text → length (chars text) ≤ length text
chars_within text u = omega (arith, bytes_are text u, length-le-encodes (chars text))

-- the bytes of the characters before the rest, and those of the rest
pub parts : (text rest : List ℕ) (n : ℕ) → IsUtf8 text → IsUtf8 rest → chars rest ≡ drop n (chars text) → text ≡ encode_utf8_all (take n (chars text)) ++ rest
parts text rest n u v e =
    sym (encodes-chars text u)
    ∙ ap encode_utf8_all (sym (take-append-drop n (chars text)))
    ∙ encodes-append (take n (chars text)) (drop n (chars text))
    ∙ ap (λ r. encode_utf8_all (take n (chars text)) ++ r) (ap encode_utf8_all (sym e) ∙ encodes-chars rest v)

pub seam : (text rest : List ℕ) (n : ℕ) → IsUtf8 text → IsUtf8 rest → chars rest ≡ drop n (chars text) → length text - length rest ≡ length (encode_utf8_all (take n (chars text)))
seam text rest n u v e =
    omega (arith, ap length (parts text rest n u v e), length-append (encode_utf8_all (take n (chars text))) rest)

pub seam_boundary : (text rest : List ℕ) (n : ℕ) → IsUtf8 text → IsUtf8 rest → chars rest ≡ drop n (chars text) → IsCharBoundary text (length text - length rest)
seam_boundary text rest n u v e =
    subst (λ i. IsCharBoundary text i) (sym (seam text rest n u v e)) (IsCharBoundary-at_seam text (encode_utf8_all (take n (chars text))) rest (parts text rest n u v e) v)

pub seam_le : (text rest : List ℕ) (n : ℕ) → IsUtf8 text → IsUtf8 rest → chars rest ≡ drop n (chars text) → length rest ≤ length text
seam_le text rest n u v e = omega (arith, ap length (parts text rest n u v e), length-append (encode_utf8_all (take n (chars text))) rest)

-- the characters before the rest
pub front_chars : (text rest : List ℕ) (n : ℕ) → IsUtf8 text → IsUtf8 rest → chars rest ≡ drop n (chars text)
    → chars (take (length text - length rest) text) ≡ take n (chars text)
front_chars text rest n u v e =
    let p = parts text rest n u v e in
    let t : take (length text - length rest) text ≡ encode_utf8_all (take n (chars text)) =
    ap (λ i. take i text) (seam text rest n u v e) ∙ ap (take (length (encode_utf8_all (take n (chars text))))) p ∙ take-append_seam (encode_utf8_all (take n (chars text))) rest in
    sym (chars_from_encodes (take n (chars text)) (take (length text - length rest) text) (IsUtf8-take text (length text - length rest) u (seam_boundary text rest n u v e)) (sym t))
