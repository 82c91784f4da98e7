-- Reading gives the tokens of a text, and gives none only where there are none.
use Rattle.std.proofs.Common.{◌≡◌, ℕ, zero, suc, ◌+◌, ◌-◌, ◌≤◌, Bool, false, List, [], ◌∷◌, ◌++◌, length, Option, Some, None, refl, ap, sym, ◌∙◌, subst, arith, length-append, append_assoc}
use Rattle.std.specs.Prelude.{encode_utf8_all, encode_utf8}
use Rattle.ob_lex.specs.declared.piece.Piece.{Piece}
use Rattle.ob_lex.specs.declared.token.Token.{Token}
use Rattle.ob_lex.specs.Characters.{Characters, bytes}
use Rattle.ob_lex.specs.Tokens.{IsLongest, breaks_after, shown, Cuts, done, next, Tokens}
use Rattle.ob_lex.specs.Reading.{Read, piece_at, with_front, then_cut, cut}
use Rattle.ob_lex.proofs.Front.{read_front, read_is_longest, longest_is_read, no_empty}

encoded-append : (a b : Characters) → encode_utf8_all (a ++ b) ≡ encode_utf8_all a ++ encode_utf8_all b
encoded-append [] b = refl
encoded-append (c ∷ a) b = ap (λ bs. encode_utf8 c ++ bs) (encoded-append a b) ∙ sym (append_assoc (encode_utf8 c) (encode_utf8_all a) (encode_utf8_all b))

pub bytes_append : (a b : Characters) → bytes (a ++ b) ≡ bytes a + bytes b
bytes_append a b = ap length (encoded-append a b) ∙ length-append (encode_utf8_all a) (encode_utf8_all b)

-- where a piece ends
pub end_of : (at : ℕ) (text front rest : Characters) → text ≡ front ++ rest → at + (bytes text - bytes rest) ≡ at + bytes front
end_of at text front rest e = let b : bytes text ≡ bytes front + bytes rest = ap bytes e ∙ bytes_append front rest in omega (arith, b)

-- ---- what is read are the tokens

abbrev pub OnCut : Option (List Token) → (List Token → Type 0) → Type 0
OnCut None P = Unit {0}
OnCut (Some ts) P = P ts

on_front : (P Q : List Token → Type 0) (front : List Token) (r : Option (List Token)) → OnCut r P → ((ts : List Token) → P ts → Q (front ++ ts)) → OnCut (with_front front r) Q
on_front P Q front None h f = tt
on_front P Q front (Some ts) h f = f ts h

cut_step : (breaks : Bool) (at : ℕ) (text : Characters) (go : Bool → ℕ → Characters → Option (List Token)) → ((breaks : Bool) (at : ℕ) (rest : Characters) → OnCut (go breaks at rest) (Cuts breaks at rest))
    → (r : Read Piece) → piece_at text ≡ r → OnCut (then_cut breaks at text r go) (Cuts breaks at text)
cut_step breaks at text go more None e = tt
cut_step breaks at text go more (Some (k, rest)) e =
    let x = read_front text rest k e in
    let end = end_of at text x.0 rest x.1.0 in
    subst (λ n. OnCut (with_front (shown k at n breaks) (go (breaks_after k breaks) n rest)) (Cuts breaks at text)) (sym end)
    (on_front (Cuts (breaks_after k breaks) (at + bytes x.0) rest) (Cuts breaks at text) (shown k at (at + bytes x.0) breaks) (go (breaks_after k breaks) (at + bytes x.0) rest)
    (more (breaks_after k breaks) (at + bytes x.0) rest) (λ ts d. next breaks at k text x.0 rest ts x.1.0 (read_is_longest text rest k e) d))

pub is_cut : (n : ℕ) (breaks : Bool) (at : ℕ) (text : Characters) → OnCut (cut n breaks at text) (Cuts breaks at text)
unfolding cut
is_cut zero breaks at [] = done breaks at
is_cut (suc n) breaks at [] = done breaks at
is_cut zero breaks at (c ∷ cs) = tt
is_cut (suc n) breaks at (c ∷ cs) = cut_step breaks at (c ∷ cs) (cut n) (is_cut n) (piece_at (c ∷ cs)) refl

-- ---- tokens are read

step_again : (breaks : Bool) (at : ℕ) (text front rest : Characters) (k : Piece) (tokens : List Token) (go : Bool → ℕ → Characters → Option (List Token)) → text ≡ front ++ rest → IsLongest k front rest
    → go (breaks_after k breaks) (at + bytes front) rest ≡ Some tokens → then_cut breaks at text (piece_at text) go ≡ Some (shown k at (at + bytes front) breaks ++ tokens)
step_again breaks at text front rest k tokens go e d more =
    ap (λ r. then_cut breaks at text r go) (ap piece_at e ∙ longest_is_read k front rest d)
    ∙ ap (λ n. with_front (shown k at n breaks) (go (breaks_after k breaks) n rest)) (end_of at text front rest e)
    ∙ ap (with_front (shown k at (at + bytes front) breaks)) more

pub cut_again : {breaks : Bool} {at : ℕ} {text : Characters} {tokens : List Token} → Cuts breaks at text tokens → (n : ℕ) → length text ≤ n → cut n breaks at text ≡ Some tokens
unfolding cut
cut_again (done breaks at) zero le = refl
cut_again (done breaks at) (suc n) le = refl
cut_again (next breaks at k text [] rest tokens h d more) n le = absurd (no_empty k rest d.allowed)
cut_again (next breaks at k [] (c ∷ front) rest tokens h d more) n le = cc
cut_again (next breaks at k (x ∷ text) (c ∷ front) rest tokens h d more) zero le = absurd (omega arith)
cut_again (next breaks at k (x ∷ text) (c ∷ front) rest tokens h d more) (suc n) le =
    step_again breaks at (x ∷ text) (c ∷ front) rest k tokens (cut n) h d (cut_again more n (omega (arith, ap length h, length-append (c ∷ front) rest)))

-- ---- both ways

pub read_tokens : (text : Characters) (tokens : List Token) → cut (length text) false 0 text ≡ Some tokens → Tokens text tokens
read_tokens text tokens e = let h : OnCut (Some tokens) (Tokens text) = subst (λ (r : Option (List Token)). OnCut r (Tokens text)) e (is_cut (length text) false 0 text) in h

pub tokens_read : (text : Characters) (tokens : List Token) → Tokens text tokens → cut (length text) false 0 text ≡ Some tokens
tokens_read text tokens h = cut_again h (length text) (omega arith)

pub one_division : (text : Characters) (tokens others : List Token) → Tokens text tokens → Tokens text others → tokens ≡ others
one_division text tokens others a b = let x = tokens_read text tokens a in let y = tokens_read text others b in cc

pub no_division : (text : Characters) → cut (length text) false 0 text ≡ None → (tokens : List Token) → Tokens text tokens → ⊥
no_division text e tokens h = let x = tokens_read text tokens h in cc

-- ---- more turns than characters give nothing more

enough_by : (n : ℕ) (breaks : Bool) (at : ℕ) (text : Characters) → length text ≤ n → (a b : Option (List Token)) → cut n breaks at text ≡ a → cut (length text) breaks at text ≡ b → a ≡ b
enough_by n breaks at text le None None e f = refl
enough_by n breaks at text le None (Some ts) e f =
    let d : OnCut (Some ts) (Cuts breaks at text) = subst (λ (r : Option (List Token)). OnCut r (Cuts breaks at text)) f (is_cut (length text) breaks at text) in let g = cut_again d n le in cc
enough_by n breaks at text le (Some ts) b e f =
    let d : OnCut (Some ts) (Cuts breaks at text) = subst (λ (r : Option (List Token)). OnCut r (Cuts breaks at text)) e (is_cut n breaks at text) in
    let g = cut_again d (length text) (omega arith) in
    cc

pub cut_enough : (n : ℕ) (breaks : Bool) (at : ℕ) (text : Characters) → length text ≤ n → cut n breaks at text ≡ cut (length text) breaks at text
cut_enough n breaks at text le = enough_by n breaks at text le (cut n breaks at text) (cut (length text) breaks at text) refl refl
