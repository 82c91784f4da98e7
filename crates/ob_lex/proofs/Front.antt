-- The piece that is read is the longest that may stand at the front, and the only one.
use Rattle.std.proofs.Common.{◌≡◌, ℕ, suc, pos, negsuc, ◌<◌, Bool, true, false, cond, [], ◌∷◌, ◌++◌, length, Some, None, refl, ap, sym, ◌∙◌, subst, arith, length-append}
use Rattle.std.specs.List.{list_any}
use Rattle.ob_lex.specs.declared.punctuator.Punctuator.{Punctuator}
use Rattle.ob_lex.specs.declared.token.TokenKind.{TokenKind}
use Rattle.ob_lex.specs.declared.token.TokenKind.TheVariants as kind
use Rattle.ob_lex.specs.declared.piece.Piece.{Piece}
use Rattle.ob_lex.specs.declared.piece.Piece.TheVariants as piece
use Rattle.ob_lex.specs.Words.{mark_spelling, marks_of}
use Rattle.ob_lex.specs.Characters.{Characters, is_white_space, is_line_end, starts_name, continues_name, is_digit, is_quote}
use Rattle.ob_lex.specs.Pieces.{IsComment, to_line_end, closed, IsWord, IsPiece, may_precede}
use Rattle.ob_lex.specs.Tokens.{IsLongest}
use Rattle.ob_lex.specs.Reading.{Read, read_map, run, word_at, number_at, inside, text_at, comment_at, first_mark, comment_or_mark, piece_at}
use Rattle.ob_lex.proofs.Classes.{Class, white, line, word, number, quoted, mark, class_by, class_of, white_first, line_first, word_first, number_first, text_first}
use Rattle.ob_lex.proofs.Tools.{OnRead, Took, on_mapped, Best, best_mapped, best_same, best_equal, split_once}
use Rattle.ob_lex.proofs.Words.{word_sound, name_best, reserved_best, reserved_is_word}
use Rattle.ob_lex.proofs.Numbers.{number_sound, number_best, number_starts, number_no_empty}
use Rattle.ob_lex.proofs.Texts.{text_sound, text_best}
use Rattle.ob_lex.proofs.Comments.{comment_sound, comment_best}
use Rattle.ob_lex.proofs.Marks.{mark_sound, mark_best, mark_first, slash_first, starts_comment, mark_no_comment, mark_no_empty}

abbrev pub Piece_of : Characters → Piece → Characters → Type 0
Piece_of text k rest = Took (λ front. IsPiece k front rest) text rest

-- ---- what is read may stand there

token_sound : (text : Characters) (r : Read TokenKind) → OnRead r (λ k rest. Took (λ front. IsPiece (piece.Token k) front rest) text rest) → OnRead (read_map (λ k. piece.Token k) r) (Piece_of text)
token_sound text r h = on_mapped (λ k rest. Took (λ front. IsPiece (piece.Token k) front rest) text rest) (Piece_of text) (λ k. piece.Token k) r (λ k rest x. x) h

texts_sound : (c : ℕ) (cs : Characters) → is_quote c ≡ true → OnRead (text_at c cs) (λ k rest. Took (λ front. IsPiece (piece.Token k) front rest) (c ∷ cs) rest)
texts_sound c cs h =
    on_mapped (λ units rest. Took (λ front. IsPiece (piece.Token (kind.Text units)) front rest) (c ∷ cs) rest) (λ k rest. Took (λ front. IsPiece (piece.Token k) front rest) (c ∷ cs) rest)
    (λ units. kind.Text units) (inside (length cs) c cs) (λ units rest x. x) (text_sound c cs h)

mark_or_sound : (text : Characters) (r : Read Bool) (s : Read Punctuator) → OnRead r (λ breaks rest. Took (λ front. IsComment front breaks) text rest)
    → OnRead s (λ m rest. Took (λ front. (front ≡ mark_spelling m) × (may_precede m rest ≡ true)) text rest) → OnRead (comment_or_mark r s) (Piece_of text)
mark_or_sound text None s h g =
    on_mapped (λ m rest. Took (λ front. (front ≡ mark_spelling m) × (may_precede m rest ≡ true)) text rest) (Piece_of text) (λ m. piece.Token (kind.Punctuator m)) s (λ m rest x. x) g
mark_or_sound text (Some p) s h g = h

sound_by : (c : ℕ) (cs : Characters) (w l n d q : Bool) → is_white_space c ≡ w → is_line_end c ≡ l → starts_name c ≡ n → is_digit 10 c ≡ d → is_quote c ≡ q
    → OnRead (cond w (Some (piece.WhiteSpace, cs)) (cond l (Some (piece.LineEnd, cs)) (cond n (read_map (λ k. piece.Token k) (word_at (suc (run continues_name cs)) (c ∷ cs)))
    (cond d (read_map (λ k. piece.Token k) (number_at c cs)) (cond q (read_map (λ k. piece.Token k) (text_at c cs))
    (comment_or_mark (comment_at (c ∷ cs)) (first_mark (marks_of c) (c ∷ cs)))))))) (Piece_of (c ∷ cs))
sound_by c cs true l n d q hw hl hn hd hq = (c ∷ [], (refl, hw))
sound_by c cs false true n d q hw hl hn hd hq = (c ∷ [], (refl, hl))
sound_by c cs false false true d q hw hl hn hd hq = token_sound (c ∷ cs) (word_at (suc (run continues_name cs)) (c ∷ cs)) (word_sound c cs hn)
sound_by c cs false false false true q hw hl hn hd hq = token_sound (c ∷ cs) (number_at c cs) (number_sound c cs hd)
sound_by c cs false false false false true hw hl hn hd hq = token_sound (c ∷ cs) (text_at c cs) (texts_sound c cs hq)
sound_by c cs false false false false false hw hl hn hd hq =
    mark_or_sound (c ∷ cs) (comment_at (c ∷ cs)) (first_mark (marks_of c) (c ∷ cs)) (comment_sound (c ∷ cs)) (mark_sound (marks_of c) (c ∷ cs))

pub piece_sound : (text : Characters) → OnRead (piece_at text) (Piece_of text)
unfolding piece_at
piece_sound [] = tt
piece_sound (c ∷ cs) = sound_by c cs (is_white_space c) (is_line_end c) (starts_name c) (is_digit 10 c) (is_quote c) refl refl refl refl refl

-- ---- what may stand there is read, or a longer piece

abbrev pub pick : {A : Type 0} → Class → (w l n d q m : A) → A
pick white w l n d q m = w
pick line w l n d q m = l
pick word w l n d q m = n
pick number w l n d q m = d
pick quoted w l n d q m = q
pick mark w l n d q m = m

picked : {A : Type 0} (w l n d q : Bool) (W L N D Q M : A) → cond w W (cond l L (cond n N (cond d D (cond q Q M)))) ≡ pick (class_by w l n d q) W L N D Q M
picked true l n d q W L N D Q M = refl
picked false true n d q W L N D Q M = refl
picked false false true d q W L N D Q M = refl
picked false false false true q W L N D Q M = refl
picked false false false false true W L N D Q M = refl
picked false false false false false W L N D Q M = refl

abbrev pub of_class : Class → ℕ → Characters → Read Piece
of_class k c cs =
    pick k (Some (piece.WhiteSpace, cs)) (Some (piece.LineEnd, cs)) (read_map (λ k. piece.Token k) (word_at (suc (run continues_name cs)) (c ∷ cs)))
    (read_map (λ k. piece.Token k) (number_at c cs)) (read_map (λ k. piece.Token k) (text_at c cs))
    (comment_or_mark (comment_at (c ∷ cs)) (first_mark (marks_of c) (c ∷ cs)))

pub at_class : (c : ℕ) (cs : Characters) (k : Class) → class_of c ≡ k → piece_at (c ∷ cs) ≡ of_class k c cs
unfolding piece_at
at_class c cs k h =
    picked (is_white_space c) (is_line_end c) (starts_name c) (is_digit 10 c) (is_quote c)
    (Some (piece.WhiteSpace, cs)) (Some (piece.LineEnd, cs)) (read_map (λ k. piece.Token k) (word_at (suc (run continues_name cs)) (c ∷ cs)))
    (read_map (λ k. piece.Token k) (number_at c cs)) (read_map (λ k. piece.Token k) (text_at c cs))
    (comment_or_mark (comment_at (c ∷ cs)) (first_mark (marks_of c) (c ∷ cs)))
    ∙ ap (λ k. of_class k c cs) h

-- a comment is longer than a punctuator at its place
strict : (c : ℕ) (cs rest front after : Characters) (breaks : Bool) → IsComment front breaks → c ∷ cs ++ rest ≡ front ++ after → starts_comment (c ∷ cs) ≡ false → length after < length rest
strict c [] rest front after breaks (to_line_end inner h) e f = omega (arith, ap length e, length-append inner after)
strict c [] rest front after breaks (closed inner h) e f = omega (arith, ap length e, length-append (inner ++ (42 ∷ 47 ∷ [])) after)
strict c (d ∷ ds) rest front after breaks (to_line_end inner h) e f =
    let x : c ≡ 47 = cc in let y : d ≡ 47 = cc in absurd (let z : starts_comment (47 ∷ 47 ∷ ds) ≡ false = ap (λ u. starts_comment (u ∷ 47 ∷ ds)) (sym x) ∙ ap (λ u. starts_comment (c ∷ u ∷ ds)) (sym y) ∙ f in cc)
strict c (d ∷ ds) rest front after breaks (closed inner h) e f =
    let x : c ≡ 47 = cc in let y : d ≡ 42 = cc in absurd (let z : starts_comment (47 ∷ 42 ∷ ds) ≡ false = ap (λ u. starts_comment (u ∷ 42 ∷ ds)) (sym x) ∙ ap (λ u. starts_comment (c ∷ u ∷ ds)) (sym y) ∙ f in cc)

comment_longer : (m : Punctuator) (c : ℕ) (cs rest : Characters) → c ∷ cs ≡ mark_spelling m → (r : Read Bool)
    → OnRead r (λ breaks after. Took (λ front. IsComment front breaks) (c ∷ cs ++ rest) after)
    → (s : Read Punctuator) → Best m rest s → Best (piece.Token (kind.Punctuator m)) rest (comment_or_mark r s)
comment_longer m c cs rest e None h s b = best_mapped (λ m. piece.Token (kind.Punctuator m)) m rest s b
comment_longer m c cs rest e (Some p) h s b =
    let lt = strict c cs rest h.0 p.1 p.0 h.1.1 h.1.0 (ap starts_comment e ∙ mark_no_comment m) in
    (omega (arith, lt), λ q. absurd (omega (arith, lt, q)))

comment_first : (breaks : Bool) (rest : Characters) (r : Read Bool) (s : Read Punctuator) → Best breaks rest r → Best (piece.Comment breaks) rest (comment_or_mark r s)
comment_first breaks rest None s h = absurd h
comment_first breaks rest (Some p) s h = (h.0, λ e. ap (λ x. piece.Comment x) (h.1 e))

comment_piece : (breaks : Bool) (cs rest : Characters) → IsComment (47 ∷ cs) breaks → Best (piece.Comment breaks) rest (piece_at (47 ∷ cs ++ rest))
comment_piece breaks cs rest h =
    best_equal (piece.Comment breaks) rest (piece_at (47 ∷ cs ++ rest)) (of_class mark 47 (cs ++ rest)) (at_class 47 (cs ++ rest) mark slash_first)
    (comment_first breaks rest (comment_at (47 ∷ cs ++ rest)) (first_mark (marks_of 47) (47 ∷ cs ++ rest)) (comment_best breaks (47 ∷ cs) rest h))

comment_any : (front rest : Characters) (breaks : Bool) → IsComment front breaks → Best (piece.Comment breaks) rest (piece_at (front ++ rest))
comment_any front rest breaks (to_line_end inner h) = comment_piece false (47 ∷ inner) rest (to_line_end inner h)
comment_any front rest breaks (closed inner h) = comment_piece (list_any is_line_end inner) (42 ∷ inner ++ (42 ∷ 47 ∷ [])) rest (closed inner h)

token_best : (k : TokenKind) (c : ℕ) (cs rest : Characters) (x : Class) (r : Read TokenKind) → class_of c ≡ x → of_class x c (cs ++ rest) ≡ read_map (λ k. piece.Token k) r
    → Best k rest r → Best (piece.Token k) rest (piece_at (c ∷ cs ++ rest))
token_best k c cs rest x r h e b =
    best_equal (piece.Token k) rest (piece_at (c ∷ cs ++ rest)) (read_map (λ k. piece.Token k) r) (at_class c (cs ++ rest) x h ∙ e) (best_mapped (λ k. piece.Token k) k rest r b)

pub piece_best : (k : Piece) (front rest : Characters) → IsPiece k front rest → Best k rest (piece_at (front ++ rest))
piece_best piece.WhiteSpace [] rest h = absurd h
piece_best piece.WhiteSpace (c ∷ []) rest h = best_same piece.WhiteSpace rest (piece_at (c ∷ rest)) (at_class c rest white (white_first c h))
piece_best piece.WhiteSpace (c ∷ d ∷ cs) rest h = absurd h
piece_best piece.LineEnd [] rest h = absurd h
piece_best piece.LineEnd (c ∷ []) rest h = best_same piece.LineEnd rest (piece_at (c ∷ rest)) (at_class c rest line (line_first c h))
piece_best piece.LineEnd (c ∷ d ∷ cs) rest h = absurd h
piece_best (piece.Comment breaks) front rest h = comment_any front rest breaks h
piece_best (piece.Token (kind.Name name)) [] rest h = absurd h.0
piece_best (piece.Token (kind.Name name)) (c ∷ cs) rest h =
    token_best (kind.Name name) c cs rest word (word_at (suc (run continues_name (cs ++ rest))) (c ∷ cs ++ rest)) (word_first c h.0.0) refl (name_best name c cs rest h)
piece_best (piece.Token (kind.Reserved w)) [] rest h = absurd (subst IsWord (sym h) (reserved_is_word w))
piece_best (piece.Token (kind.Reserved w)) (c ∷ cs) rest h =
    let x : IsWord (c ∷ cs) = subst IsWord (sym h) (reserved_is_word w) in
    token_best (kind.Reserved w) c cs rest word (word_at (suc (run continues_name (cs ++ rest))) (c ∷ cs ++ rest)) (word_first c x.0) refl (reserved_best w c cs rest h)
piece_best (piece.Token (kind.Number (pos n))) [] rest h = absurd (number_no_empty [] n h.0 refl)
piece_best (piece.Token (kind.Number (pos n))) (c ∷ cs) rest h =
    token_best (kind.Number (pos n)) c cs rest number (number_at c (cs ++ rest)) (number_first c (number_starts n c cs h.0)) refl (number_best n c cs rest h.0 h.1.0 h.1.1)
piece_best (piece.Token (kind.Number (negsuc n))) front rest h = absurd h
piece_best (piece.Token (kind.Text units)) [] rest h = absurd h
piece_best (piece.Token (kind.Text units)) (c ∷ cs) rest h =
    token_best (kind.Text units) c cs rest quoted (text_at c (cs ++ rest)) (text_first c h.0) refl (text_best units c cs rest h)
piece_best (piece.Token (kind.Punctuator m)) [] rest h = absurd (mark_no_empty m h.0)
piece_best (piece.Token (kind.Punctuator m)) (c ∷ cs) rest h =
    best_equal (piece.Token (kind.Punctuator m)) rest (piece_at (c ∷ cs ++ rest)) (of_class mark c (cs ++ rest)) (at_class c (cs ++ rest) mark (mark_first m c cs h.0))
    (comment_longer m c cs rest h.0 (comment_at (c ∷ cs ++ rest)) (comment_sound (c ∷ cs ++ rest)) (first_mark (marks_of c) (c ∷ cs ++ rest)) (mark_best m c cs rest h.0 h.1))

-- ---- so the piece that is read is the longest, and each longest piece is read

read_is_longest_by : (text rest : Characters) (k : Piece) → piece_at text ≡ Some (k, rest) → (x : Piece_of text k rest) → IsLongest k x.0 rest
read_is_longest_by text rest k e x = record {
  allowed = x.1.1;
  longest = λ other o after t h.
      let whole : o ++ after ≡ text = t ∙ sym x.1.0 in
      let b : Best other after (Some (k, rest)) = subst (λ r. Best other after r) (ap piece_at whole ∙ e) (piece_best other o after h) in
      omega (arith, b.0, ap length whole, ap length x.1.0, length-append o after, length-append x.0 rest);
}

pub read_front : (text rest : Characters) (k : Piece) → piece_at text ≡ Some (k, rest) → Piece_of text k rest
read_front text rest k e = let h : OnRead (Some (k, rest)) (Piece_of text) = subst (λ r. OnRead r (Piece_of text)) e (piece_sound text) in h

pub read_is_longest : (text rest : Characters) (k : Piece) → (e : piece_at text ≡ Some (k, rest)) → IsLongest k (read_front text rest k e).0 rest
read_is_longest text rest k e = read_is_longest_by text rest k e (read_front text rest k e)

one_read : (j k : Piece) (after rest : Characters) → j ≡ k → after ≡ rest → ◌≡◌ {A = Read Piece} (Some (j, after)) (Some (k, rest))
one_read j k after rest e f = ap (λ (x : Piece). Some (x, after)) e ∙ ap (λ (x : Characters). Some (k, x)) f

longest_by : (k : Piece) (front rest : Characters) → IsLongest k front rest → (r : Read Piece) → piece_at (front ++ rest) ≡ r → Best k rest r → OnRead r (Piece_of (front ++ rest)) → r ≡ Some (k, rest)
longest_by k front rest d None e b s = absurd b
longest_by k front rest d (Some (j, after)) e b s =
    let le = d.longest j s.0 after (sym s.1.0) s.1.1 in
    let same : length after ≡ length rest = omega (arith, le, b.0, ap length s.1.0, length-append front rest, length-append s.0 after) in
    let p = split_once front rest s.0 after s.1.0 (omega (arith, same, ap length s.1.0, length-append front rest, length-append s.0 after)) in
    one_read j k after rest (b.1 same) (sym p.1)

pub longest_is_read : (k : Piece) (front rest : Characters) → IsLongest k front rest → piece_at (front ++ rest) ≡ Some (k, rest)
longest_is_read k front rest d = longest_by k front rest d (piece_at (front ++ rest)) refl (piece_best k front rest d.allowed) (piece_sound (front ++ rest))

comment_no_empty : (front : Characters) (breaks : Bool) → IsComment front breaks → front ≡ [] → ⊥
comment_no_empty front breaks (to_line_end inner h) e = cc
comment_no_empty front breaks (closed inner h) e = cc

pub no_empty : (k : Piece) (rest : Characters) → IsPiece k [] rest → ⊥
no_empty piece.WhiteSpace rest h = h
no_empty piece.LineEnd rest h = h
no_empty (piece.Comment breaks) rest h = comment_no_empty [] breaks h refl
no_empty (piece.Token (kind.Name name)) rest h = h.0
no_empty (piece.Token (kind.Reserved w)) rest h = subst IsWord (sym h) (reserved_is_word w)
no_empty (piece.Token (kind.Number (pos n))) rest h = number_no_empty [] n h.0 refl
no_empty (piece.Token (kind.Number (negsuc n))) rest h = h
no_empty (piece.Token (kind.Text units)) rest h = h
no_empty (piece.Token (kind.Punctuator m)) rest h = mark_no_empty m h.0
