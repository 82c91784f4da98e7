-- Where a `/*` is not closed, no later one is.
use Rattle.std.proofs.Common.{◌≡◌, ℕ, Bool, true, false, not, ◌||◌, ◌&&◌, ◌==◌, cond, [], ◌∷◌, ◌++◌, drop, Some, None, refl, ap, sym, ◌∙◌, subst, ◌⊎◌, inl, inr}
use Rattle.std.specs.Prelude.{codes}
use Rattle.std.proofs.lemmas.Bool.{eqb-true}
use Rattle.ob_lex.specs.declared.piece.Piece.{Piece}
use Rattle.ob_lex.specs.declared.punctuator.Punctuator.{Punctuator}
use Rattle.ob_lex.specs.Words.{marks_of}
use Rattle.ob_lex.specs.Characters.{Characters, is_line_end, begins, holds}
use Rattle.ob_lex.specs.Pieces.{IsPiece}
use Rattle.ob_lex.specs.Closing.{MayClose, is_comment, closes_after}
use Rattle.ob_lex.specs.Reading.{Read, to_close, comment_at, comment_or_mark, first_mark, piece_at}
use Rattle.ob_lex.proofs.Classes.{both, mark}
use Rattle.ob_lex.proofs.Marks.{slash_first}
use Rattle.ob_lex.proofs.Comments.{holds_parts}
use Rattle.ob_lex.proofs.Front.{Piece_of, read_front, no_empty, at_class}

or_parts : (a b : Bool) → (a || b) ≡ false → b ≡ false
or_parts true b h = cc
or_parts false b h = h

holds_suffix : (word front text : Characters) → holds word (front ++ text) ≡ false → holds word text ≡ false
holds_suffix word [] text h = h
holds_suffix word (c ∷ cs) text h = holds_suffix word cs text (or_parts (begins word (c ∷ cs ++ text)) (holds word (cs ++ text)) h)

pub close_none : (breaks : Bool) (text : Characters) → holds (codes "*/") text ≡ false → to_close breaks text ≡ None
unfolding to_close
close_none breaks [] h = refl
close_none breaks (c ∷ cs) h =
    let p = holds_parts c cs h in
    ap (λ b. cond b (Some (breaks, drop 1 cs)) (to_close (breaks || is_line_end c) cs)) p.0 ∙ close_none (breaks || is_line_end c) cs p.1

none_by : (breaks : Bool) (c : ℕ) (cs : Characters) → (b : Bool) → begins (codes "*/") (c ∷ cs) ≡ b → (to_close (breaks || is_line_end c) cs ≡ None → holds (codes "*/") cs ≡ false)
    → cond b (Some (breaks, drop 1 cs)) (to_close (breaks || is_line_end c) cs) ≡ None → holds (codes "*/") (c ∷ cs) ≡ false
none_by breaks c cs true e more h = cc
none_by breaks c cs false e more h = ap (λ b. b || holds (codes "*/") cs) e ∙ more h

none_holds : (breaks : Bool) (text : Characters) → to_close breaks text ≡ None → holds (codes "*/") text ≡ false
unfolding to_close
none_holds breaks [] h = refl
none_holds breaks (c ∷ cs) h = none_by breaks c cs (begins (codes "*/") (c ∷ cs)) refl (none_holds (breaks || is_line_end c) cs) h

-- a `/*` behind which no comment is closed begins none
unclosed : (b : ℕ) (after : Characters) → holds (codes "*/") (b ∷ after) ≡ false → to_close false after ≡ None
unclosed b after h = close_none false after (or_parts (begins (codes "*/") (b ∷ after)) (holds (codes "*/") after) h)

pub unclosed_after : (text more after : Characters) (a b : ℕ) → text ≡ a ∷ more → more ≡ b ∷ after → holds (codes "*/") (drop 1 text) ≡ false → to_close false after ≡ None
unclosed_after text more after a b e f h = unclosed b after (ap (holds (codes "*/")) (sym f ∙ sym (ap (drop 1) e)) ∙ h)

holds_rest : (text : Characters) → holds (codes "*/") text ≡ false → holds (codes "*/") (drop 1 text) ≡ false
holds_rest [] h = h
holds_rest (c ∷ cs) h = or_parts (begins (codes "*/") (c ∷ cs)) (holds (codes "*/") cs) h

-- behind a piece
behind_one : (front rest : Characters) → (front ≡ [] → ⊥) → holds (codes "*/") (drop 1 (front ++ rest)) ≡ false → holds (codes "*/") (drop 1 rest) ≡ false
behind_one [] rest some h = absurd (some refl)
behind_one (c ∷ cs) rest some h = holds_rest rest (holds_suffix (codes "*/") cs rest h)

behind_two : (front rest : Characters) → (front ≡ [] → ⊥) → holds (codes "*/") (drop 1 (drop 1 (front ++ rest))) ≡ false → holds (codes "*/") (drop 1 rest) ≡ false
behind_two [] rest some h = absurd (some refl)
behind_two (c ∷ []) rest some h = h
behind_two (c ∷ d ∷ ds) rest some h = holds_rest rest (holds_suffix (codes "*/") ds rest h)

opens : (text : Characters) → begins (codes "/*") text ≡ true → (after : Characters) × (text ≡ 47 ∷ 42 ∷ after)
opens [] h = cc
opens (a ∷ []) h = let p = both (47 == a) false h in cc
opens (a ∷ b ∷ after) h =
    let p = both (47 == a) ((42 == b) && true) h in let q = both (42 == b) true p.1 in
    let x : 47 ≡ a = eqb-true 47 a p.0 in let y : 42 ≡ b = eqb-true 42 b q.0 in (after, cc)

abbrev kind_of : Read Piece → Bool
kind_of None = false
kind_of (Some p) = is_comment p.0

no_comment : true ≡ false → ⊥
no_comment h = cc

comment_is : (r : Read Bool) (s : Read Punctuator) (k : Piece) (more : Characters) → comment_or_mark r s ≡ Some (k, more) → is_comment k ≡ false → r ≡ None
comment_is None s k more h e = refl
comment_is (Some p) s k more h e =
    absurd (no_comment (ap kind_of h ∙ e))

open_none : (after more : Characters) (k : Piece) → piece_at (47 ∷ 42 ∷ after) ≡ Some (k, more) → is_comment k ≡ false → to_close false after ≡ None
unfolding comment_at
open_none after more k h e =
    comment_is (comment_at (47 ∷ 42 ∷ after)) (first_mark (marks_of 47) (47 ∷ 42 ∷ after)) k more (sym (at_class 47 (42 ∷ after) mark slash_first) ∙ h) e

after_parts : (closes comment opens : Bool) → (closes && (comment || not opens)) ≡ false → (closes ≡ false) ⊎ ((comment ≡ false) × (opens ≡ true))
after_parts false b c h = inl refl
after_parts true true c h = cc
after_parts true false true h = inr (refl, refl)
after_parts true false false h = cc

closing_by : (closes : Bool) (rest more : Characters) (k : Piece) → MayClose closes rest → piece_at rest ≡ Some (k, more) → Piece_of rest k more
    → (closes ≡ false) ⊎ ((is_comment k ≡ false) × (begins (codes "/*") rest ≡ true)) → holds (codes "*/") (drop 1 more) ≡ false
closing_by closes rest more k h e x (inl f) =
    behind_one x.0 more (λ z. no_empty k more (subst (λ t. IsPiece k t more) z x.1.1)) (ap (λ t. holds (codes "*/") (drop 1 t)) (sym x.1.0) ∙ h f)
closing_by closes rest more k h e x (inr p) =
    let o = opens rest p.1 in
    let n = none_holds false o.0 (open_none o.0 more k (ap piece_at (sym o.1) ∙ e) p.0) in
    behind_two x.0 more (λ z. no_empty k more (subst (λ t. IsPiece k t more) z x.1.1))
    (ap (λ t. holds (codes "*/") (drop 1 (drop 1 t))) (sym x.1.0 ∙ o.1) ∙ n)

pub closing_step : (closes : Bool) (rest more : Characters) (k : Piece) → MayClose closes rest → piece_at rest ≡ Some (k, more) → MayClose (closes_after closes rest k) more
closing_step closes rest more k h e f =
    closing_by closes rest more k h e (read_front rest more k e) (after_parts closes (is_comment k) (begins (codes "/*") rest) f)
