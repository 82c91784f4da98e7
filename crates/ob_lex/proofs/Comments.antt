-- Comments.
use Rattle.std.proofs.Common.{◌≡◌, ℕ, Bool, true, false, not, ◌||◌, ◌&&◌, ◌==◌, cond, [], ◌∷◌, ◌++◌, take, drop, Some, None, refl, ap, sym, ◌∙◌, subst, arith, length-append, take-append-drop, append_assoc}
use Rattle.std.specs.Prelude.{codes}
use Rattle.std.specs.List.{list_any}
use Rattle.std.proofs.lemmas.List.{length-drop}
use Rattle.std.proofs.lemmas.Bool.{eqb-true}
use Rattle.ob_lex.specs.Characters.{Characters, is_line_end, begins, holds}
use Rattle.ob_lex.specs.Pieces.{Each, IsComment, to_line_end, closed}
use Rattle.ob_lex.specs.Reading.{run, to_close, comment_after, comment_at}
use Rattle.ob_lex.proofs.Classes.{both}
use Rattle.ob_lex.proofs.Tools.{OnRead, Took, on_weaker, Best, best_same, run_each, run_most}

-- ---- up to the first `*/`

abbrev no_end : ℕ → Bool
no_end c = not (is_line_end c)

-- the text is what holds no `*/`, then `*/` and the rest; the flag says what came before or a line end in it
abbrev Closes : Bool → Characters → Bool → Characters → Type 0
Closes before text breaks rest = (inner : Characters) × ((text ≡ inner ++ (42 ∷ 47 ∷ rest)) × ((holds (codes "*/") inner ≡ false) × (breaks ≡ (before || list_any is_line_end inner))))

or_assoc : (a b c : Bool) → ((a || b) || c) ≡ (a || (b || c))
or_assoc true b c = refl
or_assoc false b c = refl

or_false : (a : Bool) → a ≡ (a || false)
or_false true = refl
or_false false = refl

-- a text that begins with `*/`
begins_close : (text : Characters) → begins (codes "*/") text ≡ true → (rest : Characters) × (text ≡ 42 ∷ 47 ∷ rest)
begins_close [] h = cc
begins_close (a ∷ []) h = let p = both (42 == a) false h in cc
begins_close (a ∷ b ∷ rest) h =
    let p = both (42 == a) ((47 == b) && true) h in let q = both (47 == b) true p.1 in
    let x : 42 ≡ a = eqb-true 42 a p.0 in let y : 47 ≡ b = eqb-true 47 b q.0 in (rest, cc)

-- a character more in front of what holds no `*/`
begins_shorter : (inner after : Characters) → begins (codes "*/") (inner ++ (42 ∷ 47 ∷ after)) ≡ false → begins (codes "*/") inner ≡ false
begins_shorter [] after h = refl
begins_shorter (a ∷ []) after h = go (42 == a)
  where
    go : (b : Bool) → (b && false) ≡ false
    go true = refl
    go false = refl
begins_shorter (a ∷ b ∷ cs) after h = h

holds_by : (c : ℕ) (inner : Characters) → begins (codes "*/") (c ∷ inner) ≡ false → holds (codes "*/") inner ≡ false → holds (codes "*/") (c ∷ inner) ≡ false
holds_by c inner h g = ap (λ b. b || holds (codes "*/") inner) h ∙ g

close_by : (before : Bool) (c : ℕ) (cs : Characters) → OnRead (to_close (before || is_line_end c) cs) (Closes (before || is_line_end c) cs) → (b : Bool) → begins (codes "*/") (c ∷ cs) ≡ b
    → OnRead (cond b (Some (before, drop 1 cs)) (to_close (before || is_line_end c) cs)) (Closes before (c ∷ cs))
close_by before c cs more true e =
    let p = begins_close (c ∷ cs) e in
    let t : cs ≡ 47 ∷ p.0 = (let q : c ∷ cs ≡ 42 ∷ 47 ∷ p.0 = p.1 in cc) in
    ([], (p.1 ∙ ap (λ x. 42 ∷ 47 ∷ x) (ap (drop 1) (sym t)), (refl, or_false before)))
close_by before c cs more false e =
    on_weaker (Closes (before || is_line_end c) cs) (Closes before (c ∷ cs)) (to_close (before || is_line_end c) cs)
    (λ breaks rest x.
    let t : cs ≡ x.0 ++ (42 ∷ 47 ∷ rest) = x.1.0 in (
      c ∷ x.0,
      (
        ap (λ y. c ∷ y) t,
        (
          holds_by c x.0 (begins_shorter (c ∷ x.0) rest (ap (λ y. begins (codes "*/") (c ∷ y)) (sym t) ∙ e)) x.1.1.0,
          x.1.1.1 ∙ or_assoc before (is_line_end c) (list_any is_line_end x.0),
        ),
      ),
    )) more

close_sound : (before : Bool) (text : Characters) → OnRead (to_close before text) (Closes before text)
unfolding to_close
close_sound before [] = tt
close_sound before (c ∷ cs) = close_by before c cs (close_sound (before || is_line_end c) cs) (begins (codes "*/") (c ∷ cs)) refl

pub holds_parts : (c : ℕ) (inner : Characters) → holds (codes "*/") (c ∷ inner) ≡ false → (begins (codes "*/") (c ∷ inner) ≡ false) × (holds (codes "*/") inner ≡ false)
holds_parts c inner h = go (begins (codes "*/") (c ∷ inner)) (holds (codes "*/") inner) h
  where
    go : (a b : Bool) → (a || b) ≡ false → (a ≡ false) × (b ≡ false)
    go true b e = cc
    go false b e = (refl, e)

-- the first `*/` after what holds none stands at its end
not_before : (c : ℕ) (inner rest : Characters) → begins (codes "*/") (c ∷ inner) ≡ false → begins (codes "*/") (c ∷ inner ++ (42 ∷ 47 ∷ rest)) ≡ false
not_before c [] rest h = go (42 == c)
  where
    go : (b : Bool) → (b && false) ≡ false
    go true = refl
    go false = refl
not_before c (d ∷ ds) rest h = h

close_again : (before : Bool) (inner rest : Characters) → holds (codes "*/") inner ≡ false → to_close before (inner ++ (42 ∷ 47 ∷ rest)) ≡ Some (before || list_any is_line_end inner, rest)
unfolding to_close
close_again before [] rest h = ap (λ (b : Bool). Some (b, rest)) (or_false before)
close_again before (c ∷ inner) rest h =
    let p = holds_parts c inner h in
    ap (λ b. cond b (Some (before, drop 1 (inner ++ (42 ∷ 47 ∷ rest)))) (to_close (before || is_line_end c) (inner ++ (42 ∷ 47 ∷ rest)))) (not_before c inner rest p.0)
    ∙ close_again (before || is_line_end c) inner rest p.1 ∙ ap (λ (b : Bool). Some (b, rest)) (or_assoc before (is_line_end c) (list_any is_line_end inner))

-- ---- comments

abbrev Comment_of : Characters → Bool → Characters → Type 0
Comment_of text breaks rest = Took (λ front. IsComment front breaks) text rest

after_by : (b : ℕ) (cs : Characters) (l s : Bool) → (b == 47) ≡ l → (b == 42) ≡ s
    → OnRead (cond l (Some (false, drop (run no_end cs) cs)) (cond s (to_close false cs) None)) (Comment_of (47 ∷ b ∷ cs))
after_by b cs true s e f =
    let q : b ≡ 47 = eqb-true b 47 e in
    (47 ∷ 47 ∷ take (run no_end cs) cs, (ap (λ x. 47 ∷ x ∷ cs) q ∙ ap (λ x. 47 ∷ 47 ∷ x) (sym (take-append-drop (run no_end cs) cs)), to_line_end (take (run no_end cs) cs) (run_each no_end cs)))
after_by b cs false true e f =
    let q : b ≡ 42 = eqb-true b 42 f in
    on_weaker (Closes false cs) (Comment_of (47 ∷ b ∷ cs)) (to_close false cs)
    (λ breaks rest x. (
      47 ∷ 42 ∷ x.0 ++ (42 ∷ 47 ∷ []),
      (
        ap (λ y. 47 ∷ y ∷ cs) q ∙ ap (λ y. 47 ∷ 42 ∷ y) (x.1.0 ∙ sym (append_assoc x.0 (42 ∷ 47 ∷ []) rest)),
        subst (IsComment (47 ∷ 42 ∷ x.0 ++ (42 ∷ 47 ∷ []))) (sym x.1.1.1) (closed x.0 x.1.1.0),
      ),
    )) (close_sound false cs)
after_by b cs false false e f = tt

comment_by : (a b : ℕ) (cs : Characters) (s : Bool) → (a == 47) ≡ s → OnRead (cond s (comment_after b cs) None) (Comment_of (a ∷ b ∷ cs))
comment_by a b cs true e = subst (λ x. OnRead (comment_after b cs) (Comment_of (x ∷ b ∷ cs))) (sym (eqb-true a 47 e)) (after_by b cs (b == 47) (b == 42) refl refl)
comment_by a b cs false e = tt

pub comment_sound : (text : Characters) → OnRead (comment_at text) (Comment_of text)
unfolding comment_at
comment_sound [] = tt
comment_sound (a ∷ []) = tt
comment_sound (a ∷ b ∷ cs) = comment_by a b cs (a == 47) refl

line_best : (inner rest : Characters) → Each no_end inner → Best false rest (Some (false, drop (run no_end (inner ++ rest)) (inner ++ rest)))
line_best inner rest h = (omega (arith, length-drop (run no_end (inner ++ rest)) (inner ++ rest), length-append inner rest, run_most no_end inner rest h), λ e. refl)

pub comment_best : (breaks : Bool) (front rest : Characters) → IsComment front breaks → Best breaks rest (comment_at (front ++ rest))
unfolding comment_at
comment_best breaks front rest (to_line_end inner h) = line_best inner rest h
comment_best breaks front rest (closed inner h) =
    best_same (list_any is_line_end inner) rest (to_close false ((inner ++ (42 ∷ 47 ∷ [])) ++ rest))
    (ap (to_close false) (append_assoc inner (42 ∷ 47 ∷ []) rest) ∙ close_again false inner rest h)
