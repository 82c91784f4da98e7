-- Lines that a line feed ends.
use Rattle.std.proofs.Common.{◌≡◌, ◌<◌, ℕ, suc, ◌+◌, List, [], ◌∷◌, ◌++◌, length, take, drop, Bool, true, false, cond, not, leb, eqb, None, Some, refl, sym, ap, ◌∙◌, append_assoc, one-add, arith}
use Rattle.std.specs.declared.option.Option.{Option}
use Rattle.std.specs.Io.KnownBytes.{Consumes}
use Rattle.std.proofs.lemmas.Bool.Decides.{nat_tests}
use Rattle.std.proofs.lemmas.List.{append-nil, length-take-le}
use Rattle.ob_io.specs.declared.next_line.NextLine.TheVariants as coming
use Rattle.ob_io.specs.Lines.{next_of, line_len, is_line_feed}
use Rattle.ob_io.proofs.Lines.{line_len-le}
use Rattle.ob_session.specs.Step.{IsUnfed}
use Rattle.ob_session.specs.Trace.{next_from, behind, fed_from, fed_lines}

unfed_by : (b : Bool) (n m : ℕ) → cond (not b) (1 + n) 0 ≡ suc m → (b ≡ false) × (n ≡ m)
unfed_by true n m e = absurd (omega arith)
unfed_by false n m e = (refl, omega arith)

-- a line, its line feed and more
fed_front : (acc line t : List ℕ) → IsUnfed line → fed_from acc (line ++ 10 ∷ t) ≡ (acc ++ line) ∷ fed_from [] t
fed_front acc [] t u = ap (λ x. x ∷ fed_from [] t) (sym (append-nil acc))
fed_front acc (x ∷ line) t u =
    let parts : (is_line_feed x ≡ false) × (line_len line ≡ length line) = unfed_by (is_line_feed x) (line_len line) (length line) u in
    rw parts.0 (fed_front (acc ++ x ∷ []) line t parts.1 ∙ ap (λ y. y ∷ fed_from [] t) (append_assoc acc (x ∷ []) line))

fed_none : (acc kept : List ℕ) → IsUnfed kept → fed_from acc kept ≡ []
fed_none acc [] u = refl
fed_none acc (x ∷ kept) u =
    let parts : (is_line_feed x ≡ false) × (line_len kept ≡ length kept) = unfed_by (is_line_feed x) (line_len kept) (length kept) u in
    rw parts.0 (fed_none (acc ++ x ∷ []) kept parts.1)

either : (b : Bool) (line : List ℕ) (xs xs' ys ys' : List (List ℕ)) → xs ≡ xs' → ys ≡ ys' → cond b (line ∷ xs) ys ≡ cond b (line ∷ xs') ys'
either true line xs xs' ys ys' e f = ap (λ x. line ∷ x) e
either false line xs xs' ys ys' e f = f

-- a part of a line behind them ends none
pub fed_more : (acc xs kept : List ℕ) → IsUnfed kept → fed_from acc (xs ++ kept) ≡ fed_from acc xs
fed_more acc [] kept u = fed_none acc kept u
fed_more acc (x ∷ xs) kept u = either (is_line_feed x) acc _ _ _ _ (fed_more [] xs kept u) (fed_more (acc ++ x ∷ []) xs kept u)

eqb_is : (b c : ℕ) → eqb b c ≡ true → b ≡ c
eqb_is b c e = grind (arith, nat_tests)

cut_by : (x : ℕ) (b : List ℕ) (f : Bool) → is_line_feed x ≡ f → (line_len b < length b → b ≡ take (line_len b) b ++ 10 ∷ drop (suc (line_len b)) b) → line_len (x ∷ b) < length (x ∷ b)
    → x ∷ b ≡ take (line_len (x ∷ b)) (x ∷ b) ++ 10 ∷ drop (suc (line_len (x ∷ b))) (x ∷ b)
cut_by x b true e again h = rw e (ap (λ y. y ∷ b) (eqb_is x 10 e))
cut_by x b false e again h =
    let le : cond (not false) (1 + line_len b) 0 < suc (length b) = rw e at h in
    rw (e, one-add) (ap (λ y. x ∷ y) (again (omega arith)))

-- bytes up to their line feed, and behind it
cut : (b : List ℕ) → line_len b < length b → b ≡ take (line_len b) b ++ 10 ∷ drop (suc (line_len b)) b
cut [] h = absurd (omega arith)
cut (x ∷ b) h = cut_by x b (is_line_feed x) refl (cut b) h

by_line : (t u v : Bool) (x line : List ℕ) → cond t coming.End (cond u coming.LineTooLong (cond v coming.InputTooLong (coming.Line x))) ≡ coming.Line line → x ≡ line
by_line true u v x line e = cc
by_line false true v x line e = cc
by_line false false true x line e = cc
by_line false false false x line e = cc

line_is : (left : ℕ) (b line : List ℕ) → next_from left b ≡ coming.Line line → take (line_len b) b ≡ line
unfolding next_of
line_is left b line e = by_line _ _ _ (take (line_len b) b) line e

longer : (n m : ℕ) → leb n m ≡ false → m < n
longer n m e = grind (arith, nat_tests)

-- a line that doesn't meet the input's end has a line feed
fed_behind : (left : ℕ) (b line : List ℕ) → next_from left b ≡ coming.Line line → leb (length b) (length line) ≡ false → b ≡ line ++ 10 ∷ behind b line
fed_behind left b line n short =
    let is : take (line_len b) b ≡ line = line_is left b line n in
    let more : length line < length b = longer (length b) (length line) short in
    let size : length line ≡ line_len b = ap length (sym is) ∙ length-take-le (line_len b) b (line_len-le b) in
    let whole : b ≡ take (line_len b) b ++ 10 ∷ drop (suc (line_len b)) b = cut b (omega arith) in
    let place : suc (line_len b) ≡ length line + 1 = omega arith in
    whole ∙ ap (λ l. l ++ 10 ∷ drop (suc (line_len b)) b) is ∙ ap (λ k. line ++ 10 ∷ drop k b) place

moved : (i front b t : List ℕ) (rest : Option (List ℕ)) → i ≡ front ++ b → Consumes (Some b) rest t → Consumes (Some i) rest (front ++ t)
moved i front b t None e c = c
moved i front b t (Some r) e c = e ∙ ap (λ x. front ++ x) c ∙ sym (append_assoc front t r)

-- what is taken behind a line is taken with it
pub taken_with : (left : ℕ) (b line t : List ℕ) (rest : Option (List ℕ)) → next_from left b ≡ coming.Line line → leb (length b) (length line) ≡ false → IsUnfed line
    → Consumes (Some (behind b line)) rest t → (more : List ℕ) × Consumes (Some b) rest more × (fed_lines more ≡ line ∷ fed_lines t)
taken_with left b line t rest n short u c =
    let whole : b ≡ (line ++ 10 ∷ []) ++ behind b line = fed_behind left b line n short ∙ sym (append_assoc line (10 ∷ []) (behind b line)) in
    ((line ++ 10 ∷ []) ++ t, moved b (line ++ 10 ∷ []) (behind b line) t rest whole c, ap (fed_from []) (append_assoc line (10 ∷ []) t) ∙ fed_front [] line t u)
