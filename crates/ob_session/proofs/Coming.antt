-- The lines of the bytes to come, one at a time.
use Rattle.std.proofs.Common.{◌≡◌, ◌<◌, ℕ, zero, suc, ◌+◌, List, [], ◌∷◌, length, refl, ap, arith}
use Rattle.std.proofs.lemmas.List.{length-drop}
use Rattle.ob_io.specs.declared.next_line.NextLine.{NextLine}
use Rattle.ob_io.specs.declared.next_line.NextLine.TheVariants as coming
use Rattle.ob_io.specs.Lines.{next_of}
use Rattle.ob_session.specs.Trace.{next_from, behind, left_behind, lines_up_to, end_up_to, lines, end}

-- where a line comes there is a byte
line_some : (left : ℕ) (b line : List ℕ) → next_from left b ≡ coming.Line line → 0 < length b
unfolding next_of
line_some left [] line e = cc
line_some left (x ∷ b) line e = omega arith

fewer : (b line : List ℕ) → 0 < length b → length (behind b line) < length b
fewer b line h = omega (arith, length-drop (length line + 1) b)

-- how many lines are asked for does not matter where there are enough
abbrev Same : ℕ → ℕ → ℕ → List ℕ → Type 0
Same n m left b = (lines_up_to n left b ≡ lines_up_to m left b) × (end_up_to n left b ≡ end_up_to m left b)

same_by : (n m left : ℕ) (b : List ℕ) (x : NextLine) → next_from left b ≡ x → ((line : List ℕ) → x ≡ coming.Line line → Same n m (left_behind left b line) (behind b line)) → Same (suc n) (suc m) left b
same_by n m left b (coming.Line line) e again = rw e (ap (λ ls. line ∷ ls) (again line refl).0, (again line refl).1)
same_by n m left b coming.End e again = rw e (refl, refl)
same_by n m left b coming.LineTooLong e again = rw e (refl, refl)
same_by n m left b coming.InputTooLong e again = rw e (refl, refl)
same_by n m left b coming.ReadFault e again = rw e (refl, refl)
same_by n m left b coming.NoMemory e again = rw e (refl, refl)

same : (n m left : ℕ) (b : List ℕ) → length b < n → length b < m → Same n m left b
same zero m left b h k = absurd (omega arith)
same (suc n) zero left b h k = absurd (omega arith)
same (suc n) (suc m) left b h k = same_by n m left b (next_from left b) refl (λ line e.
    let some : 0 < length b = line_some left b line e in
    let less : length (behind b line) < length b = fewer b line some in
    same n m (left_behind left b line) (behind b line) (omega arith) (omega arith))

-- where a line comes, it is the first
pub lines_next : (left : ℕ) (b line : List ℕ) → next_from left b ≡ coming.Line line
    → (lines left b ≡ line ∷ lines (left_behind left b line) (behind b line)) × (end left b ≡ end (left_behind left b line) (behind b line))
lines_next left b line e =
    let some : 0 < length b = line_some left b line e in
    let less : length (behind b line) < length b = fewer b line some in
    let all : Same (length b) (suc (length (behind b line))) (left_behind left b line) (behind b line) = same (length b) (suc (length (behind b line))) (left_behind left b line) (behind b line) less (omega arith) in
    rw e (ap (λ ls. line ∷ ls) all.0, all.1)

-- where none comes, there is none
pub lines_none : (left : ℕ) (b : List ℕ) (x : NextLine) → next_from left b ≡ x → ((line : List ℕ) → x ≡ coming.Line line → ⊥) → (lines left b ≡ []) × (end left b ≡ x)
lines_none left b (coming.Line line) e never = absurd (never line refl)
lines_none left b coming.End e never = rw e (refl, refl)
lines_none left b coming.LineTooLong e never = rw e (refl, refl)
lines_none left b coming.InputTooLong e never = rw e (refl, refl)
lines_none left b coming.ReadFault e never = rw e (refl, refl)
lines_none left b coming.NoMemory e never = rw e (refl, refl)
