-- The answer for the bytes that were to come at first, from the answer for those that came.
use Rattle.std.proofs.Common.{◌≡◌, ℕ, List, [], ◌++◌, Bool, None, Some, sym, ap, ◌∙◌, append_assoc, subst}
use Rattle.std.proofs.lemmas.List.{append-nil}
use Rattle.std.specs.declared.option.Option.{Option}
use Rattle.std.specs.Io.KnownBytes.{Consumes, Keeps, IsAtEnd, prepend_known}
use Rattle.ob_io.specs.Lines.{IsNext}
use Rattle.ob_io.specs.declared.next_line.NextLine.{NextLine}
use Rattle.ob_io.specs.declared.next_line.NextLine.TheVariants.{Line, End, LineTooLong, InputTooLong, ReadFault, NoMemory}

-- a piece that was read goes behind the line
pub Keeps-piece : (old left new : Option (List ℕ)) (line piece longer : List ℕ) → Keeps old (prepend_known line left) → Consumes left new piece → longer ≡ line ++ piece
    → Keeps old (prepend_known longer new)
Keeps-piece None left new line piece longer k c e = tt
Keeps-piece (Some xs) None new line piece longer k c e = absurd k
Keeps-piece (Some xs) (Some ys) None line piece longer k c e = absurd c
Keeps-piece (Some xs) (Some ys) (Some zs) line piece longer k c e = ap (λ t. t ++ zs) e ∙ append_assoc line piece zs ∙ ap (λ t. line ++ t) (sym c) ∙ k

-- nothing was read
pub Keeps-none : (old left new : Option (List ℕ)) (line piece : List ℕ) → Keeps old (prepend_known line left) → Keeps left new → piece ≡ []
    → Keeps old (prepend_known (line ++ piece) new)
Keeps-none None left new line piece k c e = tt
Keeps-none (Some xs) None new line piece k c e = absurd k
Keeps-none (Some xs) (Some ys) None line piece k c e = absurd c
Keeps-none (Some xs) (Some ys) (Some zs) line piece k c e = ap (λ t. (line ++ t) ++ zs) e ∙ ap (λ t. t ++ zs) (append-nil line) ∙ ap (λ t. line ++ t) c ∙ k

-- where nothing is told at first, an answer says only whether the end was met
pub next-untold : (L M : ℕ) (old new now : Option (List ℕ)) (ended : Bool) (answer : NextLine) → IsNext L M old new ended answer → IsNext L M None now ended answer
next-untold L M old new now ended (Line line) h = tt
next-untold L M old new now ended End h = (tt, tt, h.2)
next-untold L M old new now ended LineTooLong h = (tt, tt, h.2)
next-untold L M old new now ended InputTooLong h = (tt, tt, h.2)
next-untold L M old new now ended ReadFault h = (tt, h.1)
next-untold L M old new now ended NoMemory h = (tt, h.1)

-- what was to come is what is to come now
pub next-kept : (L M : ℕ) (old now new : Option (List ℕ)) (ended : Bool) (answer : NextLine) → Keeps old now → IsNext L M now new ended answer → IsNext L M old new ended answer
next-kept L M None now new ended answer k h = next-untold L M now new new ended answer h
next-kept L M (Some xs) None new ended answer k h = absurd k
next-kept L M (Some xs) (Some ys) new ended answer k h = subst (λ t. IsNext L M (Some t) new ended answer) k h

-- an answer that holds whatever comes after holds for what the source has left
pub next-left : (L M : ℕ) (before after : List ℕ) (left : Option (List ℕ)) (ended : Bool) (answer : NextLine)
    → ((more : List ℕ) → IsNext L M (Some (before ++ more)) (Some (after ++ more)) ended answer) → IsNext L M (prepend_known before left) (prepend_known after left) ended answer
next-left L M before after None ended answer h = next-untold L M (Some (before ++ [])) (Some (after ++ [])) None ended answer (h [])
next-left L M before after (Some xs) ended answer h = h xs

-- the answer at the source's end
pub next-end : (L M : ℕ) (old left new : Option (List ℕ)) (line after : List ℕ) (ended : Bool) (answer : NextLine) → Keeps old (prepend_known line left) → IsAtEnd left → Keeps left new
    → IsNext L M (Some line) (Some after) ended answer → IsNext L M old (prepend_known after new) ended answer
next-end L M None left new line after ended answer k e c h = next-untold L M (Some line) (Some after) (prepend_known after new) ended answer h
next-end L M (Some xs) None new line after ended answer k e c h = absurd k
next-end L M (Some xs) (Some ys) None line after ended answer k e c h = absurd c
next-end L M (Some xs) (Some ys) (Some zs) line after ended answer k e c h =
    let all : line ≡ xs = sym (append-nil line) ∙ ap (λ t. line ++ t) (sym e) ∙ k in
    let rest : after ≡ after ++ zs = sym (append-nil after) ∙ ap (λ t. after ++ t) (sym (c ∙ e)) in
    subst (λ t. IsNext L M (Some t) (Some (after ++ zs)) ended answer) all (subst (λ t. IsNext L M (Some line) (Some t) ended answer) rest h)
