-- Lines that come in pieces.
use Rattle.std.proofs.Common.{◌≡◌, ℕ, ◌+◌, ◌-◌, ◌<◌, ◌≤◌, List, [], ◌++◌, Bool, true, false, cond, eqb, not, length, take, drop, Some, refl, sym, ap, ◌∙◌, append_assoc, arith}
use Rattle.std.proofs.Math.Seq.{take-append-add, take-length, drop-append-add}
use Rattle.std.proofs.lemmas.Bool.Decides.{nat_tests}
use Rattle.std.proofs.lemmas.List.{drop_all, get_or-take, length-append, length-take-le, take-append-le, drop-append-le}
use Rattle.std.proofs.lemmas.List.Folds.{prefix_len-append, length-prefix_len}
use Rattle.std.proofs.lemmas.List.Sums.{prefix_len-le-length, prefix_len_is, prefix_len_passes}
use Rattle.ob_io.specs.Lines.{is_line_feed, line_len, next_of, IsNext, IsPartial}
use Rattle.ob_io.specs.declared.next_line.NextLine.{NextLine}
use Rattle.ob_io.specs.declared.next_line.NextLine.TheVariants.{Line, End, LineTooLong, InputTooLong}

abbrev in_line : ℕ → Bool
in_line byte = not (is_line_feed byte)

same_case : (n m a b : ℕ) → n ≡ m → cond (eqb n m) a b ≡ a
same_case n m a b e = grind (arith, nat_tests)

other_case : (n m a b : ℕ) → n < m → cond (eqb n m) a b ≡ b
other_case n m a b h = grind (arith, nat_tests)

pub line_len-le : (xs : List ℕ) → line_len xs ≤ length xs
line_len-le xs = prefix_len-le-length in_line xs

-- behind a part with no line feed
pub line_len-part : (line xs : List ℕ) → line_len line ≡ length line → line_len (line ++ xs) ≡ length line + line_len xs
line_len-part line xs e = prefix_len-append in_line line xs ∙ same_case (line_len line) (length line) (length line + line_len xs) (line_len line) e

-- a line feed that has come decides
pub line_len-front : (xs ys : List ℕ) → line_len xs < length xs → line_len (xs ++ ys) ≡ line_len xs
line_len-front xs ys h = prefix_len-append in_line xs ys ∙ other_case (line_len xs) (length xs) (length xs + line_len ys) (line_len xs) h

grows : (n m a : ℕ) → n ≤ m → n ≤ cond (eqb n m) (m + a) n
grows n m a h = grind (arith, nat_tests)

pub line_len-grows : (xs ys : List ℕ) → line_len xs ≤ line_len (xs ++ ys)
line_len-grows xs ys = rw (prefix_len-append in_line xs ys) (grows (line_len xs) (length xs) (line_len ys) (line_len-le xs))

pub next_of-end : (L M : ℕ) → next_of L M [] ≡ End
unfolding next_of
next_of-end L M = refl

pub next_of-line : (L M : ℕ) (bs : List ℕ) → 0 < length bs → line_len bs ≤ L → line_len bs < M → next_of L M bs ≡ Line (take (line_len bs) bs)
unfolding next_of
next_of-line L M bs h l m = grind (arith, nat_tests)

pub next_of-rest : (L M : ℕ) (bs : List ℕ) → 0 < length bs → line_len bs ≤ L → length bs ≤ M → next_of L M bs ≡ Line (take (line_len bs) bs)
unfolding next_of
next_of-rest L M bs h l m = grind (arith, nat_tests)

pub next_of-long : (L M : ℕ) (bs : List ℕ) → L < line_len bs → L ≤ M → next_of L M bs ≡ LineTooLong
unfolding next_of
next_of-long L M bs l m = let le : line_len bs ≤ length bs = line_len-le bs in grind (arith, nat_tests)

pub next_of-over : (L M : ℕ) (bs : List ℕ) → M < length bs → M ≤ line_len bs → (L ≤ M → line_len bs ≤ L) → next_of L M bs ≡ InputTooLong
unfolding next_of
next_of-over L M bs n m o = grind (arith, nat_tests)

all_len : (line chunk more : List ℕ) → line_len line ≡ length line → line_len ((line ++ chunk) ++ more) ≡ length line + line_len (chunk ++ more)
all_len line chunk more e = rw (append_assoc line chunk more) (line_len-part line (chunk ++ more) e)

-- a part of a line goes on with bytes that have no line feed
pub more_case : (L M : ℕ) (line chunk part : List ℕ) → IsPartial L M line → length chunk ≤ line_len chunk → length line + length chunk ≤ L → length line + length chunk ≤ M
    → part ≡ line ++ chunk → IsPartial L M part
more_case L M line chunk part p h l m e =
    let whole : line_len chunk ≡ length chunk = omega (arith, line_len-le chunk) in
    rw e (record {
      no_feed = line_len-part line chunk p.no_feed ∙ ap (λ n. length line + n) whole ∙ sym (length-append line chunk);
      short = omega (arith, length-append line chunk);
      within = omega (arith, length-append line chunk);
    })

pub long_case : (L M : ℕ) (line chunk more : List ℕ) → IsPartial L M line → L - length line < line_len chunk → L ≤ M → next_of L M ((line ++ chunk) ++ more) ≡ LineTooLong
long_case L M line chunk more p h le = next_of-long L M ((line ++ chunk) ++ more) (omega (arith, all_len line chunk more p.no_feed, line_len-grows chunk more)) le

pub over_case : (L M : ℕ) (line chunk more : List ℕ) → IsPartial L M line → M - length line < length chunk → M - length line ≤ line_len chunk
    → (L ≤ M → line_len chunk ≤ L - length line) → next_of L M ((line ++ chunk) ++ more) ≡ InputTooLong
over_case L M line chunk more p n m o =
    let all = all_len line chunk more p.no_feed in
    next_of-over L M ((line ++ chunk) ++ more)
    (omega (arith, length-append (line ++ chunk) more, length-append line chunk))
    (omega (arith, all, line_len-grows chunk more))
    (λ le. let found : line_len chunk < length chunk = omega (arith, o le) in omega (arith, all, line_len-front chunk more found, o le))

-- a line feed has come
pub line_case : (L M : ℕ) (line chunk more part left buffer : List ℕ) (count : ℕ) (answer : NextLine) → IsPartial L M line → count ≡ line_len chunk → count < length chunk
    → length line + count ≤ L → length line + count < M → part ≡ line ++ take count chunk → answer ≡ Line part → left ≡ [] → buffer ≡ drop (count + 1) chunk
    → IsNext L M (Some ((line ++ chunk) ++ more)) (Some ((left ++ buffer) ++ more)) false answer
line_case L M line chunk more part left buffer count answer p same found short within e a l b =
    let feed : line_len chunk < length chunk = omega arith in
    let here : line_len ((line ++ chunk) ++ more) ≡ length line + count = omega (arith, all_len line chunk more p.no_feed, line_len-front chunk more feed) in
    let some : length ((line ++ chunk) ++ more) ≡ length line + length chunk + length more = omega (arith, length-append (line ++ chunk) more, length-append line chunk) in
    let size : length part ≡ length line + count = omega (arith, ap length e, length-append line (take count chunk), length-take-le count chunk (omega arith)) in
    let front : take (length line + count) ((line ++ chunk) ++ more) ≡ part =
    rw (append_assoc line chunk more) (take-append-add line (chunk ++ more) count ∙ ap (λ t. line ++ t) (take-append-le count chunk more (omega arith)) ∙ sym e) in
    let back : drop (length part + 1) ((line ++ chunk) ++ more) ≡ (left ++ buffer) ++ more =
    rw (append_assoc line chunk more) (ap (λ n. drop n (line ++ (chunk ++ more))) (omega (arith, size)) ∙ drop-append-add line (chunk ++ more) (count + 1) ∙ drop-append-le (count + 1) chunk more (omega arith) ∙ ap (λ t. t ++ more) (sym b) ∙ ap (λ t. (t ++ buffer) ++ more) (sym l)) in
    rw a (
      next_of-line L M ((line ++ chunk) ++ more) (omega arith) (omega arith) (omega arith) ∙ ap (λ n. Line (take n ((line ++ chunk) ++ more))) here ∙ ap Line front,
      ap Some (sym back),
      grind (arith, nat_tests),
    )

-- at the input's end
pub end_case : (L M : ℕ) (line buffer : List ℕ) → line ≡ [] → buffer ≡ [] → (next_of L M line ≡ End) × (line ++ buffer ≡ line) × (true ≡ true)
end_case L M line buffer e b = rw (e, b) (next_of-end L M, refl, refl)

pub rest_case : (L M : ℕ) (line left buffer : List ℕ) (ended : Bool) → IsPartial L M line → 0 < length line → left ≡ [] → buffer ≡ [] → ended ≡ true
    → IsNext L M (Some line) (Some (left ++ buffer)) ended (Line line)
rest_case L M line left buffer ended p some l b e =
    let short : line_len line ≤ L = omega (arith, p.no_feed, p.short) in
    let all : take (line_len line) line ≡ line = ap (λ n. take n line) p.no_feed ∙ take-length line in
    let none : drop (length line + 1) line ≡ [] = drop_all (length line + 1) line (omega arith) in
    rw (l, b, e) (next_of-rest L M line some short p.within ∙ ap Line all, ap Some (sym none), grind (arith, nat_tests))

line_len-prefix : (xs : List ℕ) → line_len (take (line_len xs) xs) ≡ line_len xs
line_len-prefix xs = prefix_len_is in_line (take (line_len xs) xs) (line_len xs) 0 (omega (arith, length-prefix_len in_line xs))
    (λ k h. ap in_line (get_or-take (line_len xs) xs k 0 h) ∙ prefix_len_passes in_line xs k 0 h) (λ h. absurd (omega (arith, length-prefix_len in_line xs)))

-- a line that has come is within the limits
pub within_case : (L M : ℕ) (line chunk part : List ℕ) (count : ℕ) → IsPartial L M line → count ≡ line_len chunk → length line + count ≤ L → length line + count < M
    → part ≡ line ++ take count chunk → (line_len part ≡ length part) × (length part ≤ L) × (1 ≤ length part + 1) × (length part + 1 ≤ M)
within_case L M line chunk part count p same short within e =
    let front : take count chunk ≡ take (line_len chunk) chunk = ap (λ n. take n chunk) same in
    let size : length part ≡ length line + count = ap length e ∙ length-append line (take count chunk) ∙ ap (λ n. length line + n) (ap length front ∙ length-prefix_len in_line chunk ∙ sym same) in
    let len : line_len part ≡ length line + count = ap line_len e ∙ line_len-part line (take count chunk) p.no_feed ∙ ap (λ n. length line + n) (ap line_len front ∙ line_len-prefix chunk ∙ sym same) in
    (len ∙ sym size, omega (arith, size), omega arith, omega (arith, size))
