-- What decimal texts are made of, and what they read as.
use Rattle.std.proofs.Common.{◌≡◌, ℕ, ◌+◌, ◌-◌, ◌*◌, ◌/◌, ◌%◌, ◌^◌, ◌<◌, ◌≤◌, List, [], ◌∷◌, ◌++◌, refl, ap, subst, ◌∙◌, sym, arith, length, get_or, decimal, Bool, true, false, cond, nat_eq, nat_lt, ◌&&◌, Option, Some, None, IfSome, IfNone}
use Rattle.std.proofs.lemmas.Bool.{true≢false, eqb-true, eq-eqb}
use Rattle.std.proofs.lemmas.Bool.Decides.{nat_tests}
use Rattle.std.specs.Cmp.Lexicographic.{pointwise}
use Rattle.ob_items.specs.IndexText.{index_in}
use Rattle.std.proofs.lemmas.Fmt.{decimal_by_steps, length-decimal-le}
use Rattle.std.proofs.lemmas.List.Elements.{All-push, All-get_or, All-nil}
use Rattle.std.specs.List.{All, fold}
use Rattle.ob_items.specs.IndexText.{read, IsIndexText}

abbrev pub IsDigit : ℕ → Type 0
IsDigit c = (48 ≤ c) × (c ≤ 57)

read_after : ℕ → List ℕ → ℕ
read_after a us = fold (λ n u. n * 10 + (u - 48)) a us

fold_push : (a : ℕ) (us : List ℕ) (c : ℕ) → fold (λ n u. n * 10 + (u - 48)) a (us ++ c ∷ []) ≡ fold (λ n u. n * 10 + (u - 48)) a us * 10 + (c - 48)
fold_push a [] c = refl
fold_push a (u ∷ us) c = fold_push (a * 10 + (u - 48)) us c

record Facts (n : ℕ) (ds : List ℕ) : Type 0 where
  digits : All IsDigit ds
  reads : read ds ≡ n

one : (n : ℕ) → n < 10 → Facts n ((48 + n) ∷ [])
one n l = record { digits = All-push IsDigit [] (48 + n) (All-nil IsDigit) (omega arith, omega arith); reads = omega arith }

more : (n : ℕ) (ds : List ℕ) → 10 ≤ n → Facts (n / 10) ds → Facts n (ds ++ ((48 + n % 10) ∷ []))
more n ds l f = record {
  digits = All-push IsDigit ds (48 + n % 10) f.digits (omega arith, omega arith);
  reads = fold_push 0 ds (48 + n % 10) ∙ omega (arith, f.reads);
}

facts : (n : ℕ) → n < 2 ^ 64 → Facts n (decimal n)
facts n h = decimal_by_steps Facts one more n h

pub decimal_digit_at : (u : List ℕ) (n i : ℕ) → n < 4294967295 → u ≡ decimal n → i < length u → IsDigit (get_or u i 0)
decimal_digit_at u n i small e l = All-get_or IsDigit u i 0 l (subst (All IsDigit) (sym e) (facts n (omega arith)).digits)

pub read-index : (u : List ℕ) (n : ℕ) → IsIndexText u n → read u ≡ n
read-index u n t = ap read t.text ∙ (facts n (omega (arith, t.index))).reads

pub length-index-le : (u : List ℕ) (n : ℕ) → IsIndexText u n → length u ≤ 10
length-index-le u n t = rw t.text (length-decimal-le 10 n (omega arith) (omega (arith, t.index)) (omega (arith, t.index)))

-- `==` of two lists of numbers
pub same_text : (xs ys : List ℕ) → pointwise nat_eq xs ys ≡ true → xs ≡ ys
same_text [] [] e = refl
same_text [] (y ∷ ys) e = absurd (true≢false (sym e))
same_text (x ∷ xs) [] e = absurd (true≢false (sym e))
same_text (x ∷ xs) (y ∷ ys) e = by (nat_eq x y) refl (λ t. same_text xs ys t)
  where
    by : (b : Bool) → nat_eq x y ≡ b → (pointwise nat_eq xs ys ≡ true → xs ≡ ys) → x ∷ xs ≡ y ∷ ys
    by true h rest = let t : pointwise nat_eq xs ys ≡ true = sym (ap (λ c. c && pointwise nat_eq xs ys) h) ∙ e in λ i. eqb-true x y h i ∷ rest t i
    by false h rest = absurd (true≢false (sym (sym (ap (λ c. c && pointwise nat_eq xs ys) h) ∙ e)))

pub text_same : (xs : List ℕ) → pointwise nat_eq xs xs ≡ true
text_same [] = refl
text_same (x ∷ xs) = ap (λ c. c && pointwise nat_eq xs xs) (eq-eqb x x refl) ∙ text_same xs

index_by : (u : List ℕ) (a b : Bool) → pointwise nat_eq u (decimal (read u)) ≡ a → nat_lt (read u) 4294967295 ≡ b → index_in u ≡ cond (a && b) (Some (read u)) None
index_by u a b p q i = cond (p i && q i) (Some (read u)) None

pub index_in-found : (u : List ℕ) (n : ℕ) → IsIndexText u n → index_in u ≡ Some n
index_in-found u n t =
    let r : read u ≡ n = read-index u n t in
    let text : pointwise nat_eq u (decimal (read u)) ≡ true = subst (λ d. pointwise nat_eq u d ≡ true) (t.text ∙ ap decimal (sym r)) (text_same u) in
    let small : nat_lt (read u) 4294967295 ≡ true = (let l : read u < 4294967295 = omega (arith, t.index) in grind (arith, nat_tests)) in
    index_by u true true text small ∙ ap Some r

pub index_in-none : (u : List ℕ) → ((n : ℕ) → IsIndexText u n → ⊥) → index_in u ≡ None
index_in-none u never = by (pointwise nat_eq u (decimal (read u))) (nat_lt (read u) 4294967295) refl refl
  where
    by : (a b : Bool) → pointwise nat_eq u (decimal (read u)) ≡ a → nat_lt (read u) 4294967295 ≡ b → index_in u ≡ None
    by true true p q = absurd (never (read u) (record { text = same_text u (decimal (read u)) p; index = grind (arith, nat_tests) }))
    by true false p q = index_by u true false p q
    by false b p q = index_by u false b p q

pub index_in-is : (u : List ℕ) (r : Option ℕ) → IfSome r (IsIndexText u) → IfNone r ((n : ℕ) → IsIndexText u n → ⊥) → r ≡ index_in u
index_in-is u None some none = sym (index_in-none u none)
index_in-is u (Some n) some none = sym (index_in-found u n some)
