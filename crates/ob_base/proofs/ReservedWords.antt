-- The reserved words that begin with a letter are enough to look a word up.
use Rattle.std.proofs.Common.{◌≡◌, ℕ, ◌≤◌, length, arith, Bool, true, false, cond, List, [], ◌∷◌, Option, Some, None, refl, ap, sym, ◌∙◌}
use Rattle.std.specs.Prelude.{bytes_eq, slice_index}
use Rattle.std.proofs.lemmas.Slice.Eq.{bytes_eq-Decides}
use Rattle.ob_base.specs.declared.reserved.ReservedWord.{ReservedWord}
use Rattle.ob_base.specs.declared.reserved.ReservedWord.TheVariants as word
use Rattle.ob_base.specs.Reserved.{spelling, every_word, find_word, reserved_word, words_of}

found_by : (w x : ReservedWord) (ws : List ReservedWord) (name : List ℕ) (b : Bool) → bytes_eq (spelling x) name ≡ b → (find_word ws name ≡ Some w → name ≡ spelling w)
    → cond b (Some x) (find_word ws name) ≡ Some w → name ≡ spelling w
found_by w x ws name true e more h = let q : x ≡ w = cc in sym ((bytes_eq-Decides (spelling x) name).0 e) ∙ ap spelling q
found_by w x ws name false e more h = more h

pub found : (w : ReservedWord) (ws : List ReservedWord) (name : List ℕ) → find_word ws name ≡ Some w → name ≡ spelling w
found w [] name h = cc
found w (x ∷ ws) name h = found_by w x ws name (bytes_eq (spelling x) name) refl (found w ws name) h

-- a reserved word has its spelling
pub reserved_sound : (w : ReservedWord) (name : List ℕ) → reserved_word name ≡ Some w → name ≡ spelling w
unfolding reserved_word
reserved_sound w name h = found w every_word name h

-- each reserved word is found
pub reserved_found : (w : ReservedWord) → reserved_word (spelling w) ≡ Some w
unfolding reserved_word spelling
reserved_found word.Arguments = refl
reserved_found word.Async = refl
reserved_found word.Await = refl
reserved_found word.Break = refl
reserved_found word.Case = refl
reserved_found word.Catch = refl
reserved_found word.Class = refl
reserved_found word.Const = refl
reserved_found word.Continue = refl
reserved_found word.Debugger = refl
reserved_found word.Default = refl
reserved_found word.Delete = refl
reserved_found word.Do = refl
reserved_found word.Else = refl
reserved_found word.Enum = refl
reserved_found word.Export = refl
reserved_found word.Extends = refl
reserved_found word.False = refl
reserved_found word.Finally = refl
reserved_found word.For = refl
reserved_found word.Function = refl
reserved_found word.If = refl
reserved_found word.Import = refl
reserved_found word.In = refl
reserved_found word.Instanceof = refl
reserved_found word.Let = refl
reserved_found word.Mutable = refl
reserved_found word.New = refl
reserved_found word.Null = refl
reserved_found word.Return = refl
reserved_found word.Static = refl
reserved_found word.Super = refl
reserved_found word.Switch = refl
reserved_found word.This = refl
reserved_found word.Throw = refl
reserved_found word.True = refl
reserved_found word.Try = refl
reserved_found word.Typeof = refl
reserved_found word.Undefined = refl
reserved_found word.Var = refl
reserved_found word.Viewof = refl
reserved_found word.Void = refl
reserved_found word.While = refl
reserved_found word.With = refl
reserved_found word.Yield = refl

by_letter : List ℕ → Option ReservedWord
by_letter [] = None
by_letter (c ∷ cs) = find_word (words_of c) (c ∷ cs)

letter_found : (w : ReservedWord) → by_letter (spelling w) ≡ Some w
unfolding by_letter words_of spelling
letter_found word.Arguments = refl
letter_found word.Async = refl
letter_found word.Await = refl
letter_found word.Break = refl
letter_found word.Case = refl
letter_found word.Catch = refl
letter_found word.Class = refl
letter_found word.Const = refl
letter_found word.Continue = refl
letter_found word.Debugger = refl
letter_found word.Default = refl
letter_found word.Delete = refl
letter_found word.Do = refl
letter_found word.Else = refl
letter_found word.Enum = refl
letter_found word.Export = refl
letter_found word.Extends = refl
letter_found word.False = refl
letter_found word.Finally = refl
letter_found word.For = refl
letter_found word.Function = refl
letter_found word.If = refl
letter_found word.Import = refl
letter_found word.In = refl
letter_found word.Instanceof = refl
letter_found word.Let = refl
letter_found word.Mutable = refl
letter_found word.New = refl
letter_found word.Null = refl
letter_found word.Return = refl
letter_found word.Static = refl
letter_found word.Super = refl
letter_found word.Switch = refl
letter_found word.This = refl
letter_found word.Throw = refl
letter_found word.True = refl
letter_found word.Try = refl
letter_found word.Typeof = refl
letter_found word.Undefined = refl
letter_found word.Var = refl
letter_found word.Viewof = refl
letter_found word.Void = refl
letter_found word.While = refl
letter_found word.With = refl
letter_found word.Yield = refl

same_by : (c : ℕ) (cs : List ℕ) (a b : Option ReservedWord) → find_word (words_of c) (c ∷ cs) ≡ a → reserved_word (c ∷ cs) ≡ b → a ≡ b
unfolding by_letter
same_by c cs None None e f = refl
same_by c cs None (Some w) e f = let h = ap by_letter (reserved_sound w (c ∷ cs) f) in let k = letter_found w in cc
same_by c cs (Some w) b e f = let h = ap reserved_word (found w (words_of c) (c ∷ cs) e) in let k = reserved_found w in cc

-- the words with its first letter are enough
pub by_first_letter : (c : ℕ) (cs : List ℕ) → find_word (words_of c) (c ∷ cs) ≡ reserved_word (c ∷ cs)
by_first_letter c cs = same_by c cs (find_word (words_of c) (c ∷ cs)) (reserved_word (c ∷ cs)) refl refl

at_first : (name letters : List ℕ) → letters ≡ name → 1 ≤ length letters → find_word (words_of (slice_index letters 0)) name ≡ reserved_word name
at_first [] letters e le = absurd (omega (arith, ap length e))
at_first (c ∷ cs) letters e le = ap (λ l. find_word (words_of (slice_index l 0)) (c ∷ cs)) e ∙ by_first_letter c cs

-- a word is looked up by the first of its bytes
pub named_by : (name letters : List ℕ) (ws : List ReservedWord) (o : Option ReservedWord) → letters ≡ name → 1 ≤ length letters → ws ≡ words_of (slice_index letters 0)
    → o ≡ find_word ws name → o ≡ reserved_word name
named_by name letters ws o e le w f = f ∙ ap (λ ws. find_word ws name) w ∙ at_first name letters e le

-- the empty text is no reserved word
pub empty_is_none : (name letters : List ℕ) → letters ≡ name → length letters ≤ 0 → None ≡ reserved_word name
unfolding reserved_word spelling
empty_is_none [] letters e le = refl
empty_is_none (c ∷ cs) letters e le = absurd (omega (arith, ap length e))
