-- Names and reserved words.
use Rattle.std.proofs.Common.{◌≡◌, ◌≢◌, ℕ, suc, ◌<◌, ◌≤◌, Bool, true, false, ◌||◌, ◌&&◌, ◌==◌, List, [], ◌∷◌, ◌++◌, length, take, drop, Option, Some, None, refl, ap, sym, ◌∙◌, subst, arith, length-append, take-append-drop}
use Rattle.std.proofs.lemmas.List.{length-drop}
use Rattle.std.proofs.lemmas.Str.{encodes_same}
use Rattle.std.proofs.Math.Seq.{take-append_seam}
use Rattle.std.proofs.lemmas.Bool.Decides.{nat_tests}
use Rattle.std.specs.Prelude.{encode_utf8_all}
use Rattle.std.specs.Char.{is_ascii_alphabetic}
use Rattle.unicode_ident.specs.Ident.{is_xid_start, is_xid_continue}
use Rattle.unicode_ident.proofs.IdentLemmas.{is_xid_start-ascii, is_xid_continue-ascii}
use Rattle.ob_base.specs.declared.reserved.ReservedWord.{ReservedWord}
use Rattle.ob_base.specs.declared.reserved.ReservedWord.TheVariants as word
use Rattle.ob_lex.specs.declared.token.TokenKind.{TokenKind}
use Rattle.ob_lex.specs.declared.token.TokenKind.TheVariants as kind
use Rattle.ob_lex.specs.declared.piece.Piece.TheVariants as piece
use Rattle.ob_base.specs.Reserved.{spelling, reserved_word}
use Rattle.ob_base.proofs.ReservedWords.{reserved_sound, reserved_found}
use Rattle.ob_lex.specs.Characters.{Characters, starts_name, continues_name}
use Rattle.ob_lex.specs.Pieces.{Each, IsWord, IsPiece}
use Rattle.ob_lex.specs.Reading.{run, word_kind, word_at}
use Rattle.ob_lex.proofs.Classes.{both}
use Rattle.ob_lex.proofs.Tools.{OnRead, Took, Best, run_each, run_most, run_length}

-- ---- the bytes of a reserved word are its characters

spelling_encoded : (w : ReservedWord) → encode_utf8_all (spelling w) ≡ spelling w
unfolding spelling lib.Utf8.encode
spelling_encoded word.Arguments = refl
spelling_encoded word.Async = refl
spelling_encoded word.Await = refl
spelling_encoded word.Break = refl
spelling_encoded word.Case = refl
spelling_encoded word.Catch = refl
spelling_encoded word.Class = refl
spelling_encoded word.Const = refl
spelling_encoded word.Continue = refl
spelling_encoded word.Debugger = refl
spelling_encoded word.Default = refl
spelling_encoded word.Delete = refl
spelling_encoded word.Do = refl
spelling_encoded word.Else = refl
spelling_encoded word.Enum = refl
spelling_encoded word.Export = refl
spelling_encoded word.Extends = refl
spelling_encoded word.False = refl
spelling_encoded word.Finally = refl
spelling_encoded word.For = refl
spelling_encoded word.Function = refl
spelling_encoded word.If = refl
spelling_encoded word.Import = refl
spelling_encoded word.In = refl
spelling_encoded word.Instanceof = refl
spelling_encoded word.Let = refl
spelling_encoded word.Mutable = refl
spelling_encoded word.New = refl
spelling_encoded word.Null = refl
spelling_encoded word.Return = refl
spelling_encoded word.Static = refl
spelling_encoded word.Super = refl
spelling_encoded word.Switch = refl
spelling_encoded word.This = refl
spelling_encoded word.Throw = refl
spelling_encoded word.True = refl
spelling_encoded word.Try = refl
spelling_encoded word.Typeof = refl
spelling_encoded word.Undefined = refl
spelling_encoded word.Var = refl
spelling_encoded word.Viewof = refl
spelling_encoded word.Void = refl
spelling_encoded word.While = refl
spelling_encoded word.With = refl
spelling_encoded word.Yield = refl

encoded_by : (name : Characters) (a b : Option ReservedWord) → reserved_word (encode_utf8_all name) ≡ a → reserved_word name ≡ b → a ≡ b
encoded_by name None None e f = refl
encoded_by name None (Some w) e f =
    let h = ap encode_utf8_all (reserved_sound w name f) ∙ spelling_encoded w in let k = ap reserved_word h in let l = reserved_found w in cc
encoded_by name (Some w) b e f =
    let h = encodes_same name (spelling w) (reserved_sound w (encode_utf8_all name) e ∙ sym (spelling_encoded w)) in let k = ap reserved_word h in let l = reserved_found w in cc

pub reserved_encoded : (name : Characters) → reserved_word (encode_utf8_all name) ≡ reserved_word name
reserved_encoded name = encoded_by name (reserved_word (encode_utf8_all name)) (reserved_word name) refl refl

-- ---- reserved words are words

abbrev is_small : Characters → Bool
is_small [] = true
is_small (c ∷ cs) = is_ascii_alphabetic c && is_small cs

alphabetic_small : (c : ℕ) → is_ascii_alphabetic c ≡ true → c < 128
alphabetic_small c h = grind (arith, nat_tests)

alphabetic_starts : (c : ℕ) → is_ascii_alphabetic c ≡ true → starts_name c ≡ true
unfolding starts_name
alphabetic_starts c h = go (c == 36 || c == 95) (is_xid_start-ascii c (alphabetic_small c h) ∙ h)
  where
    go : (b : Bool) → is_xid_start c ≡ true → (b || is_xid_start c) ≡ true
    go true x = refl
    go false x = x

alphabetic_continues : (c : ℕ) → is_ascii_alphabetic c ≡ true → continues_name c ≡ true
unfolding continues_name
alphabetic_continues c h = go (c == 36) (is_xid_continue-ascii c (alphabetic_small c h) ∙ grind (arith, nat_tests))
  where
    go : (b : Bool) → is_xid_continue c ≡ true → (b || is_xid_continue c) ≡ true
    go true x = refl
    go false x = x

small_continue : (cs : Characters) → is_small cs ≡ true → Each continues_name cs
small_continue [] h = tt
small_continue (c ∷ cs) h = let p = both (is_ascii_alphabetic c) (is_small cs) h in (alphabetic_continues c p.0, small_continue cs p.1)

abbrev is_small_word : Characters → Bool
is_small_word [] = false
is_small_word (c ∷ cs) = is_small (c ∷ cs)

small_word : (cs : Characters) → is_small_word cs ≡ true → IsWord cs
small_word [] h = cc
small_word (c ∷ cs) h = let p = both (is_ascii_alphabetic c) (is_small cs) h in (alphabetic_starts c p.0, small_continue cs p.1)

pub reserved_is_word : (w : ReservedWord) → IsWord (spelling w)
unfolding spelling
reserved_is_word word.Arguments = small_word (spelling word.Arguments) refl
reserved_is_word word.Async = small_word (spelling word.Async) refl
reserved_is_word word.Await = small_word (spelling word.Await) refl
reserved_is_word word.Break = small_word (spelling word.Break) refl
reserved_is_word word.Case = small_word (spelling word.Case) refl
reserved_is_word word.Catch = small_word (spelling word.Catch) refl
reserved_is_word word.Class = small_word (spelling word.Class) refl
reserved_is_word word.Const = small_word (spelling word.Const) refl
reserved_is_word word.Continue = small_word (spelling word.Continue) refl
reserved_is_word word.Debugger = small_word (spelling word.Debugger) refl
reserved_is_word word.Default = small_word (spelling word.Default) refl
reserved_is_word word.Delete = small_word (spelling word.Delete) refl
reserved_is_word word.Do = small_word (spelling word.Do) refl
reserved_is_word word.Else = small_word (spelling word.Else) refl
reserved_is_word word.Enum = small_word (spelling word.Enum) refl
reserved_is_word word.Export = small_word (spelling word.Export) refl
reserved_is_word word.Extends = small_word (spelling word.Extends) refl
reserved_is_word word.False = small_word (spelling word.False) refl
reserved_is_word word.Finally = small_word (spelling word.Finally) refl
reserved_is_word word.For = small_word (spelling word.For) refl
reserved_is_word word.Function = small_word (spelling word.Function) refl
reserved_is_word word.If = small_word (spelling word.If) refl
reserved_is_word word.Import = small_word (spelling word.Import) refl
reserved_is_word word.In = small_word (spelling word.In) refl
reserved_is_word word.Instanceof = small_word (spelling word.Instanceof) refl
reserved_is_word word.Let = small_word (spelling word.Let) refl
reserved_is_word word.Mutable = small_word (spelling word.Mutable) refl
reserved_is_word word.New = small_word (spelling word.New) refl
reserved_is_word word.Null = small_word (spelling word.Null) refl
reserved_is_word word.Return = small_word (spelling word.Return) refl
reserved_is_word word.Static = small_word (spelling word.Static) refl
reserved_is_word word.Super = small_word (spelling word.Super) refl
reserved_is_word word.Switch = small_word (spelling word.Switch) refl
reserved_is_word word.This = small_word (spelling word.This) refl
reserved_is_word word.Throw = small_word (spelling word.Throw) refl
reserved_is_word word.True = small_word (spelling word.True) refl
reserved_is_word word.Try = small_word (spelling word.Try) refl
reserved_is_word word.Typeof = small_word (spelling word.Typeof) refl
reserved_is_word word.Undefined = small_word (spelling word.Undefined) refl
reserved_is_word word.Var = small_word (spelling word.Var) refl
reserved_is_word word.Viewof = small_word (spelling word.Viewof) refl
reserved_is_word word.Void = small_word (spelling word.Void) refl
reserved_is_word word.While = small_word (spelling word.While) refl
reserved_is_word word.With = small_word (spelling word.With) refl
reserved_is_word word.Yield = small_word (spelling word.Yield) refl

-- ---- what is read

kind_piece : (front rest : Characters) → IsWord front → (o : Option ReservedWord) → reserved_word front ≡ o → IsPiece (piece.Token (word_kind front o)) front rest
kind_piece front rest h None e = (h, ((λ w k. let f = reserved_found w in let g : reserved_word front ≡ reserved_word (spelling w) = ap reserved_word k in cc), refl))
kind_piece front rest h (Some w) e = reserved_sound w front e

pub word_sound : (c : ℕ) (cs : Characters) → starts_name c ≡ true → OnRead (word_at (suc (run continues_name cs)) (c ∷ cs)) (λ k rest. Took (λ front. IsPiece (piece.Token k) front rest) (c ∷ cs) rest)
unfolding word_at
word_sound c cs h =
    let n = run continues_name cs in
    let front = c ∷ take n cs in
    (front, (sym (take-append-drop (suc n) (c ∷ cs)), kind_piece front (drop n cs) (h, run_each continues_name cs) (reserved_word front) refl))

name_kind : (name : List ℕ) (front : Characters) → ((w : ReservedWord) → front ≢ spelling w) → name ≡ encode_utf8_all front → (o : Option ReservedWord) → reserved_word front ≡ o
    → word_kind front o ≡ kind.Name name
name_kind name front other e None h = ap (λ x. kind.Name x) (sym e)
name_kind name front other e (Some w) h = absurd (other w (reserved_sound w front h))

pub word_best : (k : TokenKind) (c : ℕ) (cs rest : Characters) → IsWord (c ∷ cs) → ((o : Option ReservedWord) → reserved_word (c ∷ cs) ≡ o → word_kind (c ∷ cs) o ≡ k)
    → Best k rest (word_at (suc (run continues_name (cs ++ rest))) (c ∷ cs ++ rest))
unfolding word_at
word_best k c cs rest h same =
    let n = run continues_name (cs ++ rest) in
    let most : length cs ≤ n = run_most continues_name cs rest h.1 in
    let some = run_length continues_name (cs ++ rest) in (
      omega (arith, length-drop n (cs ++ rest), length-append cs rest),
      λ e.
          let l : n ≡ length cs = omega (arith, length-drop n (cs ++ rest), length-append cs rest, e) in
          let t : take n (cs ++ rest) ≡ cs = ap (λ m. take m (cs ++ rest)) l ∙ take-append_seam cs rest in
          ap (λ x. word_kind (c ∷ x) (reserved_word (c ∷ x))) t ∙ same (reserved_word (c ∷ cs)) refl,
    )

pub name_best : (name : List ℕ) (c : ℕ) (cs rest : Characters) → IsPiece (piece.Token (kind.Name name)) (c ∷ cs) rest
    → Best (kind.Name name) rest (word_at (suc (run continues_name (cs ++ rest))) (c ∷ cs ++ rest))
name_best name c cs rest h = word_best (kind.Name name) c cs rest h.0 (name_kind name (c ∷ cs) h.1.0 h.1.1)

pub reserved_best : (w : ReservedWord) (c : ℕ) (cs rest : Characters) → c ∷ cs ≡ spelling w
    → Best (kind.Reserved w) rest (word_at (suc (run continues_name (cs ++ rest))) (c ∷ cs ++ rest))
reserved_best w c cs rest h =
    word_best (kind.Reserved w) c cs rest (subst IsWord (sym h) (reserved_is_word w)) go
  where
    go : (o : Option ReservedWord) → reserved_word (c ∷ cs) ≡ o → word_kind (c ∷ cs) o ≡ kind.Reserved w
    go None e = let f = reserved_found w in let g : reserved_word (c ∷ cs) ≡ reserved_word (spelling w) = ap reserved_word h in cc
    go (Some x) e = let f = reserved_found w in let g : reserved_word (c ∷ cs) ≡ reserved_word (spelling w) = ap reserved_word h in let q : x ≡ w = cc in ap (λ x. kind.Reserved x) q
