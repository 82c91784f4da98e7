-- Words of ASCII are read as themselves.
use Rattle.std.proofs.Common.{◌≡◌, ℕ, ◌<◌, Bool, true, ◌&&◌, ◌||◌, ◌==◌, List, [], ◌∷◌, ◌++◌, refl, ap, sym, ◌∙◌, arith}
use Rattle.std.specs.Prelude.{codes, encode_utf8_all}
use Rattle.std.specs.List.{list_all}
use Rattle.std.specs.Char.{is_ascii_alphanumeric}
use Rattle.std.proofs.Math.Utf8.{scalars, scalar, low_scalar}
use Rattle.std.proofs.lemmas.Bool.Decides.{nat_tests}
use Rattle.std.proofs.lemmas.Str.{encode_ascii}
use Rattle.unicode_ident.proofs.IdentLemmas.{is_xid_start-ascii, is_xid_continue-ascii}
use Rattle.ob_base.specs.declared.reserved.ReservedWord.{ReservedWord}
use Rattle.ob_base.specs.declared.reserved.ReservedWord.TheVariants as word
use Rattle.ob_base.specs.Escapes.{is_ascii_word, begins_ascii_word, starts_ascii_word, continues_ascii_word}
use Rattle.ob_base.specs.Reserved.{spelling, reserved_word}
use Rattle.ob_lex.specs.Characters.{starts_name, continues_name}
use Rattle.ob_lex.specs.Pieces.{Each, IsWord}
use Rattle.ob_lex.proofs.Classes.{both}
use Rattle.ob_tree.specs.Tokens.{Word}
use Rattle.ob_print_law.proofs.Valid.{Lexes, ValidName, Units}

small : (u : ℕ) → continues_ascii_word u ≡ true → u < 128
small u h = grind (arith, nat_tests)

starts_small : (u : ℕ) → starts_ascii_word u ≡ true → u < 128
starts_small u h = grind (arith, nat_tests)

starts : (u : ℕ) → starts_ascii_word u ≡ true → starts_name u ≡ true
unfolding starts_name
starts u h = ap (λ b. u == 36 || u == 95 || b) (is_xid_start-ascii u (starts_small u h)) ∙ h

continues : (u : ℕ) → continues_ascii_word u ≡ true → continues_name u ≡ true
unfolding continues_name
continues u h =
    let e : (u == 36 || (is_ascii_alphanumeric u || (u == 95))) ≡ true = grind (arith, nat_tests) in ap (λ b. u == 36 || b) (is_xid_continue-ascii u (small u h)) ∙ e

pub and_true : {a b : Bool} → a ≡ true → b ≡ true → (a && b) ≡ true
and_true {a} {b} p q = ap (λ x. x && b) p ∙ q

pub small_scalar : (u : ℕ) → u < 128 → scalar u ≡ true
small_scalar u h = low_scalar u (omega arith)

ascii_parts : (us : List ℕ) → list_all continues_ascii_word us ≡ true → Each continues_name us × ((scalars us ≡ true) × (encode_utf8_all us ≡ us))
ascii_parts [] h = (tt, (refl, refl))
ascii_parts (u ∷ us) h =
    let p = both (continues_ascii_word u) (list_all continues_ascii_word us) h in
    let lt = small u p.0 in
    let r = ascii_parts us p.1 in (
      (continues u p.0, r.0),
      (and_true (small_scalar u lt) r.1.0, ap (λ b. b ++ encode_utf8_all us) (encode_ascii u lt) ∙ ap (λ b. u ∷ b) r.1.1),
    )

ascii_is_word : (us : List ℕ) → is_ascii_word us ≡ true → IsWord us
ascii_is_word [] h = cc
ascii_is_word (u ∷ us) h =
    let p = both (starts_ascii_word u) (list_all continues_ascii_word (u ∷ us)) h in (starts u p.0, (ascii_parts us (both (continues_ascii_word u) (list_all continues_ascii_word us) p.1).1).0)

pub ascii_is_itself : (us : List ℕ) → is_ascii_word us ≡ true → (scalars us ≡ true) × (encode_utf8_all us ≡ us)
ascii_is_itself us h = (ascii_parts us (both (begins_ascii_word us) (list_all continues_ascii_word us) h).1).1

pub ascii_lexes : (us : List ℕ) → is_ascii_word us ≡ true → Lexes (Word us)
ascii_lexes us h = let p = ascii_is_itself us h in (us, (ascii_is_word us h, (p.0, sym p.1)))

units_by : (us : List ℕ) → list_all continues_ascii_word us ≡ true → Units us
units_by [] h = tt
units_by (u ∷ us) h = let p = both (continues_ascii_word u) (list_all continues_ascii_word us) h in let lt = small u p.0 in (omega arith, units_by us p.1)

pub ascii_units : (us : List ℕ) → is_ascii_word us ≡ true → Units us
ascii_units us h = units_by us (both (begins_ascii_word us) (list_all continues_ascii_word us) h).1

-- ---- reserved words

pub reserved_is_ascii : (w : ReservedWord) → is_ascii_word (spelling w) ≡ true
unfolding spelling
reserved_is_ascii word.Arguments = refl
reserved_is_ascii word.Async = refl
reserved_is_ascii word.Await = refl
reserved_is_ascii word.Break = refl
reserved_is_ascii word.Case = refl
reserved_is_ascii word.Catch = refl
reserved_is_ascii word.Class = refl
reserved_is_ascii word.Const = refl
reserved_is_ascii word.Continue = refl
reserved_is_ascii word.Debugger = refl
reserved_is_ascii word.Default = refl
reserved_is_ascii word.Delete = refl
reserved_is_ascii word.Do = refl
reserved_is_ascii word.Else = refl
reserved_is_ascii word.Enum = refl
reserved_is_ascii word.Export = refl
reserved_is_ascii word.Extends = refl
reserved_is_ascii word.False = refl
reserved_is_ascii word.Finally = refl
reserved_is_ascii word.For = refl
reserved_is_ascii word.Function = refl
reserved_is_ascii word.If = refl
reserved_is_ascii word.Import = refl
reserved_is_ascii word.In = refl
reserved_is_ascii word.Instanceof = refl
reserved_is_ascii word.Let = refl
reserved_is_ascii word.Mutable = refl
reserved_is_ascii word.New = refl
reserved_is_ascii word.Null = refl
reserved_is_ascii word.Return = refl
reserved_is_ascii word.Static = refl
reserved_is_ascii word.Super = refl
reserved_is_ascii word.Switch = refl
reserved_is_ascii word.This = refl
reserved_is_ascii word.Throw = refl
reserved_is_ascii word.True = refl
reserved_is_ascii word.Try = refl
reserved_is_ascii word.Typeof = refl
reserved_is_ascii word.Undefined = refl
reserved_is_ascii word.Var = refl
reserved_is_ascii word.Viewof = refl
reserved_is_ascii word.Void = refl
reserved_is_ascii word.While = refl
reserved_is_ascii word.With = refl
reserved_is_ascii word.Yield = refl

pub reserved_lexes : (w : ReservedWord) → Lexes (Word (spelling w))
reserved_lexes w = ascii_lexes (spelling w) (reserved_is_ascii w)

pub viewof_lexes : Lexes (Word (codes "viewof"))
unfolding spelling
viewof_lexes = reserved_lexes word.Viewof

pub new_lexes : Lexes (Word (codes "new"))
unfolding spelling
new_lexes = reserved_lexes word.New

pub function_lexes : Lexes (Word (codes "function"))
unfolding spelling
function_lexes = reserved_lexes word.Function

pub let_lexes : Lexes (Word (codes "let"))
unfolding spelling
let_lexes = reserved_lexes word.Let

pub const_lexes : Lexes (Word (codes "const"))
unfolding spelling
const_lexes = reserved_lexes word.Const

pub yield_lexes : Lexes (Word (codes "yield"))
unfolding spelling
yield_lexes = reserved_lexes word.Yield

pub mutable_lexes : Lexes (Word (codes "mutable"))
unfolding spelling
mutable_lexes = reserved_lexes word.Mutable

pub if_lexes : Lexes (Word (codes "if"))
unfolding spelling
if_lexes = reserved_lexes word.If

pub else_lexes : Lexes (Word (codes "else"))
unfolding spelling
else_lexes = reserved_lexes word.Else

pub while_lexes : Lexes (Word (codes "while"))
unfolding spelling
while_lexes = reserved_lexes word.While

pub do_lexes : Lexes (Word (codes "do"))
unfolding spelling
do_lexes = reserved_lexes word.Do

pub for_lexes : Lexes (Word (codes "for"))
unfolding spelling
for_lexes = reserved_lexes word.For

pub break_lexes : Lexes (Word (codes "break"))
unfolding spelling
break_lexes = reserved_lexes word.Break

pub continue_lexes : Lexes (Word (codes "continue"))
unfolding spelling
continue_lexes = reserved_lexes word.Continue

pub return_lexes : Lexes (Word (codes "return"))
unfolding spelling
return_lexes = reserved_lexes word.Return

pub throw_lexes : Lexes (Word (codes "throw"))
unfolding spelling
throw_lexes = reserved_lexes word.Throw

pub try_lexes : Lexes (Word (codes "try"))
unfolding spelling
try_lexes = reserved_lexes word.Try

pub catch_lexes : Lexes (Word (codes "catch"))
unfolding spelling
catch_lexes = reserved_lexes word.Catch

pub import_lexes : Lexes (Word (codes "import"))
unfolding spelling
import_lexes = reserved_lexes word.Import

pub with_lexes : Lexes (Word (codes "with"))
unfolding spelling
with_lexes = reserved_lexes word.With

pub true_lexes : Lexes (Word (codes "true"))
unfolding spelling
true_lexes = reserved_lexes word.True

pub false_lexes : Lexes (Word (codes "false"))
unfolding spelling
false_lexes = reserved_lexes word.False

pub null_lexes : Lexes (Word (codes "null"))
unfolding spelling
null_lexes = reserved_lexes word.Null

pub undefined_lexes : Lexes (Word (codes "undefined"))
unfolding spelling
undefined_lexes = reserved_lexes word.Undefined

pub typeof_lexes : Lexes (Word (codes "typeof"))
unfolding spelling
typeof_lexes = reserved_lexes word.Typeof

pub void_lexes : Lexes (Word (codes "void"))
unfolding spelling
void_lexes = reserved_lexes word.Void

pub of_valid : ValidName (codes "of")
unfolding reserved_word spelling
of_valid = (ascii_lexes (codes "of") refl, refl)

pub as_valid : ValidName (codes "as")
unfolding reserved_word spelling
as_valid = (ascii_lexes (codes "as") refl, refl)

pub from_valid : ValidName (codes "from")
unfolding reserved_word spelling
from_valid = (ascii_lexes (codes "from") refl, refl)
