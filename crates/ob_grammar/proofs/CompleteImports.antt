-- What is in the grammar of imports, the descent gives.
use Rattle.std.proofs.Common.{◌≡◌, ℕ, zero, suc, ◌≤◌, ◌<◌, List, [], ◌∷◌, length, true, false, Option, Some, None, ap, ◌∙◌, arith}
use Rattle.std.specs.Prelude.{codes}
use Rattle.ob_lex.specs.declared.punctuator.Punctuator.{Punctuator}
use Rattle.ob_lex.specs.declared.punctuator.Punctuator.TheVariants as mark
use Rattle.ob_base.specs.declared.reserved.ReservedWord.TheVariants as word
use Rattle.ob_lex.specs.declared.token.Token.{Token}
use Rattle.ob_lex.specs.declared.token.TokenKind.TheVariants as kind
use Rattle.ob_tree_types.specs.declared.cell.ImportSpec.{ImportSpec}
use Rattle.ob_tree_types.specs.declared.cell.SpecForm.{SpecForm}
use Rattle.ob_grammar.specs.Marks.{IsMark, IsWord, IsName}
use Rattle.ob_grammar.specs.Cells.{ReadsForm, plain, viewof, mutable, ReadsAlias, no_alias, alias, ReadsSpec, spec, ReadsSpecList, no_spec, last_spec, more_specs, ReadsSpecs, specs, ReadsWith, no_with, with_specs}
use Rattle.ob_grammar.specs.Taking.{opens_brace, closes_brace, is_comma, is_with, is_as, is_from, name_of, text_of, take, one}
use Rattle.ob_grammar.specs.ReadingCells.{form_by, form_of, spec_by, spec_at, spec_of, specs_by, specs_at, specs_from, specs_of, with_by, import_of}
use Rattle.ob_grammar.proofs.Complete.{After, comma, brace}
use Rattle.ob_grammar.proofs.CompleteLists.{comma_closes_brace}
use Rattle.ob_grammar.proofs.CompleteTaking.{then_is, take_on, take_off, one_on, taken, name_on}
use Rattle.ob_grammar.proofs.Tests.{opens_brace_on, closes_brace_on, is_comma_on, is_with_on}

abbrev as_spec : SpecForm → List ℕ → Option (List ℕ) → ImportSpec
as_spec f x y = record { form = f; source = x; alias = y }

-- ---- tokens

mark_no_as : (t : Token) (m : Punctuator) → IsMark m t → is_as t.kind ≡ false
unfolding is_as name_of
mark_no_as t m h = ap is_as h

after_no_as : {ts : List Token} → After ts → take is_as ts ≡ None
after_no_as (comma c ts h) = take_off is_as c ts (mark_no_as c mark.Comma h)
after_no_as (brace c ts h) = take_off is_as c ts (mark_no_as c mark.CloseBrace h)

as_on : (t : Token) → IsName (codes "as") t → is_as t.kind ≡ true
unfolding is_as name_of
as_on t h = ap is_as h

from_on : (t : Token) → IsName (codes "from") t → is_from t.kind ≡ true
unfolding is_from name_of
from_on t h = ap is_from h

from_no_with : (t : Token) → IsName (codes "from") t → is_with t.kind ≡ false
unfolding is_with
from_no_with t h = ap is_with h

text_on : (t : Token) (id : List ℕ) → t.kind ≡ kind.Text id → text_of t.kind ≡ Some id
unfolding text_of
text_on t id h = ap text_of h

name_no_brace : (t : Token) (x : List ℕ) → IsName x t → closes_brace t.kind ≡ false
unfolding closes_brace
name_no_brace t x h = ap closes_brace h

viewof_no_brace : (t : Token) → IsWord word.Viewof t → closes_brace t.kind ≡ false
unfolding closes_brace
viewof_no_brace t h = ap closes_brace h

mutable_no_brace : (t : Token) → IsWord word.Mutable t → closes_brace t.kind ≡ false
unfolding closes_brace
mutable_no_brace t h = ap closes_brace h

-- ---- what is imported

form_is : {ts : List Token} {f : SpecForm} (n : Token) (mid : List Token) (x : List ℕ) → ReadsForm ts f (n ∷ mid) → IsName x n → form_of ts ≡ (f, n ∷ mid)
unfolding form_of
form_is n mid x (plain ts) h = ap (λ k. form_by k n mid) h
form_is n mid x (viewof t ts ht) h = ap (λ k. form_by k t (n ∷ mid)) ht
form_is n mid x (mutable t ts ht) h = ap (λ k. form_by k t (n ∷ mid)) ht

alias_is : {mid : List Token} {y : Option (List ℕ)} {rest : List Token} (f : SpecForm) (x : List ℕ) → ReadsAlias mid y rest → After rest
    → spec_by (take is_as mid) f x mid ≡ Some (as_spec f x y, rest)
alias_is f x (no_alias ts) a = ap (λ o. spec_by o f x ts) (after_no_as a)
alias_is f x (alias t n ts y ht hn) a = ap (λ o. spec_by o f x (t ∷ n ∷ ts)) (take_on is_as t (n ∷ ts) (as_on t ht))
    ∙ then_is (one name_of (n ∷ ts)) y ts _ (one_on name_of y n ts (name_on n y hn))

spec_is : {ts : List Token} {s : ImportSpec} {rest : List Token} → ReadsSpec ts s rest → After rest → spec_of ts ≡ Some (s, rest)
unfolding spec_of
spec_is (spec n ts mid rest f x y hf hn hy) a = ap spec_at (form_is n mid x hf hn)
    ∙ then_is (one name_of (n ∷ mid)) x mid _ (one_on name_of x n mid (name_on n x hn)) ∙ alias_is f x hy a

form_no_close : {ts : List Token} {f : SpecForm} (n : Token) (mid : List Token) (x : List ℕ) → ReadsForm ts f (n ∷ mid) → IsName x n → take closes_brace ts ≡ None
form_no_close n mid x (plain ts) h = take_off closes_brace n mid (name_no_brace n x h)
form_no_close n mid x (viewof t ts ht) h = take_off closes_brace t (n ∷ mid) (viewof_no_brace t ht)
form_no_close n mid x (mutable t ts ht) h = take_off closes_brace t (n ∷ mid) (mutable_no_brace t ht)

spec_no_close : {ts : List Token} {s : ImportSpec} {rest : List Token} → ReadsSpec ts s rest → take closes_brace ts ≡ None
spec_no_close (spec n ts mid rest f x y hf hn hy) = form_no_close n mid x hf hn

shorter_form : {ts : List Token} {f : SpecForm} {rest : List Token} → ReadsForm ts f rest → length rest ≤ length ts
shorter_form (plain ts) = omega arith
shorter_form (viewof t ts h) = omega arith
shorter_form (mutable t ts h) = omega arith

shorter_alias : {ts : List Token} {y : Option (List ℕ)} {rest : List Token} → ReadsAlias ts y rest → length rest ≤ length ts
shorter_alias (no_alias ts) = omega arith
shorter_alias (alias t n ts x h1 h2) = omega arith

shorter_spec : {ts : List Token} {s : ImportSpec} {rest : List Token} → ReadsSpec ts s rest → length rest < length ts
shorter_spec (spec n ts mid rest f x y hf hn hy) = omega (arith, shorter_form hf, shorter_alias hy)

specs_none : (n : ℕ) (t : Token) (ts : List Token) → IsMark mark.CloseBrace t → specs_from (suc n) (t ∷ ts) ≡ Some ([], ts)
unfolding specs_from
specs_none n t ts h = ap (λ o. specs_at o (specs_from n) (t ∷ ts)) (take_on closes_brace t ts (closes_brace_on t.kind h))

specs_last : (n : ℕ) (ts : List Token) (s : ImportSpec) (c : Token) (rest : List Token) → ReadsSpec ts s (c ∷ rest) → IsMark mark.CloseBrace c
    → specs_from (suc n) ts ≡ Some (s ∷ [], rest)
unfolding specs_from
specs_last n ts s c rest d h = ap (λ o. specs_at o (specs_from n) ts) (spec_no_close d) ∙ then_is (spec_of ts) s (c ∷ rest) _ (spec_is d (brace c rest h))
    ∙ ap (λ b. specs_by b (is_comma c.kind) s (specs_from n) rest) (closes_brace_on c.kind h)

specs_more : (n : ℕ) (ts : List Token) (s : ImportSpec) (c : Token) (mid : List Token) (list : List ImportSpec) (rest : List Token) → ReadsSpec ts s (c ∷ mid)
    → IsMark mark.Comma c → specs_from n mid ≡ Some (list, rest) → specs_from (suc n) ts ≡ Some (s ∷ list, rest)
unfolding specs_from
specs_more n ts s c mid list rest d h more = ap (λ o. specs_at o (specs_from n) ts) (spec_no_close d) ∙ then_is (spec_of ts) s (c ∷ mid) _ (spec_is d (comma c mid h))
    ∙ ap (λ b. specs_by b (is_comma c.kind) s (specs_from n) mid) (comma_closes_brace c.kind h)
    ∙ ap (λ b. specs_by false b s (specs_from n) mid) (is_comma_on c.kind h) ∙ then_is (specs_from n mid) list rest _ more

spec_list_is : {ts : List Token} {list : List ImportSpec} {rest : List Token} → ReadsSpecList ts list rest → (n : ℕ) → length ts ≤ n → specs_from n ts ≡ Some (list, rest)
spec_list_is (no_spec t ts h) zero len = absurd (omega arith)
spec_list_is (no_spec t ts h) (suc n) len = specs_none n t ts h
spec_list_is (last_spec c ts rest s d h) zero len = absurd (omega (arith, shorter_spec d))
spec_list_is (last_spec c ts rest s d h) (suc n) len = specs_last n ts s c rest d h
spec_list_is (more_specs c ts mid rest s list d h more) zero len = absurd (omega (arith, shorter_spec d))
spec_list_is (more_specs c ts mid rest s list d h more) (suc n) len = specs_more n ts s c mid list rest d h (spec_list_is more n (omega (arith, shorter_spec d)))

specs_are : {ts : List Token} {list : List ImportSpec} {rest : List Token} → ReadsSpecs ts list rest → specs_of ts ≡ Some (list, rest)
unfolding specs_of
specs_are (specs t ts rest list h d) = taken opens_brace t ts _ (opens_brace_on t.kind h) ∙ spec_list_is d (length ts) (omega arith)

with_is : {ts : List Token} {given : Option (List ImportSpec)} (o : Token) (rest : List Token) → ReadsWith ts given (o ∷ rest) → IsName (codes "from") o
    → with_by (take is_with ts) ts ≡ Some (given, o ∷ rest)
with_is o rest (no_with ts) h = ap (λ r. with_by r (o ∷ rest)) (take_off is_with o rest (from_no_with o h))
with_is o rest (with_specs t ts r list ht d) h = ap (λ r. with_by r (t ∷ ts)) (take_on is_with t ts (is_with_on t.kind ht)) ∙ then_is (specs_of ts) list (o ∷ rest) _ (specs_are d)

-- behind the word `import`
pub import_is : (o q : Token) (ts mid rest : List Token) (list : List ImportSpec) (given : Option (List ImportSpec)) (id : List ℕ) → ReadsSpecs ts list mid
    → ReadsWith mid given (o ∷ q ∷ rest) → IsName (codes "from") o → q.kind ≡ kind.Text id
    → import_of ts ≡ Some (record { specs = list; with = given; from = id }, rest)
unfolding import_of
import_is o q ts mid rest list given id d w ho hq = then_is (specs_of ts) list mid _ (specs_are d) ∙ then_is (with_by (take is_with mid) mid) given (o ∷ q ∷ rest) _ (with_is o (q ∷ rest) w ho)
    ∙ taken is_from o (q ∷ rest) _ (from_on o ho) ∙ then_is (one text_of (q ∷ rest)) id rest _ (one_on text_of id q rest (text_on q id hq))
