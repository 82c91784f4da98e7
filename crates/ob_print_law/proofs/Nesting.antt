-- How many brackets are open at once in printed tokens.
use Rattle.std.proofs.Common.{◌≡◌, ℕ, ℤ, ◌+◌, ◌≤◌, max, Bool, true, false, List, [], ◌∷◌, ◌++◌, Option, Some, None, map, refl, ap, sym, subst, ◌∙◌, arith, append_assoc}
use Rattle.std.specs.Prelude.{codes, if◌then◌else◌}
use Rattle.ob_base.specs.declared.operators.BinaryOp.{BinaryOp}
use Rattle.ob_base.specs.declared.operators.BinaryOp.TheVariants as binary
use Rattle.ob_base.specs.declared.operators.CompareOp.{CompareOp}
use Rattle.ob_base.specs.declared.operators.CompareOp.TheVariants as compare
use Rattle.ob_base.specs.declared.operators.UnaryOp.{UnaryOp}
use Rattle.ob_base.specs.declared.operators.UnaryOp.TheVariants as unary
use Rattle.ob_base.specs.declared.reserved.ReservedWord.{ReservedWord}
use Rattle.ob_base.specs.Reserved.{reserved_word}
use Rattle.ob_lex.specs.Words.{mark_spelling, marks_of}
use Rattle.ob_base.specs.declared.operators.LogicOp.{LogicOp}
use Rattle.ob_base.specs.declared.operators.LogicOp.TheVariants as logic
use Rattle.ob_base.specs.declared.operators.AssignOp.{AssignOp}
use Rattle.ob_base.specs.declared.operators.AssignOp.TheVariants as assign
use Rattle.ob_base.specs.declared.operators.UpdateOp.{UpdateOp}
use Rattle.ob_base.specs.declared.operators.UpdateOp.TheVariants as count
use Rattle.ob_base.specs.declared.operators.ChangeOp.{ChangeOp}
use Rattle.ob_base.specs.declared.operators.ChangeOp.TheVariants as change
use Rattle.ob_tree.specs.Depth.{deepest}
use Rattle.ob_tree.specs.Tokens.{Token as Printed, Word, Mark, Number, Quoted, key_token, is_ascii_name}
use Rattle.ob_tree.specs.Print.{Tokens, binary_mark, compare_mark, logic_mark, assign_mark, update_mark, change_mark, unary_token, in_parentheses, in_brackets, in_braces, listed, joined}
use Rattle.ob_grammar.specs.Limits.{most_open, open_after}
use Rattle.ob_print_law.proofs.Placed.{kind_of, kind_by, mark_named, placed, next}
use Rattle.ob_print_law.proofs.Listed.{rest_of, listed_is}

-- the most that are open at once in printed tokens, with n open before them
abbrev pub most : ℕ → Tokens → ℕ
most n [] = n
most n (p ∷ ps) = max n (most (open_after (kind_of p) n) ps)

pub placed_most : (n at : ℕ) (ps : Tokens) → most_open n (placed at ps) ≡ most n ps
unfolding most_open
placed_most n at [] = refl
placed_most n at (p ∷ ps) = ap (max n) (placed_most (open_after (kind_of p) n) (next at p) ps)

-- what is opened is closed again, and no more than d are open at once
pub record Opens (d : ℕ) (ps : Tokens) : Type 0 where
  pub at_most : (n : ℕ) (rest : Tokens) → most n (ps ++ rest) ≤ max (n + d) (most n rest)

abbrev pub Flat : Printed → Type 0
Flat p = (n : ℕ) → open_after (kind_of p) n ≡ n

pub none_open : (d : ℕ) → Opens d []
none_open d = record { at_most = λ n rest. omega arith }

pub flat_open : {d : ℕ} {ps : Tokens} (p : Printed) → Flat p → Opens d ps → Opens d (p ∷ ps)
flat_open {d} {ps} p f h = record {
  at_most = λ n rest.
      let e : most (open_after (kind_of p) n) (ps ++ rest) ≡ most n (ps ++ rest) = ap (λ k. most k (ps ++ rest)) (f n) in let q = h.at_most n rest in omega (arith, e, q);
}

pub append_open : {d : ℕ} (a b : Tokens) → Opens d a → Opens d b → Opens d (a ++ b)
append_open {d} a b p q = record {
  at_most = λ n rest.
      let e : most n ((a ++ b) ++ rest) ≡ most n (a ++ (b ++ rest)) = ap (most n) (append_assoc a b rest) in let i = p.at_most n (b ++ rest) in let j = q.at_most n rest in omega (arith, e, i, j);
}

pub weaker : {d e : ℕ} {ps : Tokens} → Opens d ps → d ≤ e → Opens e ps
weaker {d} {e} {ps} h le = record { at_most = λ n rest. let q = h.at_most n rest in omega (arith, q, le) }

within : {d : ℕ} (o c : Printed) (ps : Tokens) → ((n : ℕ) → open_after (kind_of o) n ≡ n + 1) → ((n : ℕ) → open_after (kind_of c) (n + 1) ≡ n) → Opens d ps → Opens (1 + d) (o ∷ ps ++ c ∷ [])
within {d} o c ps ho hc h = record {
  at_most = λ n rest.
      let e1 : most (open_after (kind_of o) n) ((ps ++ c ∷ []) ++ rest) ≡ most (n + 1) (ps ++ c ∷ rest) =
      ap (λ k. most k ((ps ++ c ∷ []) ++ rest)) (ho n) ∙ ap (most (n + 1)) (append_assoc ps (c ∷ []) rest) in
      let e2 : most (open_after (kind_of c) (n + 1)) rest ≡ most n rest = ap (λ k. most k rest) (hc n) in
      let q = h.at_most (n + 1) (c ∷ rest) in
      omega (arith, e1, e2, q);
}

opens_parenthesis : (n : ℕ) → open_after (kind_of (Mark (codes "("))) n ≡ n + 1
unfolding mark_named mark_spelling marks_of open_after
opens_parenthesis n = refl

closes_parenthesis : (n : ℕ) → open_after (kind_of (Mark (codes ")"))) (n + 1) ≡ n
unfolding mark_named mark_spelling marks_of open_after
closes_parenthesis n = omega arith

opens_bracket : (n : ℕ) → open_after (kind_of (Mark (codes "["))) n ≡ n + 1
unfolding mark_named mark_spelling marks_of open_after
opens_bracket n = refl

closes_bracket : (n : ℕ) → open_after (kind_of (Mark (codes "]"))) (n + 1) ≡ n
unfolding mark_named mark_spelling marks_of open_after
closes_bracket n = omega arith

opens_brace : (n : ℕ) → open_after (kind_of (Mark (codes "{"))) n ≡ n + 1
unfolding mark_named mark_spelling marks_of open_after
opens_brace n = refl

closes_brace : (n : ℕ) → open_after (kind_of (Mark (codes "}"))) (n + 1) ≡ n
unfolding mark_named mark_spelling marks_of open_after
closes_brace n = omega arith

pub parentheses_open : {d : ℕ} (ps : Tokens) → Opens d ps → Opens (1 + d) (in_parentheses ps)
parentheses_open ps h = within (Mark (codes "(")) (Mark (codes ")")) ps opens_parenthesis closes_parenthesis h

pub brackets_open : {d : ℕ} (ps : Tokens) → Opens d ps → Opens (1 + d) (in_brackets ps)
brackets_open ps h = within (Mark (codes "[")) (Mark (codes "]")) ps opens_bracket closes_bracket h

pub braces_open : {d : ℕ} (ps : Tokens) → Opens d ps → Opens (1 + d) (in_braces ps)
braces_open ps h = within (Mark (codes "{")) (Mark (codes "}")) ps opens_brace closes_brace h

-- ---- tokens that open and close nothing

flat_by : (x : List ℕ) (o : Option ReservedWord) (n : ℕ) → open_after (kind_by x o) n ≡ n
unfolding open_after
flat_by x None n = refl
flat_by x (Some w) n = refl

pub flat_word : (x : List ℕ) → Flat (Word x)
flat_word x n = flat_by x (reserved_word x) n

pub flat_quoted : (units : List ℕ) → Flat (Quoted units)
unfolding open_after
flat_quoted units n = refl

pub flat_number : (n : ℤ) → Flat (Number n)
unfolding open_after
flat_number n m = refl

pub flat_key : (key : List ℕ) → Flat (key_token key)
unfolding key_token
flat_key key = go (is_ascii_name key)
  where
    go : (b : Bool) → Flat (if b then Word key else Quoted key)
    go true = flat_word key
    go false = flat_quoted key

pub flat_comma : Flat (Mark (codes ","))
unfolding mark_named mark_spelling marks_of open_after
flat_comma n = refl

pub flat_semicolon : Flat (Mark (codes ";"))
unfolding mark_named mark_spelling marks_of open_after
flat_semicolon n = refl

pub flat_dot : Flat (Mark (codes "."))
unfolding mark_named mark_spelling marks_of open_after
flat_dot n = refl

pub flat_colon : Flat (Mark (codes ":"))
unfolding mark_named mark_spelling marks_of open_after
flat_colon n = refl

pub flat_question : Flat (Mark (codes "?"))
unfolding mark_named mark_spelling marks_of open_after
flat_question n = refl

pub flat_equals : Flat (Mark (codes "="))
unfolding mark_named mark_spelling marks_of open_after
flat_equals n = refl

pub flat_arrow : Flat (Mark (codes "=>"))
unfolding mark_named mark_spelling marks_of open_after
flat_arrow n = refl

pub flat_star : Flat (Mark (codes "*"))
unfolding mark_named mark_spelling marks_of open_after
flat_star n = refl

pub flat_binary : (o : BinaryOp) → Flat (Mark (binary_mark o))
unfolding mark_named mark_spelling marks_of open_after
flat_binary binary.Add n = refl
flat_binary binary.Sub n = refl
flat_binary binary.Mul n = refl
flat_binary binary.Div n = refl
flat_binary binary.Rem n = refl
flat_binary binary.Pow n = refl
flat_binary binary.BitAnd n = refl
flat_binary binary.BitOr n = refl
flat_binary binary.BitXor n = refl
flat_binary binary.Shl n = refl
flat_binary binary.Shr n = refl
flat_binary binary.ShrUnsigned n = refl

pub flat_compare : (o : CompareOp) → Flat (Mark (compare_mark o))
unfolding mark_named mark_spelling marks_of open_after
flat_compare compare.Less n = refl
flat_compare compare.Greater n = refl
flat_compare compare.LessEq n = refl
flat_compare compare.GreaterEq n = refl
flat_compare compare.Same n = refl
flat_compare compare.NotSame n = refl

pub flat_logic : (o : LogicOp) → Flat (Mark (logic_mark o))
unfolding mark_named mark_spelling marks_of open_after
flat_logic logic.And n = refl
flat_logic logic.Or n = refl
flat_logic logic.Nullish n = refl

pub flat_assign : (o : AssignOp) → Flat (Mark (assign_mark o))
unfolding mark_named mark_spelling marks_of open_after
flat_assign assign.Set n = refl
flat_assign (assign.Binary binary.Add) n = refl
flat_assign (assign.Binary binary.Sub) n = refl
flat_assign (assign.Binary binary.Mul) n = refl
flat_assign (assign.Binary binary.Div) n = refl
flat_assign (assign.Binary binary.Rem) n = refl
flat_assign (assign.Binary binary.Pow) n = refl
flat_assign (assign.Binary binary.BitAnd) n = refl
flat_assign (assign.Binary binary.BitOr) n = refl
flat_assign (assign.Binary binary.BitXor) n = refl
flat_assign (assign.Binary binary.Shl) n = refl
flat_assign (assign.Binary binary.Shr) n = refl
flat_assign (assign.Binary binary.ShrUnsigned) n = refl
flat_assign (assign.Logic logic.And) n = refl
flat_assign (assign.Logic logic.Or) n = refl
flat_assign (assign.Logic logic.Nullish) n = refl

pub flat_update : (o : UpdateOp) → Flat (Mark (update_mark o))
unfolding mark_named mark_spelling marks_of open_after
flat_update count.Up n = refl
flat_update count.Down n = refl

pub flat_change : (o : ChangeOp) → Flat (Mark (change_mark o))
unfolding mark_named mark_spelling marks_of open_after
flat_change change.Set n = refl
flat_change change.Add n = refl
flat_change change.Sub n = refl
flat_change change.Mul n = refl
flat_change change.Up n = refl
flat_change change.Down n = refl

pub flat_unary : (o : UnaryOp) → Flat (unary_token o)
unfolding mark_named mark_spelling marks_of open_after
flat_unary unary.Not n = refl
flat_unary unary.Minus n = refl
flat_unary unary.Plus n = refl
flat_unary unary.BitNot n = refl
flat_unary unary.Typeof n = flat_word (codes "typeof") n
flat_unary unary.Void n = flat_word (codes "void") n

-- ---- lists

-- each part opens no more than that
abbrev pub EachOpens : {A : Type 0} → ℕ → (A → Tokens) → List A → Type 0
EachOpens d toks [] = Unit {0}
EachOpens d toks (a ∷ items) = Opens d (toks a) × EachOpens d toks items

-- each part opens no more than its depth
abbrev pub EachDeep : {A : Type 0} → (A → ℕ) → (A → Tokens) → List A → Type 0
EachDeep depth toks [] = Unit {0}
EachDeep depth toks (a ∷ items) = Opens (depth a) (toks a) × EachDeep depth toks items

each_weaker : {A : Type 0} (d e : ℕ) (toks : A → Tokens) (items : List A) → d ≤ e → EachOpens d toks items → EachOpens e toks items
each_weaker d e toks [] le h = tt
each_weaker d e toks (a ∷ items) le h = (weaker h.0 le, each_weaker d e toks items le h.1)

pub to_deepest : {A : Type 0} (depth : A → ℕ) (toks : A → Tokens) (items : List A) → EachDeep depth toks items → EachOpens (deepest (map depth items)) toks items
to_deepest depth toks [] h = tt
to_deepest depth toks (a ∷ items) h =
    (weaker h.0 (omega arith), each_weaker (deepest (map depth items)) (max (depth a) (deepest (map depth items))) toks items (omega arith) (to_deepest depth toks items h.1))

rest_opens : {A : Type 0} (d : ℕ) (toks : A → Tokens) (items : List A) → EachOpens d toks items → Opens d (rest_of (map toks items))
rest_opens d toks [] h = none_open d
rest_opens d toks (a ∷ items) h = flat_open (Mark (codes ",")) flat_comma (append_open (toks a) (rest_of (map toks items)) h.0 (rest_opens d toks items h.1))

pub listed_opens : {A : Type 0} (d : ℕ) (toks : A → Tokens) (items : List A) → EachOpens d toks items → Opens d (listed (map toks items))
listed_opens d toks [] h = none_open d
listed_opens d toks (a ∷ items) h =
    subst (Opens d) (sym (listed_is (toks a) (map toks items))) (append_open (toks a) (rest_of (map toks items)) h.0 (rest_opens d toks items h.1))

pub joined_opens : {A : Type 0} (d : ℕ) (toks : A → Tokens) (items : List A) → EachOpens d toks items → Opens d (joined (map toks items))
joined_opens d toks [] h = none_open d
joined_opens d toks (a ∷ items) h = append_open (toks a) (joined (map toks items)) h.0 (joined_opens d toks items h.1)
