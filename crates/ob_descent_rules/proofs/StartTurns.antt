-- The rules of statements, declarations and heads of `for` by how they begin.
use Rattle.std.proofs.Common.{◌≡◌, ℕ, true, false, List, ◌∷◌, Some, refl, ap, sym, ◌∙◌}
use Rattle.ob_base.specs.declared.reserved.ReservedWord.TheVariants as word
use Rattle.ob_lex.specs.declared.punctuator.Punctuator.TheVariants as mark
use Rattle.ob_lex.specs.declared.token.Token.{Token}
use Rattle.ob_lex.specs.declared.token.TokenKind.{TokenKind}
use Rattle.ob_lex.specs.declared.token.TokenKind.TheVariants as kind
use Rattle.ob_tree_types.specs.declared.tree.Stmt.{Stmt}
use Rattle.ob_tree_types.specs.declared.tree.Stmt.TheVariants as stmt
use Rattle.ob_tree_types.specs.declared.tree.ForHead.{ForHead}
use Rattle.ob_tree_types.specs.declared.tree.ForHead.TheVariants as head
use Rattle.ob_grammar.specs.Grammar.{whole}
use Rattle.ob_grammar.specs.Reading.{block_of, expression_of, statement_by, statement_of, item_by, item_of, head_by, head_of, decls_of, function_rest, named_function}
use Rattle.ob_grammar.specs.Taking.{Read, ◌>>=◌, mapped, before, ended, is_semicolon, name_of}
use Rattle.ob_descent_rules.specs.Inside.{depth_limit, inner, nested}
use Rattle.ob_descent_rules.specs.Beginnings.{behind_start, declaring, head_of_decls, named_of, statement_as}
use Rattle.ob_descent_rules.specs.Starts.{start_of, word_start, mark_start}
use Rattle.ob_descent_rules.specs.declared.starts.Start.{Start}
use Rattle.ob_descent_rules.specs.declared.starts.Start.TheVariants as start

by_start : (depth : ℕ) (k : TokenKind) (t : Token) (ts : List Token) → statement_by depth_limit (inner depth) (nested depth) k t ts ≡ statement_as depth (start_of k) k t ts
unfolding statement_by start_of word_start mark_start name_of
by_start depth (kind.Punctuator mark.OpenBrace) t ts = refl
by_start depth (kind.Punctuator mark.Semicolon) t ts = refl
by_start depth (kind.Punctuator _) t ts = refl
by_start depth (kind.Name x) t ts = refl
by_start depth (kind.Reserved word.Let) t ts = refl
by_start depth (kind.Reserved word.Const) t ts = refl
by_start depth (kind.Reserved word.Function) t ts = refl
by_start depth (kind.Reserved word.Yield) t ts = refl
by_start depth (kind.Reserved word.Mutable) t ts = refl
by_start depth (kind.Reserved word.If) t ts = refl
by_start depth (kind.Reserved word.While) t ts = refl
by_start depth (kind.Reserved word.Do) t ts = refl
by_start depth (kind.Reserved word.For) t ts = refl
by_start depth (kind.Reserved word.Break) t ts = refl
by_start depth (kind.Reserved word.Continue) t ts = refl
by_start depth (kind.Reserved word.Return) t ts = refl
by_start depth (kind.Reserved word.Throw) t ts = refl
by_start depth (kind.Reserved word.Try) t ts = refl
by_start depth (kind.Reserved _) t ts = refl
by_start depth (kind.Number n) t ts = refl
by_start depth (kind.Text units) t ts = refl

pub statement_starts : (depth : ℕ) (t : Token) (ts : List Token) → statement_of depth_limit (inner depth) (nested depth) (t ∷ ts) ≡ statement_as depth (start_of t.kind) t.kind t ts
unfolding statement_of
statement_starts depth t ts = by_start depth t.kind t ts

-- a declaration that begins so, or a statement
abbrev pub item_as : ℕ → Start → TokenKind → Token → List Token → Read Stmt
item_as depth start.Let k t ts = decls_of depth_limit (inner depth) (nested depth) ts >>= λ s mid. ended (declaring false s.decls) s.form mid
item_as depth start.Const k t ts = decls_of depth_limit (inner depth) (nested depth) ts >>= λ s mid. ended (declaring true s.decls) s.form mid
item_as depth start.Function k t ts = function_rest depth_limit (inner depth) (nested depth) ts >>= λ g. named_function depth_limit (inner depth) (nested depth) g.name g
item_as depth _ k t ts = statement_by depth_limit (inner depth) (nested depth) k t ts

item_by_start : (depth : ℕ) (k : TokenKind) (t : Token) (ts : List Token) → item_by depth_limit (inner depth) (nested depth) k t ts ≡ item_as depth (start_of k) k t ts
unfolding item_by start_of word_start mark_start
item_by_start depth (kind.Punctuator mark.OpenBrace) t ts = refl
item_by_start depth (kind.Punctuator mark.Semicolon) t ts = refl
item_by_start depth (kind.Punctuator _) t ts = refl
item_by_start depth (kind.Name x) t ts = refl
item_by_start depth (kind.Reserved word.Let) t ts = refl
item_by_start depth (kind.Reserved word.Const) t ts = refl
item_by_start depth (kind.Reserved word.Function) t ts = refl
item_by_start depth (kind.Reserved word.Yield) t ts = refl
item_by_start depth (kind.Reserved word.Mutable) t ts = refl
item_by_start depth (kind.Reserved word.If) t ts = refl
item_by_start depth (kind.Reserved word.While) t ts = refl
item_by_start depth (kind.Reserved word.Do) t ts = refl
item_by_start depth (kind.Reserved word.For) t ts = refl
item_by_start depth (kind.Reserved word.Break) t ts = refl
item_by_start depth (kind.Reserved word.Continue) t ts = refl
item_by_start depth (kind.Reserved word.Return) t ts = refl
item_by_start depth (kind.Reserved word.Throw) t ts = refl
item_by_start depth (kind.Reserved word.Try) t ts = refl
item_by_start depth (kind.Reserved _) t ts = refl
item_by_start depth (kind.Number n) t ts = refl
item_by_start depth (kind.Text units) t ts = refl

pub item_starts : (depth : ℕ) (t : Token) (ts : List Token) → item_of depth_limit (inner depth) (nested depth) (t ∷ ts) ≡ item_as depth (start_of t.kind) t.kind t ts
unfolding item_of
item_starts depth t ts = item_by_start depth t.kind t ts

-- what stands before the first `;` of a `for`, which begins so
abbrev pub head_as : ℕ → Start → Token → List Token → Read ForHead
head_as depth start.Empty t ts = Some (head.Nothing, ts)
head_as depth start.Let t ts = decls_of depth_limit (inner depth) (nested depth) ts >>= λ s mid. before is_semicolon (head_of_decls false s.decls) mid
head_as depth start.Const t ts = decls_of depth_limit (inner depth) (nested depth) ts >>= λ s mid. before is_semicolon (head_of_decls true s.decls) mid
head_as depth _ t ts = inner depth whole (t ∷ ts) >>= λ p mid. before is_semicolon (head.Expr p.tree) mid

head_by_start : (depth : ℕ) (k : TokenKind) (t : Token) (ts : List Token) → head_by depth_limit (inner depth) (nested depth) k t ts ≡ head_as depth (start_of k) t ts
unfolding head_by start_of word_start mark_start
head_by_start depth (kind.Punctuator mark.OpenBrace) t ts = refl
head_by_start depth (kind.Punctuator mark.Semicolon) t ts = refl
head_by_start depth (kind.Punctuator _) t ts = refl
head_by_start depth (kind.Name x) t ts = refl
head_by_start depth (kind.Reserved word.Let) t ts = refl
head_by_start depth (kind.Reserved word.Const) t ts = refl
head_by_start depth (kind.Reserved word.Function) t ts = refl
head_by_start depth (kind.Reserved word.Yield) t ts = refl
head_by_start depth (kind.Reserved word.Mutable) t ts = refl
head_by_start depth (kind.Reserved word.If) t ts = refl
head_by_start depth (kind.Reserved word.While) t ts = refl
head_by_start depth (kind.Reserved word.Do) t ts = refl
head_by_start depth (kind.Reserved word.For) t ts = refl
head_by_start depth (kind.Reserved word.Break) t ts = refl
head_by_start depth (kind.Reserved word.Continue) t ts = refl
head_by_start depth (kind.Reserved word.Return) t ts = refl
head_by_start depth (kind.Reserved word.Throw) t ts = refl
head_by_start depth (kind.Reserved word.Try) t ts = refl
head_by_start depth (kind.Reserved _) t ts = refl
head_by_start depth (kind.Number n) t ts = refl
head_by_start depth (kind.Text units) t ts = refl

pub head_starts : (depth : ℕ) (t : Token) (ts : List Token) → head_of depth_limit (inner depth) (nested depth) (t ∷ ts) ≡ head_as depth (start_of t.kind) t ts
unfolding head_of
head_starts depth t ts = head_by_start depth t.kind t ts

-- the same of the tokens from the first on
pub statement_from : (depth : ℕ) (t : Token) (ts after : List Token) (s : Start) → ts ≡ t ∷ after → start_of t.kind ≡ s
    → statement_of depth_limit (inner depth) (nested depth) ts ≡ statement_as depth s t.kind t after
statement_from depth t ts after s first begins = ap (statement_of depth_limit (inner depth) (nested depth)) first ∙ statement_starts depth t after
    ∙ ap (λ x. statement_as depth x t.kind t after) begins

pub item_from : (depth : ℕ) (t : Token) (ts after : List Token) (s : Start) → ts ≡ t ∷ after → start_of t.kind ≡ s
    → item_of depth_limit (inner depth) (nested depth) ts ≡ item_as depth s t.kind t after
item_from depth t ts after s first begins = ap (item_of depth_limit (inner depth) (nested depth)) first ∙ item_starts depth t after
    ∙ ap (λ x. item_as depth x t.kind t after) begins

pub head_from : (depth : ℕ) (t : Token) (ts after : List Token) (s : Start) → ts ≡ t ∷ after → start_of t.kind ≡ s
    → head_of depth_limit (inner depth) (nested depth) ts ≡ head_as depth s t after
head_from depth t ts after s first begins = ap (head_of depth_limit (inner depth) (nested depth)) first ∙ head_starts depth t after
    ∙ ap (λ x. head_as depth x t after) begins

-- where it begins in no other way
pub statement_else : (depth : ℕ) (t : Token) (ts after : List Token) (s : Start) → ts ≡ t ∷ after → start_of t.kind ≡ s
    → (s ≡ start.Block → ⊥) → (s ≡ start.Name → ⊥) → (s ≡ start.Let → ⊥) → (s ≡ start.Const → ⊥) → (s ≡ start.Expression → ⊥)
    → statement_of depth_limit (inner depth) (nested depth) ts ≡ behind_start depth s after
statement_else depth t ts after start.Block first begins block name let_word const_word other = absurd (block refl)
statement_else depth t ts after start.Name first begins block name let_word const_word other = absurd (name refl)
statement_else depth t ts after start.Let first begins block name let_word const_word other = absurd (let_word refl)
statement_else depth t ts after start.Const first begins block name let_word const_word other = absurd (const_word refl)
statement_else depth t ts after start.Expression first begins block name let_word const_word other = absurd (other refl)
statement_else depth t ts after s first begins block name let_word const_word other = statement_from depth t ts after s first begins

pub item_else : (depth : ℕ) (t : Token) (ts after : List Token) (s : Start) → ts ≡ t ∷ after → start_of t.kind ≡ s
    → (s ≡ start.Let → ⊥) → (s ≡ start.Const → ⊥) → (s ≡ start.Function → ⊥)
    → item_of depth_limit (inner depth) (nested depth) ts ≡ statement_of depth_limit (inner depth) (nested depth) ts
unfolding statement_of
item_else depth t ts after start.Let first begins let_word const_word function = absurd (let_word refl)
item_else depth t ts after start.Const first begins let_word const_word function = absurd (const_word refl)
item_else depth t ts after start.Function first begins let_word const_word function = absurd (function refl)
item_else depth t ts after s first begins let_word const_word function = item_from depth t ts after s first begins ∙ ap (statement_of depth_limit (inner depth) (nested depth)) (sym first)

pub head_else : (depth : ℕ) (t : Token) (ts after : List Token) (s : Start) → ts ≡ t ∷ after → start_of t.kind ≡ s
    → (s ≡ start.Empty → ⊥) → (s ≡ start.Let → ⊥) → (s ≡ start.Const → ⊥)
    → head_of depth_limit (inner depth) (nested depth) ts ≡ (inner depth whole ts >>= λ p mid. before is_semicolon (head.Expr p.tree) mid)
head_else depth t ts after start.Empty first begins empty let_word const_word = absurd (empty refl)
head_else depth t ts after start.Let first begins empty let_word const_word = absurd (let_word refl)
head_else depth t ts after start.Const first begins empty let_word const_word = absurd (const_word refl)
head_else depth t ts after s first begins empty let_word const_word = head_from depth t ts after s first begins
    ∙ ap (λ us. inner depth whole us >>= λ p mid. before is_semicolon (head.Expr p.tree) mid) (sym first)

-- where it is read from its first token on
pub statement_block : (depth : ℕ) (t : Token) (ts after : List Token) → ts ≡ t ∷ after → start_of t.kind ≡ start.Block
    → statement_of depth_limit (inner depth) (nested depth) ts ≡ mapped stmt.Block (block_of depth_limit (inner depth) (nested depth) ts)
statement_block depth t ts after first begins = statement_from depth t ts after start.Block first begins
    ∙ ap (λ us. mapped stmt.Block (block_of depth_limit (inner depth) (nested depth) us)) (sym first)

pub statement_name : (depth : ℕ) (t : Token) (ts after : List Token) → ts ≡ t ∷ after → start_of t.kind ≡ start.Name
    → statement_of depth_limit (inner depth) (nested depth) ts ≡ named_of depth ts
statement_name depth t ts after first begins = statement_from depth t ts after start.Name first begins ∙ ap (named_of depth) (sym first)

pub statement_let : (depth : ℕ) (t : Token) (ts after : List Token) → ts ≡ t ∷ after → start_of t.kind ≡ start.Let
    → statement_of depth_limit (inner depth) (nested depth) ts ≡ expression_of depth_limit (inner depth) (nested depth) ts
statement_let depth t ts after first begins = statement_from depth t ts after start.Let first begins ∙ ap (expression_of depth_limit (inner depth) (nested depth)) (sym first)

pub statement_const : (depth : ℕ) (t : Token) (ts after : List Token) → ts ≡ t ∷ after → start_of t.kind ≡ start.Const
    → statement_of depth_limit (inner depth) (nested depth) ts ≡ expression_of depth_limit (inner depth) (nested depth) ts
statement_const depth t ts after first begins = statement_from depth t ts after start.Const first begins ∙ ap (expression_of depth_limit (inner depth) (nested depth)) (sym first)

pub statement_expression : (depth : ℕ) (t : Token) (ts after : List Token) → ts ≡ t ∷ after → start_of t.kind ≡ start.Expression
    → statement_of depth_limit (inner depth) (nested depth) ts ≡ expression_of depth_limit (inner depth) (nested depth) ts
statement_expression depth t ts after first begins = statement_from depth t ts after start.Expression first begins ∙ ap (expression_of depth_limit (inner depth) (nested depth)) (sym first)
