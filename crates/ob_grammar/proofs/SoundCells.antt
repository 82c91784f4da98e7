-- What the descent reads as a cell is one. That a bare cell is no function cell takes completeness: a text that is a named function as a
-- whole reads in no other way.
use Rattle.std.proofs.Common.{◌≡◌, ◌≤◌, ℕ, zero, suc, ◌+◌, max, Bool, true, false, List, [], ◌∷◌, length, Option, Some, None, refl, sym, ap, ◌∙◌, subst, inl, inr, arith, if◌then◌else◌}
use Rattle.std.proofs.lemmas.Bool.{both_ways}
use Rattle.ob_lex.specs.declared.punctuator.Punctuator.TheVariants as mark
use Rattle.ob_base.specs.declared.reserved.ReservedWord.TheVariants as word
use Rattle.ob_lex.specs.declared.token.Token.{Token}
use Rattle.ob_lex.specs.declared.token.TokenKind.{TokenKind}
use Rattle.ob_lex.specs.declared.token.TokenKind.TheVariants as kind
use Rattle.ob_tree_types.specs.declared.tree.DeclValue.TheOpen as layer
use Rattle.ob_tree_types.specs.declared.tree.DeclValue.{DeclValue}
use Rattle.ob_tree_types.specs.declared.tree.FnBody.{FnBody}
use Rattle.ob_tree_types.specs.declared.tree.ForHead.{ForHead}
use Rattle.ob_tree_types.specs.declared.tree.PropNode.{PropNode}
use Rattle.ob_tree_types.specs.declared.tree.CatchPart.{CatchPart}
use Rattle.ob_tree_types.specs.declared.tree.Decl.{Decl}
use Rattle.ob_tree_types.specs.declared.tree.Expr.{Expr, out-Expr}
use Rattle.ob_tree_types.specs.declared.tree.Expr.TheVariants as node
use Rattle.ob_tree_types.specs.declared.tree.Function.{Function}
use Rattle.ob_tree_types.specs.declared.tree.Stmt.{Stmt}
use Rattle.ob_tree_types.specs.declared.cell.CellTree.{CellTree}
use Rattle.ob_tree_types.specs.declared.cell.CellTree.TheVariants as cell
use Rattle.ob_tree_types.specs.declared.cell.ImportSpec.{ImportSpec}
use Rattle.ob_tree_types.specs.declared.cell.SpecForm.{SpecForm}
use Rattle.ob_grammar.specs.declared.form.Form.{Form}
use Rattle.ob_grammar.specs.declared.form.Form.TheVariants.{Target, Other, Updated, Closed, Bare}
use Rattle.ob_grammar.specs.declared.form.Infix.{Infix}
use Rattle.ob_grammar.specs.declared.form.Infix.TheVariants.{Computes, Compares, Chooses}
use Rattle.ob_grammar.specs.declared.piece.Piece.{Piece}
use Rattle.ob_grammar.specs.Marks.{IsMark, IsName, IsWord, rank, rank_by, mark_rank, literal_of, joined}
use Rattle.ob_grammar.specs.Forms.{Quiet, Stops, ends_value}
use Rattle.ob_grammar.specs.Grammar.{Rule, whole, chain, power, Reads, Continues, Steps, ReadsBlock, ReadsFunction, function}
use Rattle.ob_grammar.specs.Grammar.{arrow, assigned, unassigned, chosen, unchosen, disjoined, coalesced, operands, unraised, raised, signed, unsigned, counted_before, counted_behind, uncounted, steps, literal, name, viewof_name, made, parentheses, array, object, function_expression, no_more, goes_on, no_step, member, index, call}
use Rattle.ob_grammar.specs.Cells.{ReadsForm, ReadsAlias, ReadsSpec, ReadsSpecList, ReadsSpecs, ReadsWith, ReadsImport, ReadsBody, AtEnd, IsFunctionText, Derives, of_block, of_value}
use Rattle.ob_grammar.specs.Cells as cells
use Rattle.ob_grammar.specs.Taking.{Read, Parser, piece, opens_brace, closes_brace, is_comma, is_assign, is_function, is_with, is_as, is_from, name_of, text_of, take, next_is}
use Rattle.ob_grammar.specs.Reading.{at, block_of, reads, reads_statement}
use Rattle.ob_grammar.specs.ReadingCells.{form_by, form_of, spec_by, spec_at, spec_of, specs_by, after_spec, specs_at, specs_from, specs_of, with_by, import_of, is_end, all_of, named_cell, function_by, value_cell, body_by, body_of, bare_by, bare_of, cell_head, headed, cell_by, cell_of}
use Rattle.ob_grammar.proofs.Need.{need}
use Rattle.ob_grammar.proofs.Tall.{tall}
use Rattle.ob_grammar.proofs.Statements.{OnRead, ExpressionsAreComplete, CellsAreSound}
use Rattle.ob_grammar.proofs.SoundTokens.{after, on_mapped, on_weaker, only_name, only_text, only_opens_brace, only_closes_brace, only_is_comma, only_is_semicolon, only_is_assign, only_is_function, only_is_with, only_is_as, only_is_from, by_take, on_taken, after_taken, after_one, behind_one, on_before, no_brace}
use Rattle.ob_grammar.proofs.SoundBlocks.{As, sound_block}
use Rattle.ob_grammar.proofs.Sound.{expressions_are_sound, items_are_sound}

-- ---- imports

sound_form : (ts : List Token) → ReadsForm ts (form_of ts).0 (form_of ts).1
unfolding form_of
sound_form [] = cells.plain []
sound_form (t ∷ ts) = by_kind t.kind refl
  where
    by_kind : (x : TokenKind) → t.kind ≡ x → ReadsForm (t ∷ ts) (form_by x t ts).0 (form_by x t ts).1
    by_kind (kind.Reserved word.Viewof) h = cells.viewof t ts h
    by_kind (kind.Reserved word.Mutable) h = cells.mutable t ts h
    by_kind _ h = cells.plain (t ∷ ts)

sound_spec_at : (ts : List Token) (p : SpecForm × List Token) → ReadsForm ts p.0 p.1 → OnRead (spec_at p) (ReadsSpec ts)
sound_spec_at ts p d = behind_one name_of (ReadsForm ts p.0) (ReadsSpec ts) _ (λ n mid x hx d.
    by_take is_as _ only_is_as (λ us o. ReadsForm ts p.0 (n ∷ us) → OnRead (spec_by o p.0 x us) (ReadsSpec ts))
    (λ t rest h d. behind_one name_of (λ us. ReadsForm ts p.0 (n ∷ t ∷ us)) (ReadsSpec ts) _ (λ m end y hy d.
    cells.spec n ts (t ∷ m ∷ end) end p.0 x (Some y) d (only_name n.kind x hx) (cells.alias t m end y h (only_name m.kind y hy))) rest d)
    (λ us h d. cells.spec n ts us us p.0 x None d (only_name n.kind x hx) (cells.no_alias us)) mid d) p.1 d

sound_spec : (ts : List Token) → OnRead (spec_of ts) (ReadsSpec ts)
unfolding spec_of
sound_spec ts = sound_spec_at ts (form_of ts) (sound_form ts)

sound_specs_by : (more : Parser (List ImportSpec)) → ((ts : List Token) → OnRead (more ts) (ReadsSpecList ts)) → (ts : List Token) (s : ImportSpec) (c : Token) (mid : List Token)
    → ReadsSpec ts s (c ∷ mid) → (b : Bool) → closes_brace c.kind ≡ b → (e : Bool) → is_comma c.kind ≡ e → OnRead (specs_by b e s more mid) (ReadsSpecList ts)
sound_specs_by more all ts s c mid d true hb e he = cells.last_spec c ts mid s d (only_closes_brace c.kind hb)
sound_specs_by more all ts s c mid d false hb true he = on_mapped (ReadsSpecList mid) (ReadsSpecList ts) _ (more mid) (all mid)
    (λ list rest ds. cells.more_specs c ts mid rest s list d (only_is_comma c.kind he) ds)
sound_specs_by more all ts s c mid d false hb false he = tt

sound_after_spec : (more : Parser (List ImportSpec)) → ((ts : List Token) → OnRead (more ts) (ReadsSpecList ts)) → (ts : List Token) (s : ImportSpec) (mid : List Token)
    → ReadsSpec ts s mid → OnRead (after_spec more s mid) (ReadsSpecList ts)
sound_after_spec more all ts s [] d = tt
sound_after_spec more all ts s (c ∷ mid) d = sound_specs_by more all ts s c mid d (closes_brace c.kind) refl (is_comma c.kind) refl

sound_specs_from : (n : ℕ) (ts : List Token) → OnRead (specs_from n ts) (ReadsSpecList ts)
unfolding specs_from
sound_specs_from zero ts = tt
sound_specs_from (suc n) ts = by_take closes_brace _ only_closes_brace (λ us o. OnRead (specs_at o (specs_from n) us) (ReadsSpecList us))
    (λ t rest h. cells.no_spec t rest h)
    (λ us h. after (ReadsSpec us) (ReadsSpecList us) (spec_of us) _ (sound_spec us) (sound_after_spec (specs_from n) (sound_specs_from n) us)) ts

sound_specs : (ts : List Token) → OnRead (specs_of ts) (ReadsSpecs ts)
unfolding specs_of
sound_specs ts = on_taken opens_brace _ only_opens_brace ReadsSpecs _ (λ t inside h.
    on_weaker (ReadsSpecList inside) (ReadsSpecs (t ∷ inside)) (specs_from (length inside) inside) (sound_specs_from (length inside) inside) (λ list rest d. cells.specs t inside rest list h d)) ts

sound_with : (ts : List Token) → OnRead (with_by (take is_with ts) ts) (ReadsWith ts)
sound_with ts = by_take is_with _ only_is_with (λ us o. OnRead (with_by o us) (ReadsWith us))
    (λ t rest h. on_mapped (ReadsSpecs rest) (ReadsWith (t ∷ rest)) _ (specs_of rest) (sound_specs rest) (λ list end d. cells.with_specs t rest end list h d))
    (λ us h. cells.no_with us) ts

sound_import : (t : Token) (ts : List Token) → IsWord word.Import t → OnRead (import_of ts) (ReadsImport (t ∷ ts))
unfolding import_of
sound_import t ts h = after (ReadsSpecs ts) (ReadsImport (t ∷ ts)) (specs_of ts) _ (sound_specs ts) (λ list mid d.
    after (ReadsWith mid) (ReadsImport (t ∷ ts)) (with_by (take is_with mid) mid) _ (sound_with mid) (λ given next w.
    after_taken is_from _ only_is_from (ReadsWith mid given) (ReadsImport (t ∷ ts)) _ (λ o rest ho w.
    behind_one text_of (λ us. ReadsWith mid given (o ∷ us)) (ReadsImport (t ∷ ts)) _ (λ q end id hq w.
    cells.import t o q ts mid end list given id h d w ho (only_text q.kind id hq)) rest w) next w))

-- ---- the end of a cell

abbrev OnCell : Option CellTree → (CellTree → Type 0) → Type 0
OnCell None P = Unit {0}
OnCell (Some tree) P = P tree

at_end : (ts : List Token) → is_end ts ≡ true → AtEnd ts
at_end [] h = cells.plain_end
at_end (t ∷ []) h = cells.ended t (only_is_semicolon t.kind h)
at_end (t ∷ u ∷ ts) h = cc

sound_all : (P : CellTree → List Token → Type 0) (Q : CellTree → Type 0) (r : Read CellTree) → OnRead r P → ((tree : CellTree) (rest : List Token) → P tree rest → AtEnd rest → Q tree) → OnCell (all_of r) Q
sound_all P Q None d g = tt
sound_all P Q (Some (tree, rest)) d g = go (is_end rest) refl
  where
    go : (b : Bool) → is_end rest ≡ b → OnCell (if b then Some tree else None) Q
    go true h = g tree rest d (at_end rest h)
    go false h = tt

-- ---- a text that is a function as a whole

joined_no_function : (op : Infix) (a b : Expr) (g : Function) → out-Expr (joined op a b) ≡ layer.Expr::Function g → ⊥
unfolding denote.Hole.Carrier.out out-Expr
joined_no_function (Computes op) a b g e = cc
joined_no_function (Compares op) a b g e = cc
joined_no_function (Chooses op) a b g e = cc

chain_function : {r : Rule} {n : ℕ} {a b : Expr} {f h : Form} {ts rest : List Token} → Continues r n a f ts b h rest → (g : Function) → out-Expr b ≡ layer.Expr::Function g
    → (P : List Token → Type 0) → (out-Expr a ≡ layer.Expr::Function g → P ts) → P rest
chain_function (no_more r n a f ts) g e P p = p e
chain_function (goes_on r n a b c f g h t ts mid rest op h1 h2 d1 d2) u e P p = chain_function d2 u e P (λ q. absurd (joined_no_function op a b u q))

steps_function : {a b : Expr} {f h : Form} {ts rest : List Token} → Steps a f ts b h rest → (g : Function) → out-Expr b ≡ layer.Expr::Function g
    → (P : List Token → Type 0) → (out-Expr a ≡ layer.Expr::Function g → P ts) → P rest
unfolding denote.Hole.Carrier.out out-Expr
steps_function (no_step a f ts) u e P p = p e
steps_function (member a b f g t n x ts rest h1 h2 d1) u e P p = steps_function d1 u e P (λ q. cc)
steps_function (index a b k f g h t c ts mid rest h1 d1 h2 d2) u e P p = steps_function d2 u e P (λ q. cc)
steps_function (call a b f g t args ts mid rest h1 d1 d2) u e P p = steps_function d2 u e P (λ q. cc)

literal_no_function : (t : Token) (ts : List Token) (a : Expr) → literal_of t.kind ≡ Some a → next_is is_function (t ∷ ts) ≡ true → ⊥
unfolding literal_of next_is
literal_no_function t ts a h s = let q : None ≡ Some a = sym (ap literal_of (only_is_function t.kind s)) ∙ h in cc

open_no_function : (t : Token) (ts : List Token) → IsMark mark.OpenParenthesis t → next_is is_function (t ∷ ts) ≡ true → ⊥
unfolding is_function next_is
open_no_function t ts h s = both_ways _ (ap is_function h) s

-- what begins with `function` and reads as a function expression is the text of that function
pub function_text : {r : Rule} {ts : List Token} {a : Expr} {f : Form} {rest : List Token} → Reads r ts a f rest → next_is is_function ts ≡ true → (g : Function) → out-Expr a ≡ layer.Expr::Function g
    → ReadsFunction ts g rest
unfolding denote.Hole.Carrier.out out-Expr next_is
function_text (arrow ts mid rest t xs b f h1 h2 h3 d1) s u e = cc
function_text (assigned ts mid rest t op a b f d1 h1 d2) s u e = cc
function_text (unassigned ts rest a f d1) s u e = function_text d1 s u e
function_text (chosen ts first second rest q c a b d f g h d1 h1 d2 h2 d3) s u e = cc
function_text (unchosen ts rest a f d1) s u e = function_text d1 s u e
function_text (disjoined ts rest a f d1) s u e = function_text d1 s u e
function_text (coalesced ts mid rest first a f g d1 d2) s u e = chain_function d2 u e (ReadsFunction ts u) (λ q. function_text d1 s u q)
function_text (operands k ts mid rest first a f g d1 d2) s u e = chain_function d2 u e (ReadsFunction ts u) (λ q. function_text d1 s u q)
function_text (unraised ts rest a f d1) s u e = function_text d1 s u e
function_text (raised ts mid rest t a b f g d1 h1 d2) s u e = cc
function_text (signed t ts rest op a f h1 d1) s u e = cc
function_text (unsigned ts rest a f d1) s u e = function_text d1 s u e
function_text (counted_before t ts rest op a h1 d1) s u e = cc
function_text (counted_behind ts rest t op a d1 h1 h2) s u e = cc
function_text (uncounted ts rest a f d1) s u e = function_text d1 s u e
function_text (steps ts mid rest first a f g d1 d2) s u e = steps_function d2 u e (ReadsFunction ts u) (λ q. function_text d1 s u q)
function_text (literal t ts a h1) s u e = absurd (literal_no_function t ts a h1 s)
function_text (name t ts x h1) s u e = cc
function_text (viewof_name t n ts x h1 h2) s u e = cc
function_text (made t n p ts rest x args h1 h2 h3 d1) s u e = cc
function_text (parentheses t c ts rest a f h1 d1 h2) s u e = absurd (open_no_function t ts h1 s)
function_text (array t ts rest items h1 d1) s u e = cc
function_text (object t ts rest props h1 d1) s u e = cc
function_text (function_expression ts rest g d1) s u e = let q : g ≡ u = cc in subst (λ w. ReadsFunction ts w rest) q d1

-- a function begins with its word
pub begins_with_function : {ts : List Token} {g : Function} {rest : List Token} → ReadsFunction ts g rest → next_is is_function ts ≡ true
unfolding is_function next_is
begins_with_function (function t ts mid rest s items h d1 d2) = ap is_function h

pub begins_with_no_brace : {ts : List Token} {g : Function} {rest : List Token} → ReadsFunction ts g rest → next_is opens_brace ts ≡ false
unfolding opens_brace next_is
begins_with_no_brace (function t ts mid rest s items h d1 d2) = ap opens_brace h

pub as_whole : {ts : List Token} {g : Function} {rest : List Token} → ReadsFunction ts g rest → Reads whole ts (node.Function g) Other rest
as_whole {ts} {g} {rest} d = unassigned ts rest (node.Function g) Other (unchosen ts rest (node.Function g) Other (disjoined ts rest (node.Function g) Other (up 9)))
  where
    power_is : Reads power ts (node.Function g) Other rest
    power_is = unraised ts rest (node.Function g) Other (unsigned ts rest (node.Function g) Other (uncounted ts rest (node.Function g) Other
        (steps ts rest rest (node.Function g) (node.Function g) Other Other (function_expression ts rest g d) (no_step (node.Function g) Other rest))))

    up : (k : ℕ) → Reads (chain k) ts (node.Function g) Other rest
    up zero = operands zero ts rest rest (node.Function g) (node.Function g) Other Other power_is (no_more power 3 (node.Function g) Other rest)
    up (suc k) = operands (suc k) ts rest rest (node.Function g) (node.Function g) Other Other (up k) (no_more (chain k) (suc k + 3) (node.Function g) Other rest)

quiet_semicolon : (f : Form) (t : Token) → IsMark mark.Semicolon t → Quiet f 17 t
unfolding rank_by mark_rank ends_value
quiet_semicolon f t h = by_form f
  where
    low : 17 ≤ rank t
    low = let q : rank t ≡ 18 = ap (rank_by t.break_before) h in omega (arith, q)

    by_form : (f : Form) → Quiet f 17 t
    by_form Target = low
    by_form Other = low
    by_form Updated = inl low
    by_form Closed = inl low
    by_form Bare = (inr (ap ends_value h), inl low)

pub stops_at_end : (f : Form) (ts : List Token) → AtEnd ts → Stops f 17 ts
stops_at_end f ts cells.plain_end = tt
stops_at_end f ts (cells.ended t h) = quiet_semicolon f t h

abbrev tree_of : Read Piece → Option Expr
tree_of None = None
tree_of (Some p) = Some p.0.tree

-- a text reads as one expression as a whole, but for a `;`
pub one_tree : ExpressionsAreComplete → {ts : List Token} {a b : Expr} {f h : Form} {rest others : List Token} → Reads whole ts a f rest → AtEnd rest → Reads whole ts b h others → AtEnd others → a ≡ b
one_tree complete {ts} {a} {b} {f} {h} {rest} {others} d e u v = inside (ap tree_of (sym one ∙ other))
  where
    most : ℕ
    most = max (need d) (need u)

    high : ℕ
    high = max (tall d) (tall u)

    one : at high (reads high most) (reads_statement high most) whole ts ≡ Some (piece a f, rest)
    one = complete whole ts a f rest d (stops_at_end f rest e) high (omega arith) most (omega arith)

    other : at high (reads high most) (reads_statement high most) whole ts ≡ Some (piece b h, others)
    other = complete whole ts b h others u (stops_at_end h others v) high (omega arith) most (omega arith)

    inside : Some a ≡ Some b → a ≡ b
    inside q = cc

-- where an expression is the whole text, no function is but that expression
is_that_function : ExpressionsAreComplete → {ts : List Token} {a : Expr} {f : Form} {rest : List Token} → Reads whole ts a f rest → AtEnd rest → (g : Function) → IsFunctionText ts g
    → out-Expr a ≡ layer.Expr::Function g
unfolding denote.Hole.Carrier.out out-Expr
is_that_function complete d e g text = ap out-Expr (one_tree complete d e (as_whole text.reads) text.ends)

-- ---- bodies and bare cells

module _ (complete : ExpressionsAreComplete) (limit n : ℕ) where
  sound_block_of : (ts : List Token) → OnRead (block_of limit (reads limit n) (reads_statement limit n) ts) (ReadsBlock ts)
  sound_block_of ts = sound_block limit (reads limit n) (reads_statement limit n) (λ r ts. expressions_are_sound limit n r ts) (λ ts. items_are_sound limit n ts) ts

  sound_body_by : (ts : List Token) (b : Bool) → next_is opens_brace ts ≡ b → OnRead (body_by limit n b ts) (ReadsBody ts)
  sound_body_by ts true h = on_mapped (ReadsBlock ts) (ReadsBody ts) _ (block_of limit (reads limit n) (reads_statement limit n) ts) (sound_block_of ts) (λ items rest d. cells.block ts rest items d)
  sound_body_by ts false h = on_mapped (As whole ts) (ReadsBody ts) _ (reads limit n whole ts) (expressions_are_sound limit n whole ts) (λ p rest d. cells.value ts rest p.tree p.form (no_brace ts h) d)

  sound_body : (ts : List Token) → OnRead (body_of limit n ts) (ReadsBody ts)
  unfolding body_of
  sound_body ts = sound_body_by ts (next_is opens_brace ts) refl

  sound_value : (ts : List Token) (p : Piece) (rest : List Token) → As whole ts p rest → AtEnd rest → next_is opens_brace ts ≡ false → ((g : Function) → IsFunctionText ts g → ⊥)
      → Derives ts (cell.Bare (of_value p.tree))
  sound_value ts p rest d e h other = cells.bare ts rest (of_value p.tree) (cells.value ts rest p.tree p.form (no_brace ts h) d) e other

  sound_named_cell : (ts : List Token) (p : Piece) (rest : List Token) → As whole ts p rest → AtEnd rest → next_is opens_brace ts ≡ false → next_is is_function ts ≡ true
      → (g : Function) → out-Expr p.tree ≡ layer.Expr::Function g → (o : Option (List ℕ)) → g.name ≡ o → Derives ts (named_cell o g p.tree)
  sound_named_cell ts p rest d e h s g w (Some x) ho = cells.function_cell ts g (record { name = x; rest = rest; reads = function_text d s g w; named = ho; ends = e })
  sound_named_cell ts p rest d e h s g w None ho = sound_value ts p rest d e h other
    where
      other : (u : Function) → IsFunctionText ts u → ⊥
      other u text = let q = sym w ∙ is_that_function complete d e u text in let same : g ≡ u = cc in let v : Some text.name ≡ None = sym text.named ∙ ap (λ z. z.name) (sym same) ∙ ho in cc

  sound_function_by : (ts : List Token) (p : Piece) (rest : List Token) → As whole ts p rest → AtEnd rest → next_is opens_brace ts ≡ false → next_is is_function ts ≡ true
      → (y : layer.Expr-F DeclValue Expr FnBody ForHead PropNode Stmt CatchPart Decl Function) → out-Expr p.tree ≡ y → Derives ts (function_by y p.tree)
  sound_function_by ts p rest d e h s (layer.Expr::Function g) w = sound_named_cell ts p rest d e h s g w g.name refl
  sound_function_by ts p rest d e h s y w = sound_value ts p rest d e h (λ u text. let q = sym w ∙ is_that_function complete d e u text in cc)

  sound_value_cell : (ts : List Token) (p : Piece) (rest : List Token) → As whole ts p rest → AtEnd rest → next_is opens_brace ts ≡ false → (b : Bool) → next_is is_function ts ≡ b
      → Derives ts (value_cell b p.tree)
  sound_value_cell ts p rest d e h true s = sound_function_by ts p rest d e h s (out-Expr p.tree) refl
  sound_value_cell ts p rest d e h false s = sound_value ts p rest d e h (λ g text. both_ways _ s (begins_with_function text.reads))

  abbrev AsBlockCell : List Token → CellTree → List Token → Type 0
  AsBlockCell ts tree rest = AtEnd rest → Derives ts tree

  sound_bare_by : (ts : List Token) (b : Bool) → next_is opens_brace ts ≡ b → OnRead (bare_by limit n b ts) (AsBlockCell ts)
  sound_bare_by ts true h = on_mapped (ReadsBlock ts) (AsBlockCell ts) _ (block_of limit (reads limit n) (reads_statement limit n) ts) (sound_block_of ts)
      (λ items rest d e. cells.bare ts rest (of_block items) (cells.block ts rest items d) e (λ g text. both_ways _ (begins_with_no_brace text.reads) h))
  sound_bare_by ts false h = on_mapped (As whole ts) (AsBlockCell ts) _ (reads limit n whole ts) (expressions_are_sound limit n whole ts)
      (λ p rest d e. sound_value_cell ts p rest d e h (next_is is_function ts) refl)

  sound_bare : (ts : List Token) → OnCell (bare_of limit n ts) (Derives ts)
  unfolding bare_of
  sound_bare ts = sound_all (AsBlockCell ts) (Derives ts) (bare_by limit n (next_is opens_brace ts) ts) (sound_bare_by ts (next_is opens_brace ts) refl) (λ tree rest d e. d e)

  -- ---- cells

  abbrev AsHeaded : (List ℕ → Function → CellTree) → List Token → List ℕ → List Token → Type 0
  AsHeaded make ts x body = (f : Function) (rest : List Token) → ReadsBody body f rest → AtEnd rest → Derives ts (make x f)

  sound_headed : (make : List ℕ → Function → CellTree) (ts : List Token) (o : Read (List ℕ)) → OnRead o (AsHeaded make ts) → OnCell (headed limit n make o ts) (Derives ts)
  sound_headed make ts None d = sound_bare ts
  sound_headed make ts (Some p) d = sound_all (AsBlockCell ts) (Derives ts) _
      (on_mapped (ReadsBody p.1) (AsBlockCell ts) (make p.0) (body_of limit n p.1) (sound_body p.1) (λ f rest b e. d f rest b e)) (λ tree rest q e. q e)

  -- a name and `=`
  sound_head : (make : List ℕ → Function → CellTree) (front : List Token → List Token) (ts : List Token)
      → ((m q : Token) (body : List Token) (x : List ℕ) → IsName x m → IsMark mark.Assign q → AsHeaded make (front (m ∷ q ∷ body)) x body) → OnRead (cell_head limit n ts) (AsHeaded make (front ts))
  unfolding cell_head
  sound_head make front ts g = after_one name_of (λ us. AsHeaded make (front us)) _ (λ m mid x hx.
      on_before is_assign _ only_is_assign (λ us. AsHeaded make (front (m ∷ us))) x (λ q body hq. g m q body x (only_name m.kind x hx) hq) mid) ts

  sound_by : (t : Token) (ts : List Token) (x : TokenKind) → t.kind ≡ x → OnCell (cell_by limit n x t ts) (Derives (t ∷ ts))
  unfolding cell_by
  sound_by t ts (kind.Reserved word.Import) h = sound_all (AsBlockCell (t ∷ ts)) (Derives (t ∷ ts)) _
      (on_mapped (ReadsImport (t ∷ ts)) (AsBlockCell (t ∷ ts)) cell.Import (import_of ts) (sound_import t ts h) (λ i rest d e. cells.imported (t ∷ ts) rest i d e)) (λ tree rest q e. q e)
  sound_by t ts (kind.Reserved word.Viewof) h = sound_headed cell.View (t ∷ ts) (cell_head limit n ts)
      (sound_head cell.View (λ us. t ∷ us) ts (λ m q body x hm hq f rest d e. cells.view t m q body rest x f h hm hq d e))
  sound_by t ts (kind.Reserved word.Mutable) h = sound_headed cell.Mutable (t ∷ ts) (cell_head limit n ts)
      (sound_head cell.Mutable (λ us. t ∷ us) ts (λ m q body x hm hq f rest d e. cells.mutable_cell t m q body rest x f h hm hq d e))
  sound_by t ts (kind.Name x) h = sound_headed cell.Named (t ∷ ts) (cell_head limit n (t ∷ ts))
      (sound_head cell.Named (λ us. us) (t ∷ ts) (λ m q body y hm hq f rest d e. cells.named m q body rest y f hm hq d e))
  sound_by t ts _ h = sound_bare (t ∷ ts)

  sound_cell : (ts : List Token) → OnCell (cell_of limit n ts) (Derives ts)
  unfolding cell_of
  sound_cell [] = cells.nothing
  sound_cell (t ∷ ts) = sound_by t ts t.kind refl

pub cells_are_sound : ExpressionsAreComplete → CellsAreSound
cells_are_sound complete limit n ts tree h = subst (λ o. OnCell o (Derives ts)) h (sound_cell complete limit n ts)
