-- What the descent reads as a list, a block or a function is one, where what it reads one nesting deeper is in the grammar.
use Rattle.std.proofs.Common.{◌≡◌, ℕ, zero, suc, Bool, true, false, List, [], ◌∷◌, length, Option, Some, None, refl}
use Rattle.ob_lex.specs.declared.punctuator.Punctuator.{Punctuator}
use Rattle.ob_lex.specs.declared.punctuator.Punctuator.TheVariants as mark
use Rattle.ob_base.specs.declared.reserved.ReservedWord.TheVariants as word
use Rattle.ob_lex.specs.declared.token.Token.{Token}
use Rattle.ob_lex.specs.declared.token.TokenKind.{TokenKind}
use Rattle.ob_lex.specs.declared.token.TokenKind.TheVariants as kind
use Rattle.ob_tree_types.specs.declared.tree.Expr.{Expr}
use Rattle.ob_tree_types.specs.declared.tree.PropNode.{PropNode}
use Rattle.ob_tree_types.specs.declared.tree.Stmt.{Stmt}
use Rattle.ob_grammar.specs.declared.form.Level.{Level}
use Rattle.ob_grammar.specs.declared.form.Level.TheVariants as level
use Rattle.ob_grammar.specs.declared.piece.Piece.{Piece}
use Rattle.ob_grammar.specs.Marks.{IsMark, IsWord, key_of}
use Rattle.ob_grammar.specs.Lists.{ReadsSignature}
use Rattle.ob_grammar.specs.Grammar.{Rule, whole, Reads, ReadsList, no_item, last_item, more_list, ReadsProps, no_prop, last_prop, more_props, ReadsProp, short_prop, fixed_prop, computed_prop, ReadsFunction, function, ReadsBlock, block, ReadsItems, no_items, more_items, ReadsItem}
use Rattle.ob_grammar.specs.Taking.{Parser, closes_bracket, opens_bracket, opens_brace, closes_brace, is_comma, is_colon, name_of, take, signature_of}
use Rattle.ob_grammar.specs.Reading.{list_by, after_item, list_at, list_from, list_of, computed_of, named_prop, keyed_prop, prop_by, prop_of, props_by, after_prop, props_at, props_from, items_at, items_from, block_of, function_rest}
use Rattle.ob_grammar.proofs.Statements.{OnRead}
use Rattle.ob_grammar.proofs.SoundTokens.{Only, after, after_taken, on_weaker, on_mapped, only_name, only_opens_bracket, only_closes_bracket, only_opens_brace, only_closes_brace, only_is_comma, only_is_colon, by_take, on_taken}
use Rattle.ob_grammar.proofs.SoundLists.{sound_signature}

abbrev pub As : Rule → List Token → Piece → List Token → Type 0
As r ts p rest = Reads r ts p.tree p.form rest

module _ (limit : ℕ) (inner : Rule → Parser Piece) (nested : Level → Parser Stmt) (on_inner : (r : Rule) (ts : List Token) → OnRead (inner r ts) (As r ts))
    (on_items : (ts : List Token) → OnRead (nested level.Item ts) (ReadsItem ts)) where
  -- ---- lists

  sound_list_by : (closes : TokenKind → Bool) (m : Punctuator) → Only closes (kind.Punctuator m) → (more : Parser (List Expr)) → ((ts : List Token) → OnRead (more ts) (ReadsList m ts))
      → (ts : List Token) (p : Piece) (c : Token) (mid : List Token) → As whole ts p (c ∷ mid) → (b : Bool) → closes c.kind ≡ b → (e : Bool) → is_comma c.kind ≡ e
      → OnRead (list_by limit inner nested b e p.tree more mid) (ReadsList m ts)
  sound_list_by closes m only more all ts p c mid d true hb e he = last_item m c ts mid p.tree p.form d (only c.kind hb)
  sound_list_by closes m only more all ts p c mid d false hb true he = on_mapped (ReadsList m mid) (ReadsList m ts) _ (more mid) (all mid)
      (λ items rest ds. more_list m c ts mid rest p.tree p.form items d (only_is_comma c.kind he) ds)
  sound_list_by closes m only more all ts p c mid d false hb false he = tt

  sound_after_item : (closes : TokenKind → Bool) (m : Punctuator) → Only closes (kind.Punctuator m) → (more : Parser (List Expr)) → ((ts : List Token) → OnRead (more ts) (ReadsList m ts))
      → (ts : List Token) (p : Piece) (mid : List Token) → As whole ts p mid → OnRead (after_item limit inner nested closes more p mid) (ReadsList m ts)
  sound_after_item closes m only more all ts p [] d = tt
  sound_after_item closes m only more all ts p (c ∷ mid) d = sound_list_by closes m only more all ts p c mid d (closes c.kind) refl (is_comma c.kind) refl

  sound_list_from : (closes : TokenKind → Bool) (m : Punctuator) → Only closes (kind.Punctuator m) → (n : ℕ) (ts : List Token) → OnRead (list_from limit inner nested closes n ts) (ReadsList m ts)
  unfolding list_from
  sound_list_from closes m only zero ts = tt
  sound_list_from closes m only (suc n) ts = by_take closes _ only (λ ts o. OnRead (list_at limit inner nested o closes (list_from limit inner nested closes n) ts) (ReadsList m ts))
      (λ t rest h. no_item m t rest h)
      (λ ts h. after (As whole ts) (ReadsList m ts) (inner whole ts) _ (on_inner whole ts) (sound_after_item closes m only (list_from limit inner nested closes n) (sound_list_from closes m only n) ts)) ts

  pub sound_list : (closes : TokenKind → Bool) (m : Punctuator) → Only closes (kind.Punctuator m) → (ts : List Token) → OnRead (list_of limit inner nested closes ts) (ReadsList m ts)
  unfolding list_of
  sound_list closes m only ts = sound_list_from closes m only (length ts) ts

  sound_computed : (t : Token) (ts : List Token) → IsMark mark.OpenBracket t → OnRead (computed_of limit inner nested ts) (ReadsProp (t ∷ ts))
  sound_computed t ts h = after (As whole ts) (ReadsProp (t ∷ ts)) (inner whole ts) _ (on_inner whole ts) (λ k mid d.
      after_taken closes_bracket _ only_closes_bracket (As whole ts k) (ReadsProp (t ∷ ts)) _ (λ e colon he d.
      after_taken is_colon _ only_is_colon (λ us. As whole ts k (e ∷ us)) (ReadsProp (t ∷ ts)) _ (λ c us hc d.
      on_mapped (As whole us) (ReadsProp (t ∷ ts)) _ (inner whole us) (on_inner whole us) (λ p rest r.
      computed_prop t e c ts us rest k.tree p.tree k.form p.form h d he hc r)) colon d) mid d)

  sound_keyed : (t c : Token) (ts : List Token) → IsMark mark.Colon c → (o : Option (List ℕ)) → key_of t.kind ≡ o → OnRead (keyed_prop limit inner nested o ts) (ReadsProp (t ∷ c ∷ ts))
  sound_keyed t c ts h (Some key) e = on_mapped (As whole ts) (ReadsProp (t ∷ c ∷ ts)) _ (inner whole ts) (on_inner whole ts) (λ p rest d. fixed_prop t c ts rest key p.tree p.form e h d)
  sound_keyed t c ts h None e = tt

  sound_named_prop : (t : Token) (ts : List Token) (o : Option (List ℕ)) → name_of t.kind ≡ o → OnRead (named_prop limit inner nested o ts) (ReadsProp (t ∷ ts))
  sound_named_prop t ts (Some x) e = short_prop t ts x (only_name t.kind x e)
  sound_named_prop t ts None e = tt

  sound_prop_by : (t : Token) (ts : List Token) (b : Bool) → opens_bracket t.kind ≡ b → OnRead (prop_by limit inner nested b (take is_colon ts) t.kind ts) (ReadsProp (t ∷ ts))
  sound_prop_by t ts true h = sound_computed t ts (only_opens_bracket t.kind h)
  sound_prop_by t ts false h = by_take is_colon _ only_is_colon (λ ts o. OnRead (prop_by limit inner nested false o t.kind ts) (ReadsProp (t ∷ ts)))
      (λ c rest hc. sound_keyed t c rest hc (key_of t.kind) refl) (λ ts hc. sound_named_prop t ts (name_of t.kind) refl) ts

  sound_prop : (ts : List Token) → OnRead (prop_of limit inner nested ts) (ReadsProp ts)
  unfolding prop_of
  sound_prop [] = tt
  sound_prop (t ∷ ts) = sound_prop_by t ts (opens_bracket t.kind) refl

  sound_props_by : (more : Parser (List PropNode)) → ((ts : List Token) → OnRead (more ts) (ReadsProps ts)) → (ts : List Token) (p : PropNode) (c : Token) (mid : List Token)
      → ReadsProp ts p (c ∷ mid) → (b : Bool) → closes_brace c.kind ≡ b → (e : Bool) → is_comma c.kind ≡ e → OnRead (props_by limit inner nested b e p more mid) (ReadsProps ts)
  sound_props_by more all ts p c mid d true hb e he = last_prop c ts mid p d (only_closes_brace c.kind hb)
  sound_props_by more all ts p c mid d false hb true he = on_mapped (ReadsProps mid) (ReadsProps ts) _ (more mid) (all mid)
      (λ ps rest ds. more_props c ts mid rest p ps d (only_is_comma c.kind he) ds)
  sound_props_by more all ts p c mid d false hb false he = tt

  sound_after_prop : (more : Parser (List PropNode)) → ((ts : List Token) → OnRead (more ts) (ReadsProps ts)) → (ts : List Token) (p : PropNode) (mid : List Token)
      → ReadsProp ts p mid → OnRead (after_prop limit inner nested more p mid) (ReadsProps ts)
  sound_after_prop more all ts p [] d = tt
  sound_after_prop more all ts p (c ∷ mid) d = sound_props_by more all ts p c mid d (closes_brace c.kind) refl (is_comma c.kind) refl

  pub sound_props : (n : ℕ) (ts : List Token) → OnRead (props_from limit inner nested n ts) (ReadsProps ts)
  unfolding props_from
  sound_props zero ts = tt
  sound_props (suc n) ts = by_take closes_brace _ only_closes_brace (λ ts o. OnRead (props_at limit inner nested o (props_from limit inner nested n) ts) (ReadsProps ts))
      (λ t rest h. no_prop t rest h)
      (λ ts h. after (ReadsProp ts) (ReadsProps ts) (prop_of limit inner nested ts) _ (sound_prop ts) (sound_after_prop (props_from limit inner nested n) (sound_props n) ts)) ts

  -- ---- blocks and functions

  sound_items : (n : ℕ) (ts : List Token) → OnRead (items_from limit inner nested n ts) (ReadsItems ts)
  unfolding items_from
  sound_items zero ts = tt
  sound_items (suc n) ts = by_take closes_brace _ only_closes_brace (λ ts o. OnRead (items_at limit inner nested o (items_from limit inner nested n) ts) (ReadsItems ts))
      (λ t rest h. no_items t rest h)
      (λ ts h. after (ReadsItem ts) (ReadsItems ts) (nested level.Item ts) _ (on_items ts) (λ s mid d.
      on_mapped (ReadsItems mid) (ReadsItems ts) _ (items_from limit inner nested n mid) (sound_items n mid) (λ items rest ds. more_items ts mid rest s items d ds))) ts

  pub sound_block : (ts : List Token) → OnRead (block_of limit inner nested ts) (ReadsBlock ts)
  unfolding block_of
  sound_block ts = on_taken opens_brace _ only_opens_brace ReadsBlock _ (λ t inside h.
      on_weaker (ReadsItems inside) (ReadsBlock (t ∷ inside)) (items_from limit inner nested (length inside) inside) (sound_items (length inside) inside) (λ items rest d. block t inside rest items h d)) ts

  pub sound_function_rest : (t : Token) (ts : List Token) → IsWord word.Function t → OnRead (function_rest limit inner nested ts) (ReadsFunction (t ∷ ts))
  unfolding function_rest
  sound_function_rest t ts h = after (ReadsSignature ts) (ReadsFunction (t ∷ ts)) (signature_of ts) _ (sound_signature ts) (λ s mid d.
      on_mapped (ReadsBlock mid) (ReadsFunction (t ∷ ts)) _ (block_of limit inner nested mid) (sound_block mid) (λ items rest b. function t ts mid rest s items h d b))
