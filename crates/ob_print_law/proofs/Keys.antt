-- What a word behind a dot, and a key, are printed as is read as that word, as that key.
use Rattle.std.proofs.Common.{◌≡◌, ℕ, suc, pos, negsuc, Bool, true, false, not, List, [], ◌∷◌, Option, Some, None, refl, ap, sym, subst, ◌∙◌, arith}
use Rattle.std.specs.Prelude.{is_some, if◌then◌else◌}
use Rattle.std.specs.List.{flat_map}
use Rattle.std.specs.Str.{chars, IsAscii}
use Rattle.std.specs.Fmt.{signed_decimal}
use Rattle.std.specs.Char.Escape.{encode_utf16}
use Rattle.std.proofs.lemmas.Str.{chars-encodes}
use Rattle.std.proofs.lemmas.Fmt.{IsAscii-signed}
use Rattle.ob_base.specs.declared.reserved.ReservedWord.{ReservedWord}
use Rattle.ob_base.specs.Escapes.{is_ascii_word}
use Rattle.ob_base.specs.Reserved.{spelling, reserved_word}
use Rattle.ob_base.specs.Utf16.{utf16}
use Rattle.ob_lex.specs.declared.token.TokenKind.{TokenKind}
use Rattle.ob_lex.specs.declared.token.TokenKind.TheVariants as kind
use Rattle.ob_lex.proofs.Classes.{both}
use Rattle.ob_tree.specs.Words.{is_reserved}
use Rattle.ob_tree.specs.Tokens.{Token as Printed, Word, Quoted, is_ascii_name, key_token}
use Rattle.ob_grammar.specs.Marks.{word_of, key_of}
use Rattle.ob_print_law.proofs.Placed.{kind_of, word_is, name_is}
use Rattle.ob_print_law.proofs.Valid.{Lexes, ValidName, ValidKind, Units}
use Rattle.ob_print_law.proofs.Words.{ascii_is_itself, ascii_lexes, ascii_units, reserved_is_ascii, reserved_lexes}
use Rattle.ob_print_law.proofs.Encoding.{all_units, same_units}
use Rattle.ob_print_law.proofs.Functions.{KeyReads}

-- ---- words behind a dot

-- the printed word is read as that word
abbrev pub WordReads : List ℕ → Type 0
WordReads x = Lexes (Word x) × (word_of (kind_of (Word x)) ≡ Some x)

of_name : (x : List ℕ) → ValidName x → WordReads x
unfolding word_of
of_name x v = (v.0, ap word_of (name_is x v.1))

of_reserved : (w : ReservedWord) → WordReads (spelling w)
unfolding word_of
of_reserved w = (reserved_lexes w, ap word_of (word_is w))

same_word : {x y : List ℕ} → Some x ≡ Some y → WordReads x → WordReads y
same_word {x} {y} e r = let h : x ≡ y = cc in subst WordReads h r

pub word_reads : (k : TokenKind) (x : List ℕ) → ValidKind k → word_of k ≡ Some x → WordReads x
unfolding word_of
word_reads (kind.Name y) x v e = same_word e (of_name y v)
word_reads (kind.Reserved w) x v e = same_word e (of_reserved w)
word_reads (kind.Number n) x v e = cc
word_reads (kind.Text units) x v e = cc
word_reads (kind.Punctuator m) x v e = cc

ascii_units_are : (us : List ℕ) → IsAscii us → Units us
ascii_units_are [] h = tt
ascii_units_are (u ∷ us) h = (omega (arith, h 0), ascii_units_are us (λ i. h (suc i)))

-- ---- keys

-- the units of the key that a token gives
key_units : (k : TokenKind) (key : List ℕ) → ValidKind k → key_of k ≡ Some key → Units key
unfolding key_of utf16
key_units (kind.Name x) key v e =
    let cs = v.0.0 in
    let same : chars x ≡ cs = ap chars v.0.1.1.1 ∙ chars-encodes cs v.0.1.1.0 in
    let h : flat_map encode_utf16 (chars x) ≡ key = cc in
    subst Units (ap (flat_map encode_utf16) (sym same) ∙ h) (all_units cs v.0.1.1.0)
key_units (kind.Reserved w) key v e = let h : spelling w ≡ key = cc in subst Units h (ascii_units (spelling w) (reserved_is_ascii w))
key_units (kind.Number (pos n)) key v e =
    let h : signed_decimal (pos n) ≡ key = cc in subst Units h (ascii_units_are (signed_decimal (pos n)) (IsAscii-signed (pos n) (omega (arith, v))))
key_units (kind.Number (negsuc n)) key v e = absurd v
key_units (kind.Text units) key v e = let h : units ≡ key = cc in subst Units h v
key_units (kind.Punctuator m) key v e = cc

token_is : (key : List ℕ) (b : Bool) → is_ascii_name key ≡ b → key_token key ≡ (if b then Word key else Quoted key)
unfolding key_token
token_is key b h = ap (λ b. if b then Word key else Quoted key) h

no_word : (key : List ℕ) (o : Option ReservedWord) → reserved_word key ≡ o → not (is_some o) ≡ true → reserved_word key ≡ None
no_word key None e h = e
no_word key (Some w) e h = cc

name_parts : (key : List ℕ) → is_ascii_name key ≡ true → (is_ascii_word key ≡ true) × (reserved_word key ≡ None)
unfolding is_ascii_name is_reserved
name_parts key h = let p = both (is_ascii_word key) (not (is_reserved key)) h in (p.0, no_word key (reserved_word key) refl p.1)

name_key : (key : List ℕ) → is_ascii_word key ≡ true → reserved_word key ≡ None → Lexes (Word key) × (key_of (kind_of (Word key)) ≡ Some key)
unfolding key_of utf16
name_key key a r =
    let p = ascii_is_itself key a in
    let same : chars key ≡ key = ap chars (sym p.1) ∙ chars-encodes key p.0 in
    (ascii_lexes key a, ap key_of (name_is key r) ∙ ap Some (ap (flat_map encode_utf16) same ∙ same_units key (ascii_units key a)))

quoted_key : (key : List ℕ) → Units key → Lexes (Quoted key) × (key_of (kind_of (Quoted key)) ≡ Some key)
unfolding key_of
quoted_key key u = (u, refl)

TokenReads : List ℕ → Printed → Type 0
TokenReads key p = Lexes p × (key_of (kind_of p) ≡ Some key)

key_by : (key : List ℕ) → Units key → (b : Bool) → is_ascii_name key ≡ b → TokenReads key (if b then Word key else Quoted key)
unfolding TokenReads
key_by key u true h = let p = name_parts key h in name_key key p.0 p.1
key_by key u false h = quoted_key key u

pub key_reads : (k : TokenKind) (key : List ℕ) → ValidKind k → key_of k ≡ Some key → KeyReads key
unfolding TokenReads
key_reads k key v e = subst (TokenReads key) (sym (token_is key (is_ascii_name key) refl)) (key_by key (key_units k key v e) (is_ascii_name key) refl)
