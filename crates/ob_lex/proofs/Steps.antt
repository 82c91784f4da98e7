-- The steps of the loops.
use Rattle.std.proofs.Common.{◌≡◌, ◌↔◌, ℕ, suc, ◌+◌, ◌-◌, ◌≤◌, Bool, false, List, [], ◌∷◌, ◌++◌, length, Option, Some, None, Result, Ok, Err, IfOk, refl, ap, sym, ◌∙◌, arith, append_assoc}
use Rattle.std.proofs.lemmas.List.{append-nil}
use Rattle.ob_lex.specs.declared.piece.Piece.{Piece}
use Rattle.ob_lex.specs.declared.token.Token.{Token}
use Rattle.ob_lex.specs.declared.error.LexError.{LexError}
use Rattle.ob_lex.specs.declared.error.LexError.TheVariants as errors
use Rattle.ob_lex.specs.declared.quoted.Element.{Element}
use Rattle.ob_lex.specs.declared.quoted.Element.TheVariants as element
use Rattle.ob_lex.specs.Characters.{Characters, bytes}
use Rattle.ob_lex.specs.Pieces.{units_of}
use Rattle.ob_lex.specs.Tokens.{shown, breaks_after, Tokens}
use Rattle.ob_lex.specs.Reading.{Read, element_at, with_units, then_inside, inside, piece_at, with_front, then_cut, cut, Fails, Gives}
use Rattle.ob_lex.proofs.Front.{read_front}
use Rattle.ob_lex.proofs.Cuts.{bytes_append, read_tokens, tokens_read, no_division}

pub inside_step : (n quote : ℕ) (rest : Characters) (r : Read Element) → element_at quote rest ≡ r → inside (suc n) quote rest ≡ then_inside r (inside n quote)
unfolding inside
inside_step n quote rest r h = ap (λ r. then_inside r (inside n quote)) h

pub inside_stops : (quote : ℕ) (rest : Characters) → inside 0 quote rest ≡ None
unfolding inside
inside_stops quote rest = refl

pub units_twice : (a b : List ℕ) (r : Read (List ℕ)) → with_units a (with_units b r) ≡ with_units (a ++ b) r
units_twice a b None = refl
units_twice a b (Some p) = ap (λ (x : List ℕ). Some (x, p.1)) (sym (append_assoc a b p.0))

pub inside_closes : (n quote : ℕ) (units : List ℕ) (rest more : Characters) → element_at quote rest ≡ Some (element.Closes, more) → with_units units (inside (suc n) quote rest) ≡ Some (units, more)
inside_closes n quote units rest more h =
    ap (with_units units) (inside_step n quote rest (Some (element.Closes, more)) h) ∙ ap (λ (u : List ℕ). Some (u, more)) (append-nil units)

pub inside_gives : (n quote : ℕ) (units : List ℕ) (rest : Characters) (code : Option ℕ) (more : Characters) → element_at quote rest ≡ Some (element.Gives code, more)
    → with_units units (inside (suc n) quote rest) ≡ with_units (units ++ units_of code) (inside n quote more)
inside_gives n quote units rest code more h =
    ap (with_units units) (inside_step n quote rest (Some (element.Gives code, more)) h) ∙ units_twice units (units_of code) (inside n quote more)

pub front_twice : (a b : List Token) (r : Option (List Token)) → with_front a (with_front b r) ≡ with_front (a ++ b) r
front_twice a b None = refl
front_twice a b (Some ts) = ap Some (sym (append_assoc a b ts))

pub cut_step : (n : ℕ) (breaks : Bool) (at : ℕ) (rest : Characters) (r : Read Piece) → 1 ≤ length rest → piece_at rest ≡ r → cut (suc n) breaks at rest ≡ then_cut breaks at rest r (cut n)
unfolding cut
cut_step n breaks at [] r le h = absurd (omega arith)
cut_step n breaks at (c ∷ cs) r le h = ap (λ r. then_cut breaks at (c ∷ cs) r (cut n)) h

pub cut_nothing : (n : ℕ) (breaks : Bool) (at : ℕ) (rest : Characters) → length rest ≡ 0 → cut n breaks at rest ≡ Some []
unfolding cut
cut_nothing n breaks at [] h = refl
cut_nothing n breaks at (c ∷ cs) h = absurd (omega arith)

pub cut_stops : (breaks : Bool) (at : ℕ) (rest : Characters) → 1 ≤ length rest → cut 0 breaks at rest ≡ None
unfolding cut
cut_stops breaks at [] h = absurd (omega arith)
cut_stops breaks at (c ∷ cs) h = refl

pub cut_ends : (n : ℕ) (breaks : Bool) (at : ℕ) (tokens : List Token) (rest : Characters) → length rest ≡ 0 → with_front tokens (cut n breaks at rest) ≡ Some tokens
cut_ends n breaks at tokens rest h = ap (with_front tokens) (cut_nothing n breaks at rest h) ∙ ap Some (append-nil tokens)

-- a piece more
pub cut_more : (n : ℕ) (breaks : Bool) (at len : ℕ) (tokens : List Token) (rest more : Characters) (k : Piece) → 1 ≤ length rest → piece_at rest ≡ Some (k, more) → len ≡ bytes rest - bytes more
    → with_front tokens (cut (suc n) breaks at rest) ≡ with_front (tokens ++ shown k at (at + len) breaks) (cut n (breaks_after k breaks) (at + len) more)
cut_more n breaks at len tokens rest more k le h e =
    ap (with_front tokens) (cut_step n breaks at rest (Some (k, more)) le h)
    ∙ front_twice tokens (shown k at (at + (bytes rest - bytes more)) breaks) (cut n (breaks_after k breaks) (at + (bytes rest - bytes more)) more)
    ∙ ap (λ l. with_front (tokens ++ shown k at (at + l) breaks) (cut n (breaks_after k breaks) (at + l) more)) (sym e)

-- the rest has no more bytes
pub read_bytes : (text rest : Characters) (k : Piece) → piece_at text ≡ Some (k, rest) → bytes rest ≤ bytes text
read_bytes text rest k e =
    let x = read_front text rest k e in let b : bytes text ≡ bytes x.0 + bytes rest = ap bytes x.1.0 ∙ bytes_append x.0 rest in omega (arith, b)

-- an error of the piece is one of the text
pub error_passes : {A B : Type 0} (error : LexError) (r : Option A) (s : Option B) → Fails error r → (r ≡ None → s ≡ None) → Fails error s
error_passes errors.Bad r s h f = f h
error_passes errors.NoMemory r s h f = tt

-- the answer of `lex`, of a text whose characters these are
pub yes_of : {A : Type 0} (view : A → List Token) (text : Characters) (r : Result A LexError) → Gives view r (cut (length text) false 0 text) → IfOk r (λ a. Tokens text (view a))
yes_of view text (Ok a) h = read_tokens text (view a) h
yes_of view text (Err e) h = tt

pub no_of : {A : Type 0} (view : A → List Token) (text : Characters) (r : Result A LexError) → Gives view r (cut (length text) false 0 text) → r ≡ Err errors.Bad
    → (tokens : List Token) → Tokens text tokens → ⊥
no_of view text (Ok a) h e tokens d = cc
no_of view text (Err errors.Bad) h e tokens d = no_division text h tokens d
no_of view text (Err errors.NoMemory) h e tokens d = cc

pub both_ways : (text : Characters) (tokens : List Token) → (cut (length text) false 0 text ≡ Some tokens) ↔ Tokens text tokens
both_ways text tokens = (read_tokens text tokens, tokens_read text tokens)
