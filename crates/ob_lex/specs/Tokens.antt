-- The tokens of a text: the text is cut into pieces, at each place the longest that may stand there.
use Rattle.std.specs.Prelude.{◌≡◌, ℕ, ◌+◌, ◌≤◌, Bool, true, false, ◌||◌, List, [], ◌∷◌, ◌++◌, length}
use Rattle.ob_lex.specs.declared.piece.Piece.{Piece}
use Rattle.ob_lex.specs.declared.piece.Piece.TheVariants as piece
use Rattle.ob_lex.specs.declared.token.Token.{Token}
use Rattle.ob_lex.specs.Characters.{Characters, bytes}
use Rattle.ob_lex.specs.Pieces.{IsPiece}

-- the piece is the longest of all kinds that may stand at the front of the text
pub record IsLongest (kind : Piece) (front rest : Characters) : Type 0 where
  pub allowed : IsPiece kind front rest
  pub longest : (other : Piece) (text after : Characters) → text ++ after ≡ front ++ rest → IsPiece other text after → length text ≤ length front

-- whether a line break stands before what follows the piece; a comment that holds a line end counts as one (ECMA-262, "Comments")
abbrev pub breaks_after : Piece → Bool → Bool
breaks_after piece.WhiteSpace breaks = breaks
breaks_after piece.LineEnd breaks = true
breaks_after (piece.Comment holds_line_end) breaks = breaks || holds_line_end
breaks_after (piece.Token kind) breaks = false

-- the token of a piece from one byte to another; white space, line ends and comments give none
abbrev pub shown : Piece → ℕ → ℕ → Bool → List Token
shown piece.WhiteSpace start end breaks = []
shown piece.LineEnd start end breaks = []
shown (piece.Comment holds_line_end) start end breaks = []
shown (piece.Token kind) start end breaks = record { kind = kind; start = start; end = end; break_before = breaks } ∷ []

-- the text from this byte on is cut into these tokens; the flag says whether a line break stands before it
pub data Cuts : Bool → ℕ → Characters → List Token → Type 0 where
  done : (breaks : Bool) (at : ℕ) → Cuts breaks at [] []
  next : (breaks : Bool) (at : ℕ) (kind : Piece) (text front rest : Characters) (tokens : List Token) → text ≡ front ++ rest → IsLongest kind front rest
      → Cuts (breaks_after kind breaks) (at + bytes front) rest tokens → Cuts breaks at text (shown kind at (at + bytes front) breaks ++ tokens)

-- the text of these characters has these tokens
abbrev pub Tokens : Characters → List Token → Type 0
Tokens text tokens = Cuts false 0 text tokens
