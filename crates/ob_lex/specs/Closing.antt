-- Whether a comment may still be closed, so that a text with many `/*` and no `*/` is searched once.
use Rattle.std.specs.Prelude.{◌≡◌, Bool, true, false, not, ◌||◌, ◌&&◌, drop, codes}
use Rattle.ob_lex.specs.declared.piece.Piece.{Piece}
use Rattle.ob_lex.specs.declared.piece.Piece.TheVariants as piece
use Rattle.ob_lex.specs.Characters.{Characters, begins, holds}

-- where the flag is false no `*/` stands behind the first character
abbrev pub MayClose : Bool → Characters → Type 0
MayClose closes text = closes ≡ false → holds (codes "*/") (drop 1 text) ≡ false

abbrev pub is_comment : Piece → Bool
is_comment piece.WhiteSpace = false
is_comment piece.LineEnd = false
is_comment (piece.Comment breaks) = true
is_comment (piece.Token kind) = false

-- the flag after a piece at the front of the text: a `/*` that begins no comment shows that none is closed any more
abbrev pub closes_after : Bool → Characters → Piece → Bool
closes_after closes text kind = closes && (is_comment kind || not (begins (codes "/*") text))
