-- What stands behind an item of a list.
use Rattle.std.specs.Prelude.{Bool, true, false, [], ◌∷◌, Some, None, if◌then◌else◌}
use Rattle.ob_lex.specs.declared.token.TokenKind.{TokenKind}
use Rattle.ob_grammar.specs.Taking.{Parser, is_comma}

-- whether a list goes on behind an item: a comma stands there, or the mark that closes it
abbrev pub list_goes_on : (TokenKind → Bool) → Parser Bool
list_goes_on closes [] = None
list_goes_on closes (c ∷ ts) = if closes c.kind then Some (false, ts) else if is_comma c.kind then Some (true, ts) else None
