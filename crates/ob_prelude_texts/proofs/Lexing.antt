-- The texts are cut into their tokens, by computing.
use Rattle.std.proofs.Common.{◌≡◌, false, length, Some, refl}
use Rattle.ucd_derived.specs.Binary.{is_xid_start, is_xid_continue}
use Rattle.ucd_derived.specs.XidStartRanges.{xid_start_ranges}
use Rattle.ucd_derived.specs.XidContinueRanges.{xid_continue_ranges}
use Rattle.ucd_table.specs.Rows.{in_ranges}
use Rattle.ob_base.specs.Reserved.{spelling, reserved_word, words_of}
use Rattle.ob_lex.specs.Characters.{is_white_space, is_line_end, starts_name, continues_name, is_digit, is_quote, base_of, is_plain, is_escaped, escaped}
use Rattle.ob_lex.specs.Words.{mark_spelling, marks_of}
use Rattle.ob_lex.specs.Reading.{word_at, number_at, escape_at, element_at, inside, to_close, comment_at, piece_at, cut}
use Rattle.ob_prelude_texts.proofs.Tokens.{map_text, map_tokens, filter_text, filter_tokens, each_text, each_tokens, some_text, some_tokens, every_text, every_tokens, reduce_text, reduce_tokens, from_text, from_tokens}

-- what unfolds where a text is cut
unfoldable lexing : Unit {0}
unfolding lib.Utf8.encode is_xid_start is_xid_continue xid_start_ranges xid_continue_ranges in_ranges spelling reserved_word words_of is_white_space is_line_end starts_name continues_name is_digit is_quote base_of is_plain is_escaped escaped mark_spelling marks_of word_at number_at escape_at element_at inside to_close comment_at piece_at cut
lexing = tt

pub map_lexed : cut (length map_text) false 0 map_text ≡ Some map_tokens
unfolding lexing
map_lexed = refl

pub filter_lexed : cut (length filter_text) false 0 filter_text ≡ Some filter_tokens
unfolding lexing
filter_lexed = refl

pub each_lexed : cut (length each_text) false 0 each_text ≡ Some each_tokens
unfolding lexing
each_lexed = refl

pub some_lexed : cut (length some_text) false 0 some_text ≡ Some some_tokens
unfolding lexing
some_lexed = refl

pub every_lexed : cut (length every_text) false 0 every_text ≡ Some every_tokens
unfolding lexing
every_lexed = refl

pub reduce_lexed : cut (length reduce_text) false 0 reduce_text ≡ Some reduce_tokens
unfolding lexing
reduce_lexed = refl

pub from_lexed : cut (length from_text) false 0 from_text ≡ Some from_tokens
unfolding lexing
from_lexed = refl
