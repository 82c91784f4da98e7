-- Keys that are words, and those that are texts.
use Rattle.std.proofs.Common.{◌≡◌, ℕ, ◌<◌, Bool, true, false, List, ◌&&◌, refl}
use Rattle.std.specs.List.{All}
use Rattle.ob_base.proofs.AsciiWords.{word_is_ascii}
use Rattle.ob_tree.specs.Tokens.{Word, Quoted, key_token, is_ascii_name}

first : (a b : Bool) → (a && b) ≡ true → a ≡ true
first true b h = refl
first false b h = h

pub name_is_ascii : (units : List ℕ) → is_ascii_name units ≡ true → All (λ u. u < 128) units
unfolding is_ascii_name
name_is_ascii units h = word_is_ascii units (first _ _ h)

pub word_key : (units : List ℕ) → is_ascii_name units ≡ true → key_token units ≡ Word units
unfolding key_token
word_key units h = rw h refl

pub text_key : (units : List ℕ) → is_ascii_name units ≡ false → key_token units ≡ Quoted units
unfolding key_token
text_key units h = rw h refl
