-- Words of ASCII are characters of ASCII.
use Rattle.std.proofs.Common.{◌≡◌, ℕ, ◌<◌, Bool, true, false, List, ◌&&◌, arith, refl}
use Rattle.std.specs.List.{All}
use Rattle.std.proofs.lemmas.List.Sums.{AllPass-from_list_all}
use Rattle.std.proofs.lemmas.Bool.Decides.{nat_tests}
use Rattle.ob_base.specs.Escapes.{is_ascii_word, continues_ascii_word}

small : (u : ℕ) → continues_ascii_word u ≡ true → u < 128
small u h = grind (arith, nat_tests)

second : (a b : Bool) → (a && b) ≡ true → b ≡ true
second true b h = h
second false b h = absurd (cc)

pub word_is_ascii : (units : List ℕ) → is_ascii_word units ≡ true → All (λ u. u < 128) units
word_is_ascii units h = λ k d below. small _ (AllPass-from_list_all continues_ascii_word units (second _ _ h) k d below)
