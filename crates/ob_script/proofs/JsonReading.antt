-- A line's value, from whether it is a text and what the text reads as.
use Rattle.std.proofs.Common.{◌≡◌, ℕ, List, Bool, true, false, cond, None, refl}
use Rattle.std.specs.declared.option.Option.{Option}
use Rattle.std.specs.Str.{is_utf8, IsUtf8}
use Rattle.std.proofs.lemmas.Str.{is_utf8-from_IsUtf8, IsUtf8-from_is_utf8}
use Rattle.serde_json.specs.Data.{Data}
use Rattle.serde_json.specs.Read.{read}
use Rattle.ob_script.specs.Json.{json_of}

pub json_of-text : (line : List ℕ) (o : Option Data) → IsUtf8 line → read line ≡ o → json_of line ≡ o
unfolding json_of
json_of-text line o u e = rw (is_utf8-from_IsUtf8 line u) e

none_chosen : (b : Bool) (o : Option Data) → (b ≡ true → ⊥) → cond b o None ≡ None
none_chosen true o h = absurd (h refl)
none_chosen false o h = refl

pub json_of-other : (line : List ℕ) → (IsUtf8 line → ⊥) → json_of line ≡ None
unfolding json_of
json_of-other line h = none_chosen (is_utf8 line) (read line) (λ e. h (IsUtf8-from_is_utf8 line e))
