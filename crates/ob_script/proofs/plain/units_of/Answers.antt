use Rattle.std.proofs.Common.{◌≡◌, Ok, Err, Result, IfOk, true}
use Rattle.ob_base.specs.declared.no_memory.NoMemory.{NoMemory}
use Rattle.std.specs.Prelude.{ℕ, List}
use Rattle.ob_script.proofs.Utf16.{text_of_utf16, utf8_utf16}
use Rattle.ob_script.proofs.plain.units_of.Goals as goal

then : (P Q : List ℕ → Type 0) → ((units : List ℕ) → P units → Q units) → (r : Result (List ℕ) NoMemory) → IfOk r P → IfOk r Q
then P Q f (Ok units) h = f units h
then P Q f (Err e) h = h

pub returns-clause-text : goal.returns-clause-text
returns-clause-text c = then _ _ (λ units h. rw h (text_of_utf16 c.args.text.now c.utf8.text)) c.from_str.result c.from_str.ensures

pub returns-clause-bytes : goal.returns-clause-bytes
returns-clause-bytes c = then _ _ (λ units h. rw h (utf8_utf16 c.args.text.now c.utf8.text)) c.from_str.result c.from_str.ensures
