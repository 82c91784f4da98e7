-- What a property is written as.
use Rattle.std.proofs.Common.{◌≡◌, ℕ, ◌+◌, ◌<◌, List, length, get_or, drop, map, refl, sym, ◌∙◌, rules}
use Rattle.std.proofs.lemmas.List.{at_drop_more}
use Rattle.serde_json.specs.Data.{Members, put}
use Rattle.ob_base.specs.PlainData.{nesting, prop_nesting}
use Rattle.ob_base.specs.declared.plain.PlainProp.{PlainProp}
use Rattle.ob_base.specs.declared.plain.Plain.{the_lemmas}
use Rattle.ob_script.specs.Texts.{utf8, plain_data, prop_data, put_all}

pub prop_data-is : (p : PlainProp) → prop_data p ≡ (utf8 p.key, plain_data p.value)
prop_data-is p = search (rules, the_lemmas)

pub prop_nesting-is : (p : PlainProp) → prop_nesting p ≡ nesting p.value
prop_nesting-is p = search (rules, the_lemmas)

-- the property at i goes in first
pub put_all_more : (found : Members) (ps : List PlainProp) (i : ℕ) (p : PlainProp) → i < length ps → p ≡ get_or ps i p
    → put_all found (map prop_data (drop i ps)) ≡ put_all (put (utf8 p.key) (plain_data p.value) found) (map prop_data (drop (i + 1) ps))
put_all_more found ps i p l e =
    at_drop_more (λ qs. put_all found (map prop_data qs)) ps i p l
    ∙ rw (sym e, prop_data-is p) refl
