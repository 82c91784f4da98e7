-- Cells with serials of their own.
use Rattle.std.proofs.Common.{◌≡◌, ℕ, ◌==◌, Bool, true, false, List, [], ◌∷◌, map, inl, inr, refl, ap, sym, ◌∙◌, None}
use Rattle.std.specs.List.{list_any}
use Rattle.std.proofs.lemmas.Bool.{and_parts, not-true, both_ways, or_left, or_right, eq-eqb}
use Rattle.ob_worlds.specs.Reader.{Reader}
use Rattle.ob_worlds.specs.World.{World}
use Rattle.ob_worlds.specs.Modules.{Modules, Defined, modules_of, all_cells, are_apart, have_own_serials}
use Rattle.ob_worlds.specs.Edits.{whole_fault}
use Rattle.ob_worlds.specs.Worlds.{net_of}
use Rattle.ob_worlds.specs.Since.{IsNet}
use Rattle.ob_worlds.proofs.InstanceLaws.{In}
use Rattle.ob_worlds.proofs.GoodLaws.{Apart}
use Rattle.ob_worlds.proofs.WholeLaws.{no_fault}
use Rattle.ob_worlds.proofs.WorldLaws.{is_net}

serial_in : (s : ℕ) (c : Defined) (cs : List Defined) → In c cs → s ≡ c.serial → list_any (λ t. s == t) (map (λ (d : Defined). d.serial) cs) ≡ true
serial_in s c [] m e = elim m [ ]
serial_in s c (d ∷ ds) (inl a) e = or_left _ _ (eq-eqb s d.serial (e ∙ ap (λ (x : Defined). x.serial) a))
serial_in s c (d ∷ ds) (inr m) e = or_right (s == d.serial) _ (serial_in s c ds m e)

apart_in : (cs : List Defined) → are_apart (map (λ (c : Defined). c.serial) cs) ≡ true → (c d : Defined) → In c cs → In d cs → c.serial ≡ d.serial → c ≡ d
apart_in [] h c d m n e = elim m [ ]
apart_in (x ∷ xs) h c d (inl a) (inl b) e = a ∙ sym b
apart_in (x ∷ xs) h c d (inl a) (inr n) e =
    let p = and_parts _ _ h in absurd (both_ways _ (not-true _ p.0) (serial_in x.serial d xs n (ap (λ (z : Defined). z.serial) (sym a) ∙ e)))
apart_in (x ∷ xs) h c d (inr m) (inl b) e =
    let p = and_parts _ _ h in absurd (both_ways _ (not-true _ p.0) (serial_in x.serial c xs m (ap (λ (z : Defined). z.serial) (sym b) ∙ sym e)))
apart_in (x ∷ xs) h c d (inr m) (inr n) e = let p = and_parts _ _ h in apart_in xs p.1 c d m n e

pub apart : (M : Modules) → have_own_serials M ≡ true → Apart M
apart M h c d m n e = apart_in (all_cells M) h c d m n e

-- the net of notebooks that stand together
pub whole_net : (E : Reader) (W : World) → have_own_serials (modules_of E W) ≡ true → whole_fault (modules_of E W) ≡ None → IsNet (net_of E W)
whole_net E W own fault = let r = no_fault (modules_of E W) (apart (modules_of E W) own) fault in is_net E W r.0 r.1
