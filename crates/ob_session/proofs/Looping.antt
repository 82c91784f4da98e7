-- The lines of a session, one after another.
use Rattle.std.proofs.Common.{◌≡◌, ◌≢◌, ℕ, List, ◌∷◌, length, Bool, true, false, leb, None, Some, refl, sym, ap, ◌∙◌, subst}
use Rattle.std.specs.Io.KnownBytes.{Consumes}
use Rattle.std.specs.Prelude.{IfSome, IsTrue, IsFalse}
use Rattle.std.specs.declared.option.Option.{Option}
use Rattle.ob_io.specs.Lines.{LineState}
use Rattle.ob_session.specs.declared.exit.Exit.{Exit}
use Rattle.ob_session.specs.declared.exit.Exit.TheVariants as exit
use Rattle.ob_session.specs.declared.world.World.{World}
use Rattle.ob_session.specs.Answer.{answer, replies}
use Rattle.ob_session.specs.Ends.{AllEnds}
use Rattle.ob_session.specs.Reading.{IsOver}
use Rattle.ob_session.specs.Step.{IsAnswered, GoesOn}
use Rattle.ob_session.specs.Stops.{IsEnd}
use Rattle.ob_session.specs.Trace.{lines, end, exit_of, fed_lines, behind}
use Rattle.ob_session.proofs.Coming.{lines_next}
use Rattle.ob_session.proofs.Ending.{IsFollowed, MovesTaken, AllEnds-move, AllEnds-after}
use Rattle.ob_session.proofs.Fed.{taken_with}

-- how the session ends over bytes to come, in a world
abbrev pub EndsFrom : World → ℕ → Option (List ℕ) → Option (List ℕ) → Option (List ℕ) → Option (List ℕ) → Exit → Type 0
EndsFrom w left b rest held holds e = AllEnds b rest (λ b. replies w (lines left b)) (λ t. replies w (fed_lines t)) (λ b. exit_of (end left b)) held holds e

-- however it ends from now on, it ends so from the start; where the end of the input was met, no read fails
abbrev pub Reduces : World → World → ℕ → ℕ → Bool → Option (List ℕ) → Option (List ℕ) → List ℕ → List ℕ → Type 0
Reduces w new left after ended held now i b = (rest holds : Option (List ℕ)) (e : Exit) → (IsTrue ended → e ≢ exit.ReadFault) → EndsFrom new after (Some b) rest now holds e → EndsFrom w left (Some i) rest held holds e

pub follows_itself : (w : World) (left : ℕ) (ended : Bool) (held b : Option (List ℕ)) → IsFollowed b b (Reduces w w left left ended held held)
follows_itself w left ended held None = tt
follows_itself w left ended held (Some b) = λ rest holds e n h. h

same_behind : (left after : ℕ) (b b' : List ℕ) (ended : Bool) (w new : World) (held now : Option (List ℕ)) (a : IsAnswered left after b b' ended w new held now)
    → (replies w (lines left b) ≡ (answer w a.line).0 ∷ replies new (lines after b')) × (exit_of (end left b) ≡ exit_of (end after b'))
same_behind left after b b' ended w new held now a =
    let next = lines_next left b a.line a.comes in
    (rw (next.0, a.world, a.rest_is, a.left_is) refl, rw (a.rest_is, a.left_is) (ap exit_of next.1))

moves_behind : (left after : ℕ) (b b' : List ℕ) (ended : Bool) (w new : World) (held now rest : Option (List ℕ)) (a : IsAnswered left after b b' ended w new held now) → ended ≡ false
    → MovesTaken (λ t. replies w (fed_lines t)) (λ t. (answer w a.line).0 ∷ replies new (fed_lines t)) rest b b'
moves_behind left after b b' ended w new held now rest a f t c =
    let short : leb (length b) (length a.line) ≡ false = sym a.end_met ∙ f in
    let here : Consumes (Some (behind b a.line)) rest t = subst (λ x. Consumes (Some x) rest t) a.rest_is c in
    let more = taken_with left b a.line t rest a.comes short a.unfed here in
    (more.0, more.1, rw (more.2, a.world) refl)

no_read_fault : (ended : Bool) (e : Exit) → (IsTrue ended → e ≢ exit.ReadFault) → e ≡ exit.ReadFault → ended ≡ false
no_read_fault true e n is = absurd (n refl is)
no_read_fault false e n is = refl

one_more : (left after : ℕ) (b b' : List ℕ) (before ended : Bool) (w new : World) (held now : Option (List ℕ)) → IsAnswered left after b b' ended w new held now → Reduces w new left after ended held now b b'
one_more left after b b' before ended w new held now a = λ rest holds e n h.
    AllEnds-move (λ b. replies w (lines left b)) (λ b. (answer w a.line).0 ∷ replies new (lines after b)) (λ t. replies w (fed_lines t)) (λ t. (answer w a.line).0 ∷ replies new (fed_lines t))
    (λ b. exit_of (end left b)) (λ b. exit_of (end after b)) rest held holds b b' e
    (same_behind left after b b' ended w new held now a)
    (λ is. moves_behind left after b b' ended w new held now rest a (no_read_fault ended e n is))
    (AllEnds-after (λ b. replies new (lines after b)) (λ t. replies new (fed_lines t)) (λ b. exit_of (end after b)) rest held now holds (answer w a.line).0 a.appended (Some b') e h)

never : (ended : Bool) (e : Exit) → IsFalse ended → IsTrue ended → e ≢ exit.ReadFault
never true e f t = absurd (cc)
never false e f t = absurd (cc)

-- one line further
pub follows_on : (w0 w new : World) (left0 left after : ℕ) (before ended : Bool) (held now then : Option (List ℕ)) (input b rest : Option (List ℕ)) → IsFalse before
    → IsFollowed input b (Reduces w0 w left0 left before held now) → GoesOn left after b rest ended w new now then → IsFollowed input rest (Reduces w0 new left0 after ended held then)
follows_on w0 w new left0 left after before ended held now then None b rest n f a = tt
follows_on w0 w new left0 left after before ended held now then (Some i) None rest n f a = absurd f
follows_on w0 w new left0 left after before ended held now then (Some i) (Some b) None n f a = absurd a
follows_on w0 w new left0 left after before ended held now then (Some i) (Some b) (Some b') n f a = λ rest holds e r h.
    f rest holds e (never before e n) (one_more left after b b' before ended w new now then a rest holds e r h)

pub over_on : (p : List ℕ → List ℕ → Type 0) (input b rest : Option (List ℕ)) (r : LineState) → IsFollowed input b p → IfSome b (λ _. IsOver r rest) → IfSome input (λ _. IsOver r rest)
over_on p None b rest r f o = tt
over_on p (Some i) None rest r f o = absurd f
over_on p (Some i) (Some b) rest r f o = o

unknown_ends : (w : World) (left : ℕ) (rest held holds : Option (List ℕ)) (e : Exit) → IsEnd e → EndsFrom w left None rest held holds e
unknown_ends w left rest held holds exit.Done h = (tt, tt)
unknown_ends w left rest held holds exit.LineTooLong h = tt
unknown_ends w left rest held holds exit.InputTooLong h = tt
unknown_ends w left rest held holds exit.ReadFault h = tt
unknown_ends w left rest held holds exit.WriteFault h = tt
unknown_ends w left rest held holds exit.NoMemory h = tt
unknown_ends w left rest held holds exit.Usage h = absurd h
unknown_ends w left rest held holds exit.BadBundle h = absurd h

-- the end
pub loop_ends : (w0 w : World) (left0 left : ℕ) (held now holds input b rest : Option (List ℕ)) (r : LineState) (e : Exit) → IsEnd e → (IsTrue r.ended → e ≢ exit.ReadFault)
    → IsFollowed input b (Reduces w0 w left0 left r.ended held now) → IfSome input (λ _. IsOver r b) → (IsOver r b → EndsFrom w left b rest now holds e) → EndsFrom w0 left0 input rest held holds e
loop_ends w0 w left0 left held now holds None b rest r e c n f o h = unknown_ends w0 left0 rest held holds e c
loop_ends w0 w left0 left held now holds (Some i) None rest r e c n f o h = absurd f
loop_ends w0 w left0 left held now holds (Some i) (Some b) rest r e c n f o h = f rest holds e n (h o)

-- the end of the input is no failed read
pub done_is : (answer : Option Exit) (e : Exit) → answer ≡ Some e → answer ≡ Some exit.Done → e ≢ exit.ReadFault
done_is answer e is done = λ fault. cc
