-- The end of a session at what comes next.
use Rattle.std.proofs.Common.{◌≡◌, ◌≤◌, ℕ, suc, ◌+◌, List, [], ◌∷◌, length, drop, Bool, true, false, leb, eqb, cond, None, Some, refl, sym, ap, ◌∙◌, arith, subst}
use Rattle.std.specs.Prelude.{IfSome, IsTrue, IsFalse, nat_le}
use Rattle.std.specs.declared.option.Option.{Option}
use Rattle.std.specs.List.{flat_map}
use Rattle.std.specs.Io.KnownBytes.{Appends, Keeps}
use Rattle.std.proofs.lemmas.Bool.Decides.{nat_tests}
use Rattle.std.proofs.Math.ListN.{drop_of_length-le}
use Rattle.ob_io.specs.declared.next_line.NextLine.{NextLine}
use Rattle.ob_io.specs.declared.next_line.NextLine.TheVariants as coming
use Rattle.ob_io.specs.Lines.{next_of, IsNext, IsWithin}
use Rattle.ob_session.specs.Step.{IsUnfed}
use Rattle.ob_io.specs.Outside.{AppendsFront}
use Rattle.ob_session.specs.declared.exit.Exit.{Exit}
use Rattle.ob_session.specs.declared.exit.Exit.TheVariants as exit
use Rattle.ob_session.specs.declared.world.World.{World}
use Rattle.ob_session.specs.Answer.{answer, replies}
use Rattle.ob_session.specs.Ends.{AllEnds, AppendsSome}
use Rattle.ob_session.specs.Show.{show}
use Rattle.ob_session.specs.Stops.{IsStop}
use Rattle.ob_session.specs.Trace.{line_limit, next_from, lines, end, exit_of, fed_lines}
use Rattle.ob_session.proofs.Coming.{lines_next, lines_none}
use Rattle.ob_session.proofs.Ending.{Appends-none, AppendsFront-part}

by_tests : (t u v : Bool) (line : List ℕ) → cond t coming.End (cond u coming.LineTooLong (cond v coming.InputTooLong (coming.Line line))) ≡ coming.End → t ≡ true
by_tests true u v line e = refl
by_tests false true v line e = cc
by_tests false false true line e = cc
by_tests false false false line e = cc

no_length : (b : List ℕ) → eqb (length b) 0 ≡ true → b ≡ []
no_length [] e = refl
no_length (x ∷ b) e = absurd (some_length (length b) e)
  where
    some_length : (n : ℕ) → eqb (suc n) 0 ≡ true → ⊥
    some_length n e = grind (arith, nat_tests)

-- at the input's end no byte is to come
pub none_comes : (left : ℕ) (b : List ℕ) → next_from left b ≡ coming.End → b ≡ []
unfolding next_of
none_comes left b e = no_length b (by_tests (eqb (length b) 0) _ _ _ e)

pub nothing : (left : ℕ) → next_from left [] ≡ coming.End
unfolding next_of
nothing left = refl

-- the session ends with what stands in place of a line
as_next : (w : World) (left : ℕ) (b : List ℕ) (x : NextLine) (held : Option (List ℕ)) → next_from left b ≡ x → ((line : List ℕ) → x ≡ coming.Line line → ⊥)
    → (exit_of (end left b) ≡ exit_of x) × Appends held held (flat_map show (replies w (lines left b)))
as_next w left b x held e never =
    let none : (lines left b ≡ []) × (end left b ≡ x) = lines_none left b x e never in
    (ap exit_of none.1, rw none.0 (Appends-none held))

no_line : (line : List ℕ) → coming.End ≡ coming.Line line → ⊥
no_line line e = cc

long_line : (line : List ℕ) → coming.LineTooLong ≡ coming.Line line → ⊥
long_line line e = cc

long_input : (line : List ℕ) → coming.InputTooLong ≡ coming.Line line → ⊥
long_input line e = cc

module _ (w : World) (left : ℕ) (held : Option (List ℕ)) where
  -- at a limit
  pub line_ends : (b rest : Option (List ℕ)) → IfSome b (λ b. next_from left b ≡ coming.LineTooLong) → AllEnds b rest (λ b. replies w (lines left b)) (λ t. replies w (fed_lines t)) (λ b. exit_of (end left b)) held held exit.LineTooLong
  line_ends None rest e = tt
  line_ends (Some b) rest e = as_next w left b coming.LineTooLong held e long_line

  pub input_ends : (b rest : Option (List ℕ)) → IfSome b (λ b. next_from left b ≡ coming.InputTooLong) → AllEnds b rest (λ b. replies w (lines left b)) (λ t. replies w (fed_lines t)) (λ b. exit_of (end left b)) held held exit.InputTooLong
  input_ends None rest e = tt
  input_ends (Some b) rest e = as_next w left b coming.InputTooLong held e long_input

  at_end : (b : List ℕ) (rest : Option (List ℕ)) → next_from left b ≡ coming.End → Keeps (Some b) rest → AllEnds (Some b) rest (λ b. replies w (lines left b)) (λ t. replies w (fed_lines t)) (λ b. exit_of (end left b)) held held exit.Done
  at_end b None e k = absurd k
  at_end b (Some r) e k = (as_next w left b coming.End held e no_line, k ∙ none_comes left b e)

  Keeps-is : (b rest : Option (List ℕ)) → rest ≡ b → Keeps b rest
  Keeps-is None rest e = tt
  Keeps-is (Some b) rest e = subst (Keeps (Some b)) (sym e) refl

  -- with the input
  pub done_ends : (ended : Bool) (b rest : Option (List ℕ)) → (IsFalse ended → IfSome b (λ b. next_from left b ≡ coming.End) × Keeps b rest) → (IsTrue ended → rest ≡ b) → (IsTrue ended → IfSome b (λ b. b ≡ []))
      → AllEnds b rest (λ b. replies w (lines left b)) (λ t. replies w (fed_lines t)) (λ b. exit_of (end left b)) held held exit.Done
  done_ends ended None rest first over known = (tt, tt)
  done_ends false (Some b) rest first over known = at_end b rest (first refl).0 (first refl).1
  done_ends true (Some b) rest first over known = at_end b rest (ap (next_from left) (known refl) ∙ nothing left) (Keeps-is (Some b) rest (over refl))

  -- at a failed read, which took nothing
  pub fault_ends : (b rest : Option (List ℕ)) → Keeps b rest → AllEnds b rest (λ b. replies w (lines left b)) (λ t. replies w (fed_lines t)) (λ b. exit_of (end left b)) held held exit.ReadFault
  fault_ends None rest k = tt
  fault_ends (Some b) None k = absurd k
  fault_ends (Some b) (Some r) k = ([], sym k, Appends-none held)

  -- with nothing more
  pub nothing_ends : (b : Option (List ℕ)) → IfSome b (λ b. AppendsSome held held (replies w (lines left b)))
  nothing_ends None = tt
  nothing_ends (Some b) = (0, Appends-none held)

-- at a line whose reply was not written whole
pub stop_ends : (w : World) (left : ℕ) (held holds : Option (List ℕ)) (b rest : Option (List ℕ)) (line : List ℕ) (e : Exit) → IsStop e → IfSome b (λ b. next_from left b ≡ coming.Line line)
    → (e ≡ exit.WriteFault → AppendsFront held holds (show (answer w line).0)) → (e ≡ exit.NoMemory → holds ≡ held)
    → AllEnds b rest (λ b. replies w (lines left b)) (λ t. replies w (fed_lines t)) (λ b. exit_of (end left b)) held holds e
stop_ends w left held holds None rest line exit.WriteFault s n cut stopped = tt
stop_ends w left held holds None rest line exit.NoMemory s n cut stopped = tt
stop_ends w left held holds (Some b) rest line exit.WriteFault s n cut stopped =
    rw (lines_next left b line n).0 (AppendsFront-part held held holds [] (show (answer w line).0) (flat_map show (replies (answer w line).1 _)) _ (Appends-none held) (cut refl) refl)
stop_ends w left held holds (Some b) rest line exit.NoMemory s n cut stopped = rw (stopped refl) (0, Appends-none held)
stop_ends w left held holds b rest line exit.Done s n cut stopped = absurd s
stop_ends w left held holds b rest line exit.Usage s n cut stopped = absurd s
stop_ends w left held holds b rest line exit.BadBundle s n cut stopped = absurd s
stop_ends w left held holds b rest line exit.ReadFault s n cut stopped = absurd s
stop_ends w left held holds b rest line exit.LineTooLong s n cut stopped = absurd s
stop_ends w left held holds b rest line exit.InputTooLong s n cut stopped = absurd s

short_drop : (b line : List ℕ) → leb (length b) (length line) ≡ true → drop (length line + 1) b ≡ []
short_drop b line e = let le : length b ≤ length line + 1 = grind (arith, nat_tests) in drop_of_length-le b le

-- the last line leaves no byte
pub over_after : (b rest : Option (List ℕ)) (line : List ℕ) (ended : Bool) → IfSome b (λ bytes. (rest ≡ Some (drop (length line + 1) bytes)) × (ended ≡ nat_le (length bytes) (length line)))
    → IfSome b (λ bytes. IsTrue ended → IfSome rest (λ r. r ≡ []))
over_after None rest line ended h = tt
over_after (Some b) rest line ended h = λ e. rw h.0 (short_drop b line (sym h.1 ∙ e))

-- what `next_line` tells of a line, whether the end was met before or not
pub line_comes : (ended now : Bool) (limit left : ℕ) (b rest : Option (List ℕ)) (line : List ℕ) → limit ≡ line_limit → (IsFalse ended → IsNext limit left b rest now (coming.Line line)) → (IsTrue ended → coming.Line line ≡ coming.End)
    → IfSome b (λ bytes. (next_from left bytes ≡ coming.Line line) × (rest ≡ Some (drop (length line + 1) bytes)) × (now ≡ nat_le (length bytes) (length line)))
line_comes false now limit left None rest line l next over = tt
line_comes false now limit left (Some b) rest line l next over = let h = rw l at (next refl) in h
line_comes true now limit left b rest line l next over = let no_end : coming.Line line ≡ coming.End = over refl in absurd (cc)

pub only_line : (b : Option (List ℕ)) (left : ℕ) (rest : Option (List ℕ)) (line : List ℕ) (now : Bool)
    → IfSome b (λ bytes. (next_from left bytes ≡ coming.Line line) × (rest ≡ Some (drop (length line + 1) bytes)) × (now ≡ nat_le (length bytes) (length line))) → IfSome b (λ bytes. next_from left bytes ≡ coming.Line line)
only_line None left rest line now h = tt
only_line (Some b) left rest line now h = h.0

-- what `next_line` tells of the input's end
pub end_comes : (ended now : Bool) (limit left : ℕ) (b rest : Option (List ℕ)) → limit ≡ line_limit → (IsFalse ended → IsNext limit left b rest now coming.End)
    → IsFalse ended → IfSome b (λ bytes. next_from left bytes ≡ coming.End) × Keeps b rest
end_comes ended now limit left b rest l next f = let h = rw l at (next f) in (h.0, h.1)

-- a line has no line feed
pub line_unfed : (ended now : Bool) (limit left : ℕ) (kept line : List ℕ) → IsFalse ended → (IsFalse ended → IsWithin limit left kept now (coming.Line line)) → IsUnfed line
line_unfed ended now limit left kept line f within = (within f).0

-- the end of the input was met
pub end_met : (ended now : Bool) (limit left : ℕ) (b rest : Option (List ℕ)) → IsFalse ended → (IsFalse ended → IsNext limit left b rest now coming.End) → IsTrue now
end_met ended now limit left b rest f next = (next f).2
