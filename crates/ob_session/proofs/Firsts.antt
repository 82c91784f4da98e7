-- The first line of a session.
use Rattle.std.proofs.Common.{◌≡◌, ◌≢◌, ℕ, ◌+◌, ◌-◌, List, [], ◌∷◌, ◌++◌, length, drop, Bool, true, false, leb, None, Some, Err, refl, sym, ap, ◌∙◌, append_assoc, subst}
use Rattle.std.specs.Prelude.{IfSome, IsTrue, nat_le}
use Rattle.std.specs.declared.option.Option.{Option}
use Rattle.std.specs.declared.result.Result.{Result}
use Rattle.std.specs.List.{flat_map}
use Rattle.std.specs.Io.KnownBytes.{Appends, Consumes, Keeps, IsAtEnd, prepend_known}
use Rattle.std.proofs.lemmas.List.{append-nil}
use Rattle.ob_base.specs.declared.cause.Cause.{Cause}
use Rattle.ob_io.specs.declared.next_line.NextLine.{NextLine}
use Rattle.ob_io.specs.declared.next_line.NextLine.TheVariants as coming
use Rattle.ob_io.specs.Lines.{LineState, next_of, feed_len}
use Rattle.ob_io.specs.Outside.{AppendsFront, Rose}
use Rattle.ob_session.specs.declared.exit.Exit.{Exit}
use Rattle.ob_session.specs.declared.exit.Exit.TheVariants as exit
use Rattle.ob_session.specs.declared.reply.Reply.{Reply}
use Rattle.ob_session.specs.declared.reply.Reply.TheVariants as reply
use Rattle.ob_session.specs.declared.world.World.{World}
use Rattle.ob_session.specs.Answer.{open_world}
use Rattle.ob_session.specs.Ends.{AllEnds, AppendsPart, EndsAs, Refuses, RunEnds}
use Rattle.ob_session.specs.Step.{IsUnfed}
use Rattle.ob_session.specs.Reading.{IsOver, left_of}
use Rattle.ob_session.specs.Show.{show}
use Rattle.ob_session.specs.Stops.{IsStop}
use Rattle.ob_session.specs.Trace.{line_limit, input_limit, next_from, behind, left_behind, lines, end, exit_of, with_first, opened, trace_of, trace, trace_part, fed_lines, out, finish_opened, finish}
use Rattle.ob_session.proofs.Coming.{lines_next, lines_none}
use Rattle.ob_session.proofs.Ending.{Appends-none, AppendsFront-part, SameEnd, MovesTaken, AllEnds-move}
use Rattle.ob_session.proofs.Fed.{taken_with, fed_more}
use Rattle.ob_session.proofs.Next.{none_comes, nothing, over_after}

-- at a first reply that was not written whole
pub first_stop_ends : (all part : List ℕ → List Reply) (fin : List ℕ → Exit) (rest held holds : Option (List ℕ)) (r : Reply) (b : Option (List ℕ)) (e : Exit) → IsStop e
    → (e ≡ exit.WriteFault → AppendsFront held holds (show r)) → (e ≡ exit.NoMemory → holds ≡ held) → AllEnds b rest (λ b. r ∷ all b) part fin held holds e
first_stop_ends all part fin rest held holds r None exit.WriteFault s cut stopped = tt
first_stop_ends all part fin rest held holds r None exit.NoMemory s cut stopped = tt
first_stop_ends all part fin rest held holds r (Some b) exit.WriteFault s cut stopped = AppendsFront-part held held holds [] (show r) (flat_map show (all b)) (show r ++ flat_map show (all b)) (Appends-none held) (cut refl) refl
first_stop_ends all part fin rest held holds r (Some b) exit.NoMemory s cut stopped = rw (stopped refl) (0, Appends-none held)
first_stop_ends all part fin rest held holds r b exit.Done s cut stopped = absurd s
first_stop_ends all part fin rest held holds r b exit.Usage s cut stopped = absurd s
first_stop_ends all part fin rest held holds r b exit.BadBundle s cut stopped = absurd s
first_stop_ends all part fin rest held holds r b exit.ReadFault s cut stopped = absurd s
first_stop_ends all part fin rest held holds r b exit.LineTooLong s cut stopped = absurd s
first_stop_ends all part fin rest held holds r b exit.InputTooLong s cut stopped = absurd s

one_reply : (r : Reply) → show r ++ [] ≡ show r
one_reply r = append-nil (show r)

refused_by : (cause : Cause) (more : List ℕ → List (List ℕ)) (part : List ℕ → List Reply) (fin : List ℕ → Exit) (rest held holds b : Option (List ℕ)) (e : Exit) → Refuses cause held holds e
    → AllEnds b rest (λ b. opened (Err cause) (more b)) part (λ b. finish_opened (Err cause) (fin b)) held holds e
refused_by cause more part fin rest held holds None exit.BadBundle h = tt
refused_by cause more part fin rest held holds None exit.WriteFault h = tt
refused_by cause more part fin rest held holds None exit.NoMemory h = tt
refused_by cause more part fin rest held holds (Some b) exit.BadBundle h = (refl, subst (Appends held holds) (sym (one_reply (reply.BadBundle cause))) h)
refused_by cause more part fin rest held holds (Some b) exit.WriteFault h = subst (AppendsFront held holds) (sym (one_reply (reply.BadBundle cause))) h
refused_by cause more part fin rest held holds (Some b) exit.NoMemory h = rw h (0, Appends-none held)
refused_by cause more part fin rest held holds b exit.Done h = absurd h
refused_by cause more part fin rest held holds b exit.Usage h = absurd h
refused_by cause more part fin rest held holds b exit.ReadFault h = absurd h
refused_by cause more part fin rest held holds b exit.LineTooLong h = absurd h
refused_by cause more part fin rest held holds b exit.InputTooLong h = absurd h

-- a refused first line
pub refused_ends : (given : Result World Cause) (cause : Cause) (more : List ℕ → List (List ℕ)) (part : List ℕ → List Reply) (fin : List ℕ → Exit) (rest held holds b : Option (List ℕ)) (e : Exit) → given ≡ Err cause → Refuses cause held holds e
    → AllEnds b rest (λ b. opened given (more b)) part (λ b. finish_opened given (fin b)) held holds e
refused_ends given cause more part fin rest held holds b e is h = rw is (refused_by cause more part fin rest held holds b e h)

unknown_run : (rest held holds : Option (List ℕ)) (e : Exit) → e ≢ exit.Usage → RunEnds None rest held holds e
unknown_run rest held holds exit.Done h = (tt, tt)
unknown_run rest held holds exit.BadBundle h = tt
unknown_run rest held holds exit.LineTooLong h = tt
unknown_run rest held holds exit.InputTooLong h = tt
unknown_run rest held holds exit.ReadFault h = tt
unknown_run rest held holds exit.WriteFault h = tt
unknown_run rest held holds exit.NoMemory h = tt
unknown_run rest held holds exit.Usage h = absurd (h refl)

-- the replies and the end behind a first line
abbrev pub replies_of : List ℕ → ℕ → List ℕ → List Reply
replies_of line left b = opened (open_world line) (lines left b)

abbrev pub part_of : List ℕ → List ℕ → List Reply
part_of line t = opened (open_world line) (fed_lines t)

abbrev pub finish_from : List ℕ → ℕ → List ℕ → Exit
finish_from line left b = finish_opened (open_world line) (exit_of (end left b))

-- what `next_line` tells of a first line
abbrev pub FirstIs : List ℕ → List ℕ → Option (List ℕ) → Bool → Type 0
FirstIs line i b ended = (next_from input_limit i ≡ coming.Line line) × (b ≡ Some (drop (length line + 1) i)) × (ended ≡ nat_le (length i) (length line))

same_behind : (i line : List ℕ) → next_from input_limit i ≡ coming.Line line
    → SameEnd trace (replies_of line (left_behind input_limit i line)) finish (finish_from line (left_behind input_limit i line)) i (behind i line)
unfolding trace finish
same_behind i line n =
    let next = lines_next input_limit i line n in
    (rw next.0 refl, rw (next.0, next.1) refl)

same_first : (i b line : List ℕ) (left : ℕ) → next_from input_limit i ≡ coming.Line line → b ≡ behind i line → left ≡ left_behind input_limit i line → SameEnd trace (replies_of line left) finish (finish_from line left) i b
same_first i b line left n e l =
    subst (λ x. SameEnd trace (replies_of line left) finish (finish_from line left) i x) (sym e)
    (subst (λ x. SameEnd trace (replies_of line x) finish (finish_from line x) i (behind i line)) (sym l) (same_behind i line n))

some_is : {A : Type 0} (x y : A) → Some x ≡ Some y → x ≡ y
some_is x y e = cc

moves_first : (i b line : List ℕ) (rest : Option (List ℕ)) → next_from input_limit i ≡ coming.Line line → b ≡ behind i line → leb (length i) (length line) ≡ false → IsUnfed line → MovesTaken trace_part (part_of line) rest i b
moves_first i b line rest n is short fed t c =
    let here : Consumes (Some (behind i line)) rest t = subst (λ x. Consumes (Some x) rest t) is c in
    let more = taken_with input_limit i line t rest n short fed here in
    (more.0, more.1, ap trace_of more.2)

not_ended : (ended : Bool) (e : Exit) → (IsTrue ended → e ≢ exit.ReadFault) → e ≡ exit.ReadFault → ended ≡ false
not_ended true e n is = absurd (n refl is)
not_ended false e n is = refl

-- the session behind its first line
pub first_ends : (input b rest held holds : Option (List ℕ)) (r : LineState) (line : List ℕ) (e : Exit) → e ≢ exit.Usage → r.input_limit ≡ input_limit → r.handed ≡ length line + feed_len r.ended
    → IfSome input (λ i. FirstIs line i b r.ended) → IsUnfed line → (IsTrue r.ended → e ≢ exit.ReadFault) → (IsOver r b → AllEnds b rest (replies_of line (left_of r)) (part_of line) (finish_from line (left_of r)) held holds e) → RunEnds input rest held holds e
first_ends None b rest held holds r line e u l h f fed n a = unknown_run rest held holds e u
first_ends (Some i) None rest held holds r line e u l h f fed n a = let never : None ≡ Some (drop (length line + 1) i) = f.1 in absurd (cc)
first_ends (Some i) (Some b) rest held holds r line e u l h f fed n a =
    let left : left_of r ≡ left_behind input_limit i line = rw (l, h) (ap (λ t. input_limit - (length line + feed_len t)) f.2) in
    let over : IsTrue r.ended → IfSome (Some b) (λ x. x ≡ []) = over_after (Some i) (Some b) line r.ended (f.1, f.2) in
    AllEnds-move trace (replies_of line (left_of r)) trace_part (part_of line) finish (finish_from line (left_of r)) rest held holds i b e
    (same_first i b line (left_of r) f.0 (some_is b (behind i line) f.1) left)
    (λ is. moves_first i b line rest f.0 (some_is b (behind i line) f.1) (sym f.2 ∙ not_ended r.ended e n is) fed) (a over)

same_nothing : (i : List ℕ) (left : ℕ) → next_from input_limit i ≡ coming.End → SameEnd trace (replies_of [] left) finish (finish_from [] left) i []
unfolding trace finish
same_nothing i left n =
    let none = lines_none input_limit i coming.End n (λ line e. cc) in
    let after = lines_none left [] coming.End (nothing left) (λ line e. cc) in
    (rw (none.0, none.1, after.0) refl, rw (none.0, none.1, after.1) refl)

same_none : (i b : List ℕ) (left : ℕ) → next_from input_limit i ≡ coming.End → b ≡ [] → SameEnd trace (replies_of [] left) finish (finish_from [] left) i b
same_none i b left n e = subst (λ x. SameEnd trace (replies_of [] left) finish (finish_from [] left) i x) (sym e) (same_nothing i left n)

kept_none : (i b : List ℕ) → next_from input_limit i ≡ coming.End → b ≡ i → b ≡ []
kept_none i b n k = k ∙ none_comes input_limit i n

-- an input of no line
pub none_ends : (input b rest held holds : Option (List ℕ)) (r : LineState) (e : Exit) → e ≢ exit.Usage
    → IfSome input (λ i. next_from input_limit i ≡ coming.End) × Keeps input b → e ≢ exit.ReadFault → (IsOver r b → AllEnds b rest (replies_of [] (left_of r)) (part_of []) (finish_from [] (left_of r)) held holds e) → RunEnds input rest held holds e
none_ends None b rest held holds r e u f n a = unknown_run rest held holds e u
none_ends (Some i) None rest held holds r e u f n a = absurd f.1
none_ends (Some i) (Some b) rest held holds r e u f n a =
    AllEnds-move trace (replies_of [] (left_of r)) trace_part (part_of []) finish (finish_from [] (left_of r)) rest held holds i b e
    (same_none i b (left_of r) f.0 (kept_none i b f.0 f.1)) (λ is. absurd (n is)) (a (λ t. kept_none i b f.0 f.1))

at_limit : (i : List ℕ) (x : NextLine) (held : Option (List ℕ)) → next_from input_limit i ≡ x → (with_first [] x ≡ []) → ((line : List ℕ) → x ≡ coming.Line line → ⊥) → (finish i ≡ exit_of x) × Appends held held (flat_map show (trace i))
unfolding trace finish
at_limit i x held n w never =
    let none = lines_none input_limit i x n never in
    (rw (none.0, none.1, w) refl, rw (none.0, none.1, w) (Appends-none held))

-- a first line that passes a limit
pub first_line_long : (input held : Option (List ℕ)) → IfSome input (λ i. next_from input_limit i ≡ coming.LineTooLong) → EndsAs exit.LineTooLong input trace finish held held
first_line_long None held n = tt
first_line_long (Some i) held n = at_limit i coming.LineTooLong held n refl (λ line e. cc)

pub first_input_long : (input held : Option (List ℕ)) → IfSome input (λ i. next_from input_limit i ≡ coming.InputTooLong) → EndsAs exit.InputTooLong input trace finish held held
first_input_long None held n = tt
first_input_long (Some i) held n = at_limit i coming.InputTooLong held n refl (λ line e. cc)

-- what a reader that has taken nothing tells of the source's bytes
pub fresh_first : (kept : List ℕ) (left : ℕ) (input b : Option (List ℕ)) (line : List ℕ) (ended : Bool) → kept ≡ [] → left ≡ input_limit
    → IfSome (prepend_known kept input) (λ i. (next_from left i ≡ coming.Line line) × (b ≡ Some (drop (length line + 1) i)) × (ended ≡ nat_le (length i) (length line))) → IfSome input (λ i. FirstIs line i b ended)
fresh_first kept left None b line ended k l h = tt
fresh_first kept left (Some i) b line ended k l h = fresh_known kept left i k l (λ n bytes. (next_from n bytes ≡ coming.Line line) × (b ≡ Some (drop (length line + 1) bytes)) × (ended ≡ nat_le (length bytes) (length line))) h
  where
    fresh_known : (kept : List ℕ) (left : ℕ) (i : List ℕ) → kept ≡ [] → left ≡ input_limit → (p : ℕ → List ℕ → Type 0) → p left (kept ++ i) → p input_limit i
    fresh_known kept left i k l p h = subst (λ x. p input_limit (x ++ i)) k (subst (λ n. p n (kept ++ i)) l h)

pub fresh_end : (kept : List ℕ) (left : ℕ) (input b : Option (List ℕ)) → kept ≡ [] → left ≡ input_limit
    → IfSome (prepend_known kept input) (λ i. next_from left i ≡ coming.End) × Keeps (prepend_known kept input) b → IfSome input (λ i. next_from input_limit i ≡ coming.End) × Keeps input b
fresh_end kept left None b k l h = (tt, tt)
fresh_end kept left (Some i) b k l h = subst (λ x. (next_from input_limit (x ++ i) ≡ coming.End) × Keeps (Some (x ++ i)) b) k (subst (λ n. (next_from n (kept ++ i) ≡ coming.End) × Keeps (Some (kept ++ i)) b) l h)

pub fresh_limit : (kept : List ℕ) (left limit : ℕ) (input : Option (List ℕ)) (x : NextLine) → kept ≡ [] → left ≡ input_limit → limit ≡ line_limit
    → IfSome (prepend_known kept input) (λ i. next_of limit left i ≡ x) → IfSome input (λ i. next_from input_limit i ≡ x)
fresh_limit kept left limit None x k l m h = tt
fresh_limit kept left limit (Some i) x k l m h = subst (λ y. next_of line_limit input_limit (y ++ i) ≡ x) k (subst (λ n. next_of line_limit n (kept ++ i) ≡ x) l (subst (λ n. next_of n left (kept ++ i) ≡ x) m h))

at_end : (kept b : List ℕ) → kept ++ b ≡ [] → b ≡ []
at_end [] b e = e
at_end (x ∷ kept) b e = cc

rest_at_end : (kept : List ℕ) (rest : Option (List ℕ)) → IsAtEnd (prepend_known kept rest) → IsAtEnd rest
rest_at_end kept None e = tt
rest_at_end kept (Some b) e = at_end kept b e

done_rest : (kept : List ℕ) (input rest : Option (List ℕ)) → IfSome input (λ i. IsAtEnd (prepend_known kept rest)) → IfSome input (λ i. IsAtEnd rest)
done_rest kept None rest e = tt
done_rest kept (Some i) rest e = rest_at_end kept rest e

consumes_kept : (i kept t : List ℕ) (rest : Option (List ℕ)) → Consumes (Some i) (prepend_known kept rest) t → Consumes (Some i) rest (t ++ kept)
consumes_kept i kept t None c = c
consumes_kept i kept t (Some r) c = c ∙ sym (append_assoc t kept r)

part_kept : (kept : List ℕ) (input rest held holds : Option (List ℕ)) → IsUnfed kept → IfSome input (λ i. AppendsPart i (prepend_known kept rest) trace_part held holds) → IfSome input (λ i. AppendsPart i rest trace_part held holds)
part_kept kept None rest held holds u h = tt
part_kept kept (Some i) rest held holds u (t, c, a) = (t ++ kept, consumes_kept i kept t rest c, subst (λ ls. Appends held holds (flat_map show (trace_of ls))) (sym (fed_more [] t kept u)) a)

-- what the reader keeps is nothing at the end, and behind a failed read the start of a line
pub run_rest : (kept : List ℕ) (input rest held holds : Option (List ℕ)) (e : Exit) → (e ≡ exit.ReadFault → IsUnfed kept) → RunEnds input (prepend_known kept rest) held holds e → RunEnds input rest held holds e
run_rest kept input rest held holds exit.Done u h = (h.0, done_rest kept input rest h.1)
run_rest kept input rest held holds exit.BadBundle u h = h
run_rest kept input rest held holds exit.LineTooLong u h = h
run_rest kept input rest held holds exit.InputTooLong u h = h
run_rest kept input rest held holds exit.ReadFault u h = part_kept kept input rest held holds (u refl) h
run_rest kept input rest held holds exit.WriteFault u h = h
run_rest kept input rest held holds exit.NoMemory u h = h
run_rest kept input rest held holds exit.Usage u h = h

-- with no fault and memory enough
pub right_from : (input rest held holds : Option (List ℕ)) (rb rn wb wn : ℕ) (e : Exit) → RunEnds input rest held holds e → (e ≡ exit.ReadFault → Rose rb rn) → (e ≡ exit.WriteFault → Rose wb wn)
    → (Rose rb rn → ⊥) → (Rose wb wn → ⊥) → (e ≡ exit.NoMemory → ⊥) → IfSome input (λ i. Appends held holds (out i) × (e ≡ finish i))
right_from None rest held holds rb rn wb wn e h r w nr nw nm = tt
right_from (Some i) rest held holds rb rn wb wn exit.Done h r w nr nw nm = (h.0.1, sym h.0.0)
right_from (Some i) rest held holds rb rn wb wn exit.BadBundle h r w nr nw nm = (h.1, sym h.0)
right_from (Some i) rest held holds rb rn wb wn exit.LineTooLong h r w nr nw nm = (h.1, sym h.0)
right_from (Some i) rest held holds rb rn wb wn exit.InputTooLong h r w nr nw nm = (h.1, sym h.0)
right_from (Some i) rest held holds rb rn wb wn exit.ReadFault h r w nr nw nm = absurd (nr (r refl))
right_from (Some i) rest held holds rb rn wb wn exit.WriteFault h r w nr nw nm = absurd (nw (w refl))
right_from (Some i) rest held holds rb rn wb wn exit.NoMemory h r w nr nw nm = absurd (nm refl)
right_from (Some i) rest held holds rb rn wb wn exit.Usage h r w nr nw nm = absurd h

-- a first read that fails
pub first_fault : (input b held : Option (List ℕ)) → Keeps input b → RunEnds input b held held exit.ReadFault
first_fault None b held k = tt
first_fault (Some i) None held k = absurd k
first_fault (Some i) (Some b) held k = ([], sym k, Appends-none held)

pub fresh_keeps : (kept : List ℕ) (input b : Option (List ℕ)) → kept ≡ [] → Keeps (prepend_known kept input) b → Keeps input b
fresh_keeps kept None b k h = tt
fresh_keeps kept (Some i) b k h = subst (λ x. Keeps (Some (x ++ i)) b) k h
