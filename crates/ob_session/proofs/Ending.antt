-- From the end of a part of a session to the end of the whole.
use Rattle.std.proofs.Common.{◌≡◌, ◌≤◌, ℕ, suc, ◌+◌, min, List, [], ◌++◌, ◌∷◌, length, take, None, Some, refl, sym, ap, ◌∙◌, append_assoc, arith, subst}
use Rattle.std.specs.declared.option.Option.{Option}
use Rattle.std.specs.Prelude.{IfSome}
use Rattle.std.specs.List.{flat_map}
use Rattle.std.specs.Io.KnownBytes.{Appends, Consumes}
use Rattle.std.proofs.lemmas.List.{append-nil, take_min, take-append-le}
use Rattle.std.proofs.Math.Seq.{take-append-add}
use Rattle.ob_io.specs.Outside.{AppendsFront}
use Rattle.ob_session.specs.declared.exit.Exit.{Exit}
use Rattle.ob_session.specs.declared.exit.Exit.TheVariants as exit
use Rattle.ob_session.specs.declared.reply.Reply.{Reply}
use Rattle.ob_session.specs.Show.{show}
use Rattle.ob_session.specs.Ends.{AllEnds, AppendsPart, AppendsSome, EndsAs}

pub Appends-none : (a : Option (List ℕ)) → Appends a a []
Appends-none None = tt
Appends-none (Some xs) = sym (append-nil xs)

pub Appends-more : (a b c : Option (List ℕ)) (x y : List ℕ) → Appends a b x → Appends b c y → Appends a c (x ++ y)
Appends-more None b c x y p q = tt
Appends-more (Some xs) None c x y p q = absurd p
Appends-more (Some xs) (Some ys) None x y p q = absurd q
Appends-more (Some xs) (Some ys) (Some zs) x y p q = q ∙ ap (λ t. t ++ y) p ∙ append_assoc xs x y

-- a front of a part is a front of the whole
pub AppendsFront-part : (a b c : Option (List ℕ)) (front part more text : List ℕ) → Appends a b front → AppendsFront b c part → front ++ (part ++ more) ≡ text → AppendsFront a c text
AppendsFront-part a b c front part more text p cut e =
    let n : ℕ = min cut.0 (length part) in
    let within : n ≤ length part = omega arith in
    let took : Appends b c (take n part) = subst (Appends b c) (sym (take_min cut.0 part)) cut.1 in
    let same : front ++ take n part ≡ take (length front + n) text =
    sym (ap (take (length front + n)) (sym e) ∙ take-append-add front (part ++ more) n ∙ ap (λ t. front ++ t) (take-append-le n part more within)) in
    (length front + n, subst (Appends a c) same (Appends-more a b c _ _ p took))

-- what is known of the bytes to come before and after
abbrev pub IsFollowed : Option (List ℕ) → Option (List ℕ) → (List ℕ → List ℕ → Type 0) → Type 0
IsFollowed None now p = Unit {0}
IsFollowed (Some i) None p = ⊥
IsFollowed (Some i) (Some b) p = p i b

-- the replies and the end of one input are those of another
abbrev pub SameEnd : (List ℕ → List Reply) → (List ℕ → List Reply) → (List ℕ → Exit) → (List ℕ → Exit) → List ℕ → List ℕ → Type 0
SameEnd all all' finish finish' i b = (all i ≡ all' b) × (finish i ≡ finish' b)

-- what was taken of one input is more that was taken of another, with the same replies
abbrev pub MovesTaken : (List ℕ → List Reply) → (List ℕ → List Reply) → Option (List ℕ) → List ℕ → List ℕ → Type 0
MovesTaken part part' rest i b = (t : List ℕ) → Consumes (Some b) rest t → (more : List ℕ) × Consumes (Some i) rest more × (part more ≡ part' t)

module _ (all all' part part' : List ℕ → List Reply) (finish finish' : List ℕ → Exit) (rest old new : Option (List ℕ)) where
  as_same : (end : Exit) (i b : List ℕ) → SameEnd all all' finish finish' i b → EndsAs end (Some b) all' finish' old new → EndsAs end (Some i) all finish old new
  as_same end i b s h = (s.1 ∙ h.0, subst (λ r. Appends old new (flat_map show r)) (sym s.0) h.1)

  part_same : (i b : List ℕ) → MovesTaken part part' rest i b → AppendsPart b rest part' old new → AppendsPart i rest part old new
  part_same i b m (t, c, a) = let more = m t c in (more.0, more.1, subst (λ r. Appends old new (flat_map show r)) (sym more.2) a)

  same_ends : (i b : List ℕ) (end : Exit) → SameEnd all all' finish finish' i b → (end ≡ exit.ReadFault → MovesTaken part part' rest i b) → AllEnds (Some b) rest all' part' finish' old new end → AllEnds (Some i) rest all part finish old new end
  same_ends i b exit.Done s m h = (as_same exit.Done i b s h.0, h.1)
  same_ends i b exit.BadBundle s m h = as_same exit.BadBundle i b s h
  same_ends i b exit.LineTooLong s m h = as_same exit.LineTooLong i b s h
  same_ends i b exit.InputTooLong s m h = as_same exit.InputTooLong i b s h
  same_ends i b exit.ReadFault s m h = part_same i b (m refl) h
  same_ends i b exit.NoMemory s m h = subst (AppendsSome old new) (sym s.0) h
  same_ends i b exit.WriteFault s m h = subst (λ r. AppendsFront old new (flat_map show r)) (sym s.0) h
  same_ends i b exit.Usage s m h = h

  nothing_known : (input : Option (List ℕ)) (end : Exit) → AllEnds input rest all' part' finish' old new end → AllEnds None rest all part finish old new end
  nothing_known input exit.Done h = (tt, tt)
  nothing_known input exit.BadBundle h = tt
  nothing_known input exit.LineTooLong h = tt
  nothing_known input exit.InputTooLong h = tt
  nothing_known input exit.ReadFault h = tt
  nothing_known input exit.NoMemory h = tt
  nothing_known input exit.WriteFault h = tt
  nothing_known input exit.Usage h = h

  -- the end over the bytes to come is the end over those before
  pub AllEnds-move : (i b : List ℕ) (end : Exit) → SameEnd all all' finish finish' i b → (end ≡ exit.ReadFault → MovesTaken part part' rest i b)
      → AllEnds (Some b) rest all' part' finish' old new end → AllEnds (Some i) rest all part finish old new end
  AllEnds-move i b end s m h = same_ends i b end s m h

module _ (all part : List ℕ → List Reply) (finish : List ℕ → Exit) (rest old mid new : Option (List ℕ)) (r : Reply) (p : Appends old mid (show r)) where
  as_after : (end : Exit) (input : Option (List ℕ)) → EndsAs end input all finish mid new → EndsAs end input (λ i. r ∷ all i) finish old new
  as_after end None h = tt
  as_after end (Some i) h = (h.0, Appends-more old mid new (show r) (flat_map show (all i)) p h.1)

  some_after : (input : Option (List ℕ)) → IfSome input (λ i. AppendsSome mid new (all i)) → IfSome input (λ i. AppendsSome old new (r ∷ all i))
  some_after None h = tt
  some_after (Some i) h = (suc h.0, Appends-more old mid new (show r) (flat_map show (take h.0 (all i))) p h.1)

  part_after : (input : Option (List ℕ)) → IfSome input (λ i. AppendsPart i rest part mid new) → IfSome input (λ i. AppendsPart i rest (λ t. r ∷ part t) old new)
  part_after None h = tt
  part_after (Some i) (t, c, a) = (t, c, Appends-more old mid new (show r) (flat_map show (part t)) p a)

  front_after : (input : Option (List ℕ)) → IfSome input (λ i. AppendsFront mid new (flat_map show (all i))) → IfSome input (λ i. AppendsFront old new (flat_map show (r ∷ all i)))
  front_after None h = tt
  front_after (Some i) h = AppendsFront-part old mid new (show r) (flat_map show (all i)) [] (show r ++ flat_map show (all i)) p h (ap (λ t. show r ++ t) (append-nil (flat_map show (all i))))

  -- the end behind a reply is the end with it
  pub AllEnds-after : (input : Option (List ℕ)) (end : Exit) → AllEnds input rest all part finish mid new end → AllEnds input rest (λ i. r ∷ all i) (λ t. r ∷ part t) finish old new end
  AllEnds-after input exit.Done h = (as_after exit.Done input h.0, h.1)
  AllEnds-after input exit.BadBundle h = as_after exit.BadBundle input h
  AllEnds-after input exit.LineTooLong h = as_after exit.LineTooLong input h
  AllEnds-after input exit.InputTooLong h = as_after exit.InputTooLong input h
  AllEnds-after input exit.ReadFault h = part_after input h
  AllEnds-after input exit.NoMemory h = some_after input h
  AllEnds-after input exit.WriteFault h = front_after input h
  AllEnds-after input exit.Usage h = h
