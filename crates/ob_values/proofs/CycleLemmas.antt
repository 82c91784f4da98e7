-- A search for an item that stands in itself.
use Rattle.std.proofs.Common.{◌≡◌, ◌⊎◌, ℕ, suc, ◌+◌, ◌^◌, ◌*◌, ◌-◌, ◌<◌, Bool, true, false, cond, List, [], ◌∷◌, ◌++◌, refl, ap, subst, ◌∙◌, sym, arith, inl, inr, length, length-append}
use Rattle.std.proofs.lemmas.Bool.{true≢false}
use Rattle.std.proofs.lemmas.Map.Views.{Contains-from_any}
use Rattle.std.proofs.lemmas.Bool.Decides.{nat_tests}
use Rattle.std.specs.List.{Contains, list_any}
use Rattle.ob_items.specs.declared.value.Ref.{Ref}
use Rattle.ob_items.specs.declared.value.Value.{Value}
use Rattle.ob_values.specs.declared.plain.stack.Task.{Task}
use Rattle.ob_values.specs.declared.plain.stack.Task.TheVariants as T
use Rattle.ob_values.specs.Freeze.{refs_of, with_ref}
use Rattle.ob_values.specs.PlainOf.{items_in, goes_down, HasCycle, is_endless}
use Rattle.ob_values.specs.PlainSearch.{all_entered}
use Rattle.ob_values.specs.Reach.{Walk, Reaches}
use Rattle.ob_values.specs.Store.{Store}
use Rattle.ob_values.specs.Values.{ref_eq}
use Rattle.ob_values.proofs.ReachLemmas.{Reaches-root, Reaches-step}
use Rattle.ob_values.proofs.SeenLemmas.{Contains-cons_cases, Contains-cons, Contains-head, Contains-none, Contains-with_ref_new, Contains-with_ref_old, Contains-with_ref_cases, same_ref}
use Rattle.ob_values.proofs.TreeLemmas.{any-from, any-none, down-suc, down-ends}

-- the items that were entered and not left, the innermost first
abbrev pub open_in : List Task → List Ref
open_in [] = []
open_in (T.Enter r ∷ tasks) = open_in tasks
open_in (T.Leave r ∷ tasks) = r ∷ open_in tasks

open_in-entered : (rs : List Ref) (tasks : List Task) → open_in (all_entered tasks rs) ≡ open_in tasks
open_in-entered [] tasks = refl
open_in-entered (r ∷ rs) tasks = open_in-entered rs (T.Enter r ∷ tasks)

module _ (next : Ref → List Ref) (roots : List Ref) where
  -- what a task above these open items may be about
  abbrev pub under : List Ref → List Ref
  under [] = roots
  under (r ∷ rs) = next r

  -- each task is about what stands in the innermost open item below it, or about a root
  abbrev pub IsHung : List Task → Type 0
  IsHung [] = Unit
  IsHung (T.Enter r ∷ tasks) = Contains (under (open_in tasks)) r × IsHung tasks
  IsHung (T.Leave r ∷ tasks) = Contains (under (open_in tasks)) r × IsHung tasks

  -- what stands in an open item, and each root, is among these or has a task above
  abbrev pub IsCovered : (Ref → Type 0) → List Task → Type 0
  IsCovered among [] = (c : Ref) → Contains roots c → among c
  IsCovered among (T.Enter r ∷ tasks) = IsCovered (λ c. among c ⊎ (r ≡ c)) tasks
  IsCovered among (T.Leave r ∷ tasks) = ((c : Ref) → Contains (next r) c → among c) × IsCovered (λ c. among c ⊎ (r ≡ c)) tasks

  covered-more : (tasks : List Task) (P Q : Ref → Type 0) → ((c : Ref) → P c → Q c) → IsCovered P tasks → IsCovered Q tasks
  covered-more [] P Q more h = λ c t. more c (h c t)
  covered-more (T.Enter r ∷ tasks) P Q more h = covered-more tasks (λ c. P c ⊎ (r ≡ c)) (λ c. Q c ⊎ (r ≡ c)) (λ c t. elim t [ inl p ↦ inl (more c p) | inr e ↦ inr e ]) h
  covered-more (T.Leave r ∷ tasks) P Q more h =
      (λ c t. more c (h.0 c t), covered-more tasks (λ c. P c ⊎ (r ≡ c)) (λ c. Q c ⊎ (r ≡ c)) (λ c t. elim t [ inl p ↦ inl (more c p) | inr e ↦ inr e ]) h.1)

  hung-entered : (rs : List Ref) (tasks : List Task) → ((c : Ref) → Contains rs c → Contains (under (open_in tasks)) c) → IsHung tasks → IsHung (all_entered tasks rs)
  hung-entered [] tasks within h = h
  hung-entered (r ∷ rs) tasks within h =
      hung-entered rs (T.Enter r ∷ tasks) (λ c t. within c (Contains-cons r rs c t)) (within r (Contains-head r rs r refl), h)

  covered-entered : (rs : List Ref) (tasks : List Task) (P : Ref → Type 0) → IsCovered (λ c. P c ⊎ Contains rs c) tasks → IsCovered P (all_entered tasks rs)
  covered-entered [] tasks P h = covered-more tasks (λ c. P c ⊎ Contains [] c) P (λ c t. elim t [ inl p ↦ p | inr n ↦ absurd (Contains-none c n) ]) h
  covered-entered (r ∷ rs) tasks P h =
      covered-entered rs (T.Enter r ∷ tasks) P
      (covered-more tasks (λ c. P c ⊎ Contains (r ∷ rs) c) (λ c. (P c ⊎ Contains rs c) ⊎ (r ≡ c))
      (λ c t. elim t [
        | inl p ↦ inl (inl p)
        | inr n ↦ elim (Contains-cons_cases r rs c n) [ inl e ↦ inr e | inr m ↦ inl (inr m) ]
      ]) h)

  -- from an open item a walk leads to what stands in the innermost one
  around : (tasks : List Task) → IsHung tasks → (c x : Ref) → Contains (open_in tasks) c → Contains (under (open_in tasks)) x → (more : ℕ) × Walk next c x (suc more)
  around [] h c x o u = absurd (Contains-none c o)
  around (T.Enter r ∷ tasks) h c x o u = around tasks h.1 c x o u
  around (T.Leave r ∷ tasks) h c x o u =
      elim (Contains-cons_cases r (open_in tasks) c o) [
        | inl e ↦ (0, (r, sym e, u))
        | inr t ↦ let w = around tasks h.1 c r t h.0 in (suc w.0, (r, w.1, u))
      ]

  reached : (tasks : List Task) → IsHung tasks → (x : Ref) → Contains (under (open_in tasks)) x → Reaches next roots x
  reached [] h x u = Reaches-root next roots x u
  reached (T.Enter r ∷ tasks) h x u = reached tasks h.1 x u
  reached (T.Leave r ∷ tasks) h x u = Reaches-step next roots r x (reached tasks h.1 r h.0) u

-- a search that has these tasks before it: what was met is done or open, and what is done goes down no further than
-- there are items done
pub record IsSearching (s : Store) (roots : List Ref) (tasks : List Task) (met done : List Ref) : Type 0 where
  pub hung : IsHung (items_in s) roots tasks
  pub covered : IsCovered (items_in s) roots (Contains done) tasks
  pub known : (r : Ref) → Contains met r → Contains done r ⊎ Contains (open_in tasks) r
  pub low : (r : Ref) → Contains done r → goes_down (suc (length done)) s r ≡ false
  pub few : length done < 2 ^ 63

ref_eq-self : (r : Ref) → ref_eq r r ≡ true
ref_eq-self r = grind (arith, nat_tests)

module _ (s : Store) (roots : List Ref) where
  pub search-start : IsSearching s roots (all_entered [] roots) [] []
  search-start = record {
    hung = hung-entered (items_in s) roots roots [] (λ c h. h) tt;
    covered = covered-entered (items_in s) roots roots [] (Contains []) (λ c h. inr h);
    known = λ r h. absurd (Contains-none r h);
    low = λ r h. absurd (Contains-none r h);
    few = omega arith;
  }

  module _ (r : Ref) (tasks : List Task) (met done : List Ref) where
    pub search-skip : IsSearching s roots (T.Enter r ∷ tasks) met done → list_any (ref_eq r) done ≡ true → IsSearching s roots tasks met done
    search-skip h e = record {
      hung = h.hung.1;
      covered = covered-more (items_in s) roots tasks (λ c. Contains done c ⊎ (r ≡ c)) (Contains done) (λ c t. elim t [ inl d ↦ d | inr p ↦ subst (Contains done) p here ]) h.covered;
      known = h.known;
      low = h.low;
      few = h.few;
    }
      where
        here : Contains done r
        here = Contains-from_any same_ref r done e

    pub search-found : (value : Value) → roots ≡ refs_of (value ∷ []) → IsSearching s roots (T.Enter r ∷ tasks) met done → list_any (ref_eq r) done ≡ false → list_any (ref_eq r) met ≡ true
        → HasCycle s value
    search-found value same h undone seen =
        elim (h.known r (Contains-from_any same_ref r met seen)) [
          | inl d ↦ absurd (true≢false (sym (any-from (ref_eq r) done r d (ref_eq-self r)) ∙ undone))
          | inr o ↦
              let w = around (items_in s) roots tasks h.hung.1 r r o h.hung.0 in
              record {
                item = r;
                reached = subst (λ rs. Reaches (items_in s) rs r) same (reached (items_in s) roots tasks h.hung.1 r h.hung.0);
                more = w.0;
                round = w.1;
              }
        ]

    pub search-enter : IsSearching s roots (T.Enter r ∷ tasks) met done → IsSearching s roots (all_entered (T.Leave r ∷ tasks) (items_in s r)) (with_ref met r) done
    search-enter h = record {
      hung = hung-entered (items_in s) roots (items_in s r) (T.Leave r ∷ tasks) (λ c t. t) h.hung;
      covered = covered-entered (items_in s) roots (items_in s r) (T.Leave r ∷ tasks) (Contains done) (
        λ c t. inr t,
        covered-more (items_in s) roots tasks (λ c. Contains done c ⊎ (r ≡ c)) (λ c. (Contains done c ⊎ Contains (items_in s r) c) ⊎ (r ≡ c))
            (λ c t. elim t [ inl d ↦ inl (inl d) | inr e ↦ inr e ]) h.covered,
      );
      known = λ x t. subst (λ os. Contains done x ⊎ Contains os x) (sym (open_in-entered (items_in s r) (T.Leave r ∷ tasks))) (known x (Contains-with_ref_cases met r x t));
      low = h.low;
      few = h.few;
    }
      where
        known : (x : Ref) → Contains met x ⊎ (r ≡ x) → Contains done x ⊎ Contains (r ∷ open_in tasks) x
        known x t =
            elim t [
              | inl m ↦ elim (h.known x m) [ inl d ↦ inl d | inr o ↦ inr (Contains-cons r (open_in tasks) x o) ]
              | inr e ↦ inr (Contains-head r (open_in tasks) x e)
            ]

    pub search-leave : IsSearching s roots (T.Leave r ∷ tasks) met done → length (with_ref done r) < 2 ^ 63 → IsSearching s roots tasks met (with_ref done r)
    search-leave h small = record {
      hung = h.hung.1;
      covered = covered-more (items_in s) roots tasks (λ c. Contains done c ⊎ (r ≡ c)) (Contains (with_ref done r))
          (λ c t. elim t [ inl d ↦ Contains-with_ref_old done r c d | inr e ↦ subst (Contains (with_ref done r)) e (Contains-with_ref_new done r) ]) h.covered.1;
      known = λ x t. elim (h.known x t) [
        | inl d ↦ inl (Contains-with_ref_old done r x d)
        | inr o ↦ elim (Contains-cons_cases r (open_in tasks) x o) [ inl e ↦ inl (subst (Contains (with_ref done r)) e (Contains-with_ref_new done r)) | inr p ↦ inr p ]
      ];
      low = λ x t. by x (list_any (ref_eq r) done) refl (Contains-with_ref_cases done r x t);
      few = small;
    }
      where
        ends : goes_down (suc (suc (length done))) s r ≡ false
        ends = down-suc s (suc (length done)) r ∙ any-none (goes_down (suc (length done)) s) (items_in s r) (λ c t. h.low c (h.covered.0 c t))

        by : (x : Ref) (b : Bool) → list_any (ref_eq r) done ≡ b → Contains done x ⊎ (r ≡ x) → goes_down (suc (length (cond b done (done ++ r ∷ [])))) s x ≡ false
        by x true p t =
            elim t [
              | inl d ↦ h.low x d
              | inr e ↦ h.low x (subst (Contains done) e (Contains-from_any same_ref r done p))
            ]
        by x false p t =
            let more : length (done ++ r ∷ []) ≡ suc (length done) = omega (arith, length-append done (r ∷ [])) in
            subst (λ n. goes_down (suc n) s x ≡ false) (sym more)
            (elim t [
              | inl d ↦ down-ends s (suc (suc (length done))) (suc (length done)) x (omega arith) (h.low x d)
              | inr e ↦ subst (λ y. goes_down (suc (suc (length done))) s y ≡ false) e ends
            ])

  pub search-end : (value : Value) (met done : List Ref) → roots ≡ refs_of (value ∷ []) → IsSearching s roots [] met done → is_endless s value ≡ false
  search-end value met done same h =
      subst (λ rs. list_any (goes_down (2 ^ 63) s) rs ≡ false) same
      (any-none (goes_down (2 ^ 63) s) roots (λ r t. down-ends s (2 ^ 63) (suc (length done)) r (omega (arith, h.few)) (h.low r (h.covered r t))))

pub length-with_ref-new : (refs : List Ref) (r : Ref) → list_any (ref_eq r) refs ≡ false → length (with_ref refs r) ≡ length refs + 1
length-with_ref-new refs r e = ap (λ b. length (cond b refs (refs ++ r ∷ []))) e ∙ length-append refs (r ∷ [])

module _ (s : Store) (roots : List Ref) where
  pub search-begin : (stack empty : List Task) (met done : List Ref) → stack ≡ all_entered empty roots → empty ≡ [] → met ≡ [] → done ≡ [] → IsSearching s roots stack met done
  search-begin stack empty met done e z m d =
      subst (λ st. IsSearching s roots st met done) (sym (e ∙ ap (λ st. all_entered st roots) z))
      (subst (λ x. IsSearching s roots (all_entered [] roots) x done) (sym m) (subst (λ x. IsSearching s roots (all_entered [] roots) [] x) (sym d) (search-start s roots)))

  pub search-at : (stack tasks : List Task) (task now : Task) (met done : List Ref) → IsSearching s roots stack met done → stack ≡ task ∷ tasks → task ≡ now → IsSearching s roots (now ∷ tasks) met done
  search-at stack tasks task now met done h popped is = subst (λ st. IsSearching s roots st met done) (popped ∙ ap (λ t. t ∷ tasks) is) h

  pub search-entered : (r : Ref) (tasks stack pushed : List Task) (met new done : List Ref) → IsSearching s roots (T.Enter r ∷ tasks) met done → new ≡ with_ref met r → pushed ≡ T.Leave r ∷ tasks
      → stack ≡ all_entered pushed (items_in s r) → IsSearching s roots stack new done
  search-entered r tasks stack pushed met new done h n p e =
      subst (λ st. IsSearching s roots st new done) (sym (e ∙ ap (λ st. all_entered st (items_in s r)) p))
      (subst (λ x. IsSearching s roots (all_entered (T.Leave r ∷ tasks) (items_in s r)) x done) (sym n) (search-enter s roots r tasks met done h))

  pub search-left : (r : Ref) (tasks : List Task) (met done new : List Ref) → IsSearching s roots (T.Leave r ∷ tasks) met done → new ≡ with_ref done r → length new < 2 ^ 63 → IsSearching s roots tasks met new
  search-left r tasks met done new h n small = subst (λ x. IsSearching s roots tasks met x) (sym n) (search-leave s roots r tasks met done h (subst (λ xs. length xs < 2 ^ 63) n small))

pub search-smaller : (met new : List Ref) (r : Ref) (a b : ℕ) → list_any (ref_eq r) met ≡ false → new ≡ with_ref met r → length new < 2 ^ 63 → a < 2 ^ 64
    → (2 ^ 63 - length new) * 2 ^ 64 + a < (2 ^ 63 - length met) * 2 ^ 64 + b
search-smaller met new r a b unseen n small l = let e : length new ≡ length met + 1 = ap length n ∙ length-with_ref-new met r unseen in omega (arith, e, small, l)
