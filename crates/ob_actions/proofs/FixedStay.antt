-- What is frozen or never written stays as it is.
use Rattle.std.proofs.Common.{◌≡◌, ℕ, ◌+◌, ◌||◌, Bool, true, false, IsTrue, Option, Some, None, List, slice_get, sym, refl, ap, ◌∙◌, inl, inr}
use Rattle.std.proofs.lemmas.Bool.{true≢false}
use Rattle.std.proofs.lemmas.Option.{none-some}
use Rattle.std.specs.Option.{option_map_or}
use Rattle.ob_items.specs.Bodies.{array_of, properties_of, box_of, hooks_of, kept_of}
use Rattle.ob_items.specs.Item.{Item}
use Rattle.ob_items.specs.Items.{live, at_item, is_frozen_at, changed}
use Rattle.ob_items.specs.Region.{Cells, with_item, rewritten, after_literal, literal_at, with_literal}
use Rattle.ob_items.specs.declared.item.Body.{Body}
use Rattle.ob_items.specs.declared.item.Body.TheVariants as B
use Rattle.ob_items.specs.declared.value.Ref.{Ref}
use Rattle.ob_items.proofs.ListLemmas.{equal_or_not, slice_get-push_within}
use Rattle.ob_values.specs.Fixed.{is_never_written, is_fixed}
use Rattle.ob_values.specs.Store.{Store, region_of, item_of, body_of, is_frozen}
use Rattle.ob_actions.specs.World.{World}
use Rattle.ob_actions.proofs.AnyGood.{AnyRef, any_body, any_there}
use Rattle.ob_actions.proofs.Regions.{updated, item_updated, item_elsewhere, changed_none, changed_other}
use Rattle.ob_actions.proofs.StoreLaw.{StoreLaw}
use Rattle.ob_actions.specs.Within.{GoodBody}

-- the items that are frozen or never written stand there still
abbrev pub Keeps : List Item → List Item → Type 0
Keeps old new = (i : ℕ) (item : Item) → slice_get old i ≡ Some item → IsTrue (is_fixed item) → slice_get new i ≡ Some item

-- a reader of a kind that is written
abbrev pub ReadsWritten : {X : Type 0} → (Body → Option X) → Type 0
ReadsWritten read = (b : Body) → is_never_written b ≡ true → read b ≡ None

pub never_array : ReadsWritten array_of
never_array (B.Array vs) e = absurd (true≢false (sym e))
never_array _ e = refl

pub never_object : ReadsWritten properties_of
never_object (B.Object ps) e = absurd (true≢false (sym e))
never_object _ e = refl

pub never_box : ReadsWritten box_of
never_box (B.Box v) e = absurd (true≢false (sym e))
never_box _ e = refl

pub never_hooks : ReadsWritten hooks_of
never_hooks (B.Invalidation n) e = absurd (true≢false (sym e))
never_hooks _ e = refl

pub never_kept : ReadsWritten kept_of
never_kept (B.Generator k) e = absurd (true≢false (sym e))
never_kept _ e = refl

pub unfrozen_is_never : (item : Item) → IsTrue (is_fixed item) → item.frozen ≡ false → is_never_written item.body ≡ true
unfrozen_is_never item fixed cold = sym (ap (λ b. b || is_never_written item.body) cold) ∙ fixed

module _ {X : Type 0} (read : Body → Option X) (make : X → Body) (never : ReadsWritten read) where
  pub changed_keeps : (items : List Item) (i : ℕ) → is_frozen_at items i ≡ false → Keeps items (changed read make items i)
  changed_keeps items i cold j item is fixed =
      elim (equal_or_not j i) [
        | inr apart ↦ changed_other read make items i j apart ∙ is
        | inl e ↦
            let here : slice_get items i ≡ Some item = ap (slice_get items) (sym e) ∙ is in
            let thawed : item.frozen ≡ false = sym (ap (λ o. option_map_or (λ (k : Item). k.frozen) o false) here) ∙ cold in
            let none : at_item read items i ≡ None = ap (λ o. option_map_or (λ (k : Item). read k.body) o None) here ∙ never item.body (unfrozen_is_never item fixed thawed) in
            ap (λ items. slice_get items j) (changed_none read make items i none) ∙ is
      ]

module _ (start : Store) (world : World) where
  abbrev pub FixedStays : Store → Type 0
  FixedStays s = (r : Ref) (item : Item) → item_of start r ≡ Some item → IsTrue (is_fixed item) → item_of s r ≡ Some item

  stays : (s : Store) (key : ℕ) (f : Cells → Cells) → ((c : Cells) → region_of s key ≡ Some c → Keeps c.items (f c).items) → FixedStays s → FixedStays (updated s key f)
  stays s key f keeps h r item is fixed =
      elim (equal_or_not r.region.0 key) [
        | inr apart ↦ item_elsewhere s key f r apart ∙ h r item is fixed
        | inl e ↦ item_updated s key f r e ∙ by (region_of s key) refl (sym (ap (λ k. option_map_or (λ (c : Cells). slice_get c.items r.item) (region_of s k) None) e) ∙ h r item is fixed)
      ]
    where
      by : (o : Option Cells) → region_of s key ≡ o → option_map_or (λ (c : Cells). slice_get c.items r.item) o None ≡ Some item → option_map_or (λ (c : Cells). slice_get (f c).items r.item) o None ≡ Some item
      by None p k = absurd (none-some item k)
      by (Some c) p k = keeps c p r.item item k fixed

  cold_at : (s : Store) (r : Ref) (c : Cells) → is_frozen s r ≡ false → region_of s r.region.0 ≡ Some c → is_frozen_at c.items r.item ≡ false
  cold_at s r c cold p = sym (ap (λ o. option_map_or (λ (c : Cells). is_frozen_at c.items r.item) o false) p) ∙ cold

  written_stays : {X : Type 0} (read : Body → Option X) (make : X → Body) → ReadsWritten read → (s : Store) (r : Ref) (grows : Bool) → is_frozen s r ≡ false → FixedStays s
      → FixedStays (updated s r.region.0 (λ c. rewritten read make c r.item grows))
  written_stays read make never s r grows cold h = stays s r.region.0 _ (λ c p. changed_keeps read make never c.items r.item (cold_at s r c cold p)) h

  literal_keeps : (o : Option ℕ) (c : Cells) (units : List ℕ) → Keeps c.items (option_map_or (λ at. c) o (with_literal c units)).items
  literal_keeps None c units i item is fixed = slice_get-push_within c.items (live (B.Text units)) item i is
  literal_keeps (Some at) c units i item is fixed = is

  pub fixed_law : StoreLaw FixedStays AnyRef world
  fixed_law = record {
    fresh = λ s q. tt;
    news = λ s body cost g q. stays s world.region.0 (λ c. with_item c (live body) cost) (λ c p i item is fixed. slice_get-push_within c.items (live body) item i is) q;
    literal_good = λ s units q. tt;
    literals = λ s units q. stays s world.region.0 (λ c. after_literal c units) (λ c p. literal_keeps (literal_at c units) c units) q;
    counted = λ k s q. stays s world.region.0 (λ c. record { items = c.items; elements = c.elements + k; literals = c.literals }) (λ c p i item is fixed. is) q;
    inside = λ s q r g. any_there (GoodBody AnyRef) any_body (body_of s r);
    arrays = λ s r make grows values q g cold is good. written_stays array_of make never_array s r grows cold q;
    objects = λ s r make grows properties q g cold is good. written_stays properties_of make never_object s r grows cold q;
    boxes = λ s r v q g good cold. written_stays box_of _ never_box s r false cold q;
    hooks = λ s r q g cold. written_stays hooks_of _ never_hooks s r false cold q;
    kepts = λ s r k q g cold. written_stays kept_of _ never_kept s r false cold q;
  }
