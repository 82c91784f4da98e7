-- Lemmas on the printing of values.
use Rattle.std.proofs.Common.{◌≡◌, ℕ, zero, suc, ◌+◌, ◌-◌, ◌<◌, ◌≤◌, ◌==◌, Bool, true, false, Option, Some, None, subst, take, List, [], ◌∷◌, length, drop, codes, if◌then◌else◌, sym, ap, refl, arith}
use Rattle.std.specs.Option.{option_map_or}
use Rattle.std.proofs.lemmas.Bool.Decides.{nat_tests}
use Rattle.ob_items.specs.Properties.{entries_of}
use Rattle.ob_items.specs.declared.item.Body.{Body}
use Rattle.ob_items.specs.declared.item.Body.TheVariants as B
use Rattle.ob_items.specs.Item.{Item}
use Rattle.ob_items.specs.declared.properties.Property.{Property}
use Rattle.ob_items.specs.declared.value.Ref.{Ref}
use Rattle.ob_items.specs.declared.value.Value.{Value}
use Rattle.ob_items.specs.declared.value.Value.TheVariants as V
use Rattle.ob_values.specs.Store.{Store, item_of}
use Rattle.ob_values.specs.Inspect.{Page, write, take_one, key_text, print_parts, print_property, item_text, print_opened, print_value, print_at, print_body}

pub print_body-closed : (d : ℕ) (s : Store) (body : Body) (page : Page) → d ≡ 0 → print_body d s body page ≡ write (item_text s body) page
unfolding print_body
print_body-closed zero s body page e = refl
print_body-closed (suc n) s body page e = absurd (omega arith)

print_body-inside : (n : ℕ) (s : Store) (body : Body) (page : Page) → print_body (suc n) s body page ≡ print_opened (print_value (print_at n s)) s body page
unfolding print_body
print_body-inside n s body page = refl

pub print_body-opened : (d : ℕ) (s : Store) (body : Body) (page : Page) → 0 < d → print_body d s body page ≡ print_opened (print_value (print_at (d - 1) s)) s body page
unfolding print_body
print_body-opened zero s body page l = absurd (omega arith)
print_body-opened (suc n) s body page l = let e : suc n - 1 ≡ n = omega arith in ap (λ k. print_opened (print_value (print_at k s)) s body page) (sym e)

-- where no value may be printed any more, `...` stands for the parts that are left
pub parts_stop : {X : Type 0} (f : X → Page → Page) (separator : List ℕ) (xs : List X) (i : ℕ) (page : Page) → i < length xs → page.left ≡ 0 → print_parts f separator (drop i xs) page ≡ write (codes "...") (write separator page)
parts_stop f separator [] i page l e = absurd (omega arith)
parts_stop f separator (x ∷ xs) zero page l e =
    ap (λ n. if n == 0 then write (codes "...") (write separator page) else print_parts f (codes ", ") xs (f x (write separator page))) e
parts_stop f separator (x ∷ xs) (suc i) page l e = parts_stop f separator xs i page (omega arith) e

-- ---- no more is printed than may be

-- f prints at most as many values as may be printed
abbrev pub Keeps : {X : Type 0} → (X → Page → Page) → Type 0
Keeps {X} f = (x : X) (page : Page) → (f x page).left ≤ page.left

parts_keep : {X : Type 0} (f : X → Page → Page) → Keeps f → (separator : List ℕ) (xs : List X) (page : Page) → (print_parts f separator xs page).left ≤ page.left
parts_keep f keeps separator [] page = omega arith
parts_keep f keeps separator (x ∷ xs) page = by (page.left == 0) (parts_keep f keeps (codes ", ") xs (f x (write separator page))) (keeps x (write separator page))
  where
    by : (b : Bool) → (print_parts f (codes ", ") xs (f x (write separator page))).left ≤ (f x (write separator page)).left → (f x (write separator page)).left ≤ page.left
        → (if b then write (codes "...") (write separator page) else print_parts f (codes ", ") xs (f x (write separator page))).left ≤ page.left
    by true rest first = omega arith
    by false rest first = omega arith

value_takes : (f : Ref → Page → Page) → Keeps f → (v : Value) (page : Page) → (print_value f v page).left ≤ page.left - 1
value_takes f keeps V.Undefined page = omega arith
value_takes f keeps V.Null page = omega arith
value_takes f keeps (V.Bool b) page = omega arith
value_takes f keeps (V.Int n) page = omega arith
value_takes f keeps (V.Builtin n) page = omega arith
value_takes f keeps (V.Holder n) page = omega arith
value_takes f keeps (V.Ref r) page = keeps r (take_one page)

value_keeps : (f : Ref → Page → Page) → Keeps f → Keeps (print_value f)
value_keeps f keeps v page = omega (arith, value_takes f keeps v page)

property_keeps : (f : Ref → Page → Page) → Keeps f → Keeps (print_property (print_value f))
property_keeps f keeps p page = value_keeps f keeps p.value (write (codes ": ") (write (key_text p.key) page))

opened_keeps : (f : Ref → Page → Page) → Keeps f → (s : Store) → Keeps (print_opened (print_value f) s)
opened_keeps f keeps s (B.Text units) page = omega arith
opened_keeps f keeps s (B.Array values) page = parts_keep (print_value f) (value_keeps f keeps) [] values (write (codes "[") page)
opened_keeps f keeps s (B.Object properties) page = parts_keep (print_property (print_value f)) (property_keeps f keeps) [] (entries_of properties) (write (codes "{") page)
opened_keeps f keeps s (B.Box value) page = omega arith
opened_keeps f keeps s (B.Closure closure) page = omega arith
opened_keeps f keeps s (B.Generator kept) page = omega arith
opened_keeps f keeps s (B.Error kind message) page = omega arith
opened_keeps f keeps s (B.Invalidation hooks) page = omega arith
opened_keeps f keeps s (B.Inputs values) page = omega arith

at_keeps : (n : ℕ) (s : Store) → Keeps (print_body n s) → Keeps (print_at n s)
at_keeps n s keeps r page = by (item_of s r)
  where
    by : (o : Option Item) → (option_map_or (λ item. print_body n s item.body page) o (write (codes "undefined") page)).left ≤ page.left
    by None = omega arith
    by (Some item) = keeps item.body page

body_keeps : (n : ℕ) (s : Store) → Keeps (print_body n s)
body_keeps zero s body page = subst (λ p. p.left ≤ page.left) (sym (print_body-closed zero s body page refl)) (omega arith)
body_keeps (suc n) s body page =
    subst (λ p. p.left ≤ page.left) (sym (print_body-inside n s body page)) (opened_keeps (print_at n s) (at_keeps n s (body_keeps n s)) s body page)

property_takes : (n : ℕ) (s : Store) (p : Property) (page : Page) → (print_property (print_value (print_at n s)) p page).left ≤ page.left - 1
property_takes n s p page = value_takes (print_at n s) (at_keeps n s (body_keeps n s)) p.value (write (codes ": ") (write (key_text p.key) page))

not_zero : (n : ℕ) → (n == 0) ≡ false → 0 < n
not_zero n e = grind (arith, nat_tests)

-- where each part takes one, only the first of them are looked at
parts_first : {X : Type 0} (f : X → Page → Page) → ((x : X) (page : Page) → (f x page).left ≤ page.left - 1) → (separator : List ℕ) (n : ℕ) (xs : List X) (page : Page) → page.left < n → print_parts f separator (take n xs) page ≡ print_parts f separator xs page
parts_first f takes separator zero xs page l = absurd (omega arith)
parts_first f takes separator (suc n) [] page l = refl
parts_first f takes separator (suc n) (x ∷ xs) page l = by (page.left == 0) refl (λ m. parts_first f takes (codes ", ") n xs (f x (write separator page)) m) (takes x (write separator page))
  where
    by : (b : Bool) → (page.left == 0) ≡ b
        → ((f x (write separator page)).left < n → print_parts f (codes ", ") (take n xs) (f x (write separator page)) ≡ print_parts f (codes ", ") xs (f x (write separator page)))
        → (f x (write separator page)).left ≤ page.left - 1
        → (if b then write (codes "...") (write separator page) else print_parts f (codes ", ") (take n xs) (f x (write separator page))) ≡ (if b then write (codes "...") (write separator page) else print_parts f (codes ", ") xs (f x (write separator page)))
    by true e rest less = refl
    by false e rest less = let more : 0 < page.left = not_zero page.left e in rest (omega arith)

pub properties_first : (depth : ℕ) (s : Store) (xs : List Property) (n : ℕ) (page : Page) → n ≡ page.left + 1 → print_parts (print_property (print_value (print_at depth s))) [] (take n xs) page ≡ print_parts (print_property (print_value (print_at depth s))) [] xs page
properties_first depth s xs n page e = parts_first (print_property (print_value (print_at depth s))) (property_takes depth s) [] n xs page (omega arith)
