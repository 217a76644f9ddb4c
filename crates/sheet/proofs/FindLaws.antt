-- Laws of the lookup and of what it looks through: a section of the sheet as a list of testers or targets.
-- Assumes nothing.
use Rattle.std.proofs.Common.{Option, Some, None}
use Rattle.std.specs.List.{range_with_len, find}
use mathlib.Core.Path.{◌≡◌, refl, sym, ap, ◌∙◌}
use mathlib.Core.Bool.{Bool, true, false, cond}
use mathlib.Core.List.Memᴰ
use mathlib.Core.List.{List, [], ◌∷◌, Memᴰ, map}
use mathlib.Core.Logic.{⊎_elim}
use Prim.Native.Nat.{ℕ, zero, suc, ◌+◌, ◌*◌, ◌≤◌, ◌<◌}
use native.Mathlib.Nat.{eq-or-lt_of_le}
use native.Mathlib.Omega.{arith}
use borrow.Author.Tests.{ne_eqb, eqb-true, eqb-false}
use lib.Dec.{eqb}
use lib.ListN.{length, get_or, length-map}
use Rattle.octets.specs.Choice.{pick}
use Rattle.octets.specs.Numbers.{u16_at}
use Rattle.octets.specs.Parts.{part, parts}
use Rattle.octets.proofs.PartsLaws.{parts-length, get_or-part}
use Rattle.sheet.specs.declared.find.Known.{Known}
use Rattle.sheet.specs.Sheet.{known_size, known_from, knowns_at, farm_no, address_at}
use Rattle.sheet.specs.Sheet.{testers_of, targets_of, farm_count, tester_count, target_count, testers_at, targets_at, tester_flag, target_flag}
use Rattle.sheet.specs.Rules.{GoodSection, GoodSheet}
use Rattle.sheet.specs.Find.{lookup}
use Rattle.sheet.proofs.Order.{le_or_lt}

-- ---- the section's bytes and its list

-- the four bytes at a place, read where they stand
pub known_part : (s : List ℕ) (p : ℕ)
    → known_from (part s p known_size) ≡ record { address = u16_at s p; farm = farm_no (get_or s (p + 2) 0); flag = get_or s (p + 3) 0 }
known_part s p =
    let z : p + 0 ≡ p = omega arith in
    let a : get_or (part s p known_size) 0 0 ≡ get_or s p 0 = get_or-part s p known_size 0 (omega arith) ∙ ap (λ (k : ℕ). get_or s k 0) z in
    rw (a, get_or-part s p known_size 1 (omega arith), get_or-part s p known_size 2 (omega arith), get_or-part s p known_size 3 (omega arith))

pub knowns_length : (s : List ℕ) (at n : ℕ) → length (knowns_at s at n) ≡ n
knowns_length s at n = length-map (parts known_size at n s) known_from ∙ parts-length known_size at n s

-- ---- the search by places: i is the place a + i of the section

found_from : (x : ℕ) (s : List ℕ) (at a n : ℕ)
    → find (λ (k : Known). eqb k.address x) (map (λ (i : ℕ). known_from (part s (at + i * known_size) known_size)) (range_with_len a n)) ≡ lookup x (knowns_at s (at + a * known_size) n)
unfolding lookup parts
found_from x s at a zero = refl
found_from x s at a (suc n) =
    let z : at + (a + 1) * known_size ≡ at + a * known_size + known_size = omega arith in
    by (eqb (known_from (part s (at + a * known_size) known_size)).address x)
    (found_from x s at (a + 1) n ∙ ap (λ (p : ℕ). lookup x (knowns_at s p n)) z)
  where
    k : Known
    k = known_from (part s (at + a * known_size) known_size)

    by : (b : Bool) {r q : Option Known} → r ≡ q → cond b (Some k) r ≡ pick b (Some k) q
    by true e = refl
    by false e = e

pub found_in_all : (x : ℕ) (s : List ℕ) (at n : ℕ)
    → find (λ (k : Known). eqb k.address x) (map (λ (i : ℕ). known_from (part s (at + i * known_size) known_size)) (range_with_len 0 n)) ≡ lookup x (knowns_at s at n)
found_in_all x s at n =
    let z : at + 0 * known_size ≡ at = omega arith in found_from x s at 0 n ∙ ap (λ (p : ℕ). lookup x (knowns_at s p n)) z

-- ---- what a lookup finds, in any list

-- k is in l and has the address x
pub record Finds (x : ℕ) (l : List Known) (k : Known) : Type 0 where
  pub member : Memᴰ k l
  pub has_address : k.address ≡ x

-- nobody in l has the address x
abbrev pub NobodyHas : ℕ → List Known → Type 0
NobodyHas x l = (k : Known) → Memᴰ k l → k.address ≡ x → ⊥

found_by : (b : Bool) (x : ℕ) (y k : Known) (l : List Known) → eqb y.address x ≡ b → pick b (Some y) (lookup x l) ≡ Some k
    → (lookup x l ≡ Some k → Finds x l k) → Finds x (y ∷ l) k
found_by true x y k l e f below =
    let z : k ≡ y = cc in record { member = Memᴰ.head z; has_address = ap (λ (m : Known). m.address) z ∙ eqb-true y.address x e }
found_by false x y k l e f below = let t = below f in record { member = Memᴰ.tail t.member; has_address = t.has_address }

pub lookup_finds : (x : ℕ) (l : List Known) (k : Known) → lookup x l ≡ Some k → Finds x l k
unfolding lookup
lookup_finds x [] k e = absurd (let z : ◌≡◌ {A = ℕ} 0 1 = cc in omega arith)
lookup_finds x (y ∷ l) k e = found_by (eqb y.address x) x y k l refl e (lookup_finds x l k)

nobody_by : (b : Bool) (x : ℕ) (y : Known) (l : List Known) → eqb y.address x ≡ b → pick b (Some y) (lookup x l) ≡ None
    → (lookup x l ≡ None → NobodyHas x l) → NobodyHas x (y ∷ l)
nobody_by true x y l e f below k m a = let z : ◌≡◌ {A = ℕ} 0 1 = cc in omega arith
nobody_by false x y l e f below k m a =
    ⊎_elim
    (λ (z : k ≡ y). eqb-false y.address x e (sym (ap (λ (w : Known). w.address) z) ∙ a))
    (λ (t : Memᴰ k l). below f k t a)
    (Memᴰ.cases_cons m)

-- None exactly where nobody has the address
pub lookup_nobody : (x : ℕ) (l : List Known) → lookup x l ≡ None → NobodyHas x l
unfolding lookup
lookup_nobody x [] e = λ k m a. Memᴰ.not-nil m
lookup_nobody x (y ∷ l) e = nobody_by (eqb y.address x) x y l refl e (lookup_nobody x l)

pub nobody_lookup : (x : ℕ) (l : List Known) → NobodyHas x l → lookup x l ≡ None
unfolding lookup
nobody_lookup x [] h = refl
nobody_lookup x (y ∷ l) h =
    rw (ne_eqb y.address x (h y (Memᴰ.head refl)), nobody_lookup x l (λ k m. h k (Memᴰ.tail m)))

-- ---- what the members of a good section are

-- k is the i-th
pub record Stands (s : List ℕ) (at n : ℕ) (k : Known) : Type 0 where
  pub i : ℕ
  pub within : i < n
  pub same : k ≡ known_from (part s (at + i * known_size) known_size)

pub stands : (s : List ℕ) (at n : ℕ) (k : Known) → Memᴰ k (knowns_at s at n) → Stands s at n k
unfolding parts
stands s at zero k m = absurd (Memᴰ.not-nil m)
stands s at (suc n) k m =
    ⊎_elim
    (λ (e : k ≡ known_from (part s at known_size)).
    let z : at ≡ at + 0 * known_size = omega arith in
    record { i = 0; within = omega arith; same = e ∙ ap (λ (p : ℕ). known_from (part s p known_size)) z })
    (λ (t : Memᴰ k (knowns_at s (at + known_size) n)).
    let u = stands s (at + known_size) n k t in
    let z : at + known_size + u.i * known_size ≡ at + suc u.i * known_size = omega arith in
    record { i = suc u.i; within = omega arith; same = u.same ∙ ap (λ (p : ℕ). known_from (part s p known_size)) z })
    (Memᴰ.cases_cons m)

-- and each of the n is a member
pub stands_member : (s : List ℕ) (at n i : ℕ) → i < n → Memᴰ (known_from (part s (at + i * known_size) known_size)) (knowns_at s at n)
unfolding parts
stands_member s at zero i h = absurd (omega arith)
stands_member s at (suc n) zero h =
    let z : at + 0 * known_size ≡ at = omega arith in Memᴰ.head (ap (λ (p : ℕ). known_from (part s p known_size)) z)
stands_member s at (suc n) (suc i) h =
    let z : at + suc i * known_size ≡ at + known_size + i * known_size = omega arith in
    Memᴰ.tail (Memᴰ.cast (ap (λ (p : ℕ). known_from (part s p known_size)) z) (stands_member s (at + known_size) n i (omega arith)))

pub record GoodMember (k : Known) (farms most : ℕ) : Type 0 where
  pub address_not_zero : 0 < k.address
  pub farm_exists : k.farm.0 < farms
  pub flag_at_most : k.flag ≤ most

module _ (s : List ℕ) (at n farms most : ℕ) (g : GoodSection s at n farms most) where
  pub member_good : (k : Known) → Memᴰ k (knowns_at s at n) → GoodMember k farms most
  member_good k m =
      let t = stands s at n k m in
      let e = t.same ∙ known_part s (at + t.i * known_size) in
      let o = g.each_known t.i t.within in
      record {
        address_not_zero = omega (arith, ap (λ (w : Known). w.address) e, o.address_not_zero);
        farm_exists = omega (arith, ap (λ (w : Known). w.farm.0) e, o.farm_exists);
        flag_at_most = omega (arith, ap (λ (w : Known). w.flag) e, o.flag_at_most);
      }

  -- an address belongs to one of them at most
  pub member_only : (k l : Known) → Memᴰ k (knowns_at s at n) → Memᴰ l (knowns_at s at n) → k.address ≡ l.address → k ≡ l
  member_only k l m o e =
      let t = stands s at n k m in
      let u = stands s at n l o in
      let a : k.address ≡ address_at s at t.i = ap (λ (w : Known). w.address) (t.same ∙ known_part s (at + t.i * known_size)) in
      let b : l.address ≡ address_at s at u.i = ap (λ (w : Known). w.address) (u.same ∙ known_part s (at + u.i * known_size)) in
      ⊎_elim
      (λ (le : t.i ≤ u.i).
      ⊎_elim
      (λ (h : t.i ≡ u.i). t.same ∙ ap (λ (j : ℕ). known_from (part s (at + j * known_size) known_size)) h ∙ sym u.same)
      (λ (h : t.i < u.i). absurd (omega (arith, g.addresses_ascend t.i u.i h u.within)))
      (eq-or-lt_of_le le))
      (λ (h : u.i < t.i). absurd (omega (arith, g.addresses_ascend u.i t.i h t.within)))
      (le_or_lt t.i u.i)

  -- so a lookup of a member's address finds the member
  found_again : (k : Known) → Memᴰ k (knowns_at s at n) → (r : Option Known) → lookup k.address (knowns_at s at n) ≡ r → r ≡ Some k
  found_again k m (Some l) e =
      let f = lookup_finds k.address (knowns_at s at n) l e in ap Some (member_only l k f.member m f.has_address)
  found_again k m None e = absurd (lookup_nobody k.address (knowns_at s at n) e k m refl)

  pub lookup_member : (k : Known) → Memᴰ k (knowns_at s at n) → lookup k.address (knowns_at s at n) ≡ Some k
  lookup_member k m = found_again k m (lookup k.address (knowns_at s at n)) refl

-- ---- the sheet's own two sections

module _ (s : List ℕ) (g : GoodSheet s) where
  pub tester-good : (k : Known) → Memᴰ k (testers_of s) → GoodMember k (farm_count s) tester_flag
  tester-good = member_good s (testers_at s) (tester_count s) (farm_count s) tester_flag g.testers

  pub target-good : (k : Known) → Memᴰ k (targets_of s) → GoodMember k (farm_count s) target_flag
  target-good = member_good s (targets_at s) (target_count s) (farm_count s) target_flag g.targets

  -- one tester at most has an address, and a lookup finds it
  pub tester-only : (k l : Known) → Memᴰ k (testers_of s) → Memᴰ l (testers_of s) → k.address ≡ l.address → k ≡ l
  tester-only = member_only s (testers_at s) (tester_count s) (farm_count s) tester_flag g.testers

  pub target-only : (k l : Known) → Memᴰ k (targets_of s) → Memᴰ l (targets_of s) → k.address ≡ l.address → k ≡ l
  target-only = member_only s (targets_at s) (target_count s) (farm_count s) target_flag g.targets

  pub lookup-tester : (k : Known) → Memᴰ k (testers_of s) → lookup k.address (testers_of s) ≡ Some k
  lookup-tester = lookup_member s (testers_at s) (tester_count s) (farm_count s) tester_flag g.testers

  pub lookup-target : (k : Known) → Memᴰ k (targets_of s) → lookup k.address (targets_of s) ≡ Some k
  lookup-target = lookup_member s (targets_at s) (target_count s) (farm_count s) target_flag g.targets

  -- what a lookup hands out is good
  pub found_tester : (x : ℕ) (k : Known) → lookup x (testers_of s) ≡ Some k → GoodMember k (farm_count s) tester_flag
  found_tester x k e = tester-good k (lookup_finds x (testers_of s) k e).member

  pub found_target : (x : ℕ) (k : Known) → lookup x (targets_of s) ≡ Some k → GoodMember k (farm_count s) target_flag
  found_target x k e = target-good k (lookup_finds x (targets_of s) k e).member
