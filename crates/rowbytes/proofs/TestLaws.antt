-- A row's bytes are laid out as they mean exactly where its tags are known and what is not used is 0.
-- Assumes nothing.
use mathlib.Core.Path.{◌≡◌, refl, sym, ap, ◌∙◌}
use mathlib.Core.List.{List, [], ◌∷◌, ◌++◌}
use Prim.Native.Nat.{ℕ, zero, suc, ◌+◌, ◌*◌, ◌/◌, ◌%◌, ◌<◌}
use native.Mathlib.Omega.{arith}
use lib.ListN.{length, get_or, drop, take-append-drop}
use lib.Seq.{drop-drop}
use borrow.Author.Tests.{ne_eqb}
use Rattle.octets.specs.Numbers.{u16_at, u32_at, be16, be32}
use Rattle.octets.specs.Parts.{part}
use Rattle.octets.proofs.PartsLaws.{length_part, same_front}
use Rattle.kinds.specs.declared.RowState.TheVariants.{Free}
use Rattle.kinds.specs.declared.Place.TheVariants.{Header}
use Rattle.rowbytes.specs.RowLayout.{row_size, ticks_in, place_in, head_in, head_size, spare_in}
use Rattle.rowbytes.specs.RowBytes.{state_bytes, state_image, state_from, place_image, place_from, row_image, state_in, row_from, StateOk, PlaceOk, RowOk, Unused}
use Rattle.rowbytes.proofs.RunLaws.{run, run_is, run_on}
use Rattle.rowbytes.proofs.RowLaws.{four, state_long, place-long}

-- ---- the state, by its tag

pub fresh_ok : (k a t : ℕ) → Unused k a 0 → StateOk 1 k a t
fresh_ok k a t u = let p : k ≡ 0 = u.no_kind in let q : a ≡ 0 = u.no_address in cc

pub fresh-unused : (k a t : ℕ) → StateOk 1 k a t → Unused k a 0
fresh-unused k a t e =
    let p : 0 ≡ k = cc in
    let q : 0 ≡ a / 256 = cc in
    let r : 0 ≡ a % 256 = cc in
    record { no_kind = sym p; no_address = omega arith; no_ticks = refl }

pub waiting_ok : (k a t : ℕ) → t ≡ 0 → StateOk 2 k a t
waiting_ok k a t p = cc

pub waiting_unused : (k a t : ℕ) → StateOk 2 k a t → t ≡ 0
waiting_unused k a t e = let q : 0 ≡ t / 256 = cc in let r : 0 ≡ t % 256 = cc in omega arith

pub active_ok : (k a t : ℕ) → k ≡ 0 → StateOk 3 k a t
active_ok k a t p = cc

pub active_unused : (k a t : ℕ) → StateOk 3 k a t → k ≡ 0
active_unused k a t e = let p : 0 ≡ k = cc in sym p

pub free_ok : (k a t : ℕ) → Unused k a t → StateOk 0 k a t
free_ok k a t u = let p : k ≡ 0 = u.no_kind in let q : a ≡ 0 = u.no_address in let r : t ≡ 0 = u.no_ticks in cc

pub free_unused : (k a t : ℕ) → StateOk 0 k a t → Unused k a t
free_unused k a t e =
    let p : 0 ≡ k = cc in
    let q : 0 ≡ a / 256 = cc in
    let r : 0 ≡ a % 256 = cc in
    let u : 0 ≡ t / 256 = cc in
    let v : 0 ≡ t % 256 = cc in
    record { no_kind = sym p; no_address = omega arith; no_ticks = omega arith }

-- a tag that no state has
pub no_state : (n k a t : ℕ) → (n ≡ 1 → ⊥) → (n ≡ 2 → ⊥) → (n ≡ 3 → ⊥) → (n ≡ 0 → ⊥) → StateOk n k a t → ⊥
no_state n k a t h₁ h₂ h₃ h₀ e =
    let s : state_from n k a t ≡ Free = simp (ne_eqb n 1 h₁, ne_eqb n 2 h₂, ne_eqb n 3 h₃) in
    let f : state_image Free ≡ state_bytes n k a t = ap state_image (sym s) ∙ e in
    let z : 0 ≡ n = cc in
    h₀ (sym z)

-- ---- the place, by its tag

pub header_ok : (low n : ℕ) → low < 256 → n ≡ low → PlaceOk 0 low n
header_ok low n b p =
    let a : n / 16777216 ≡ 0 = omega arith in
    let d : n / 65536 % 256 ≡ 0 = omega arith in
    let e : n / 256 % 256 ≡ 0 = omega arith in
    let f : n % 256 ≡ low = omega arith in
    cc

pub header_low : (low n : ℕ) → PlaceOk 0 low n → n ≡ low
header_low low n e =
    let a : 0 ≡ n / 16777216 = cc in
    let b : 0 ≡ n / 65536 % 256 = cc in
    let d : 0 ≡ n / 256 % 256 = cc in
    let f : low ≡ n % 256 = cc in
    last (n / 16777216) (n / 65536 % 256) (n / 256 % 256) (n % 256) n low a b d f (four n)
  where
    last : (a b d f n low : ℕ) → 0 ≡ a → 0 ≡ b → 0 ≡ d → low ≡ f → a * 16777216 + b * 65536 + d * 256 + f ≡ n → n ≡ low
    last a b d f n low ha hb hd hf e = omega arith

-- a run that is read or skipped may have any count
pub run_ok : (t low n : ℕ) → 0 < t → t < 3 → PlaceOk t low n
run_ok zero low n h k = absurd (omega arith)
run_ok (suc zero) low n h k = refl
run_ok (suc (suc zero)) low n h k = refl
run_ok (suc (suc (suc t))) low n h k = absurd (omega arith)

pub no_place : (t low n : ℕ) → (t ≡ 1 → ⊥) → (t ≡ 2 → ⊥) → (t ≡ 0 → ⊥) → PlaceOk t low n → ⊥
no_place t low n h₁ h₂ h₀ e =
    let s : place_from t low n ≡ Header low = simp (ne_eqb t 1 h₁, ne_eqb t 2 h₂) in
    let f : place_image (Header low) ≡ t ∷ be32 n = ap place_image (sym s) ∙ e in
    let z : 0 ≡ t = cc in
    h₀ (sym z)

-- ---- numbers that were read are laid out as the bytes that they were read from

pub bytes16 : (x y : ℕ) → y < 256 → be16 (x * 256 + y) ≡ x ∷ y ∷ []
bytes16 x y h =
    let a : (x * 256 + y) / 256 ≡ x = omega arith in
    let b : (x * 256 + y) % 256 ≡ y = omega arith in
    cc

pub bytes32 : (x y z t : ℕ) → y < 256 → z < 256 → t < 256
    → be32 (x * 16777216 + y * 65536 + z * 256 + t) ≡ x ∷ y ∷ z ∷ t ∷ []
bytes32 x y z t hy hz ht =
    let n : ℕ = x * 16777216 + y * 65536 + z * 256 + t in
    let a : (x * 16777216 + y * 65536 + z * 256 + t) / 16777216 ≡ x = omega arith in
    let b : (x * 16777216 + y * 65536 + z * 256 + t) / 65536 % 256 ≡ y = omega arith in
    let c : (x * 16777216 + y * 65536 + z * 256 + t) / 256 % 256 ≡ z = omega arith in
    let d : (x * 16777216 + y * 65536 + z * 256 + t) % 256 ≡ t = omega arith in
    cc

-- ---- the row

pub record Tests (s : List ℕ) : Type 0 where
  pub spare : get_or s spare_in 0 ≡ 0
  pub state : StateOk (get_or s 0 0) (get_or s 1 0) (u16_at s 2) (u16_at s ticks_in)
  pub place : PlaceOk (get_or s place_in 0) (get_or s 10 0) (u32_at s 7)

module _ (s : List ℕ) (long : length s ≡ row_size) (byte : (i : ℕ) → get_or s i 0 < 256) where
  rest : List ℕ
  rest = part s head_in head_size ++ (get_or s spare_in 0 ∷ [])

  rest-is : drop head_in s ≡ rest
  unfolding rest
  rest-is =
      sym (take-append-drop head_size (drop head_in s))
      ∙ ap (λ (l : List ℕ). part s head_in head_size ++ l) (drop-drop head_size head_in s ∙ sym (run_is s 0 19 1 (omega arith)))

  -- the bytes by what is read from them
  split : s ≡ state_bytes (get_or s 0 0) (get_or s 1 0) (u16_at s 2) (u16_at s ticks_in) ++ ((get_or s place_in 0 ∷ be32 (u32_at s 7)) ++ rest)
  split =
      sym (run_on s 0 0 11 (omega arith))
      ∙ ap (λ (l : List ℕ). run s 0 0 11 ++ l) rest-is
      ∙ sym (ap (λ (l : List ℕ). get_or s 0 0 ∷ get_or s 1 0 ∷ (l ++ be16 (u16_at s ticks_in)) ++ ((get_or s place_in 0 ∷ be32 (u32_at s 7)) ++ rest)) (bytes16 (get_or s 2 0) (get_or s 3 0) (byte 3))
      ∙ ap (λ (l : List ℕ). get_or s 0 0 ∷ get_or s 1 0 ∷ get_or s 2 0 ∷ get_or s 3 0 ∷ (l ++ ((get_or s place_in 0 ∷ be32 (u32_at s 7)) ++ rest))) (bytes16 (get_or s 4 0) (get_or s 5 0) (byte 5))
      ∙ ap (λ (l : List ℕ). get_or s 0 0 ∷ get_or s 1 0 ∷ get_or s 2 0 ∷ get_or s 3 0 ∷ get_or s 4 0 ∷ get_or s 5 0 ∷ get_or s 6 0 ∷ (l ++ rest)) (bytes32 (get_or s 7 0) (get_or s 8 0) (get_or s 9 0) (get_or s 10 0) (byte 8) (byte 9) (byte 10)))

  pub row-passes : Tests s → RowOk s
  unfolding row_image row_from state_in rest
  row-passes t =
      let r : List ℕ = part s head_in head_size in
      ap (λ (l : List ℕ). l ++ (place_image (place_from (get_or s place_in 0) (get_or s 10 0) (u32_at s 7)) ++ (r ++ (0 ∷ [])))) t.state
      ∙ ap (λ (l : List ℕ). state_bytes (get_or s 0 0) (get_or s 1 0) (u16_at s 2) (u16_at s ticks_in) ++ (l ++ (r ++ (0 ∷ [])))) t.place
      ∙ ap (λ (x : ℕ). state_bytes (get_or s 0 0) (get_or s 1 0) (u16_at s 2) (u16_at s ticks_in) ++ ((get_or s place_in 0 ∷ be32 (u32_at s 7)) ++ (r ++ (x ∷ [])))) (sym t.spare)
      ∙ sym split

  pub row_tests : RowOk s → Tests s
  unfolding row_image row_from state_in rest
  row_tests e =
      let x = state_from (get_or s 0 0) (get_or s 1 0) (u16_at s 2) (u16_at s ticks_in) in
      let p = place_from (get_or s place_in 0) (get_or s 10 0) (u32_at s 7) in
      let r : List ℕ = part s head_in head_size in
      let a = same_front (state_image x) (state_bytes (get_or s 0 0) (get_or s 1 0) (u16_at s 2) (u16_at s ticks_in)) (place_image p ++ (r ++ (0 ∷ []))) ((get_or s place_in 0 ∷ be32 (u32_at s 7)) ++ (r ++ (get_or s spare_in 0 ∷ []))) place_in (state_long x) refl (e ∙ split) in
      let b = same_front (place_image p) (get_or s place_in 0 ∷ be32 (u32_at s 7)) (r ++ (0 ∷ [])) (r ++ (get_or s spare_in 0 ∷ [])) 5 (place-long p) refl a.1 in
      let n : length r ≡ head_size = length_part s head_in head_size (omega arith) in
      let d = same_front r r (0 ∷ []) (get_or s spare_in 0 ∷ []) head_size n n b.1 in
      record { spare = ap (λ (l : List ℕ). get_or l 0 0) (sym d.1); state = a.0; place = b.0 }
