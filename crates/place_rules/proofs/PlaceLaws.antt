-- A run of zeros: by its elements, and the eight bytes as one number.
-- Assumes nothing.
use Prim.Native.Nat.{ℕ, zero, suc, ◌-◌, ◌<◌}
use mathlib.Core.Path.{◌≡◌, sym, ap, ◌∙◌}
use mathlib.Core.Bool.{Bool, true, false}
use mathlib.Core.List.{List}
use native.Mathlib.Omega.{arith}
use lib.ListN.{length, get_or, drop, replicate, get_or-replicate, length-drop, length-replicate}
use lib.Seq.{ext_get_or}
use Rattle.std.specs.Bool.{MatchBool}
use Rattle.std.specs.List.{AllWithin, HoldsAt}
use Rattle.std.specs.Int.{w64, from_be_bytes}
use Rattle.octets.specs.Search.{same_list}
use Rattle.octets.proofs.SaysLaws.{says_no, says_same}
use Rattle.octets.proofs.SearchLaws.{same_says}
use Rattle.wire.specs.Header.{header_size}

-- so many zeros
abbrev pub zeros : ℕ → List ℕ
zeros n = replicate n 0

-- ---- a test of each byte is the test that the list is one of zeros

abbrev EachZero : List ℕ → Type 0
EachZero l = (k : ℕ) → k < length l → get_or l k 0 ≡ 0

-- what std says of a chain's `all`
abbrev pub EachOrNone : List ℕ → Bool → Type 0
EachOrNone l b =
    MatchBool b (AllWithin (λ x. x ≡ 0) l 0 (length l)) ((k : ℕ) × (k < length l) × HoldsAt (λ x. x ≡ 0 → ⊥) l k)

module _ (l : List ℕ) (n : ℕ) (long : length l ≡ n) where
  are_zeros : EachZero l → l ≡ zeros n
  are_zeros h =
      ext_get_or 0 l (zeros n) (long ∙ sym (length-replicate n 0))
      (λ i k. let j : i < n = omega arith in h i k ∙ sym (get_or-replicate n i 0 0 j))

  each_zero : l ≡ zeros n → EachZero l
  each_zero e k h = let j : k < n = omega arith in ap (λ (m : List ℕ). get_or m k 0) e ∙ get_or-replicate n k 0 0 j

  zeros_by : (b : Bool) → EachOrNone l b → b ≡ same_list l (zeros n)
  zeros_by true h = sym ((same_says l (zeros n)).all (are_zeros (λ k j. h k 0 (omega arith) j)))
  zeros_by false h = says_same (says_no (λ (e : l ≡ zeros n). h.2 0 (each_zero e h.0 h.1))) (same_says l (zeros n))

pub rest_zeros : (head : List ℕ) → length head ≡ header_size → (n : ℕ) (b : Bool) → EachOrNone (drop n head) b
    → b ≡ same_list (drop n head) (zeros (header_size - n))
rest_zeros head eight n b = zeros_by (drop n head) (header_size - n) (length-drop n head ∙ ap (λ (k : ℕ). k - n) eight) b

-- ---- the eight bytes as one number

pub number_zero : (head : List ℕ) → length head ≡ header_size → from_be_bytes w64 head ≡ 0 → head ≡ zeros header_size
number_zero head eight e = ext_get_or 0 head (zeros header_size) eight (λ i h. let k : i < header_size = omega arith in each i k ∙ sym (get_or-replicate header_size i 0 0 k))
  where
    each : (i : ℕ) → i < header_size → get_or head i 0 ≡ 0
    each zero h = omega (arith, e)
    each (suc zero) h = omega (arith, e)
    each (suc (suc zero)) h = omega (arith, e)
    each (suc (suc (suc zero))) h = omega (arith, e)
    each (suc (suc (suc (suc zero)))) h = omega (arith, e)
    each (suc (suc (suc (suc (suc zero))))) h = omega (arith, e)
    each (suc (suc (suc (suc (suc (suc zero)))))) h = omega (arith, e)
    each (suc (suc (suc (suc (suc (suc (suc zero))))))) h = omega (arith, e)
    each (suc (suc (suc (suc (suc (suc (suc (suc i)))))))) h = absurd (omega arith)
