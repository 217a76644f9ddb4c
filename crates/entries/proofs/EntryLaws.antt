-- Where an entry lies, by the three tests of `find`, and what is left behind a head.
-- Assumes nothing.
use Rattle.std.proofs.Common.{◌≡◌, ℕ, ◌+◌, ◌-◌, ◌≤◌, ◌<◌, List, length, take, drop, refl, ap, ◌∙◌, Some, None, arith, lt-ltb, le-ltb, length-drop}
use lib.Seq.{take_all}
use Rattle.octets.specs.Numbers.{u16_at}
use Rattle.words.proofs.PickLaws.{yes, no}
use Rattle.entries.specs.Entries.{spot_of}

pub spot_short : (n f long : ℕ) → n < f + 4 → None ≡ spot_of n f long
unfolding spot_of
spot_short n f long h = yes _ (lt-ltb _ _ h) refl

pub spot_cut : (n f long : ℕ) → f + 4 ≤ n → n < f + 4 + long → None ≡ spot_of n f long
unfolding spot_of
spot_cut n f long h k = no _ (le-ltb _ _ h) (yes _ (lt-ltb _ _ k) refl)

pub spot_at : (n f long : ℕ) → f + 4 ≤ n → f + 4 + long ≤ n → Some (record { from = f; long = long }) ≡ spot_of n f long
unfolding spot_of
spot_at n f long h k = no _ (le-ltb _ _ h) (no _ (le-ltb _ _ k) refl)

-- the same of an offset and a length that were read
pub spot_read : (s : List ℕ) (o f long : ℕ) → f ≡ u16_at s o → long ≡ u16_at s (f + 2)
    → spot_of (length s) f long ≡ spot_of (length s) (u16_at s o) (u16_at s (u16_at s o + 2))
spot_read s o f long e k =
    ap (spot_of (length s) f) k ∙ ap (λ (x : ℕ). spot_of (length s) x (u16_at s (x + 2))) e

-- what is left behind a head, as a pattern takes it
pub rest_whole : (k : ℕ) (l : List ℕ) → take (length l - k) (drop k l) ≡ drop k l
rest_whole k l = take_all (length l - k) (drop k l) (omega (arith, length-drop k l))

pub rest_long : (k : ℕ) (l : List ℕ) → length (take (length l - k) (drop k l)) ≡ length l - k
rest_long k l = ap length (rest_whole k l) ∙ length-drop k l
