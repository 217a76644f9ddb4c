-- Laws of the texts: their lengths, one more digit or byte, and one text after another.
-- Assumes nothing.
use Rattle.std.proofs.Common.{◌≡◌, ℕ, zero, suc, ◌+◌, ◌*◌, ◌/◌, ◌%◌, ◌^◌, ◌≤◌, ◌<◌, Bool, true, false, List, [], ◌∷◌, ◌++◌}
use Rattle.std.proofs.Common.{length, get_or, take, set, refl, sym, ap, ◌∙◌, arith, length-append}
use native.Mathlib.Numerals.{add-one}
use lib.Seq.{take-suc, length-take-le}
use Rattle.std.specs.Prelude.{ltb}
use Rattle.std.specs.Fmt.{decimal as std_decimal}
use Rattle.std.proofs.lemmas.Fmt.{AppendsLastDigit, decimal_from_appends, length-decimal-le}
use borrow.Author.Tests.{lt-ltb, le-ltb}
use Rattle.octets.specs.Choice.{pick}
use Rattle.octets.specs.Put.{put_at}
use Rattle.octets.proofs.PutLaws.{put-more, set-put_at}
use Rattle.lines.specs.Text.{digit_of, decimal_in, decimal, most_digits, hex_byte, hex, Wrote}

-- the digits are those that std prints
appends : AppendsLastDigit decimal_in
unfolding decimal_in
appends = record { one = λ k n h. simp (lt-ltb n 10 h, lt-ltb n 10 h); more = λ k n h. let l : n % 10 < 10 = omega arith in simp (le-ltb n 10 h, lt-ltb (n % 10) 10 l) }

pub decimal_of_std : (n : ℕ) → n < 2 ^ 64 → std_decimal n ≡ decimal n
decimal_of_std n h = sym (decimal_from_appends decimal_in appends most_digits n h (length-decimal-le most_digits n (omega arith) (omega arith) h))

-- a number of one digit
pub decimal-one : (k n : ℕ) → (k ≡ 0 → ⊥) → n < 10 → decimal_in k n ≡ digit_of n ∷ []
unfolding decimal_in
decimal-one zero n h l = absurd (h refl)
decimal-one (suc k) n h l = simp (lt-ltb n 10 l)

-- and it written
pub wrote_one : (k n d : ℕ) (out : List ℕ) (at : ℕ) → (k ≡ 0 → ⊥) → n < 10 → d ≡ digit_of n → at < length out
    → Wrote (decimal_in k n) out (set out at d) at (at + 1)
wrote_one k n d out at h l e fits =
    let digits : digit_of n ∷ [] ≡ decimal_in k n = sym (decimal-one k n h l) in
    record {
      put = set-put_at out at d fits ∙ ap (λ (x : ℕ). put_at out at (x ∷ [])) e ∙ ap (put_at out at) digits;
      after = omega (arith, ap length digits);
    }

-- no more digits than were asked for
pub length-decimal_in : (k n : ℕ) → length (decimal_in k n) ≤ k
unfolding decimal_in
length-decimal_in zero n = omega arith
length-decimal_in (suc k) n = by (ltb n 10) (length-decimal_in k (n / 10))
  where
    by : (b : Bool) → length (decimal_in k (n / 10)) ≤ k → length (pick b (digit_of n ∷ []) (decimal_in k (n / 10) ++ (digit_of (n % 10) ∷ []))) ≤ suc k
    by true h = omega arith
    by false h = omega (arith, length-append (decimal_in k (n / 10)) (digit_of (n % 10) ∷ []))

pub length-decimal : (n : ℕ) → length (decimal n) ≤ most_digits
length-decimal n = length-decimal_in most_digits n

-- two digits for each byte
pub length-hex : (l : List ℕ) → length (hex l) ≡ 2 * length l
unfolding hex
length-hex [] = refl
length-hex (b ∷ l) = omega (arith, length-hex l)

pub hex_append : (l m : List ℕ) → hex (l ++ m) ≡ hex l ++ hex m
unfolding hex
hex_append [] m = refl
hex_append (b ∷ l) m = ap (λ (x : List ℕ). hex_byte b ++ x) (hex_append l m)

-- one byte more
pub hex-more : (l : List ℕ) (j : ℕ) → j < length l → hex (take (j + 1) l) ≡ hex (take j l) ++ hex_byte (get_or l j 0)
unfolding hex
hex-more l j h =
    ap (λ (n : ℕ). hex (take n l)) (add-one j) ∙ ap hex (take-suc l j 0 h) ∙ hex_append (take j l) (get_or l j 0 ∷ [])

-- one text after another
pub wrote-more : {bs cs out out₁ out₂ : List ℕ} {at p r : ℕ} → Wrote bs out out₁ at p → Wrote cs out₁ out₂ p r → p + length cs ≤ length out
    → Wrote (bs ++ cs) out out₂ at r
wrote-more {bs} {cs} {out} {out₁} {out₂} {at} {p} {r} v w fits =
    record {
      put = put-more out at bs out₁ p cs out₂ v.put v.after (omega (arith, v.after)) w.put;
      after = omega (arith, v.after, w.after, length-append bs cs);
    }

-- a turn of `put_hex`
pub hex_turn : (bytes out out₁ out₂ : List ℕ) (at j : ℕ) → out₁ ≡ put_at out at (hex (take j bytes)) → j < length bytes → at + 2 * length bytes ≤ length out
    → out₂ ≡ put_at out₁ (at + 2 * j) (hex_byte (get_or bytes j 0)) → out₂ ≡ put_at out at (hex (take (j + 1) bytes))
hex_turn bytes out out₁ out₂ at j e h fits f =
    let long : length (hex (take j bytes)) ≡ 2 * j = omega (arith, length-hex (take j bytes), length-take-le j bytes (omega arith)) in
    put-more out at (hex (take j bytes)) out₁ (at + 2 * j) (hex_byte (get_or bytes j 0)) out₂ e (omega (arith, long)) (omega (arith, long)) f
    ∙ ap (put_at out at) (sym (hex-more bytes j h))
