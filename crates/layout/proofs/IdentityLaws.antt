-- 0004 as the code writes it, five puts in a row; and how long it is.
-- Assumes nothing.
use mathlib.Core.Path.{◌≡◌, sym, ap, ◌∙◌}
use mathlib.Core.List.{List, [], ◌∷◌, ◌++◌, append_assoc}
use Prim.Native.Nat.{ℕ, ◌+◌, ◌-◌, ◌≤◌}
use native.Mathlib.Omega.{arith}
use lib.ListN.{length, length-append}
use Rattle.octets.specs.Numbers.{be16, be32}
use Rattle.octets.specs.Put.{put_at}
use Rattle.octets.specs.Parts.{part}
use Rattle.octets.proofs.PutLaws.{put-more}
use Rattle.octets.proofs.PartsLaws.{length_part, part-short, part_join}
use Rattle.layout.specs.Layout.{identity_bytes}

pub five_puts : (out o₁ o₂ o₃ o₄ o₅ : List ℕ) (at n₂ n₃ n₄ n₅ : ℕ) (a b c d e : List ℕ)
    → n₂ ≡ at + length a → n₃ ≡ n₂ + length b → n₄ ≡ n₃ + length c → n₅ ≡ n₄ + length d → n₅ + length e ≤ length out
    → o₁ ≡ put_at out at a → o₂ ≡ put_at o₁ n₂ b → o₃ ≡ put_at o₂ n₃ c → o₄ ≡ put_at o₃ n₄ d → o₅ ≡ put_at o₄ n₅ e
    → o₅ ≡ put_at out at (a ++ b ++ c ++ d ++ e)
five_puts out o₁ o₂ o₃ o₄ o₅ at n₂ n₃ n₄ n₅ a b c d e p₂ p₃ p₄ p₅ h e₁ e₂ e₃ e₄ e₅ =
    let l₂ : length (a ++ b) ≡ length a + length b = length-append a b in
    let l₃ : length (a ++ b ++ c) ≡ length (a ++ b) + length c = length-append (a ++ b) c in
    let l₄ : length (a ++ b ++ c ++ d) ≡ length (a ++ b ++ c) + length d = length-append (a ++ b ++ c) d in
    put-more out at (a ++ b ++ c ++ d) o₄ n₅ e o₅
    (put-more out at (a ++ b ++ c) o₃ n₄ d o₄
    (put-more out at (a ++ b) o₂ n₃ c o₃ (put-more out at a o₁ n₂ b o₂ e₁ p₂ (omega arith) e₂) (omega arith) (omega arith) e₃)
    (omega arith) (omega arith) e₄)
    (omega arith) (omega arith) e₅

module _ (v : ℕ) (farm : List ℕ) where
  names : List ℕ
  names = part farm 4 17 ++ part farm 0 2 ++ part farm 21 6 ++ part farm 27 6 ++ (0 ∷ [])

  names-length : length names ≡ length (part farm 4 17) + length (part farm 0 2) + length (part farm 21 6) + length (part farm 27 6) + 1
  unfolding names
  names-length =
      omega (
        arith,
        length-append (part farm 4 17 ++ part farm 0 2 ++ part farm 21 6 ++ part farm 27 6) (0 ∷ []),
        length-append (part farm 4 17 ++ part farm 0 2 ++ part farm 21 6) (part farm 27 6),
        length-append (part farm 4 17 ++ part farm 0 2) (part farm 21 6),
        length-append (part farm 4 17) (part farm 0 2),
      )

  pub identity_short : length (identity_bytes v farm) ≤ 40
  unfolding identity_bytes names
  identity_short =
      omega (
        arith,
        names-length,
        part-short farm 4 17,
        part-short farm 0 2,
        part-short farm 21 6,
        part-short farm 27 6,
      )

  module _ (whole : length farm ≡ 33) where
    names-whole : length names ≡ 32
    names-whole =
        omega (
          arith,
          names-length,
          length_part farm 4 17 (omega arith),
          length_part farm 0 2 (omega arith),
          length_part farm 21 6 (omega arith),
          length_part farm 27 6 (omega arith),
        )

    pub length_identity : length (identity_bytes v farm) ≡ 40
    unfolding identity_bytes names
    length_identity = omega (arith, names-whole)

    -- EID and GID stand side by side in the record too, so that one put serves both
    pub identity_parts :
        (v ∷ (255 - v) ∷ 0 ∷ 4 ∷ 0 ∷ 0 ∷ 0 ∷ 32 ∷ []) ++ part farm 4 17 ++ part farm 0 2 ++ part farm 21 12 ++ (0 ∷ [])
        ≡ identity_bytes v farm
    unfolding identity_bytes names
    identity_parts =
        let p = part farm 4 17 ++ part farm 0 2 in
        let e : p ++ part farm 21 12 ≡ p ++ part farm 21 6 ++ part farm 27 6 =
        ap (λ (l : List ℕ). p ++ l) (sym (part_join farm 21 6 6)) ∙ sym (append_assoc p (part farm 21 6) (part farm 27 6))
        in
        ap (λ (l : List ℕ). (v ∷ (255 - v) ∷ 0 ∷ 4 ∷ 0 ∷ 0 ∷ 0 ∷ 32 ∷ []) ++ (l ++ (0 ∷ []))) e
        ∙ ap (λ (k : ℕ). (v ∷ (255 - v) ∷ be16 4) ++ be32 k ++ names) (sym names-whole)
