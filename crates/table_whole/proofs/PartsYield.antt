-- `chunks_exact` over the end of a list gives its parts, one after the other.
-- Assumes nothing.
use mathlib.Core.Path.{◌≡◌, sym, ap, ◌∙◌}
use mathlib.Core.List.{List, ◌++◌}
use Prim.Native.Nat.{ℕ, zero, suc, ◌+◌, ◌-◌, ◌*◌, ◌<◌}
use native.Mathlib.Omega.{arith}
use lib.ListN.{length, take, drop, length-append, length-drop}
use lib.Seq.{take_at, drop_at, take_all, drop-drop}
use Rattle.std.specs.Iterator.{AlwaysYields}
use Rattle.std.specs.Slice.Iter.{chunks_exact_rest, chunks_exact_size, chunks_exact_steps}
use Rattle.std.proofs.lemmas.Iterator.{YieldsList}
use Rattle.octets.specs.Parts.{parts}

module _ (k : ℕ) (some : 0 < k) (b : List ℕ) where
  yield : (n a : ℕ) (s : _) → chunks_exact_size s ≡ k → chunks_exact_rest s ≡ drop a b → length b ≡ a + n * k
      → AlwaysYields chunks_exact_steps (λ x. x.now) s (parts k a n b)
  unfolding parts
  yield zero a s z r e = λ x t h. omega (arith, ap length r, ap length h.1.0, h.1.1, length-drop a b, length-append x.now (chunks_exact_rest t))
  yield (suc n) a s z r e =
      let m : suc n * k ≡ k + n * k = omega arith in (
        (λ t h. omega (arith, m, h.1.0, ap length r, length-drop a b)),
        λ x t h.
            let q : x.now ++ chunks_exact_rest t ≡ drop a b = sym h.1.0 ∙ r in
            let long : length x.now ≡ k = h.1.1 ∙ z in (
              sym (take_at x.now (chunks_exact_rest t) k long) ∙ ap (take k) q,
              yield n (a + k) t (h.0 ∙ z) (sym (drop_at x.now (chunks_exact_rest t) k long) ∙ ap (drop k) q ∙ drop-drop k a b) (omega (arith, m)),
            ),
      )

pub parts_yield : (k : ℕ) → 0 < k → (n : ℕ) (b : List ℕ) (a : ℕ) {s : _} → length b ≡ a + n * k → chunks_exact_size s ≡ k → chunks_exact_rest s ≡ take (length b - a) (drop a b)
    → YieldsList chunks_exact_steps (λ x. x.now) s (parts k a n b)
parts_yield k some n b a {s} e z r =
    record { runs = yield k some b n a s z (r ∙ take_all (length b - a) (drop a b) (omega (arith, length-drop a b))) e }
