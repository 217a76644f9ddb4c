-- 8001 as the code writes it, twelve bytes and then the user data; and how long it is.
-- Assumes nothing.
use mathlib.Core.Path.{◌≡◌}
use mathlib.Core.List.{List, ◌∷◌, ◌++◌}
use Prim.Native.Nat.{ℕ, suc, ◌+◌, ◌-◌, ◌/◌, ◌%◌, ◌<◌}
use native.Mathlib.Omega.{arith}
use lib.ListN.{length}
use Rattle.octets.specs.Numbers.{be16, be32}
use Rattle.octets.proofs.PutLaws.{be32-small}
use Rattle.layout.specs.Layout.{message_bytes}

pub message-parts : (v k t : ℕ) (u : List ℕ) → length u < 65532
    → v ∷ (255 - v) ∷ 128 ∷ 1 ∷ 0 ∷ 0 ∷ (length u + 4) / 256 ∷ (length u + 4) % 256 ∷ be16 k ++ be16 t ++ u ≡ message_bytes v k t u
unfolding message_bytes
message-parts v k t u h =
    let m : ℕ = suc (suc (suc (suc (length u)))) in
    let e : length u + 4 ≡ m = omega arith in
    let f : be32 m ≡ 0 ∷ 0 ∷ be16 m = be32-small m (omega arith) in
    cc

pub length-message : (v k t : ℕ) (u : List ℕ) → length (message_bytes v k t u) ≡ 12 + length u
unfolding message_bytes
length-message v k t u = omega arith
