-- `put_identity` meets its contract: five puts in a row are one, of the message's bytes.
-- Assumes nothing.
use mathlib.Core.Path.{◌≡◌, ap, ◌∙◌}
use mathlib.Core.List.{List, [], ◌∷◌}
use Prim.Native.Nat.{ℕ, ◌+◌, ◌-◌}
use native.Mathlib.Omega.{arith}
use lib.ListN.{length}
use Rattle.octets.specs.Put.{put_at}
use Rattle.octets.specs.Parts.{part}
use Rattle.octets.proofs.PartsLaws.{length_part}
use Rattle.layout.proofs.IdentityLaws.{five_puts, identity_parts}
use Rattle.long_replies.proofs.put_identity.Goals as goal

pub returns : goal.returns
returns c =
    let a = c.args in
    let f : List ℕ = a.farm.now in
    let whole : length f ≡ 33 = omega arith in
    five_puts a.out.now _ _ _ _ _ a.at (a.at + 8) (a.at + 25) (a.at + 27) (a.at + 39)
    (a.version ∷ (255 - a.version) ∷ 0 ∷ 4 ∷ 0 ∷ 0 ∷ 0 ∷ 32 ∷ []) (part f 4 17) (part f 0 2) (part f 21 12) (0 ∷ [])
    (omega arith)
    (omega (arith, length_part f 4 17 (omega arith)))
    (omega (arith, length_part f 0 2 (omega arith)))
    (omega (arith, length_part f 21 12 (omega arith)))
    (omega arith)
    c.put.ensures
    c.put-2.ensures
    c.put-3.ensures
    c.put-4.ensures
    c.put-5.ensures
    ∙ ap (put_at a.out.now a.at) (identity_parts a.version f whole)
