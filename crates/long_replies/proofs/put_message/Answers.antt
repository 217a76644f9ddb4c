-- `put_message` meets its contract: two puts in a row are one, of the message's bytes.
-- Assumes nothing.
use mathlib.Core.Path.{◌≡◌, ap, ◌∙◌}
use mathlib.Core.List.{List, [], ◌∷◌, ◌++◌}
use Prim.Native.Nat.{ℕ, ◌+◌, ◌-◌, ◌/◌, ◌%◌}
use native.Mathlib.Omega.{arith}
use lib.ListN.{length, get_or}
use Rattle.octets.specs.Numbers.{be16}
use Rattle.octets.specs.Put.{put_at}
use Rattle.octets.proofs.NumbersLaws.{high16, low16}
use Rattle.octets.proofs.PutLaws.{put_at-put_at}
use Rattle.layout.proofs.MessageLaws.{message-parts}
use Rattle.long_replies.proofs.put_message.Goals as goal

pub returns : goal.returns
returns c =
    let a = c.args in
    let u : List ℕ = a.user.now in
    let n : ℕ = length u + 4 in
    let k = c.to_be_bytes in
    let o = c.to_be_bytes-2 in
    let t = c.to_be_bytes-3 in
    let h : List ℕ =
    a.version ∷ (255 - a.version) ∷ 128 ∷ 1 ∷ 0 ∷ 0 ∷ get_or k.result 0 0 ∷ get_or k.result 1 0
    ∷ get_or o.result 0 0 ∷ get_or o.result 1 0 ∷ get_or t.result 0 0 ∷ get_or t.result 1 0 ∷ []
    in
    let b : List ℕ =
    a.version ∷ (255 - a.version) ∷ 128 ∷ 1 ∷ 0 ∷ 0 ∷ n / 256 ∷ n % 256 ∷ be16 a.controller ++ be16 a.tester
    in
    let e : h ≡ b =
    cc (
      high16 _ _ k.ensures (omega arith),
      low16 _ _ k.ensures,
      high16 _ _ o.ensures (omega arith),
      low16 _ _ o.ensures,
      high16 _ _ t.ensures (omega arith),
      low16 _ _ t.ensures,
    )
    in
    c.put-2.ensures
    ∙ ap (λ (l : List ℕ). put_at l (a.at + 12) u) (c.put.ensures ∙ ap (put_at a.out.now a.at) e)
    ∙ put_at-put_at a.out.now a.at b (omega arith) u (omega arith)
    ∙ ap (put_at a.out.now a.at) (message-parts a.version a.controller a.tester u (omega arith))
