-- `text::put_hex` meets its contract.
-- Assumes nothing.
use mathlib.Core.Path.{◌≡◌, refl, ap, ◌∙◌}
use mathlib.Core.List.{List}
use Prim.Native.Nat.{ℕ}
use native.Mathlib.Omega.{arith}
use lib.ListN.{length, take}
use lib.Seq.{take-length}
use Rattle.octets.specs.Put.{put_at}
use Rattle.octets.proofs.PutLaws.{put_at-none}
use Rattle.lines.specs.Text.{hex}
use Rattle.lines.proofs.TextLaws.{length-hex, hex_turn}
use Rattle.lines.proofs.text.put_hex.Goals as goal

pub loop-j-init : goal.loop-j-init
unfolding hex
loop-j-init c = (put_at-none c.args.out.now c.args.at, omega arith, refl)

pub loop-j-preserved : goal.loop-j-preserved
loop-j-preserved c =
    let l = c.loop-j in
    let a = c.args in (
      hex_turn a.bytes.now a.out.now l.out c.put_hex_byte.new.out a.at l.j l.invariant.0 c.loop-j-test.true c.requires
          c.put_hex_byte.ensures,
      omega arith,
      c.put_hex_byte.auto.out ∙ l.invariant.2,
    )

pub shape_of-out : goal.shape_of-out
shape_of-out c = c.loop-j.invariant.2

pub returns : goal.returns
returns c =
    let l = c.loop-j in
    let a = c.args in
    let all : l.j ≡ length a.bytes.now = omega arith in
    record {
      put =
          l.invariant.0
          ∙ ap (λ (k : ℕ). put_at a.out.now a.at (hex (take k a.bytes.now))) all
          ∙ ap (λ (x : List ℕ). put_at a.out.now a.at (hex x)) (take-length a.bytes.now);
      after = omega (arith, length-hex a.bytes.now);
    }
