-- `put_meters` meets its contract.
-- Assumes nothing.
use Rattle.std.proofs.Common.{◌≡◌, ℕ, List, ◌++◌, length, refl, arith}
use Rattle.octets.specs.Numbers.{be32}
use Rattle.octets.proofs.PutLaws.{put-more}
use Rattle.table.specs.Layout.{meters_at, block_size}
use Rattle.table.specs.Block.{meters_image}
use Rattle.table.proofs.BlockLaws.{meters-put}
use Rattle.table_meters.proofs.put_meters.Goals as goal

pub returns : goal.returns
unfolding meters_image
returns c =
    let b : List ℕ = c.args.b.now in
    let m = c.args.m in
    let one = c.write32 in
    let two = c.write32-2 in
    let long : length b ≡ block_size = c.requires.long in
    let e = put-more b meters_at (be32 m.taken) one.new.out 4 (be32 m.finished) two.new.out one.ensures refl (omega arith) two.ensures in
    meters-put b _ c.requires m
    (put-more b meters_at (be32 m.taken ++ be32 m.finished) two.new.out 8 (be32 m.lost) _ e refl (omega arith) c.write32-3.ensures)
