-- `take` meets its contract.
-- Assumes nothing.
use Prim.Native.Nat.{ℕ, ◌+◌, ◌*◌}
use mathlib.Core.Path.{refl, ap, ◌∙◌}
use native.Mathlib.Omega.{arith}
use Rattle.model.specs.Move.{no_row}
use Rattle.model.specs.Table.{assembling_size}
use Rattle.lent.specs.Lent.{room_size}
use Rattle.serve_bytes.proofs.HeardLaws.{first-is, row_few, only-long, room_within, heard-room, heard_out}
use Rattle.serve_bytes.proofs.take.Goals as goal

pub room_of-a-requires : goal.room_of-a-requires
room_of-a-requires c = omega (arith, row_few c.requires.0 c.requires.1 (first-is c.site_of-site.ensures refl))

pub overflow_add-e : goal.overflow_add-e
overflow_add-e c = omega (arith, row_few c.requires.0 c.requires.1 (first-is c.site_of-site.ensures refl), c.room_of-a.ensures.0, c.bytes_at-heard.ensures.did.short)

pub slice_bounds-finish-end : goal.slice_bounds-finish-end
unfolding assembling_size
slice_bounds-finish-end c = let x = c.bytes_at-heard.ensures in
    omega (arith, row_few c.requires.0 c.requires.1 (first-is c.site_of-site.ensures refl), c.room_of-a.ensures.0, x.did.short, c.requires.3, only-long x.only_room (room_within c.requires.0 c.requires.1 c.args.m.now c.requires.3))

pub finish-requires : goal.finish-requires
finish-requires c = heard-room c.bytes_at-heard.ensures c.new-p.ensures c.requires.0 _ _ c.requires.4

pub returns : goal.returns
unfolding no_row
returns c =
    heard_out c.bytes_at-heard.ensures c.new-p.ensures c.requires.0
    (c.room_of-a.ensures.0 ∙ ap (λ (n : ℕ). (n + c.args.seat) * room_size) (first-is c.site_of-site.ensures refl))
    c.finish.ensures.value c.finish.ensures.wrote
