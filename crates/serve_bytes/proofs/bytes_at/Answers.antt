-- `bytes_at` meets its contract.
-- Assumes nothing.
use Prim.Native.Nat.{ℕ}
use mathlib.Core.Path.{◌≡◌, refl, sym, subst}
use mathlib.Core.Bool.{false}
use mathlib.Core.List.{List}
use native.Mathlib.Omega.{arith}
use lib.ListN.{length}
use Rattle.wire.specs.Header.{most_payload}
use Rattle.model.specs.FarmSheet.{farm_sheet}
use Rattle.model.specs.Row.{row_at, is_waiting}
use Rattle.model.specs.Rule.{Good}
use Rattle.model.specs.Table.{assembling_size}
use Rattle.table.specs.Block.{farm_of, Whole}
use Rattle.lent.specs.Lent.{block}
use Rattle.serve.proofs.BlockLaws.{lent_block, lent_is}
use Rattle.serve_bytes.proofs.HeardLaws.{first-is, row_few, seat_few, lent_full, heard-lent}
use borrow.Author.Rules.{rules}
use Rattle.serve_bytes.proofs.bytes_at.Goals as goal

pub room_of-requires : goal.room_of-requires
room_of-requires c = omega (arith, row_few c.requires.0 c.requires.2 (first-is c.requires.1 refl))

pub slice_bounds-bytes-end-2 : goal.slice_bounds-bytes-end-2
unfolding assembling_size
slice_bounds-bytes-end-2 c = omega (arith, row_few c.requires.0 c.requires.2 (first-is c.requires.1 refl), c.room_of.ensures.1, c.requires.4)

pub bytes-requires : goal.bytes-requires
bytes-requires c = let back : block c.args.t.now c.args.f.0 ≡ lent_block c.args.t.now c.block_of.result.start c.block_of.result.end = sym (lent_is _ _ _ _ c.block_of.ensures) in (
  seat_few c.requires.0 c.requires.2,
  lent_full c.args.m.now c.room_of.ensures (omega (arith, row_few c.requires.0 c.requires.2 (first-is c.requires.1 refl))) c.requires.4,
  c.requires.1,
  subst (λ (b : List ℕ). Good (farm_sheet c.args.s.now c.args.f.0) (farm_of b)) back c.requires.0.good,
  subst (λ (b : List ℕ). is_waiting (row_at (farm_of b).rows c.args.seat) ≡ false) back c.requires.3,
  subst Whole back c.requires.0.whole,
)

pub returns : goal.returns
returns c = let full : length c.bytes.new.room ≡ most_payload = search rules in
    heard-lent _ _ c.args.m.now c.requires.0 c.requires.2 c.requires.4 _ _ _ _ _ _ full _ _ c.block_of.ensures (first-is c.requires.1 refl) c.room_of.ensures c.bytes.ensures
