-- `put_bytes` meets its contract: the head, then the bytes.
-- Assumes nothing.
use mathlib.Core.Path.{refl}
use Rattle.outsheet.proofs.SheetLaws.{entered}
use Rattle.entry_writer.proofs.put_bytes.Goals as goal

pub returns : goal.returns
returns c =
    let a = c.args in
    entered a.row.0 a.kind _ a.bytes.now a.out.now _ _ a.at _ _ refl c.requires c.put_head.ensures refl c.put.ensures refl
