-- `put_entries` meets its contract: a turn of the loop adds an offset and an entry (`turn` of outsheet's SheetLaws).
-- Assumes nothing.
use mathlib.Core.Path.{◌≡◌}
use Prim.Native.Nat.{◌≤◌}
use lib.ListN.{length}
use Rattle.outsheet.specs.Replies.{entries_of}
use Rattle.outsheet.proofs.SheetLaws.{place_of, laid_up_to}
use Rattle.sheet_writer.proofs.put_entries.Given as goal

abbrev pub invariant-loop-i : goal.invariant-loop-i
invariant-loop-i l =
    let es = entries_of l.long l.p in
    (l.n ≡ length es) × (l.i ≤ l.n) × (l.at ≡ place_of es l.i) × (l.out ≡ laid_up_to es l.initial.out l.i) × (length l.out ≡ length l.initial.out)
