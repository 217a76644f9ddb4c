-- `write_sheet` meets its contract: the head before the offsets and entries makes the sheet.
-- Assumes nothing.
use mathlib.Core.Path.{◌≡◌, refl, sym, ap, ◌∙◌}
use mathlib.Core.List.{List, ◌++◌}
use Prim.Native.Nat.{ℕ}
use native.Mathlib.Omega.{arith}
use lib.ListN.{length, length-map}
use Rattle.octets.specs.Numbers.{be16}
use Rattle.octets.specs.Put.{put_at}
use Rattle.octets.proofs.PutLaws.{put-more}
use Rattle.outsheet.specs.Replies.{entry_of, entries_of}
use Rattle.outsheet.proofs.SheetLaws.{wrote-sheet}
use Rattle.sheet_writer.proofs.write_sheet.Goals as goal

pub returns : goal.returns
returns c =
    let a = c.args in
    let es = entries_of a.long.now a.p.now in
    let put = c.put_entries-total in
    let n : c.len.result ≡ length es = c.len.ensures.is ∙ sym (length-map a.p.now (entry_of a.long.now)) in
    let out : List ℕ = put.new.out in
    let both : c.write16-2.new.out ≡ put_at out 0 (be16 c.len.result ++ be16 put.result) =
    put-more out 0 (be16 c.len.result) c.write16.new.out 2 (be16 put.result) c.write16-2.new.out c.write16.ensures refl (omega (arith, put.auto.out, c.requires.wide)) c.write16-2.ensures
    in
    wrote-sheet es a.out.now out _ put.result (omega (arith, c.requires.short, c.requires.wide)) put.ensures
    (both ∙ ap (λ (k : ℕ). put_at out 0 (be16 k ++ be16 put.result)) n)
