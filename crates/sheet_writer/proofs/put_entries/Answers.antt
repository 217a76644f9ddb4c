-- `put_entries` meets its contract: a turn of the loop adds an offset and an entry (`turn` of outsheet's SheetLaws).
-- Assumes nothing.
use mathlib.Core.Path.{◌≡◌, refl, sym, ap, ◌∙◌}
use mathlib.Core.List.{List}
use Prim.Native.Nat.{ℕ, ◌+◌, ◌*◌, ◌<◌}
use native.Mathlib.Omega.{arith}
use lib.ListN.{length, get_or, length-map, get_or-map}
use Rattle.octets.specs.Put.{put_at}
use Rattle.kinds.specs.declared.Item.{Item}
use Rattle.outsheet.specs.Sheet.{Entry, entry_bytes}
use Rattle.outsheet.specs.Replies.{entry_of, entries_of}
use Rattle.plan.specs.Plan.{no_item}
use Rattle.outsheet.proofs.SheetLaws.{none_laid, first-place, next_place, turn_fits, entry-fits, turn}
use Rattle.sheet_writer.proofs.put_entries.Goals as goal

-- what stands past the last entry
abbrev past : List ℕ → Entry
past long = entry_of long no_item

-- the entry that the item at i says
told : (long : List ℕ) (p : List Item) (i : ℕ) (it : Item) → i < length (entries_of long p) → (i < length p → it ≡ get_or p i no_item)
    → entry_of long it ≡ get_or (entries_of long p) i (past long)
told long p i it h e =
    let entry = entry_of long in
    ap entry (e (omega (arith, h, length-map p entry))) ∙ sym (get_or-map entry p i no_item)

pub loop-i-init : goal.loop-i-init
loop-i-init c =
    let es = entries_of c.args.long.now c.args.p.now in
    let n : c.len-n.result ≡ length es = c.len-n.ensures.is ∙ sym (length-map c.args.p.now (entry_of c.args.long.now)) in
    (n, omega arith, ap (λ (k : ℕ). 4 + 2 * k) n ∙ sym (first-place es), none_laid es c.args.out.now, refl)

pub overflow_cast-at : goal.overflow_cast-at
overflow_cast-at c =
    let l = c.loop-i in
    let es = entries_of c.args.long.now c.args.p.now in
    let h = turn_fits es l.i (past c.args.long.now) (omega (arith, l.invariant.0, c.loop-i-test.true)) in
    omega (arith, l.invariant.2, h, c.requires.short)

pub put_entry-at-requires : goal.put_entry-at-requires
put_entry-at-requires c =
    let l = c.loop-i in
    let more : l.i < length (entries_of c.args.long.now c.args.p.now) = omega (arith, l.invariant.0, c.loop-i-test.true) in
    entry-fits (entries_of c.args.long.now c.args.p.now) l.i (past c.args.long.now) more _ l.at _ c.requires.short (omega (arith, c.requires.wide, c.write16.auto.out, l.invariant.4)) l.invariant.2 (told c.args.long.now c.args.p.now l.i _ more c.item.ensures)

pub loop-i-preserved : goal.loop-i-preserved
loop-i-preserved c =
    let a = c.args in
    let l = c.loop-i in
    let es = entries_of c.args.long.now c.args.p.now in
    let put = c.put_entry-at in
    let write = c.write16 in
    let more : l.i < length es = omega (arith, l.invariant.0, c.loop-i-test.true) in
    let e = told c.args.long.now c.args.p.now l.i _ more c.item.ensures in (
      l.invariant.0,
      omega (arith, c.loop-i-test.true),
      omega (arith, put.ensures.place, l.invariant.2, ap (λ (x : Entry). length x.bytes) e, next_place es l.i (past c.args.long.now) more),
      turn es l.i (past c.args.long.now) more a.out.now l.out write.new.out _ l.at (omega (arith, c.requires.short, c.requires.wide)) l.invariant.2 l.invariant.3 write.ensures
          (put.ensures.bytes ∙ ap (λ (x : Entry). put_at write.new.out l.at (entry_bytes x)) e),
      put.auto.out ∙ write.auto.out ∙ l.invariant.4,
    )
