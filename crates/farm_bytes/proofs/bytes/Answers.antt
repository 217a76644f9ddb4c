-- `bytes` meets its contract.
-- Assumes nothing.
use mathlib.Core.Path.{◌≡◌, sym, ap, subst, ◌∙◌}
use mathlib.Core.List.{List}
use Prim.Native.Nat.{ℕ, ◌<◌, ◌≤◌}
use lib.ListN.{length, take}
use Rattle.kinds.specs.declared.Row.{Row}
use Rattle.wire.specs.Header.{most_payload}
use Rattle.model.specs.FarmSheet.{FarmSheet, farm_sheet}
use Rattle.model.specs.Row.{row_at}
use Rattle.model.specs.Stream.{Taken, stream_of, takes}
use Rattle.model.specs.Farm.{Farm, seat_count}
use Rattle.model.specs.Bytes.{taken_by, payload_by, bytes_done}
use Rattle.model.specs.Rule.{PossibleAt}
use Rattle.model.proofs.LineRoom.{line-room}
use Rattle.table.specs.Layout.{seats}
use Rattle.table.specs.Block.{farm_of}
use Rattle.closing.specs.Did.{Seated}
use Rattle.closing.proofs.DidLaws.{did_same}
use Rattle.site.proofs.SiteLaws.{sited_same, sited_fit}
use Rattle.stream.specs.Took.{event_of, taken_of}
use Rattle.stream.proofs.RunLaws.{takes_one}
use Rattle.messages.specs.Length.{EndsWell}
use Rattle.messages.proofs.LengthLaws.{takes-right}
use Rattle.farm_bytes.proofs.BytesLaws.{event_sits, heard-line, payload-taken, payload-short, bytes-did}
use Rattle.farm.proofs.SeatedLaws.{good_seated}
use borrow.Author.Rules.{rules}
use Rattle.farm_bytes.proofs.bytes.Goals as goal

pub take-t-requires : goal.take-t-requires
take-t-requires c = (c.requires.1, subst (λ (r : Row). PossibleAt r.place r.head) (sym c.row_at-row.ensures) (c.requires.3.possible c.args.seat))

pub event-requires : goal.event-requires
unfolding seat_count
event-requires c = let f : Farm = farm_of c.args.b.now in
    let tk : taken_of c.take-t.result c.take-t.new.room ≡ taken_by c.args.seat c.args.room.now c.args.input.now (farm_of c.args.b.now) =
    takes_one c.take-t.ensures
    ∙ ap (λ (r : Row). takes (stream_of r.place r.head c.args.room.now) c.args.input.now) c.row_at-row.ensures
    in
    let h = c.hear.ensures c.take-t.new.room in
    let room : length f.line < seats = line-room c.requires.3 c.args.seat c.requires.0 c.requires.4 in
    let line : (farm_of c.hear.new.b).line ≡ f.line = ap (λ (x : Farm). x.line) h.is ∙ heard-line _ _ f in
    let long : length c.take-t.new.room ≡ most_payload = search rules in
    let right : EndsWell (event_of c.take-t.result.event) =
    subst (λ (t : Taken). EndsWell t.event) (sym tk) (takes-right (stream_of (row_at f.rows c.args.seat).place (row_at f.rows c.args.seat).head c.args.room.now) c.args.input.now (c.requires.3.possible c.args.seat))
    in
    (c.requires.0, subst (λ (l : List ℕ). length l < seats) (sym line) room, long, right, c.requires.2, h.whole)

pub settle-requires : goal.settle-requires
settle-requires c = let f : Farm = farm_of c.args.b.now in
    let own : FarmSheet = farm_sheet c.args.s.now c.args.f.0 in
    let h = c.hear.ensures c.take-t.new.room in
    let e = c.event.ensures in
    let line : (farm_of c.hear.new.b).line ≡ f.line = ap (λ (x : Farm). x.line) h.is ∙ heard-line _ _ f in
    let sits : Seated (farm_of c.event.new.b).line =
    subst (λ (x : Farm). Seated x.line) (sym e.is)
    (event_sits own c.args.seat c.requires.0 (farm_of c.hear.new.b) (subst Seated (sym line) (good_seated c.requires.3)) _ _)
    in
    (sits, sited_fit _ _ _ c.requires.2, e.whole)

pub returns : goal.returns
returns c = let f : Farm = farm_of c.args.b.now in
    let own : FarmSheet = farm_sheet c.args.s.now c.args.f.0 in
    let tk : taken_of c.take-t.result c.take-t.new.room ≡ taken_by c.args.seat c.args.room.now c.args.input.now (farm_of c.args.b.now) =
    takes_one c.take-t.ensures
    ∙ ap (λ (r : Row). takes (stream_of r.place r.head c.args.room.now) c.args.input.now) c.row_at-row.ensures
    in
    let x : Taken = taken_of c.take-t.result c.take-t.new.room in
    let right : EndsWell x.event =
    subst (λ (t : Taken). EndsWell t.event) (sym tk) (takes-right (stream_of (row_at f.rows c.args.seat).place (row_at f.rows c.args.seat).head c.args.room.now) c.args.input.now (c.requires.3.possible c.args.seat))
    in
    let long = c.payload_long.ensures in
    record {
      count = ap (λ (t : Taken). t.count) tk;
      room = ap (λ (t : Taken). t.stream.room) tk;
      long =
          ap (λ (n : ℕ). take n x.stream.room) long
          ∙ payload-taken x.event x.stream.room
          ∙ ap (λ (t : Taken). payload_by t.event t.stream.room) tk;
      short = subst (λ (n : ℕ). n ≤ most_payload) (sym long) (payload-short x.event right);
      did =
          did_same _ (ap (λ (t : Taken). bytes_done own c.args.seat t f) tk)
          (bytes-did own c.args.site c.args.seat x f (sited_same _ _ _ c.requires.2) (c.hear.ensures c.take-t.new.room) c.event.ensures c.settle.ensures);
    }
