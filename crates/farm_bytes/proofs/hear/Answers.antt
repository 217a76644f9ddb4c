-- `hear` meets its contract.
-- Assumes nothing.
use Prim.Native.Nat.{ℕ}
use Rattle.farm_heard.proofs.HeardLaws.{ended_same}
use mathlib.Core.Path.{◌≡◌, ap, ◌∙◌}
use mathlib.Core.List.{[]}
use Rattle.kinds.specs.declared.Meters.{Meters}
use Rattle.kinds.specs.declared.Row.{Row}
use Rattle.kinds.specs.declared.RowState.{RowState}
use Rattle.model.specs.Row.{no_head, heard_state, row_at}
use Rattle.model.specs.Stream.{stream_of, ended_by}
use Rattle.model.specs.Farm.{Farm, with_row, with_meters, took_more, finished_more}
use Rattle.model.specs.Bytes.{heard}
use Rattle.table.specs.Block.{farm_of}
use Rattle.stream.specs.Took.{event_of}
use Rattle.farm_bytes.proofs.hear.Goals as goal

pub returns : goal.returns
unfolding heard
returns c = λ room.
    let s = c.args in
    let f : Farm = farm_of s.b.now in
    let now : Row = record { state = heard_state s.t.count (row_at f.rows s.seat).state; place = s.t.place; head = s.t.head } in
    let more : Meters = took_more s.t.count f.meters in
    let m = c.put_meters.ensures in
    let state : c.heard_state-state.result ≡ heard_state s.t.count (row_at f.rows s.seat).state =
    c.heard_state-state.ensures ∙ ap (heard_state s.t.count) c.state_at.ensures
    in
    let meters : c.ended.result ≡ finished_more (ended_by (event_of s.t.event) (stream_of s.t.place s.t.head room)) more =
    c.ended.ensures
    ∙ ap (finished_more (ended_by (event_of s.t.event) (stream_of s.t.place no_head []))) (c.took-m.ensures ∙ ap (took_more s.t.count) c.meters_at.ensures)
    ∙ ap (λ (n : ℕ). finished_more n more) (ended_same (event_of s.t.event) s.t.place s.t.head room)
    in
    record {
      is =
          m.is
          ∙ ap (λ (g : Farm). with_meters g c.ended.result) (c.put_row.ensures.is ∙ ap (λ (x : RowState). with_row f s.seat (record { state = x; place = s.t.place; head = s.t.head })) state)
          ∙ ap (with_meters (with_row f s.seat now)) meters;
      whole = m.whole;
    }
