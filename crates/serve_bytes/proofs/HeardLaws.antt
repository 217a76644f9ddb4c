-- A bytes call: the farm's block and the row's room were lent, and what was done there is done to the memory.
-- Assumes nothing.
use Prim.Native.Nat.{ℕ, ◌+◌, ◌-◌, ◌*◌, ◌≤◌, ◌<◌}
use mathlib.Core.Path.{◌≡◌, refl, sym, ap, ◌∙◌, subst}
use mathlib.Core.List.{List, [], ◌++◌}
use native.Mathlib.Omega.{arith}
use lib.ListN.{length, take, drop, length-take}
use lib.Seq.{take-take}
use Rattle.octets.specs.Parts.{part}
use Rattle.octets.specs.Put.{put_at}
use Rattle.octets.proofs.PartsLaws.{part_same, part-between, mid_put, length_part, part-short}
use Rattle.octets.proofs.PutLaws.{length-put_at}
use Rattle.kinds.specs.declared.Site.{Site}
use Rattle.kinds.specs.declared.Item.{Item}
use Rattle.sheet.specs.Sheet.{most_rows}
use Rattle.sheet.specs.Rows.{first_row, rows_owned}
use Rattle.sheet.proofs.RowsLaws.{rows-within, rows_few, owned_few}
use Rattle.outsheet.specs.Sheet.{sheet_of}
use Rattle.outsheet.specs.Replies.{entries_of}
use Rattle.outsheet.specs.Contracts.{least_output, Room, Wrote}
use Rattle.model.specs.FarmSheet.{farm_sheet}
use Rattle.model.specs.Stream.{Taken}
use Rattle.model.specs.Bytes.{taken_by, payload_by}
use Rattle.model.specs.Move.{no_row}
use Rattle.model.specs.Table.{assembling_size}
use Rattle.model.proofs.RuleKept.{farm-ok}
use Rattle.table.specs.Layout.{seats}
use Rattle.table.specs.Block.{farm_of}
use Rattle.site.specs.Site.{site_of, Sited}
use Rattle.farm_bytes.specs.declared.Heard.{Heard}
use Rattle.farm_bytes.specs.Bytes.{BytesDid}
use Rattle.room.proofs.Moves.{Small, bytes-room}
use Rattle.room.proofs.Long.{bytes_one}
use Rattle.lent.specs.declared.Answer.{Answer}
use Rattle.lent.specs.Lent.{block, room_size}
use Rattle.lent.specs.Served.{done}
use Rattle.serve.specs.Ready.{Ready}
use Rattle.serve_bytes.specs.Heard.{room_at, room, heard_taken, heard_done, OnlyRoom, HeardAt, HeardOut}
use Rattle.finish.proofs.AnswerLaws.{wrote-items}
use Rattle.serve.proofs.BlockLaws.{Ends, lent_block, given_back, lent_is, back_is}
use Rattle.serve.proofs.MovedLaws.{ready_below, said-items, small-room}

-- ---- where the room is

pub first-is : {s : List ℕ} {f : ℕ} {site : Site} {first : ℕ} → Sited s f site → first ≡ site.first → first ≡ first_row s f
unfolding site_of
first-is h e = e ∙ ap (λ (x : Site). x.first) h.is

module _ {s t : List ℕ} {f : ℕ} (r : Ready s t f) {seat : ℕ} (mine : seat < rows_owned s f) where
  -- "2,048 for each of 16 rows": the row is one of them
  pub row_few : {first : ℕ} → first ≡ first_row s f → first + seat < most_rows
  row_few e = omega (arith, e, mine, rows-within s f r.has, rows_few s r.sheet)

  pub seat_few : seat < seats
  seat_few = omega (arith, mine, owned_few s f r.sheet r.has)

  pub room_within : (m : List ℕ) → length m ≡ assembling_size → room_at s f seat + room_size ≤ length m
  unfolding assembling_size
  room_within m wide = omega (arith, wide, row_few refl)

-- ---- the room is lent

-- where the room of a row begins and ends
abbrev pub RoomEnds : ℕ → ℕ → ℕ → Type 0
RoomEnds row a e = (a ≡ row * room_size) × (e ≡ row * room_size + room_size)

pub lent_full : (m : List ℕ) {row a e : ℕ} → RoomEnds row a e → row < most_rows → length m ≡ assembling_size → length (lent_block m a e) ≡ room_size
unfolding assembling_size
lent_full m {row} {a} {e} ends few wide =
    ap length (part-between m a e room_size (omega (arith, ends.0, ends.1))) ∙ length_part m a room_size (omega (arith, ends.0, few, wide))

room_back_lem : (s m r : List ℕ) (f seat : ℕ) → room_at s f seat + room_size ≤ length m → length r ≡ room_size
    → let left : List ℕ = given_back m (room_at s f seat) (room_at s f seat + room_size) r in (room s f seat left ≡ r) × OnlyRoom s f seat m left
room_back_lem s m r f seat fits full =
    let a : ℕ = room_at s f seat in
    let n : room_at s f seat + room_size - room_at s f seat ≡ room_size = omega arith in
    let p : given_back m (room_at s f seat) (room_at s f seat + room_size) r ≡ put_at m (room_at s f seat) r =
    ap (λ (x : ℕ). take a m ++ (r ++ drop x (drop a m))) n ∙ mid_put m r a room_size full in
    let o : room s f seat (given_back m (room_at s f seat) (room_at s f seat + room_size) r) ≡ r =
    ap (λ (x : List ℕ). room s f seat x) p ∙ ap (part (put_at m a r) a) (sym full) ∙ part_same m a r (omega (arith, fits, full)) in
    (o, record { put = p ∙ ap (put_at m a) (sym o) })

-- a change of one room leaves the buffer's length, and the room's
module _ {s m left : List ℕ} {f seat : ℕ} (only : OnlyRoom s f seat m left) (fits : room_at s f seat + room_size ≤ length m) where
  pub only-fits : room_at s f seat + length (room s f seat left) ≤ length m
  only-fits = omega (arith, fits, part-short left (room_at s f seat) room_size)

  pub only-long : length left ≡ length m
  only-long = ap length only.put ∙ length-put_at m (room_at s f seat) (room s f seat left) only-fits

  pub only_full : length (room s f seat left) ≡ room_size
  only_full = length_part left (room_at s f seat) room_size (omega (arith, fits, only-long))

-- a function was lent the block and the room, and left b and r there
module _ (s t m : List ℕ) {f : ℕ} (ready : Ready s t f) {seat : ℕ} (mine : seat < rows_owned s f) (wide : length m ≡ assembling_size) (input : List ℕ) (p : List Item) (b : List ℕ) (plan : List Item) (r : List ℕ) (h : Heard) (full : length r ≡ room_size) (a e : ℕ) (ends : Ends f a e) where
  -- the room was lent from x to y
  abbrev Told : ℕ → ℕ → Type 0
  Told x y =
      BytesDid h (farm_sheet s f) seat (taken_by seat (lent_block m x y) input (farm_of (lent_block t a e))) (farm_of (lent_block t a e)) p b plan r
      → HeardAt s f seat input p t m plan (given_back t a e b) (given_back m x y r) h

  heard-first : Told (room_at s f seat) (room_at s f seat + room_size)
  heard-first d =
      let mine_lent : List ℕ = lent_block m (room_at s f seat) (room_at s f seat + room_size) in
      let block_back = back_is t b f a e ends ready.long (ready_below ready) d.did.whole.long in
      let back = room_back_lem s m r f seat (room_within ready mine m wide) full in
      record {
        only = block_back.1;
        only_room = back.1;
        did =
            subst (λ (x : List ℕ). BytesDid h (farm_sheet s f) seat (heard_taken s f seat input t m) (farm_of (block t f)) p (block (given_back t a e b) f) plan x) (sym back.0)
            (subst (λ (x : List ℕ). BytesDid h (farm_sheet s f) seat (heard_taken s f seat input t m) (farm_of (block t f)) p x plan r) (sym block_back.0)
            (subst (λ (x : List ℕ). BytesDid h (farm_sheet s f) seat (taken_by seat x input (farm_of (block t f))) (farm_of (block t f)) p b plan r) (part-between m (room_at s f seat) (room_at s f seat + room_size) room_size refl)
            (subst (λ (x : List ℕ). BytesDid h (farm_sheet s f) seat (taken_by seat mine_lent input (farm_of x)) (farm_of x) p b plan r) (lent_is t f a e ends) d)));
      }

  pub heard-lent : {first x y : ℕ} → first ≡ first_row s f → RoomEnds (first + seat) x y → Told x y
  heard-lent {first} {x} {y} k room_ends =
      let at : (first + seat) * room_size ≡ room_at s f seat = ap (λ (n : ℕ). (n + seat) * room_size) k in
      subst (λ (u : ℕ). Told u y) (sym (room_ends.0 ∙ at))
      (subst (λ (v : ℕ). Told (room_at s f seat) v) (sym (room_ends.1 ∙ ap (λ (n : ℕ). n + room_size) at)) heard-first)

-- ---- the output sheet

module _ {s t m input after left : List ℕ} {p plan : List Item} {f seat : ℕ} {h : Heard} (x : HeardAt s f seat input p t m plan after left h) where
  abbrev taken : Taken
  taken = heard_taken s f seat input t m

  first-payload : lent_block left (room_at s f seat) (room_at s f seat + h.long) ≡ payload_by (heard_taken s f seat input t m).event (heard_taken s f seat input t m).stream.room
  first-payload =
      part-between left (room_at s f seat) (room_at s f seat + h.long) h.long refl
      ∙ sym (take-take h.long room_size (drop (room_at s f seat) left) x.did.short)
      ∙ x.did.long

  pub payload-is : {a : ℕ} → a ≡ room_at s f seat
      → lent_block left a (a + h.long) ≡ payload_by (heard_taken s f seat input t m).event (heard_taken s f seat input t m).stream.room
  payload-is e = ap (λ (k : ℕ). lent_block left k (k + h.long)) e ∙ first-payload

  pub heard-small : Ready s t f → (a : ℕ) → Small (heard_done s f seat input t m).items (lent_block left a (a + h.long))
  heard-small ready a =
      let n : a + h.long - a ≡ h.long = omega arith in
      record {
        few = bytes-room (farm-ok s f ready.sheet ready.has) ready.good seat taken;
        one_long = bytes_one (farm_sheet s f) seat taken (farm_of (block t f));
        short = omega (arith, n, x.did.short, length-take (a + h.long - a) (drop a left));
      }

  -- from an empty plan on, it says just the call's entries
  heard-items : p ≡ [] → Ready s t f → plan ≡ (heard_done s f seat input t m).items
  heard-items none ready = said-items none x.did.did (heard-small ready 0).few

  pub heard-room : p ≡ [] → Ready s t f → (a n : ℕ) → least_output ≤ n → Room plan (lent_block left a (a + h.long)) n
  heard-room none ready a n least =
      small-room plan (lent_block left a (a + h.long)) n (heard_done s f seat input t m).items (heard-items none ready) (heard-small ready a) least

  pub heard_out : {out output : List ℕ} {a : Answer} {at : ℕ} → p ≡ [] → Ready s t f → at ≡ room_at s f seat → a ≡ done no_row h.count a.length
      → Wrote (sheet_of (entries_of (lent_block left at (at + h.long)) plan)) out output a.length
      → HeardOut s f seat input t out m after output left a
  heard_out {out} {output} {a} none ready e k w =
      record {
        answer = k ∙ ap (λ (n : ℕ). done no_row n a.length) x.did.count;
        only = x.only;
        only_room = x.only_room;
        holds = record { is = x.did.did.is; whole = x.did.did.whole };
        stored = x.did.room;
        wrote =
            wrote-items (payload_by taken.event taken.stream.room) (heard-items none ready)
            (subst (λ (l : List ℕ). Wrote (sheet_of (entries_of l plan)) out output a.length) (payload-is e) w);
      }
