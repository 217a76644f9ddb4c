-- What a bytes call has done is the call's outcome.
-- Assumes nothing.
use Rattle.std.proofs.Common.{Some}
use Prim.Native.Nat.{ℕ, ◌+◌, ◌-◌, ◌*◌, ◌≤◌, ◌<◌}
use mathlib.Core.Path.{◌≡◌, refl, sym, ap, ◌∙◌, subst}
use mathlib.Core.Bool.{true, false}
use mathlib.Core.List.{List, []}
use native.Mathlib.Omega.{arith}
use lib.ListN.{length, get_or, drop, set}
use lib.Seq.{drop-drop, set-set}
use Rattle.octets.specs.Parts.{part}
use Rattle.octets.specs.Put.{put_at}
use Rattle.octets.proofs.PartsLaws.{parts_get}
use Rattle.octets.proofs.PutLaws.{drop-put_at}
use Rattle.octets.proofs.SaysLaws.{never}
use Rattle.kinds.specs.declared.RowState.{RowState}
use Rattle.kinds.specs.declared.RowState.TheVariants.{Free, Fresh, Waiting, Active}
use Rattle.sheet.specs.Sheet.{farm_count, farm_no}
use Rattle.sheet.specs.Rows.{first_row, rows_owned, rows_in, owner_of}
use Rattle.sheet.proofs.RowsLaws.{rows-within, owner_seat}
use Rattle.model.specs.FarmSheet.{FarmSheet, farm_sheet}
use Rattle.model.specs.Row.{row_at, is_open_state, is_open, is_waiting_state, is_waiting}
use Rattle.model.specs.Farm.{Farm}
use Rattle.model.specs.Bytes.{taken_by, payload_by}
use Rattle.model.specs.Move.{bytes, Held, Move, refused, no_row, took_bytes, bytes_by, move}
use Rattle.model.specs.Table.{Table, Did, refuses, did, bytes_from, whose, moved_to}
use Rattle.table.specs.Layout.{table_size}
use Rattle.table.specs.Block.{farm_of, Holds}
use Rattle.lent.specs.declared.Answer.{Answer}
use Rattle.lent.specs.Lent.{block, Only, room_size, rooms_of, held_at, lent_table, lent_step}
use Rattle.lent.specs.Gate.{Passed}
use Rattle.lent.specs.Served.{memory, Served}
use Rattle.lent.proofs.LentLaws.{slot-farm, room-put}
use Rattle.lent.proofs.MoveLaws.{moved_long, moved_means, moved_whole}
use Rattle.lent.proofs.ServedLaws.{Left, served-did}
use Rattle.serve.specs.Ready.{Ready}
use Rattle.serve_bytes.specs.Heard.{room_at, room, heard_taken, heard_done, OnlyRoom, HeardOut}
use Rattle.serve_bytes.proofs.HeardLaws.{room_within, only-fits, only-long, only_full}
use Rattle.serve.proofs.MovedLaws.{ready_below}
use Rattle.serve.proofs.ServeLaws.{ready_of, row_goes}

-- ---- refusals 6 and 7

module _ (own : FarmSheet) (h : Held) (seat : ℕ) (input : List ℕ) where
  -- "6 | row not open"
  by-closed : (x : RowState) → is_open_state x ≡ false → bytes_by own h seat input x ≡ refused 6
  by-closed Free e = refl
  by-closed (Fresh c) e = absurd (never (sym e))
  by-closed (Waiting q) e = absurd (never (sym e))
  by-closed (Active a c) e = absurd (never (sym e))

  -- "7 | bytes for a waiting row, even none"
  by_waiting : (x : RowState) → is_waiting_state x ≡ true → bytes_by own h seat input x ≡ refused 7
  by_waiting Free e = absurd (never e)
  by_waiting (Fresh c) e = absurd (never e)
  by_waiting (Waiting q) e = refl
  by_waiting (Active a c) e = absurd (never e)

  by-taken : (x : RowState) → is_open_state x ≡ true → is_waiting_state x ≡ false
      → bytes_by own h seat input x ≡ took_bytes own h seat (taken_by seat (get_or h.rooms seat []) input h.farm)
  by-taken Free e k = absurd (never e)
  by-taken (Fresh c) e k = refl
  by-taken (Waiting q) e k = absurd (never (sym k))
  by-taken (Active a c) e k = refl

-- ---- the row's room

-- the model's room of the row is the one that was lent
own_room : (s t m : List ℕ) (f seat : ℕ) → f < farm_count s → seat < rows_owned s f → get_or (held_at s t m f).rooms seat [] ≡ room s f seat m
unfolding held_at farm_sheet
own_room s t m f seat h mine =
    let a : first_row s f * room_size + seat * room_size ≡ room_at s f seat = omega arith in
    ap (λ (x : FarmSheet). get_or (rooms_of x m) seat []) (slot-farm s f h)
    ∙ parts_get room_size (first_row s f * room_size) (rows_owned s f) seat m mine
    ∙ ap (λ (x : ℕ). part m x room_size) a

-- what stands behind a put stays
drop-after : (b : List ℕ) (at : ℕ) (bs : List ℕ) (k : ℕ) → at + length bs ≤ length b → at + length bs ≤ k → drop k (put_at b at bs) ≡ drop k b
drop-after b at bs k fits h =
    let n : ℕ = k - (at + length bs) in
    let e : at + length bs + (k - (at + length bs)) ≡ k = omega arith in
    ap (λ (x : ℕ). drop x (put_at b at bs)) (sym e)
    ∙ sym (drop-drop n (at + length bs) (put_at b at bs))
    ∙ ap (drop n) (drop-put_at b at bs fits)
    ∙ drop-drop n (at + length bs) b
    ∙ ap (λ (x : ℕ). drop x b) e

-- ---- the call

module _ (s t out m : List ℕ) (p : Passed s t out m) (long : length t ≡ table_size) (f seat : ℕ) (has : f < farm_count s) (mine : seat < rows_owned s f) where
  ready : Ready s t f
  ready = ready_of s t out m p long f has

  fits : room_at s f seat + room_size ≤ length m
  fits = room_within ready mine m p.lendable.assembling

  -- the memory after a change of one block and of one room
  left-heard : (d : Did) (x : Farm) (after left : List ℕ) → Only f t after → Holds (block after f) x → OnlyRoom s f seat m left
      → d.table ≡ set (lent_table s t m) f (record { farm = x; rooms = set (held_at s t m f).rooms seat (room s f seat left) }) → Left s d m after left
  unfolding held_at
  left-heard d x after left only holds only_room e =
      let r : List ℕ = room s f seat left in
      let full : length (room s f seat left) ≡ room_size = only_full only_room fits in
      record {
        means =
            ap (λ (y : List ℕ). lent_table s after y) only_room.put
            ∙ room-put s m r f seat p.lendable.sheet has mine p.lendable.assembling full after
            ∙ ap (λ (y : Table). set y f (record { farm = farm_of (block after f); rooms = set (held_at s t m f).rooms seat r }))
            (moved_means s t m after f x long (ready_below ready) only holds)
            ∙ set-set (lent_table s t m) f _ (record { farm = farm_of (block after f); rooms = set (held_at s t m f).rooms seat r })
            ∙ ap (λ (y : Farm). set (lent_table s t m) f (record { farm = y; rooms = set (held_at s t m f).rooms seat r })) holds.is
            ∙ sym e;
        whole = moved_whole s t m after f x long (ready_below ready) only holds p.whole;
        long = moved_long s t m after f x long (ready_below ready) only holds;
        wide = only-long only_room fits ∙ p.lendable.assembling;
        past =
            ap (drop (rows_in s * room_size)) only_room.put
            ∙ drop-after m (room_at s f seat) r (rows_in s * room_size) (only-fits only_room fits) (omega (arith, full, mine, rows-within s f has));
      }

  abbrev heard_did : List ℕ → Did
  heard_did input =
      record {
        row = no_row;
        took = (heard_taken s f seat input t m).count;
        items = (heard_done s f seat input t m).items;
        long = payload_by (heard_taken s f seat input t m).event (heard_taken s f seat input t m).stream.room;
        table =
            set (lent_table s t m) f
            (record { farm = (heard_done s f seat input t m).farm; rooms = set (held_at s t m f).rooms seat (heard_taken s f seat input t m).stream.room });
      }

  took-is : (input : List ℕ)
      → moved_to (lent_table s t m) f
      (took_bytes (farm_sheet s f) (held_at s t m f) seat (taken_by seat (get_or (held_at s t m f).rooms seat []) input (held_at s t m f).farm))
      ≡ did (heard_did input)
  unfolding held_at
  took-is input =
      ap
      (λ (x : List ℕ). moved_to (lent_table s t m) f (took_bytes (farm_sheet s f) (held_at s t m f) seat (taken_by seat x input (farm_of (block t f)))))
      (own_room s t m f seat has mine)

-- the row is a farm's
module _ (s t out m : List ℕ) (p : Passed s t out m) (long : length t ≡ table_size) (row f seat : ℕ) (input : List ℕ) (o : owner_of s row ≡ Some (farm_no f, seat)) where
  has : f < farm_count s
  has = (owner_seat s row f seat o).farm_within

  abbrev state : RowState
  state = (row_at (farm_of (block t f)).rows seat).state

  by_state_lem : lent_step s t out m (bytes_from row input) ≡ moved_to (lent_table s t m) f (bytes_by (farm_sheet s f) (held_at s t m f) seat input state)
  unfolding whose move held_at
  by_state_lem = row_goes s t out m p long (bytes_from row input) row f seat (λ k. bytes k input) refl o has

  by_move : (x : Move) → bytes_by (farm_sheet s f) (held_at s t m f) seat input state ≡ x → lent_step s t out m (bytes_from row input) ≡ moved_to (lent_table s t m) f x
  by_move x e = by_state_lem ∙ ap (moved_to (lent_table s t m) f) e

  pub bytes-closed : is_open (row_at (farm_of (block t f)).rows seat) ≡ false → lent_step s t out m (bytes_from row input) ≡ refuses 6
  bytes-closed e = by_move (refused 6) (by-closed (farm_sheet s f) (held_at s t m f) seat input state e)

  pub bytes-waits : is_waiting (row_at (farm_of (block t f)).rows seat) ≡ true → lent_step s t out m (bytes_from row input) ≡ refuses 7
  bytes-waits e = by_move (refused 7) (by_waiting (farm_sheet s f) (held_at s t m f) seat input state e)

  pub bytes-served : (after output left : List ℕ) (a : Answer) → is_open (row_at (farm_of (block t f)).rows seat) ≡ true
      → is_waiting (row_at (farm_of (block t f)).rows seat) ≡ false → HeardOut s f seat input t out m after output left a
      → Served s (lent_step s t out m (bytes_from row input)) a (memory t out m) (memory after output left)
  bytes-served after output left a e k x =
      let mine : seat < rows_owned s f = (owner_seat s row f seat o).seat_within in
      let d : Did = heard_did s t out m p long f seat has mine input in
      let is : lent_step s t out m (bytes_from row input) ≡ did (heard_did s t out m p long f seat has mine input) =
      by_move _ (by-taken (farm_sheet s f) (held_at s t m f) seat input state e k) ∙ took-is s t out m p long f seat has mine input in
      subst (λ (y : Answer). Served s (lent_step s t out m (bytes_from row input)) y (memory t out m) (memory after output left)) (sym x.answer)
      (served-did s (lent_step s t out m (bytes_from row input)) d t out m after output left a.length p.lendable.sheet is
      (left-heard s t out m p long f seat has mine d (heard_done s f seat input t m).farm after left x.only x.holds x.only_room
      (ap
      (λ (y : List ℕ). set (lent_table s t m) f (record { farm = (heard_done s f seat input t m).farm; rooms = set (held_at s t m f).rooms seat y }))
      (sym x.stored)))
      x.wrote)
